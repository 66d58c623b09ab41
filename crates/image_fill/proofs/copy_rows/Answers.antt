-- `copy_rows`: nothing without room, else row by row. Assumes nothing.
use Rattle.octets.proofs.Parts.{length_part}
use Rattle.octets.proofs.Filled.{fill_end}
use Rattle.image_fill.proofs.Filling.{copy_refused, copy_starts, copy_goes_on}
use Rattle.image_fill.proofs.copy_rows.Goals as goal

pub returns-then-to-width : goal.returns-then-to-width
returns-then-to-width g c = copy_refused c.OCTETS-width.ensures _ _ _ (λ k. length_part _ _ _) c.if-to-width.true

pub loop-i-init : goal.loop-i-init
loop-i-init g c = copy_starts c.OCTETS-width.ensures _ _ _ (λ k. length_part _ _ _) c.if-to-width.false

pub loop-i-preserved : goal.loop-i-preserved
loop-i-preserved g c =
    copy_goes_on c.OCTETS-width.ensures _ c.loop-i.invariant c.loop-i-test.true _ c.offset.ensures c.copy.ensures

pub returns : goal.returns
returns g c = search fill_end
