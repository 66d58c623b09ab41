-- `copy_padded`: the part octet by octet. Assumes nothing.
use mathlib.Core.Path.{refl, sym, ◌∙◌}
use native.Mathlib.Nat.{zero-add}
use native.Mathlib.Omega.{arith}
use Rattle.octets.proofs.Parts.{get_d_from, length_part}
use Rattle.octets.proofs.Runs.{put_all}
use Rattle.octets.proofs.Filled.{part_ones, fill_start, fill_one, fill_end}
use Rattle.octets_write.proofs.copy_padded.Goals as goal

pub loop-i-init : goal.loop-i-init
loop-i-init c = fill_start (λ k. refl) (omega arith)

pub loop-i-preserved : goal.loop-i-preserved
loop-i-preserved c =
    let l = c.loop-i in
    fill_one l.invariant (omega (arith, c.loop-i-test.true)) (sym (zero-add l.i))
    (get_d_from c.args.from.now c.args.at l.i c.min-start.ensures c.octet_at.ensures)

pub returns : goal.returns
returns c =
    fill_end c.loop-i.invariant (omega (arith, c.loop-i-test.false)) (part_ones _ _ _) ∙ put_all _ _ (length_part _ _ _)
