-- `fill_credits`: nothing without room, else one by one. Assumes nothing.
use Rattle.std.proofs.Common.{refl}
use native.Mathlib.Nat.{one-mul}
use Rattle.octets.proofs.Filled.{fill_end}
use Rattle.image_fill.proofs.Filling.{copy_refused, copy_starts, credit_goes_on}
use Rattle.image_fill.proofs.fill_credits.Goals as goal

pub returns-then-credits-n : goal.returns-then-credits-n
returns-then-credits-n c = copy_refused {w = 1} refl _ _ _ (λ k. refl) (rw one-mul c.if-credits-n.true)

pub loop-i-init : goal.loop-i-init
loop-i-init c = copy_starts refl _ _ _ (λ k. refl) (rw one-mul c.if-credits-n.false)

pub loop-i-preserved : goal.loop-i-preserved
loop-i-preserved c = credit_goes_on _ c.loop-i.invariant c.loop-i-test.true _ c.offset.ensures _ c.row_at-terms.ensures c.capacity.ensures

pub returns : goal.returns
returns c = search fill_end
