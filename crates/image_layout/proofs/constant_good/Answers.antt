-- `constant_good`: shift and mask are quotient and remainder. Assumes nothing.
use Prim.Native.Nat.{ℕ, ◌/◌, ◌^◌}
use mathlib.Core.Path.{ap}
use lib.Bits.{and_mask}
use lib.Dec.{eqb}
use Rattle.image_layout.specs.Layout.{constant_good}
use Rattle.image_layout.proofs.constant_good.Goals as goal

pub returns : goal.returns
unfolding constant_good
returns c = ap (λ (r : ℕ). eqb r 3) (and_mask (c.args.constant / 2 ^ 24) 2)
