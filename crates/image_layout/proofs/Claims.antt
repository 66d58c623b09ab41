-- The figures of the layout, computed. Assumes nothing.
use Prim.Native.Nat.{ℕ, ◌+◌, ◌*◌, ◌/◌, ◌%◌, ◌^◌}
use mathlib.Core.Path.{◌≡◌, refl, ap}
use native.Mathlib.Omega.{arith}
use lib.Dec.{eqb}
use Rattle.image_layout.specs.Layout.{field_offset, constant_good}
use Rattle.image_layout.specs.Claims.{ImageFigures, ConstantLimits, ConstantByFirst}

pub image_figures : ImageFigures
unfolding field_offset
image_figures = (refl, refl, refl, refl, refl, refl, refl, refl, refl, refl, refl, refl, refl)

pub constant_limits : ConstantLimits
unfolding constant_good
constant_limits = (refl, refl)

pub constant_by_first : ConstantByFirst
unfolding constant_good
constant_by_first = (
  λ first rest h. let e : (first * 2 ^ 24 + rest) / 2 ^ 24 ≡ first = omega arith in ap (λ (x : ℕ). eqb (x % 4) 3) e,
  refl,
)
