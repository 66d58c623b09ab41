-- The refill in 64 bits: no product or sum of a refill leaves 64 bits, whatever the 32-bit credit and rate. Assumes nothing.
use Prim.Native.Nat.{ℕ, ◌+◌, ◌-◌, ◌*◌, ◌^◌, ◌≤◌, ◌<◌, min}
use mathlib.Core.Path.{◌≡◌}
use native.Mathlib.Nat.{mul-le-mul}
use native.Mathlib.Omega.{arith}

module _ (capacity credit rate elapsed counted : ℕ) (e : counted ≡ min elapsed (2 ^ 32)) where
  module _ (c : credit < 2 ^ 32) (r : rate < 2 ^ 32) where
    gain_high : rate * counted ≤ (2 ^ 32 - 1) * 2 ^ 32
    gain_high = mul-le-mul {n₂ = 2 ^ 32 - 1} {m₂ = 2 ^ 32} (omega arith) (omega arith)

    pub gain_fits : rate * counted < 2 ^ 64
    gain_fits = omega (arith, gain_high)

    pub held_fits : credit + rate * counted < 2 ^ 64
    held_fits = omega (arith, gain_high)
