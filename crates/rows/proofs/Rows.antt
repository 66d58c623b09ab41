-- Laws of where rows stand. Assumes nothing.
use Prim.Native.Nat.{ℕ, ◌+◌, ◌*◌, ◌/◌, ◌≤◌, ◌<◌, min}
use mathlib.Core.List.{List}
use mathlib.Core.Path.{◌≡◌, sym, ap, ◌∙◌}
use native.Mathlib.Nat.{mul-le-mul_left, add_assoc, min-le_right, div-mul-le_self, mul_comm}
use native.Mathlib.Omega.{arith}
use lib.ListN.{length, get_or}
use Rattle.octets.specs.Numbers.{number_at}
use Rattle.octets.proofs.Numbers.{number_shift}
use Rattle.octets.proofs.Parts.{get_d_clamped, row_below}
use Rattle.rows.specs.Rows.{in_use}

-- the rows in use lie inside the run
module _ (w octets count n : ℕ) (e : n ≡ in_use w octets count) where
  pub rows_inside : w * n ≤ octets
  rows_inside =
      let m : n ≤ octets / w = rw e (min-le_right count (octets / w)) in
      let d : w * (octets / w) ≤ octets = rw (mul_comm w (octets / w)) (div-mul-le_self octets w) in
      let k : w * n ≤ w * (octets / w) = mul-le-mul_left w m in
      omega arith

  pub row_inside : (i : ℕ) → i < n → w * i + w ≤ octets
  row_inside i h = let k = row_below w i n h in let l = rows_inside in omega arith

-- ---- row i, read from a first offset that is cut to the run's length
module _ (s : List ℕ) (first x at : ℕ) (e : at ≡ min first (length s) + x) where
  pub near : (k : ℕ) → get_or s (at + k) 0 ≡ get_or s (first + x + k) 0
  near k =
      ap (λ (i : ℕ). get_or s i 0) (ap (λ (i : ℕ). i + k) e ∙ add_assoc (min first (length s)) x k)
      ∙ get_d_clamped s first (x + k)
      ∙ ap (λ (i : ℕ). get_or s i 0) (sym (add_assoc first x k))

  pub number_near : (w : ℕ) → number_at w s at ≡ number_at w s (first + x)
  number_near w = number_shift w s s at (first + x) (λ k l. near k)
