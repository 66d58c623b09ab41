-- Laws of the methods of an account's values: by the limits, and as the code takes the products. Assumes nothing.
use Prim.Native.Nat.{ℕ, ◌+◌, ◌*◌, ◌^◌, ◌≤◌, ◌<◌}
use mathlib.Core.Bool.{Bool, true, false}
use mathlib.Core.Path.{◌≡◌, sym, ◌∙◌}
use native.Mathlib.Omega.{arith}
use lib.Dec.{eqb}
use borrow.Author.Tests.{eq-eqb, eqb-true}
use Rattle.frame.specs.Limits.{largest_frame}
use Rattle.frame.specs.Frame.{length_code}
use Rattle.frame.proofs.Frame.{within}
use Rattle.terms.specs.Terms.{terms_good, bag, rate, capacity, charged, cost, checked_capacity, checked_cost}
use Rattle.terms.specs.declared.Terms.{Terms}
use Rattle.terms.proofs.Limits.{Limits, limits, window_high, capacity_high, cost_high}

module _ (p : Terms) where
  pub capacity_kept : terms_good p ≡ true → capacity p ≡ checked_capacity p
  unfolding checked_capacity
  capacity_kept e = simp e

  pub cost_kept : terms_good p ≡ true → (n : ℕ) → length_code n ≡ 0 → cost p n ≡ checked_cost p n
  unfolding checked_cost
  cost_kept e n z = simp (e, eq-eqb _ _ z)

-- t is whether the values keep their limits, b the BAG, s whether a frame can have n octets
module _ (p : Terms) (t : Bool) (e : t ≡ terms_good p) where
  pub none_full : t ≡ false → 0 ≡ checked_capacity p
  unfolding checked_capacity
  none_full h = simp (← e, h)

  pub none_charged : t ≡ false → (n : ℕ) → 0 ≡ checked_cost p n
  unfolding checked_cost
  none_charged h n = simp (← e, h)

  module _ (h : t ≡ true) where
    tested : terms_good p ≡ true
    tested = sym e ∙ h

    pub limits_tested : Limits p
    limits_tested = limits p tested

    module _ (b : ℕ) (f : b ≡ bag p.k) where
      pub window_fits : b + p.jitter < 2 ^ 32
      window_fits = omega (arith, f, window_high p limits_tested)

      -- the capacity, from the rate r
      module _ (r : ℕ) (g : r ≡ rate p) where
        pub full_given : r * (b + p.jitter) ≡ checked_capacity p
        unfolding capacity
        full_given = rw (g, f) (capacity_kept p tested)

        pub full_fits : r * (b + p.jitter) < 2 ^ 32
        full_fits = omega (arith, full_given, capacity_kept p tested, capacity_high p limits_tested)

    module _ (n : ℕ) (s : Bool) (z : s ≡ eqb (length_code n) 0) where
      pub no_frame : s ≡ false → 0 ≡ checked_cost p n
      unfolding checked_cost
      no_frame k = simp (tested, ← z, k)

      module _ (k : s ≡ true) where
        framed : length_code n ≡ 0
        framed = eqb-true _ _ (sym z ∙ k)

        pub frame_high : n ≤ largest_frame
        frame_high = (within n framed).1

        -- the cost, from the charge x
        module _ (b : ℕ) (f : b ≡ bag p.k) (x : ℕ) (g : x ≡ charged p n) where
          pub product_given : x * b ≡ checked_cost p n
          unfolding cost
          product_given = rw (g, f) (cost_kept p tested n framed)

          pub product_fits : x * b < 2 ^ 32
          product_fits = omega (arith, product_given, cost_kept p tested n framed, cost_high p limits_tested n frame_high)
