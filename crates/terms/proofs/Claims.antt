-- What holds of an account's values alone. Assumes nothing.
use Prim.Native.Nat.{ℕ, ◌+◌, ◌*◌}
use mathlib.Core.Path.{◌≡◌, refl, ap}
use native.Mathlib.Nat.{le_trans, add-zero}
use native.Mathlib.Omega.{arith}
use lib.Dec.{lit≤}
use borrow.Author.Tests.{eq-eqb, ne_eqb}
use Rattle.lists.proofs.Tests.{split}
use Rattle.terms.specs.Terms.{terms_good, bag, added, charge, rate, capacity, by_octets, charged, cost, checked_capacity, checked_cost}
use Rattle.terms.specs.Claims.{BagFigures, FormulasByMode, CapacityLargest, CostLargest, TermsLimits, CheckedMethods}
use Rattle.terms.proofs.Limits.{limits, are_good_by, added_none, capacity_with, capacity_high, cost_high}

pub formulas_by_mode : FormulasByMode
unfolding added charge rate capacity by_octets charged cost
formulas_by_mode s k j =
    let plain : (c w : ℕ) → (c + 0) * w ≡ c * w = λ c w. ap (λ (d : ℕ). d * w) (add-zero c) in
    ((add-zero s, plain s _, λ n. plain n _), (add-zero s, plain s _, λ n. plain s _), (refl, refl, λ n. refl), (refl, refl, λ n. refl))

pub bag_figures : BagFigures
unfolding bag
bag_figures = refl

pub capacity_largest : CapacityLargest
unfolding terms_good bag added charge rate capacity
capacity_largest = (
  λ p ok. le_trans (capacity_high p (limits p ok)) (lit≤ tt),
  λ p ok h. le_trans (capacity_with p (limits p ok)) (rw (added_none p.mode (omega arith)) (lit≤ tt)),
  refl,
  refl,
)

pub cost_largest : CostLargest
unfolding bag added charge rate by_octets charged cost
cost_largest = (λ p n ok h. le_trans (cost_high p (limits p ok) n h) (lit≤ tt), refl)

pub terms_limits : TermsLimits
terms_limits p = (
  λ e. let l = limits p e in (l.smax_low, l.smax_high, l.k_high, l.jitter_high, l.mode_high),
  λ h. are_good_by p (record { smax_low = h.0; smax_high = h.1; k_high = h.2; jitter_high = h.3; mode_high = h.4 }),
)

pub checked_methods : CheckedMethods
unfolding checked_capacity checked_cost
checked_methods p n = (
  λ e. simp e,
  λ e z. simp (e, eq-eqb _ _ z),
  λ e. (simp e, simp e),
  λ h. split (terms_good p) (λ e. simp (e, ne_eqb _ _ h)) (λ e. simp e),
)
