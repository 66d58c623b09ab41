-- What holds of an account's values alone: the formulas of each mode, the largest capacity and cost, and the limits (document 01,
-- "Accounts and links" and "Credit, in whole units"; document 02, Q-3); proved in proofs/Claims.antt.
use Rattle.std.specs.Prelude.{ℕ, ◌+◌, ◌*◌, ◌≤◌, true, false, ◌↔◌, ◌≡◌, [], ◌∷◌, map}
use Rattle.frame.specs.Frame.{length_code}
use Rattle.terms.specs.Terms.{terms_with, terms_good, bag, rate, capacity, cost, checked_capacity, checked_cost}
use Rattle.terms.specs.declared.Terms.{Terms}

-- the formulas of a mode, given the octets that count as Smax and those that count for a frame of n
abbrev pub Formulas : Terms → ℕ → (ℕ → ℕ) → Type 0
Formulas p smax octets =
    (rate p ≡ smax)
    × (capacity p ≡ smax * (bag p.k + p.jitter))
    × ((n : ℕ) → cost p n ≡ octets n * bag p.k)

-- byte mode and frame mode, then both with line octets: 20 more for Smax and for the frame (Q-3)
abbrev pub FormulasByMode : Type 0
FormulasByMode =
    (s k j : ℕ)
    → Formulas (terms_with s k j 0) s (λ n. n)
    × Formulas (terms_with s k j 1) s (λ n. s)
    × Formulas (terms_with s k j 2) (s + 20) (λ n. n + 20)
    × Formulas (terms_with s k j 3) (s + 20) (λ n. s + 20)

-- the largest capacity, and values that have it; without line octets document 01's largest
abbrev pub largest_terms : ℕ → Terms
largest_terms mode = terms_with 1518 7 10000 mode

abbrev pub CapacityLargest : Type 0
CapacityLargest =
    ((p : Terms) → terms_good p ≡ true → capacity p ≤ 212244000)
    × ((p : Terms) → terms_good p ≡ true → p.mode ≤ 1 → capacity p ≤ 209484000)
    × (map terms_good (map largest_terms (0 ∷ 1 ∷ 2 ∷ 3 ∷ [])) ≡ true ∷ true ∷ true ∷ true ∷ [])
    × (map capacity (map largest_terms (0 ∷ 1 ∷ 2 ∷ 3 ∷ [])) ≡ 209484000 ∷ 209484000 ∷ 212244000 ∷ 212244000 ∷ [])

-- the BAG of every k, in microseconds
abbrev pub BagFigures : Type 0
BagFigures =
    map bag (0 ∷ 1 ∷ 2 ∷ 3 ∷ 4 ∷ 5 ∷ 6 ∷ 7 ∷ []) ≡ 1000 ∷ 2000 ∷ 4000 ∷ 8000 ∷ 16000 ∷ 32000 ∷ 64000 ∷ 128000 ∷ []

-- the largest cost of a frame
abbrev pub CostLargest : Type 0
CostLargest =
    ((p : Terms) (n : ℕ) → terms_good p ≡ true → n ≤ 1518 → cost p n ≤ 196864000)
    × (map (λ m. cost (largest_terms m) 1518) (0 ∷ 1 ∷ 2 ∷ 3 ∷ []) ≡ 194304000 ∷ 194304000 ∷ 196864000 ∷ 196864000 ∷ [])

-- the limits exactly: each limit is about one value alone, and Smax has the same limits in every mode
abbrev pub TermsLimits : Type 0
TermsLimits =
    (p : Terms)
    → (terms_good p ≡ true) ↔ ((64 ≤ p.smax) × (p.smax ≤ 1518) × (p.k ≤ 7) × (p.jitter ≤ 10000) × (p.mode ≤ 3))

-- what the methods give: the values of the formulas within limits and for a frame's size, else 0
abbrev pub CheckedMethods : Type 0
CheckedMethods =
    (p : Terms) (n : ℕ)
    → (terms_good p ≡ true → checked_capacity p ≡ capacity p)
    × (terms_good p ≡ true → length_code n ≡ 0 → checked_cost p n ≡ cost p n)
    × (terms_good p ≡ false → (checked_capacity p ≡ 0) × (checked_cost p n ≡ 0))
    × ((length_code n ≡ 0 → ⊥) → checked_cost p n ≡ 0)
