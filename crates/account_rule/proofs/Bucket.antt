-- The token bucket and the rule that names no credit: the stored credit of a bucket of any depth and rate is a function
-- `held` of the frames that reached the bucket, and a cost is at most the topped-up credit exactly where the rule holds
-- from each of these frames. Assumes nothing.
use Prim.Native.Nat.{ℕ, zero, suc, ◌+◌, ◌-◌, ◌*◌, ◌≤◌, ◌<◌, min}
use mathlib.Core.Bool.{Bool, true, ◌&&◌, and-true}
use mathlib.Core.Path.{◌≡◌, refl, sym, ap, ap₂, ◌∙◌}
use mathlib.Core.List.{List, [], ◌∷◌}
use native.Mathlib.Nat.{mul-add, mul-zero, le_trans}
use native.Mathlib.Omega.{arith}
use lib.Dec.{leb}
use lib.ListN.{length}
use borrow.Author.Tests.{leb-true, leb-false, le-leb, lt-leb}
use Rattle.lists.proofs.Tests.{split, both, leb_same}
use Rattle.account_rule.specs.Bucket.{Reached, last_time, holds_from, rule_holds, costs, FromFrame, RuleRead}

-- the test against a minimum is the test against both numbers
leb_min : (y a b : ℕ) → leb y (min a b) ≡ (leb y a && leb y b)
leb_min y a b =
    split (leb y a)
    (λ e. let h : y ≤ a = leb-true y a e in
    leb_same y (min a b) y b (λ x. omega arith) (λ x. omega arith) ∙ sym (ap (λ (t : Bool). t && leb y b) e))
    (λ e. let h : a < y = leb-false y a e in
    lt-leb y (min a b) (omega arith) ∙ sym (ap (λ (t : Bool). t && leb y b) e))

-- ---- the credit of a bucket of this depth and rate, from the frames that reached the bucket
module _ (depth rate : ℕ) where
  unfoldable pub gain : ℕ → ℕ → ℕ
  gain t u = rate * (t - u)

  unfoldable pub held : List Reached → ℕ
  held [] = depth
  held (r ∷ past) = min depth (held past + gain r.at (last_time past)) - r.forwarded

  unfoldable pub topped : List Reached → ℕ → ℕ
  topped past t = min depth (held past + gain t (last_time past))

  -- times never fall, and no frame was forwarded above the credit
  abbrev pub Sound : List Reached → Type 0
  Sound [] = Unit
  Sound (r ∷ past) = (last_time past ≤ r.at) × (r.forwarded ≤ topped past r.at) × Sound past

  gain_add : (t u v : ℕ) → v ≤ u → u ≤ t → gain t v ≡ gain t u + gain u v
  unfolding gain
  gain_add t u v h k = ap (λ (d : ℕ). rate * d) (omega arith) ∙ mul-add rate (t - u) (u - v)

  pub held_high : (past : List Reached) → held past ≤ depth
  unfolding held
  held_high [] = omega arith
  held_high (r ∷ past) = omega arith

  -- the allowance of a time is the depth and the gain of that time
  module _ (allow : ℕ → ℕ) (linear : (d : ℕ) → allow d ≡ depth + rate * d) where
    -- the test from one frame, u earlier than t: both sides grow by the gain between u and t
    test_shift : (z f t u v : ℕ) → v ≤ u → u ≤ t → leb (z + gain t u + f) (allow (t - v)) ≡ leb (z + f) (allow (u - v))
    test_shift z f t u v h k =
        let e1 : allow (t - v) ≡ depth + gain t v = unfold gain in linear (t - v) in
        let e2 : allow (u - v) ≡ depth + gain u v = unfold gain in linear (u - v) in
        let e3 = gain_add t u v h k in
        leb_same (z + gain t u + f) (allow (t - v)) (z + f) (allow (u - v)) (λ x. omega arith) (λ x. omega arith)

    shift : (past : List Reached) (z t u : ℕ) → Sound past → last_time past ≤ u → u ≤ t → holds_from allow t (z + gain t u) past ≡ holds_from allow u z past
    unfolding holds_from last_time
    shift [] z t u s h k = refl
    shift (r ∷ past) z t u s h k =
        let e : z + gain t u + r.forwarded ≡ z + r.forwarded + gain t u = omega arith in
        ap₂ ◌&&◌ (test_shift z r.forwarded t u r.at h k)
        (ap (λ (w : ℕ). holds_from allow t w past) e ∙ shift past (z + r.forwarded) t u s.2 (le_trans s.0 h) k)

    smaller : (past : List Reached) (t y z : ℕ) → y ≤ z → holds_from allow t z past ≡ true → holds_from allow t y past ≡ true
    unfolding holds_from
    smaller [] t y z h e = refl
    smaller (r ∷ past) t y z h e =
        let b = both (leb (z + r.forwarded) (allow (t - r.at))) (holds_from allow t (z + r.forwarded) past) e in
        let i : z + r.forwarded ≤ allow (t - r.at) = leb-true _ _ b.0 in
        ap₂ ◌&&◌ (le-leb (y + r.forwarded) (allow (t - r.at)) (omega arith))
        (smaller past t (y + r.forwarded) (z + r.forwarded) (omega arith) b.1)

    -- the rule from one frame and from all frames before it, by the credit H held when that frame came
    module _ (past : List Reached) (u f t y H : ℕ) (s : Sound past) (h : last_time past ≤ u) (k : u ≤ t) (g : f ≤ H) (ih : (z : ℕ) → (leb z depth && holds_from allow u z past) ≡ leb z H) where
      allowed : allow (t - u) ≡ depth + gain t u
      unfolding gain
      allowed = linear (t - u)

      from_long : gain t u ≤ y + f → (leb (y + f) (allow (t - u)) && holds_from allow t (y + f) past) ≡ leb y (H - f + gain t u)
      from_long l =
          let z : ℕ = y + f - gain t u in
          let e : y + f ≡ z + gain t u = omega arith in
          let a = allowed in
          ap₂ ◌&&◌
          (leb_same (y + f) (allow (t - u)) z depth (λ x. omega arith) (λ x. omega arith))
          (ap (λ (w : ℕ). holds_from allow t w past) e ∙ shift past z t u s h k) ∙ ih z ∙
          leb_same z H y (H - f + gain t u) (λ x. omega arith) (λ x. omega arith)

      from_short : y + f ≤ gain t u → (leb (y + f) (allow (t - u)) && holds_from allow t (y + f) past) ≡ leb y (H - f + gain t u)
      from_short l =
          let a = allowed in
          let none = (both (leb 0 depth) (holds_from allow u 0 past) (ih 0 ∙ le-leb 0 H (omega arith))).1 in
          ap₂ ◌&&◌ (le-leb (y + f) (allow (t - u)) (omega arith))
          (smaller past t (y + f) (0 + gain t u) (omega arith) (shift past 0 t u s h k ∙ none)) ∙
          sym (le-leb y (H - f + gain t u) (omega arith))

      from_frame : (leb (y + f) (allow (t - u)) && holds_from allow t (y + f) past) ≡ leb y (H - f + gain t u)
      from_frame =
          split (leb (gain t u) (y + f))
          (λ e. from_long (leb-true _ _ e))
          (λ e. let l : y + f < gain t u = leb-false _ _ e in from_short (omega arith))

    -- the rule holds for a cost exactly where the topped-up credit is at least that cost
    credit_test : (past : List Reached) (t y : ℕ) → Sound past → last_time past ≤ t → (leb y depth && holds_from allow t y past) ≡ leb y (topped past t)
    unfolding holds_from last_time held topped
    credit_test [] t y s h = and-true _ ∙ leb_same y depth y (min depth (depth + gain t 0)) (λ x. omega arith) (λ x. omega arith)
    credit_test (r ∷ past) t y s h =
        ap (λ (b : Bool). leb y depth && b)
        (from_frame past r.at r.forwarded t y (topped past r.at) s.2 s.0 h s.1
        (λ z. credit_test past r.at z s.2 s.0)) ∙
        sym (leb_min y depth (held (r ∷ past) + gain t r.at))

    -- the rule's test is the test of the credit
    pub rule_is : (past : List Reached) (x t : ℕ) → Sound past → last_time past ≤ t → rule_holds allow t x past ≡ leb x (topped past t)
    unfolding rule_holds
    rule_is past x t s h =
        ap (λ (b : Bool). b && holds_from allow t x past)
        (leb_same x (allow 0) x depth (λ e. omega (arith, linear 0, mul-zero rate)) (λ e. omega (arith, linear 0, mul-zero rate)))
        ∙ credit_test past t x s h

-- ---- the rule read literally
module _ (allow : ℕ → ℕ) (t : ℕ) where
  from_holds : (past : List Reached) (x : ℕ) → holds_from allow t x past ≡ true → (j : ℕ) → j < length past → FromFrame allow t x past j
  unfolding holds_from costs
  from_holds [] x e j h = absurd (omega arith)
  from_holds (r ∷ past) x e zero h =
      let b = both (leb (x + r.forwarded) (allow (t - r.at))) (holds_from allow t (x + r.forwarded) past) e in
      let i : x + r.forwarded ≤ allow (t - r.at) = leb-true _ _ b.0 in
      omega arith
  from_holds (r ∷ past) x e (suc j) h =
      let b = both (leb (x + r.forwarded) (allow (t - r.at))) (holds_from allow t (x + r.forwarded) past) e in
      let i = from_holds past (x + r.forwarded) b.1 j (omega arith) in
      omega arith

  holds_from_lem : (past : List Reached) (x : ℕ) → ((j : ℕ) → j < length past → FromFrame allow t x past j) → holds_from allow t x past ≡ true
  unfolding holds_from costs
  holds_from_lem [] x h = refl
  holds_from_lem (r ∷ past) x h =
      let i = h 0 (omega arith) in
      ap₂ ◌&&◌ (le-leb (x + r.forwarded) (allow (t - r.at)) (omega arith))
      (holds_from_lem past (x + r.forwarded) (λ j l. let k = h (suc j) (omega arith) in omega arith))

pub rule_read : RuleRead
unfolding rule_holds
rule_read allow t x past = (
  λ e. let b = both (leb x (allow 0)) (holds_from allow t x past) e in (leb-true _ _ b.0, from_holds allow t past x b.1),
  λ h. ap₂ ◌&&◌ (le-leb x (allow 0) h.0) (holds_from_lem allow t past x h.1),
)
