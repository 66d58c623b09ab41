-- Laws of an account's methods, case by case. Assumes nothing.
use Prim.Native.Nat.{ℕ, ◌-◌, ◌≤◌, ◌<◌}
use mathlib.Core.Bool.{true, false, ◌&&◌}
use mathlib.Core.Path.{◌≡◌, refl, sym, ap, ap₂, ◌∙◌}
use native.Mathlib.Nat.{min-le_left}
use native.Mathlib.Omega.{arith}
use lib.Dec.{leb, eqb}
use borrow.Author.Tests.{leb-true, le-leb, lt-leb, eq-eqb, ne_eqb}
use Rattle.std.specs.Prelude.{Ok, Err, if◌then◌else◌}
use Rattle.codes.specs.Refused.{number_of}
use Rattle.codes.specs.declared.Refusal.{Refusal}
use Rattle.codes.specs.declared.Refusal.TheVariants.{Unsound}
use Rattle.lists.proofs.Tests.{split, both}
use Rattle.frame.specs.Frame.{length_code}
use Rattle.terms.specs.Terms.{terms_good, capacity, cost, checked_capacity, checked_cost}
use Rattle.terms.proofs.Limits.{limits, capacity_low}
use Rattle.account.specs.Account.{terms_of, holding, account_sound, credit_at, credit_up_to, capacity_of, sound_capacity, cost_of, measured, topped_up, debited}
use Rattle.account.specs.declared.Account.{Account}
use Rattle.account.specs.declared.Measured.{Measured}

-- the number in what capacity and cost hand back
pub units_is : (q : Measured) (x : ℕ) (b : Account) → q ≡ record { units = x; account = b } → q.units ≡ x
units_is q x b e = ap (λ (w : Measured). w.units) e

module _ (a : Account) where
  -- ---- a sound account
  pub sound_limits : account_sound a ≡ true → terms_good (terms_of a) ≡ true
  unfolding account_sound
  sound_limits e = (both (terms_good (terms_of a)) (leb a.credit (capacity (terms_of a))) e).0

  pub sound_credit : account_sound a ≡ true → a.credit ≤ capacity (terms_of a)
  unfolding account_sound
  sound_credit e = leb-true _ _ (both (terms_good (terms_of a)) (leb a.credit (capacity (terms_of a))) e).1

  pub sound_by : terms_good (terms_of a) ≡ true → a.credit ≤ capacity (terms_of a) → account_sound a ≡ true
  unfolding account_sound
  sound_by e h = ap₂ ◌&&◌ e (le-leb _ _ h)

  -- ---- capacity: decided by the limits and the credit
  pub capacity_not : account_sound a ≡ false → 0 ≡ capacity_of a
  unfolding capacity_of
  capacity_not v = simp v

  pub capacity_is : account_sound a ≡ true → capacity (terms_of a) ≡ capacity_of a
  unfolding capacity_of
  capacity_is v = simp v

  -- the capacity by the limits and the credit, and the capacity of the values by the limits
  pub capacity_above : terms_good (terms_of a) ≡ true → 0 < capacity (terms_of a)
  capacity_above e = omega (arith, capacity_low (terms_of a) (limits (terms_of a) e))

  pub sound_capacity_is : sound_capacity a ≡ (if terms_good (terms_of a) && leb a.credit (capacity (terms_of a)) then Ok (capacity (terms_of a)) else Err Unsound)
  unfolding account_sound sound_capacity
  sound_capacity_is = refl

  pub checked_capacity_is : checked_capacity (terms_of a) ≡ (if terms_good (terms_of a) then capacity (terms_of a) else 0)
  unfolding checked_capacity
  checked_capacity_is = refl

  -- ---- what a capacity that was answered says of the account, and what a refusal says
  module _ (c : ℕ) (e : Ok c ≡ sound_capacity a) where
    pub some_sound : account_sound a ≡ true
    unfolding sound_capacity
    some_sound = split (account_sound a) (λ v. v) (λ v. let f = simp v at e in absurd (cc f))

    pub some_capacity : c ≡ capacity (terms_of a)
    unfolding sound_capacity
    some_capacity = let f = simp some_sound at e in cc f

  module _ (r : Refusal) (e : Err r ≡ sound_capacity a) where
    pub none_unsound : account_sound a ≡ false
    unfolding sound_capacity
    none_unsound = split (account_sound a) (λ v. let f = simp v at e in absurd (cc f)) (λ v. v)

    pub none_number : number_of r ≡ 10
    unfolding sound_capacity
    none_number = let f = simp none_unsound at e in let g : r ≡ Unsound = cc f in ap number_of g

  -- ---- the topped-up credit
  -- a credit at or above the capacity is topped up to the capacity
  pub credit_full : (t c : ℕ) → c ≤ a.credit → c ≡ credit_up_to a c t
  unfolding credit_up_to
  credit_full t c h = omega arith

  -- a credit equal to the capacity stays, however long the time
  pub credit_at_full : (t : ℕ) → a.credit ≡ capacity (terms_of a) → a.credit ≡ credit_at a t
  credit_at_full t e = e ∙ credit_full t (capacity (terms_of a)) (omega (arith, e))

  pub credit_at_high : (t : ℕ) → credit_at a t ≤ capacity (terms_of a)
  unfolding credit_up_to
  credit_at_high t = min-le_left _ _

  -- ---- top-up: b is the account that the code gives
  module _ (t : ℕ) where
    module _ (c : ℕ) (b : Account) where
      pub brought_refilled : (w : ℕ) → w ≡ credit_up_to a c t → b ≡ holding a w t → b ≡ holding a (credit_up_to a c t) t
      brought_refilled w e f = f ∙ ap (λ (x : ℕ). holding a x t) e

    pub top_up_unsound : account_sound a ≡ false → a ≡ topped_up a t
    unfolding topped_up
    top_up_unsound v = simp v

    pub top_up_late : account_sound a ≡ true → t < a.last → a ≡ topped_up a t
    unfolding topped_up
    top_up_late v h = simp (v, lt-leb _ _ h)

    pub top_up_sound : account_sound a ≡ true → a.last ≤ t → (c : ℕ) → c ≡ capacity (terms_of a) → (b : Account) → b ≡ holding a (credit_up_to a c t) t → b ≡ topped_up a t
    unfolding topped_up
    top_up_sound v h c q b e = e ∙ ap (λ (x : ℕ). holding a (credit_up_to a x t) t) q ∙ simp (v, le-leb _ _ h)

  -- ---- cost and debit; r is the code of the length
  module _ (n : ℕ) where
    pub cost_refused : (r : ℕ) → r ≡ length_code n → (r ≡ 0 → ⊥) → 0 ≡ cost_of a n
    unfolding cost_of
    cost_refused r e h = simp (ne_eqb (length_code n) 0 (rw e at h))

    pub cost_unsound : account_sound a ≡ false → 0 ≡ cost_of a n
    unfolding cost_of
    cost_unsound v = split (eqb (length_code n) 0) (λ z. simp (z, v)) (λ z. simp z)

    pub cost_sound : length_code n ≡ 0 → account_sound a ≡ true → cost (terms_of a) n ≡ cost_of a n
    unfolding cost_of
    cost_sound z v = simp (eq-eqb _ _ z, v)

    pub cost_checked : account_sound a ≡ true → checked_cost (terms_of a) n ≡ cost_of a n
    unfolding checked_cost cost_of
    cost_checked v = split (eqb (length_code n) 0) (λ z. simp (z, v, sound_limits v)) (λ z. simp (z, sound_limits v))

    module _ (full : ℕ) (f : full ≡ capacity_of a) where
      pub cost_some : (full ≡ 0 → ⊥) → (x : ℕ) → x ≡ checked_cost (terms_of a) n → measured x a ≡ measured (cost_of a n) a
      cost_some h x e =
          let v : account_sound a ≡ true = split (account_sound a) (λ v. v) (λ v. absurd (h (f ∙ sym (capacity_not v)))) in
          ap (λ (y : ℕ). measured y a) (e ∙ cost_checked v)

    module _ (x : ℕ) (e : x ≡ cost_of a n) where
      pub debit_short : a.credit < x → a ≡ debited a n
      unfolding debited
      debit_short h = simp (← e, lt-leb _ _ h)

      pub debit_enough : x ≤ a.credit → (b : Account) → b ≡ holding a (a.credit - x) a.last → b ≡ debited a n
      unfolding debited
      debit_enough h b f = f ∙ simp (← e, le-leb _ _ h)

-- the laws of a capacity by its values, and of a cost by the account's soundness
pub ruleset by_values = (capacity_above, sound_capacity_is, checked_capacity_is)

pub ruleset by_soundness = (cost_checked, cost_unsound)
