-- Laws of the policing step, case by case. Assumes nothing.
use Prim.Native.Nat.{ℕ, ◌-◌, ◌≤◌, ◌<◌}
use mathlib.Core.Bool.{true, false}
use mathlib.Core.Logic.{◌⊎◌, inl, inr}
use mathlib.Core.Path.{◌≡◌, refl, sym, ap₂, ◌∙◌}
use native.Mathlib.Omega.{arith}
use lib.Dec.{ltb, leb, eqb}
use borrow.Author.Tests.{lt-ltb, le-ltb, lt-leb, le-leb, eq-eqb, ne_eqb, eqb-true, eqb-false, ltb-true, ltb-false, leb-true, leb-false}
use Rattle.lists.proofs.Tests.{split}
use Rattle.codes.specs.Refused.{number_of}
use Rattle.codes.specs.declared.Refusal.{Refusal}
use Rattle.codes.specs.declared.Refusal.TheVariants.{TooShort, TooLong, OtherConstant, UnknownLink, OtherPort, BelowSmallest, AboveLargest, Unsound}
use Rattle.frame.specs.Frame.{length_code}
use Rattle.terms.specs.Terms.{capacity, cost, checked_cost}
use Rattle.terms.proofs.Methods.{cost_kept}
use Rattle.account.specs.Account.{terms_of, holding, account_sound, credit_up_to, credit_at}
use Rattle.account.specs.Step.{Stepped, stepped, turned_away, judged, judged_at, policed}
use Rattle.account.specs.declared.Account.{Account}
use Rattle.account.proofs.Methods.{sound_limits}
use Rattle.account.specs.declared.Outcome.TheVariants.{Forwarded, Short, Late, Refused}

-- no refusal has the number of success
pub numbered_above : (r : Refusal) → number_of r ≡ 0 → ⊥
numbered_above TooShort e = omega arith
numbered_above TooLong e = omega arith
numbered_above OtherConstant e = omega arith
numbered_above UnknownLink e = omega arith
numbered_above OtherPort e = omega arith
numbered_above BelowSmallest e = omega arith
numbered_above AboveLargest e = omega arith
numbered_above Unsound e = omega arith

module _ (a : Account) (n t : ℕ) where
  -- a length is refused by its code r
  pub police_length : (r : ℕ) → r ≡ length_code n → (r ≡ 0 → ⊥) → stepped (Refused r) a ≡ policed a n t
  unfolding policed
  police_length r e h = simp (e, ne_eqb (length_code n) 0 (rw e at h))

  pub police_refused : (r : Refusal) → number_of r ≡ length_code n → turned_away (number_of r) a ≡ policed a n t
  police_refused r e = police_length (number_of r) e (numbered_above r)

  -- the step with capacity c and cost x in hand
  pub police_judged : length_code n ≡ 0 → account_sound a ≡ true → (c x : ℕ) → c ≡ capacity (terms_of a) → x ≡ checked_cost (terms_of a) n
      → judged_at a c x t ≡ policed a n t
  unfolding policed
  police_judged z v c x p q =
      ap₂ (λ (f y : ℕ). judged_at a f y t) p (q ∙ sym (cost_kept (terms_of a) (sound_limits a v) n z)) ∙ simp (eq-eqb _ _ z, v)

-- what decides a step: a refusal of the length, or the judging
pub ruleset refused_or_judged = (police_refused, police_judged)

-- ---- a frame that costs x, on an account of capacity c
module _ (a : Account) (c x t : ℕ) where
  pub judged_late : t < a.last → stepped (Late a.credit) a ≡ judged_at a c x t
  unfolding judged_at
  judged_late h = simp (lt-ltb _ _ h)

  -- w is the topped-up credit
  module _ (h : a.last ≤ t) (w : ℕ) (p : w ≡ credit_up_to a c t) where
    pub judged_short : w < x → stepped (Short w) (holding a w t) ≡ judged_at a c x t
    unfolding judged_at judged
    judged_short l = simp (le-ltb _ _ h, ← p, lt-leb x w l)

    pub judged_forwarded : x ≤ w → stepped (Forwarded (w - x)) (holding a (w - x) t) ≡ judged_at a c x t
    unfolding judged_at judged
    judged_forwarded l = simp (le-ltb _ _ h, ← p, le-leb x w l)

-- the code of a refusal that reports no credit
abbrev pub Refuses : ℕ → Type 0
Refuses x = (x ≡ 1) ⊎ ((x ≡ 2) ⊎ (x ≡ 10))

module _ (a : Account) (n t : ℕ) where
  -- case analysis of a step: a property of each possible answer is one of the step's answer; an unsound account gets
  -- the code of a refusal
  pub by_step : (P : Stepped → Type 0)
      → ((length_code n ≡ 0 → ⊥) → P (stepped (Refused (length_code n)) a))
      → (length_code n ≡ 0 → account_sound a ≡ false → (x : ℕ) → Refuses x → P (stepped (Refused x) a))
      → (length_code n ≡ 0 → account_sound a ≡ true → t < a.last → P (stepped (Late a.credit) a))
      → (length_code n ≡ 0 → account_sound a ≡ true → a.last ≤ t → credit_at a t < cost (terms_of a) n
      → P (stepped (Short (credit_at a t)) (holding a (credit_at a t) t)))
      → (length_code n ≡ 0 → account_sound a ≡ true → a.last ≤ t → cost (terms_of a) n ≤ credit_at a t
      → P (stepped (Forwarded (credit_at a t - cost (terms_of a) n)) (holding a (credit_at a t - cost (terms_of a) n) t)))
      → P (policed a n t)
  unfolding policed
  by_step P f g h i j =
      split (eqb (length_code n) 0)
      (λ e. let z = eqb-true _ _ e in
      split (account_sound a)
      (λ v.
      let full : ℕ = capacity (terms_of a) in
      let x : ℕ = cost (terms_of a) n in
      let s : judged_at a full x t ≡ policed a n t = police_judged a n t z v full x refl (cost_kept _ (sound_limits a v) n z) in
      split (ltb t a.last)
      (λ l. rw (← s, ← judged_late a full x t (ltb-true _ _ l)) (h z v (ltb-true _ _ l)))
      (λ l. let k = ltb-false _ _ l in
      split (leb x (credit_at a t))
      (λ m. rw (← s, ← judged_forwarded a full x t k _ refl (leb-true _ _ m)) (j z v k (leb-true _ _ m)))
      (λ m. rw (← s, ← judged_short a full x t k _ refl (leb-false _ _ m)) (i z v k (leb-false _ _ m)))))
      (λ v. simp (e, v) (g z v _ (search (inl, inr)))))
      (λ e. let m = eqb-false _ _ e in rw (← police_length a n t (length_code n) refl m) (f m))

  -- a step changes the credit and the last time alone
  pub policed_keeps : holding a (policed a n t).account.credit (policed a n t).account.last ≡ (policed a n t).account
  policed_keeps =
      by_step (λ q. holding a q.account.credit q.account.last ≡ q.account)
      (λ _. refl) (λ _ _ _ _. refl) (λ _ _ _. refl) (λ _ _ _ _. refl) (λ _ _ _ _. refl)
