-- What holds of the policing step and the methods for any account. Assumes nothing.
use Prim.Native.Nat.{ℕ, ◌-◌, ◌≤◌, ◌<◌}
use mathlib.Core.Bool.{true, cond}
use mathlib.Core.Logic.{◌⊎◌, ⊎_elim}
use mathlib.Core.Option.{Option, none, some}
use mathlib.Core.Path.{◌≡◌, refl, sym, ap, ◌∙◌}
use mathlib.Core.List.{[], ◌∷◌, Memᴰ}
use native.Mathlib.Nat.{sub-zero}
use native.Mathlib.Omega.{arith}
use lib.Dec.{eqb}
use Rattle.lists.proofs.Tests.{neither}
use Rattle.frame.specs.Frame.{length_code}
use Rattle.frame.proofs.Frame.{within, by_length}
use Rattle.terms.specs.Terms.{capacity, cost}
use Rattle.terms.proofs.Limits.{limits, cost_low, cost_capacity}
use Rattle.account.specs.Account.{terms_of, holding, account_sound, credit_at, cost_of, topped_up, debited}
use Rattle.account.specs.Step.{StepReport, step_reported, Stepped, stepped, policed}
use Rattle.account.specs.Claims.{SoundLimits, StepsApart, StepAnswers, RefusedStepKeeps, ShortStepTopsUp, ForwardedStepTakesCost, StepBelowCapacity, Reports, RefusedStepReports}
use Rattle.account.specs.Methods.{StepIsTopUpAndDebit, FullTopUp, SoundMethods, Idle, RefusedMethodsIdle, MethodsHandBack}
use Rattle.account.specs.declared.Account.{Account}
use Rattle.account.specs.declared.Outcome.{Outcome}
use Rattle.account.specs.declared.Outcome.TheVariants.{Forwarded, Short, Late, Refused}
use Rattle.account.proofs.Methods.{sound_limits, sound_credit, sound_by, capacity_is, capacity_not, credit_at_high, credit_at_full, top_up_unsound, top_up_late, top_up_sound, cost_refused, cost_unsound, cost_sound, debit_enough, debit_short}
use Rattle.account.proofs.Step.{Refuses, by_step}

pub sound_within : SoundLimits
sound_within a = (λ v. (sound_limits a v, sound_credit a v), λ h. sound_by a h.0 h.1)

-- the answer that a report belongs to
heard : StepReport → Outcome
heard w = from w.code w.credit
  where
    from : ℕ → Option ℕ → Outcome
    from n none = Refused n
    from n (some c) = cond (eqb n 0) (Forwarded c) (cond (eqb n 9) (Short c) (Late c))

heard_reported : (o : Outcome) → heard (step_reported o) ≡ o
unfolding heard
heard_reported (Forwarded c) = refl
heard_reported (Short c) = refl
heard_reported (Late c) = refl
heard_reported (Refused n) = refl

pub steps_apart : StepsApart
steps_apart o q e = sym (heard_reported o) ∙ ap heard e ∙ heard_reported q

-- a code that refuses a length is 1 or 2
length_refuses : (n : ℕ) → (length_code n ≡ 0 → ⊥) → (P : ℕ → Type 0) → P 1 → P 2 → P (length_code n)
length_refuses n h P f g =
    by_length n
    (λ _ e. rw e f)
    (λ _ _ e. rw e g)
    (λ _ _ e. absurd (h e))

-- a refusal's code is 1, 2 or 10
refuses : (x : ℕ) → Refuses x → (P : ℕ → Type 0) → P 1 → P 2 → P 10 → P x
refuses x r P f g h = ⊎_elim (λ e. rw e f) (⊎_elim (λ e. rw e g) (λ e. rw e h)) r

-- a refusal's code is not 0, 8 or 9
others : (x : ℕ) → Refuses x → (x ≡ 0 → ⊥) × (x ≡ 8 → ⊥) × (x ≡ 9 → ⊥)
others x r =
    refuses x r (λ y. (y ≡ 0 → ⊥) × (y ≡ 8 → ⊥) × (y ≡ 9 → ⊥))
    (λ e. omega arith, λ e. omega arith, λ e. omega arith)
    (λ e. omega arith, λ e. omega arith, λ e. omega arith)
    (λ e. omega arith, λ e. omega arith, λ e. omega arith)

pub step_answers : StepAnswers
step_answers a n t =
    let P : (ℕ → Type 0) = λ x. Memᴰ x (0 ∷ 1 ∷ 2 ∷ 8 ∷ 9 ∷ 10 ∷ []) in
    let one : P 1 = Memᴰ.tail (Memᴰ.head refl) in
    let two : P 2 = Memᴰ.tail (Memᴰ.tail (Memᴰ.head refl)) in
    by_step a n t (λ q. P q.says.code)
    (λ m. length_refuses n m P one two)
    (λ _ _ x r. refuses x r P one two (Memᴰ.tail (Memᴰ.tail (Memᴰ.tail (Memᴰ.tail (Memᴰ.tail (Memᴰ.head refl)))))))
    (λ _ _ _. Memᴰ.tail (Memᴰ.tail (Memᴰ.tail (Memᴰ.head refl))))
    (λ _ _ _ _. Memᴰ.tail (Memᴰ.tail (Memᴰ.tail (Memᴰ.tail (Memᴰ.head refl)))))
    (λ _ _ _ _. Memᴰ.head refl)

pub refused_step_keeps : RefusedStepKeeps
refused_step_keeps a n t =
    by_step a n t (λ q. (q.says.code ≡ 0 → ⊥) → (q.says.code ≡ 9 → ⊥) → q.account ≡ a)
    (λ _ _ _. refl)
    (λ _ _ _ _ _ _. refl)
    (λ _ _ _ _ _. refl)
    (λ _ _ _ _ _ nine. absurd (nine refl))
    (λ _ _ _ _ zero _. absurd (zero refl))

pub short_step_tops_up : ShortStepTopsUp
short_step_tops_up a n t =
    by_step a n t (λ q. q.says.code ≡ 9 → (q.account ≡ holding a (credit_at a t) t) × (q.says.credit ≡ some (credit_at a t)) × (credit_at a t < cost (terms_of a) n))
    (λ m e. absurd (length_refuses n m (λ x. x ≡ 9 → ⊥) (λ f. omega arith) (λ f. omega arith) e))
    (λ _ _ x r e. absurd ((others x r).2 e))
    (λ _ _ _ e. absurd (omega arith))
    (λ _ _ _ l _. (refl, refl, l))
    (λ _ _ _ _ e. absurd (omega arith))

pub forwarded_step_takes_cost : ForwardedStepTakesCost
forwarded_step_takes_cost a n t =
    by_step a n t (λ q. q.says.code ≡ 0
    → (q.account ≡ holding a (credit_at a t - cost (terms_of a) n) t)
    × (q.says.credit ≡ some (credit_at a t - cost (terms_of a) n))
    × (cost (terms_of a) n ≤ credit_at a t))
    (λ m e. absurd (m e))
    (λ _ _ x r e. absurd ((others x r).0 e))
    (λ _ _ _ e. absurd (omega arith))
    (λ _ _ _ _ e. absurd (omega arith))
    (λ _ _ _ l _. (refl, refl, l))

-- ---- a step that reaches the account is a top-up and then a debit
module _ (a : Account) (n t : ℕ) (z : length_code n ≡ 0) (v : account_sound a ≡ true) (h : a.last ≤ t) where
  abbrev topped : Account
  topped = holding a (credit_at a t) t

  topped_up_lem : debited topped n ≡ debited (topped_up a t) n
  topped_up_lem = ap (λ (b : Account). debited b n) (top_up_sound a t v h _ refl _ refl)

  cost_is : cost (terms_of a) n ≡ cost_of topped n
  cost_is = cost_sound topped n z (sound_by topped (sound_limits a v) (credit_at_high a t))

-- case analysis of a step that answers 0 or 9
by_reached : (a : Account) (n t : ℕ) (P : Stepped → Type 0)
    → (length_code n ≡ 0 → account_sound a ≡ true → a.last ≤ t → credit_at a t < cost (terms_of a) n
    → P (stepped (Short (credit_at a t)) (holding a (credit_at a t) t)))
    → (length_code n ≡ 0 → account_sound a ≡ true → a.last ≤ t → cost (terms_of a) n ≤ credit_at a t
    → P (stepped (Forwarded (credit_at a t - cost (terms_of a) n)) (holding a (credit_at a t - cost (terms_of a) n) t)))
    → ((policed a n t).says.code ≡ 0) ⊎ ((policed a n t).says.code ≡ 9) → P (policed a n t)
by_reached a n t P i j =
    by_step a n t (λ q. (q.says.code ≡ 0) ⊎ (q.says.code ≡ 9) → P q)
    (λ m. length_refuses n m (λ x. (x ≡ 0) ⊎ (x ≡ 9) → P (stepped (Refused x) a))
    (neither 1 0 9 (λ e. omega arith) (λ e. omega arith))
    (neither 2 0 9 (λ e. omega arith) (λ e. omega arith)))
    (λ _ _ x r. neither x 0 9 (others x r).0 (others x r).2)
    (λ _ _ _. neither 8 0 9 (λ e. omega arith) (λ e. omega arith))
    (λ z v h l _. i z v h l)
    (λ z v h l _. j z v h l)

pub step_is_top_up_and_debit : StepIsTopUpAndDebit
step_is_top_up_and_debit a n t =
    by_reached a n t (λ q. q.account ≡ debited (topped_up a t) n)
    (λ z v h l. debit_short (topped a n t z v h) n _ (cost_is a n t z v h) l ∙ topped_up_lem a n t z v h)
    (λ z v h l. debit_enough (topped a n t z v h) n _ (cost_is a n t z v h) l _ refl ∙ topped_up_lem a n t z v h)

pub full_top_up : FullTopUp
full_top_up a t v e h = sym (top_up_sound a t v h _ refl _ (ap (λ (x : ℕ). holding a x t) (credit_at_full a t e)))

pub step_below_capacity : StepBelowCapacity
step_below_capacity a n t s =
    by_reached a n t (λ q. q.account.credit < capacity (terms_of a))
    (λ _ v _ l. omega (arith, cost_capacity (terms_of a) (limits (terms_of a) (sound_limits a v)) n s))
    (λ z v _ l.
    let w = (within n z).0 in
    let b = cost_low (terms_of a) (limits (terms_of a) (sound_limits a v)) n (omega arith) in
    omega (arith, credit_at_high a t))

-- a code other than 1, 2 and 10 is no refusal's
none_of : (x : ℕ) {P : Type 0} → (x ≡ 1 → ⊥) → (x ≡ 2 → ⊥) → (x ≡ 10 → ⊥) → Refuses x → P
none_of x f g h e = absurd (⊎_elim f (⊎_elim g h) e)

pub refused_step_reports : RefusedStepReports
refused_step_reports a n t =
    by_step a n t (λ q. Reports a t q.says)
    (λ m. (λ e. absurd (length_refuses n m (λ x. x ≡ 8 → ⊥) (λ f. omega arith) (λ f. omega arith) e), λ _. refl))
    (λ _ _ x r. (λ e. absurd ((others x r).1 e), λ _. refl))
    (λ _ _ l. (λ _. (refl, l), none_of 8 (λ e. omega arith) (λ e. omega arith) (λ e. omega arith)))
    (λ _ _ _ _. (λ e. absurd (omega arith), none_of 9 (λ e. omega arith) (λ e. omega arith) (λ e. omega arith)))
    (λ _ _ _ _. (λ e. absurd (omega arith), none_of 0 (λ e. omega arith) (λ e. omega arith) (λ e. omega arith)))

-- a debit of cost 0 changes nothing
debit_idle : (a : Account) (n : ℕ) → 0 ≡ cost_of a n → debited a n ≡ a
debit_idle a n e = sym (debit_enough a n 0 e (omega arith) a (ap (λ (c : ℕ). holding a c a.last) (sym (sub-zero a.credit))))

-- where the step refuses, the methods give 0 or change nothing
pub refused_methods_idle : RefusedMethodsIdle
refused_methods_idle a n t =
    by_step a n t (λ q. Idle a n t q.says.code)
    (λ m. length_refuses n m (Idle a n t) (by_octets_lem 1 m (λ e. omega arith) (λ e. omega arith)) (by_octets_lem 2 m (λ e. omega arith) (λ e. omega arith)))
    (λ z v x r. (
      λ _. (sym (cost_unsound a n v), debit_idle a n (cost_unsound a n v)),
      λ _. (sym (capacity_not a v), sym (cost_unsound a n v), sym (top_up_unsound a t v), debit_idle a n (cost_unsound a n v)),
      λ e. absurd ((others x r).1 e),
    ))
    (λ _ v l. (neither 8 1 2 (λ e. omega arith) (λ e. omega arith), λ e. absurd (omega arith), λ _. sym (top_up_late a t v l)))
    (λ _ _ _ _. (neither 9 1 2 (λ e. omega arith) (λ e. omega arith), λ e. absurd (omega arith), λ e. absurd (omega arith)))
    (λ _ _ _ _. (neither 0 1 2 (λ e. omega arith) (λ e. omega arith), λ e. absurd (omega arith), λ e. absurd (omega arith)))
  where
    by_octets_lem : (x : ℕ) → (length_code n ≡ 0 → ⊥) → (x ≡ 10 → ⊥) → (x ≡ 8 → ⊥) → Idle a n t x
    by_octets_lem x m f g =
        let c = cost_refused a n _ refl m in
        (λ _. (sym c, debit_idle a n c), λ e. absurd (f e), λ e. absurd (g e))

pub sound_methods : SoundMethods
sound_methods a n t v = (sym (capacity_is a v), λ z. sym (cost_sound a n z v), λ h. sym (top_up_sound a t v h _ refl _ refl))

pub methods_hand_back : MethodsHandBack
methods_hand_back x a = (refl, refl)
