-- The rule of demand 3 for the account, whatever its mode: a bucket of the depth and the rate that the mode gives.
-- `arrival` is the single step, for a frame that no code before 8 refuses; the rule for every list of steps follows
-- from it. Assumes nothing.
use Prim.Native.Nat.{ℕ, ◌+◌, ◌-◌, ◌*◌, ◌≤◌}
use mathlib.Core.Bool.{true, false, false≢true}
use mathlib.Core.Path.{◌≡◌, refl, sym, ap, ◌∙◌}
use mathlib.Core.List.{List, [], ◌∷◌}
use mathlib.Core.Logic.{◌↔◌}
use native.Mathlib.Nat.{mul-add, sub-zero}
use native.Mathlib.Omega.{arith}
use lib.Dec.{leb, eqb}
use borrow.Author.Tests.{le-leb, lt-leb, lt-ltb, le-ltb, eq-eqb, ne_eqb, eqb-true, eqb-false}
use Rattle.lists.proofs.Tests.{split}
use Rattle.lists.proofs.History.{Simulates, simulated}
use Rattle.frame.specs.Frame.{length_code}
use Rattle.terms.specs.Terms.{terms_good, bag, rate, capacity, cost}
use Rattle.terms.specs.declared.Terms.{Terms}
use Rattle.account.specs.Account.{account_of, holding, loaded, account_sound, credit_up_to, credit_at}
use Rattle.account.specs.Step.{Stepped, stepped, policed}
use Rattle.account_rule.specs.Bucket.{Reached, reached, last_time, rule_holds, FromEach}
use Rattle.account_rule.specs.Rule.{StepCall, stepping_account, account_after, allowance, Ruled, ruled, rule_arrived, rule_step, rule_of_account, step_rule_past, AllowanceByMode, RuleOfSteps, StepsInWords}
use Rattle.account.specs.declared.Account.{Account}
use Rattle.account.specs.declared.Outcome.TheVariants.{Forwarded, Short}
use Rattle.account_rule.proofs.Bucket.{gain, held, topped, held_high, rule_read, Sound as SoundBucket, rule_is as bucket-rule}
use Rattle.terms.proofs.Claims.{formulas_by_mode}
use Rattle.account.proofs.Methods.{sound_by}
use Rattle.account.proofs.Step.{by_step, police_length}

-- ---- the rule, case by case
module _ (p : Terms) (past : List Reached) (n t : ℕ) where
  pub step_refused : (length_code n ≡ 0 → ⊥) → rule_step p past n t ≡ ruled (length_code n) past
  unfolding rule_step
  step_refused h = simp (ne_eqb (length_code n) 0 h)

  pub step_arrived : length_code n ≡ 0 → rule_step p past n t ≡ rule_arrived p past n t
  unfolding rule_step
  step_arrived h = simp (eq-eqb (length_code n) 0 h)

-- ---- one step
module _ (p : Terms) where
  -- times never fell, and nothing was forwarded above the credit
  abbrev pub Sound : List Reached → Type 0
  Sound past = SoundBucket (capacity p) (rate p) past

  -- the account that the frames of a past leave
  abbrev pub state : List Reached → Account
  state past = account_of p (held (capacity p) (rate p) past) (last_time past)

  -- a step and the rule agree: the same code, and the account of the frames that have reached the account after the
  -- step
  pub record Agree (q : Stepped) (r : Ruled) : Type 0 where
    pub same_code : q.says.code ≡ r.code
    pub same_account : q.account ≡ state r.past
    pub sound : Sound r.past

  -- the allowance of d is the depth and the gain of d
  allowance_is : (d : ℕ) → allowance p d ≡ capacity p + rate p * d
  unfolding allowance capacity
  allowance_is d = mul-add (rate p) (bag p.k + p.jitter) d

  module _ (past : List Reached) (s : Sound past) where
    credit_is : (t : ℕ) → credit_at (state past) t ≡ topped (capacity p) (rate p) past t
    unfolding credit_up_to topped gain
    credit_is t = refl

    -- the rule's test is the test of the topped-up credit
    rule_is : (x t : ℕ) → last_time past ≤ t → rule_holds (allowance p) t x past ≡ leb x (credit_at (state past) t)
    rule_is x t h =
        bucket-rule (capacity p) (rate p) (allowance p) allowance_is past x t s h ∙ ap (leb x) (sym (credit_is t))

    module _ (n t : ℕ) (h : last_time past ≤ t) where
      forwarded_agrees : cost p n ≤ credit_at (state past) t
          → Agree
          (stepped (Forwarded (credit_at (state past) t - cost p n)) (holding (state past) (credit_at (state past) t - cost p n) t))
          (ruled 0 (reached t (cost p n) ∷ past))
      unfolding held topped last_time
      forwarded_agrees l =
          record {
            same_code = refl;
            same_account = ap (λ (c : ℕ). account_of p (c - cost p n) t) (credit_is t);
            sound = (h, rw (← credit_is t) l, s);
          }

      short_agrees : Agree (stepped (Short (credit_at (state past) t)) (holding (state past) (credit_at (state past) t) t)) (ruled 9 (reached t 0 ∷ past))
      unfolding held topped last_time
      short_agrees =
          record {
            same_code = refl;
            same_account = ap (λ (c : ℕ). account_of p c t) (credit_is t ∙ sym (sub-zero _));
            sound = (h, omega arith, s);
          }

    module _ (ok : terms_good p ≡ true) where
      pub state_sound : account_sound (state past) ≡ true
      state_sound = sound_by (state past) ok (held_high (capacity p) (rate p) past)

      -- a frame that no code before 8 refuses
      pub arrival : (n t : ℕ) → length_code n ≡ 0 → Agree (policed (state past) n t) (rule_arrived p past n t)
      unfolding rule_arrived
      arrival n t z =
          by_step (state past) n t (λ q. Agree q (rule_arrived p past n t))
          (λ m. absurd (m z))
          (λ _ v. absurd (false≢true (sym v ∙ state_sound)))
          (λ _ _ l. simp (lt-ltb _ _ l) (record { same_code = refl; same_account = refl; sound = s }))
          (λ _ _ h l. simp (le-ltb _ _ h, rule_is (cost p n) t h ∙ lt-leb _ _ l) (short_agrees n t h))
          (λ _ _ h l. simp (le-ltb _ _ h, rule_is (cost p n) t h ∙ le-leb _ _ l) (forwarded_agrees n t h l))

      -- any frame
      pub stepping : (n t : ℕ) → Agree (policed (state past) n t) (rule_step p past n t)
      stepping n t =
          split (eqb (length_code n) 0)
          (λ e. let z = eqb-true _ _ e in rw (step_arrived p past n t z) (arrival n t z))
          (λ e. let m = eqb-false _ _ e in
          rw (step_refused p past n t m)
          (rw (← police_length (state past) n t (length_code n) refl m) (record { same_code = refl; same_account = refl; sound = s })))

  -- ---- every list of steps
  -- an account is the one that the frames of its past leave
  abbrev Stands : List Reached → Account → Type 0
  Stands past a = (a ≡ state past) × Sound past

  -- a step answers with the rule's code, and the account stays the one of its past
  one_step : terms_good p ≡ true → (steps : List StepCall) → Simulates stepping_account (rule_of_account p) (λ w. w.code) Stands steps
  one_step ok steps =
      record {
        each = λ f _ past a st.
            let q = stepping past st.1 ok f.octets f.time in
            let e = ap (λ (b : Account). policed b f.octets f.time) st.0 in (
              ap (λ (z : Stepped). z.says.code) e ∙ q.same_code,
              (ap (λ (z : Stepped). z.account) e ∙ q.same_account, q.sound),
            );
      }

  -- what loading leaves is the account that no frame has reached
  pub state_loaded : loaded p ≡ state []
  unfolding held last_time
  state_loaded = refl

-- the allowance is the mode's rate times the window and the time
pub allowance_by_mode : AllowanceByMode
unfolding allowance
allowance_by_mode s k j since =
    let f = formulas_by_mode s k j in
    let w : (x y : ℕ) → x ≡ y → x * (bag k + j + since) ≡ y * (bag k + j + since) = λ x y. ap (λ (r : ℕ). r * (bag k + j + since)) in
    (w _ _ f.0.0, w _ _ f.1.0, w _ _ f.2.0, w _ _ f.3.0)

pub rule_of_steps : RuleOfSteps
rule_of_steps p ok steps = (simulated steps (one_step p ok steps) [] (loaded p) (state_loaded p, tt)).0

-- ---- the rule in words

-- an arrival that reaches the account has code 0 where the rule holds, else 9
module _ (p : Terms) (past : List Reached) (n t : ℕ) (h : last_time past ≤ t) where
  code_holds : rule_holds (allowance p) t (cost p n) past ≡ true → (rule_arrived p past n t).code ≡ 0
  unfolding rule_arrived
  code_holds e = simp (le-ltb _ _ h, e)

  code_fails : rule_holds (allowance p) t (cost p n) past ≡ false → (rule_arrived p past n t).code ≡ 9
  unfolding rule_arrived
  code_fails e = simp (le-ltb _ _ h, e)

  -- the same for any code that is equal to the arrival's
  pub in_words : (c : ℕ) → c ≡ (rule_arrived p past n t).code
      → ((c ≡ 0) ↔ FromEach (allowance p) t (cost p n) past) × ((FromEach (allowance p) t (cost p n) past → ⊥) → c ≡ 9)
  in_words c e =
      let read = rule_read (allowance p) t (cost p n) past in
      split (rule_holds (allowance p) t (cost p n) past)
      (λ r. ((λ _. read.0 r, λ _. e ∙ code_holds r), λ no. absurd (no (read.0 r))))
      (λ r.
      let nine : c ≡ 9 = e ∙ code_fails r in
      ((λ z. absurd (omega arith), λ each. absurd (false≢true (sym r ∙ read.1 each))), λ _. nine))

pub steps_in_words : StepsInWords
steps_in_words p ok before n t z h =
    let a = (simulated before (one_step p ok before) [] (loaded p) (state_loaded p, tt)).1 in
    let past : List Reached = step_rule_past p [] before in
    in_words p past n t h (policed (account_after (loaded p) before) n t).says.code
    (ap (λ (b : Account). (policed b n t).says.code) a.0 ∙ (arrival p past a.1 ok n t z).same_code)
