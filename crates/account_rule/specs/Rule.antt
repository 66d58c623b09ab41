-- Demand 3 for a list of policing steps on one account (document 01, "The terms of demand 3"; document 02, Q-3): what the steps
-- answer, and the codes by the rule, which names no stored credit.
use Rattle.std.specs.Prelude.{ℕ, ◌+◌, ◌*◌, ◌≤◌, true, not, ◌≡◌, List, [], ◌∷◌, map, ◌↔◌, ltb, eqb}
use Rattle.codes.specs.Codes
use Rattle.std.specs.Prelude.{if◌then◌else◌}
use Rattle.lists.specs.History.{Machine, answers, final}
use Rattle.frame.specs.Frame.{length_code}
use Rattle.terms.specs.Terms.{terms_with, terms_good, bag, rate, cost}
use Rattle.terms.specs.declared.Terms.{Terms}
use Rattle.account.specs.Account.{loaded}
use Rattle.account.specs.Step.{StepReport, policed}
use Rattle.account_rule.specs.Bucket.{Reached, reached, last_time, rule_holds, FromEach}
use Rattle.account.specs.declared.Account.{Account}

-- the frame of a policing step
pub record StepCall : Type 0 where
  pub octets : ℕ
  pub time : ℕ

-- ---- the steps: each on the account that the step before left
abbrev pub stepping_account : Machine Account StepCall StepReport
stepping_account =
    record {
      says = λ a s. (policed a s.octets s.time).says;
      leaves = λ a s. (policed a s.octets s.time).account;
    }

-- the account that the last step leaves, and the reports of all steps
abbrev pub account_after : Account → List StepCall → Account
account_after a steps = final stepping_account a steps

abbrev pub step_reports : Account → List StepCall → List StepReport
step_reports a steps = answers stepping_account a steps

abbrev pub step_codes : List StepReport → List ℕ
step_codes = map (λ w. w.code)

-- ---- the rule

-- the allowance of a time: Smax x (BAG + J + that time), Smax as the account's mode charges it
unfoldable pub allowance : Terms → ℕ → ℕ
allowance p since = rate p * (bag p.k + p.jitter + since)

-- a code by the rule, and the frames that have reached the account after the judged frame, the newest first
pub record Ruled : Type 0 where
  pub code : ℕ
  pub past : List Reached

abbrev pub ruled : ℕ → List Reached → Ruled
ruled c past = record { code = c; past = past }

-- a frame that no code before 8 refuses: code 8 by the times of the frames that reached the account. Otherwise the
-- frame reaches the account, with code 0 where the rule holds, else 9
unfoldable pub rule_arrived : Terms → List Reached → ℕ → ℕ → Ruled
rule_arrived p past n t =
    if ltb t (last_time past) then ruled Codes.late past
    else if rule_holds (allowance p) t (cost p n) past then ruled Codes.success (reached t (cost p n) ∷ past)
    else ruled Codes.short (reached t 0 ∷ past)

-- any frame: 1 or 2 by its length, else by `rule_arrived`
unfoldable pub rule_step : Terms → List Reached → ℕ → ℕ → Ruled
rule_step p past n t =
    if not (eqb (length_code n) Codes.success) then ruled (length_code n) past else rule_arrived p past n t

-- the rule for a list of steps, each with the frames that have reached the account
abbrev pub rule_of_account : Terms → Machine (List Reached) StepCall ℕ
rule_of_account p =
    record {
      says = λ past s. (rule_step p past s.octets s.time).code;
      leaves = λ past s. (rule_step p past s.octets s.time).past;
    }

-- the codes by the rule, and the frames that have reached the account after the last step
abbrev pub step_rule_codes : Terms → List Reached → List StepCall → List ℕ
step_rule_codes p past steps = answers (rule_of_account p) past steps

abbrev pub step_rule_past : Terms → List Reached → List StepCall → List Reached
step_rule_past p past steps = final (rule_of_account p) past steps

-- ---- the claims

-- the allowance by mode: in modes 2 and 3 with the greater Smax (Q-3). FormulasByMode of terms has what frames cost
abbrev pub AllowanceByMode : Type 0
AllowanceByMode =
    (s k j since : ℕ)
    → (allowance (terms_with s k j 0) since ≡ s * (bag k + j + since))
    × (allowance (terms_with s k j 1) since ≡ s * (bag k + j + since))
    × (allowance (terms_with s k j 2) since ≡ (s + 20) * (bag k + j + since))
    × (allowance (terms_with s k j 3) since ≡ (s + 20) * (bag k + j + since))

-- the claims below start from values that an image may have, of any mode, with the credit at capacity and the last time
-- 0

-- for every list of steps the codes are those of the rule
abbrev pub RuleOfSteps : Type 0
RuleOfSteps =
    (p : Terms) → terms_good p ≡ true → (steps : List StepCall)
    → step_codes (step_reports (loaded p) steps) ≡ step_rule_codes p [] steps

-- in words: after any list of steps, a frame that reaches the account gets 0 exactly where the sums from itself and
-- from every earlier frame that reached the account are within the allowance, else 9
abbrev pub StepsInWords : Type 0
StepsInWords =
    (p : Terms) → terms_good p ≡ true → (before : List StepCall) (n t : ℕ)
    → length_code n ≡ 0 → last_time (step_rule_past p [] before) ≤ t
    → (((policed (account_after (loaded p) before) n t).says.code ≡ 0) ↔ FromEach (allowance p) t (cost p n) (step_rule_past p [] before))
    × ((FromEach (allowance p) t (cost p n) (step_rule_past p [] before) → ⊥) → (policed (account_after (loaded p) before) n t).says.code ≡ 9)

-- line octets change no code in frame mode: both sides of the rule grow alike, and mode 3 answers as mode 1 (Q-3)
abbrev pub FrameModesAlike : Type 0
FrameModesAlike =
    (s k j : ℕ) → terms_good (terms_with s k j 1) ≡ true → (steps : List StepCall)
    → step_codes (step_reports (loaded (terms_with s k j 3)) steps) ≡ step_codes (step_reports (loaded (terms_with s k j 1)) steps)
