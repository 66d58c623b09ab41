-- The starred cases of the bench sheet at the level of the policing step, as one table (document 01, "Bench sheet").
use Rattle.std.specs.Prelude.{ℕ, ◌+◌, ◌*◌, ◌^◌, ◌-◌, List, [], ◌∷◌, map, take, ◌≡◌}
use Rattle.std.proofs.Math.Option.{some}
use Rattle.terms.specs.Terms.{byte_mode, frame_mode}
use Rattle.terms.specs.declared.Terms.{Terms}
use Rattle.account.specs.Account.{loaded, capacity_of, cost_of, topped_up}
use Rattle.account.specs.Step.{StepReport}
use Rattle.account_rule.specs.Bucket.{costs}
use Rattle.account_rule.specs.Rule.{StepCall, account_after, step_reports, allowance, step_rule_past}

-- a step, and what the step is to report
pub record Case : Type 0 where
  pub step : StepCall
  pub reports : StepReport

-- octets, time, code and credit, in the sheet's order
abbrev pub case : ℕ → ℕ → ℕ → ℕ → Case
case n t code c = record { step = record { octets = n; time = t }; reports = record { code = code; credit = some c } }

abbrev pub step_calls : List Case → List StepCall
step_calls = map (λ c. c.step)

abbrev pub case_reports : List Case → List StepReport
case_reports = map (λ c. c.reports)

-- the account of image P, by mode
abbrev pub terms_p : ℕ → Terms
terms_p mode = record { smax = 200; k = 0; jitter = 500; mode = mode }

-- cases 2 to 10
abbrev pub byte_cases : List Case
byte_cases =
    case 200 0 0 100000
    ∷ case 200 499 9 199800
    ∷ case 200 500 0 0
    ∷ case 200 499 8 0
    ∷ case 200 1499 9 199800
    ∷ case 200 1500 0 0
    ∷ case 64 1500 9 0
    ∷ case 64 1820 0 0
    ∷ case 200 (2 ^ 64 - 1) 0 100000
    ∷ []

-- case 11
abbrev pub frame_cases : List Case
frame_cases = case 64 0 0 100000 ∷ []

-- case 1; cases 2 to 10; case 11; the cost of case 3, both sides of the rule from the first frame of case 4, and the
-- topped-up credit of case 10
abbrev pub BenchTable : Type 0
BenchTable =
    (capacity_of (loaded (terms_p byte_mode)) ≡ 300000)
    × (step_reports (loaded (terms_p byte_mode)) (step_calls byte_cases) ≡ case_reports byte_cases)
    × (step_reports (loaded (terms_p frame_mode)) (step_calls frame_cases) ≡ case_reports frame_cases)
    × (cost_of (loaded (terms_p byte_mode)) 200 ≡ 200000)
    × (costs (step_rule_past (terms_p byte_mode) [] (take 2 (step_calls byte_cases))) + 200000 ≡ 400000)
    × (allowance (terms_p byte_mode) 500 ≡ 200 * 2000)
    × ((topped_up (account_after (loaded (terms_p byte_mode)) (take 8 (step_calls byte_cases))) (2 ^ 64 - 1)).credit ≡ 300000)
