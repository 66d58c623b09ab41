-- The policing step called alone (document 01, "Credit, in whole units" and "Codes, in order of checking").
use Rattle.std.specs.Prelude.{ℕ, ◌-◌, not, ltb, leb, eqb, Result, Ok, Err}
use Rattle.std.proofs.Math.Option.{Option, none, some}
use Rattle.std.specs.Prelude
use Rattle.std.specs.Prelude.{Some, None}
use Rattle.codes.specs.Codes
use Rattle.codes.specs.Refused.{number_of}
use Rattle.codes.specs.declared.Refusal.{Refusal}
use Rattle.std.specs.Prelude.{if◌then◌else◌}
use Rattle.frame.specs.Frame.{length_code}
use Rattle.terms.specs.Terms.{capacity, cost}
use Rattle.account.specs.Account.{terms_of, holding, account_sound, credit_up_to}
use Rattle.account.specs.declared.Account.{Account}
use Rattle.account.specs.declared.Policed.{Policed}
use Rattle.account.specs.declared.Ruling.{Ruling}
use Rattle.account.specs.declared.Outcome.{Outcome}
use Rattle.account.specs.declared.Outcome.TheVariants.{Forwarded, Short, Late, Refused}

-- what an answer reports: the answer's number in the table of codes, and the credit that the answer carries, if any
pub record StepReport : Type 0 where
  pub code : ℕ
  pub credit : Option ℕ

-- the report of a refusal, which carries nothing but its code
abbrev pub refused : ℕ → StepReport
refused n = record { code = n; credit = none }

abbrev pub step_reported : Outcome → StepReport
step_reported (Forwarded c) = record { code = Codes.success; credit = some c }
step_reported (Short c) = record { code = Codes.short; credit = some c }
step_reported (Late c) = record { code = Codes.late; credit = some c }
step_reported (Refused n) = record { code = n; credit = none }

-- the code of an answer, and the credit that it carries
abbrev pub outcome_code : Outcome → ℕ
outcome_code o = (step_reported o).code

abbrev pub outcome_credit : Outcome → Prelude.Option ℕ
outcome_credit (Forwarded c) = Some c
outcome_credit (Short c) = Some c
outcome_credit (Late c) = Some c
outcome_credit (Refused n) = None

-- a step's report, and the account that the step leaves
pub record Stepped : Type 0 where
  pub says : StepReport
  pub account : Account

abbrev pub stepped : Outcome → Account → Stepped
stepped o a = record { says = step_reported o; account = a }

-- a refusal leaves the account as it was
abbrev pub turned_away : ℕ → Account → Stepped
turned_away n a = record { says = refused n; account = a }

-- the step's report and account, from what the code gives
abbrev pub stepped_of : Policed → Stepped
stepped_of r = stepped r.outcome r.account

-- the step's report and account, from a ruling on the account or a refusal
abbrev pub step_of : Account → Result Ruling Refusal → Stepped
step_of a (Ok r) = stepped r.outcome (holding a r.credit r.last)
step_of a (Err r) = turned_away (number_of r) a

-- a frame that costs x, with credit c held at time t: forwarded less the cost, or dropped with the credit kept
unfoldable pub judged : Account → ℕ → ℕ → ℕ → Stepped
judged a c x t =
    if leb x c
    then stepped (Forwarded (c - x)) (holding a (c - x) t)
    else stepped (Short c) (holding a c t)

-- a frame that costs x at time t, for an account that holds at most `full`: late where t is before the last time, else
-- judged by the credit topped up to t
unfoldable pub judged_at : Account → ℕ → ℕ → ℕ → Stepped
judged_at a full x t = if ltb t a.last then stepped (Late a.credit) a else judged a (credit_up_to a full t) x t

-- the step for a frame of n octets at time t: the length, the account, the time and then the credit decide
unfoldable pub policed : Account → ℕ → ℕ → Stepped
policed a n t =
    if not (eqb (length_code n) Codes.success) then stepped (Refused (length_code n)) a
    else if not (account_sound a) then stepped (Refused Codes.unsound) a
    else judged_at a (capacity (terms_of a)) (cost (terms_of a) n) t
