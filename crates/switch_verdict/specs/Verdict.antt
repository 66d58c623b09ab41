-- What the answer of a frame call reports (document 01, "Codes, in order of checking": the verdict carries its own data).
use Rattle.std.specs.Prelude
use Rattle.std.specs.Prelude.{ℕ, eqb, Some, None}
use Rattle.std.proofs.Math.Option.{Option, none, some}
use Rattle.codes.specs.Codes
use Rattle.std.specs.Prelude.{if◌then◌else◌}
use Rattle.account.specs.Step.{StepReport}
use Rattle.switch_verdict.specs.declared.Verdict.{Verdict}
use Rattle.switch_verdict.specs.declared.Verdict.TheVariants.{Forwarded, Short, Late, Refused}

-- what a verdict reports: its number in the table of codes, and the mask and the credit that the verdict carries, if
-- any
pub record Report : Type 0 where
  pub code : ℕ
  pub mask : Option ℕ
  pub credit : Option ℕ

abbrev pub report : ℕ → Option ℕ → Option ℕ → Report
report n m c = record { code = n; mask = m; credit = c }

-- the report of a refusal, which carries nothing but its code
abbrev pub refused : ℕ → Report
refused n = report n none none

abbrev pub reported : Verdict → Report
reported (Forwarded m c) = report Codes.success (some m) (some c)
reported (Short c) = report Codes.short none (some c)
reported (Late c) = report Codes.late none (some c)
reported (Refused n) = report n none none

-- a verdict's code, and the mask and the credit that it carries
abbrev pub verdict_code : Verdict → ℕ
verdict_code v = (reported v).code

abbrev pub verdict_mask : Verdict → Prelude.Option ℕ
verdict_mask (Forwarded m c) = Some m
verdict_mask (Short c) = None
verdict_mask (Late c) = None
verdict_mask (Refused n) = None

abbrev pub verdict_credit : Verdict → Prelude.Option ℕ
verdict_credit (Forwarded m c) = Some c
verdict_credit (Short c) = Some c
verdict_credit (Late c) = Some c
verdict_credit (Refused n) = None

-- the report of a policing step, on a link with this mask: a forwarded frame gets the mask beside its credit
abbrev pub mask_for : ℕ → ℕ → Option ℕ → Option ℕ
mask_for mask code none = none
mask_for mask code (some c) = if eqb code Codes.success then some mask else none

abbrev pub with_mask : ℕ → StepReport → Report
with_mask mask w = report w.code (mask_for mask w.code w.credit) w.credit
