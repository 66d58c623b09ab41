-- The numbers that programs in other languages get (include/ashthulgo.h): each number is the part of the answer that
-- the number is named for, whichever the answer is (document 01, "Codes, in order of checking" and "The configuration
-- image"; document 02, Q-1); proved in proofs/Claims.antt.
use Rattle.std.specs.Prelude
use Rattle.std.specs.Prelude.{ℕ, List, [], ◌∷◌, map, ◌≡◌, Some, None}
use Rattle.std.proofs.Math.Option.{Option, none, some}
use Rattle.codes.specs.Refused.{number_of}
use Rattle.codes.specs.declared.Refusal.{Refusal}
use Rattle.account.specs.Step.{stepped, step_reported, outcome_credit}
use Rattle.account.specs.declared.Account.{Account}
use Rattle.account.specs.declared.Outcome.{Outcome}
use Rattle.account.specs.declared.Outcome.TheVariants as OutcomeOf
use Rattle.switch_verdict.specs.Verdict.{reported, verdict_mask, verdict_credit}
use Rattle.switch_verdict.specs.declared.Verdict.{Verdict}
use Rattle.switch_verdict.specs.declared.Verdict.TheVariants as VerdictOf
use Rattle.switch.specs.Call.{State, after_of}
use Rattle.receive.specs.Receive.{received_of}
use Rattle.receive_answer.specs.declared.Network.TheVariants.{A, B}
use Rattle.receive_answer.specs.declared.Reception.TheVariants.{Delivered, Copy, OutOfSequence, UnknownLink, Late}
use Rattle.exports.specs.Numbers.{header_with, account_with, loaded_with, network_of, reception_done, reception_done_of}
use Rattle.exports.specs.Numbers.{StepNumbers, step_numbers, step_done, step_done_of, CallNumbers, call_numbers, call_done, call_done_of}

-- ---- frame reading, and an account by its values
abbrev pub HeaderNumbers : Type 0
HeaderNumbers =
    (code link sequence : ℕ)
    → ((header_with code link sequence).code ≡ code)
    × ((header_with code link sequence).link ≡ link)
    × ((header_with code link sequence).sequence ≡ sequence)

abbrev pub AccountNumbers : Type 0
AccountNumbers =
    (smax k jitter mode credit last : ℕ)
    → ((account_with smax k jitter mode credit last).terms.smax ≡ smax)
    × ((account_with smax k jitter mode credit last).terms.k ≡ k)
    × ((account_with smax k jitter mode credit last).terms.jitter ≡ jitter)
    × ((account_with smax k jitter mode credit last).terms.mode ≡ mode)
    × ((account_with smax k jitter mode credit last).credit ≡ credit)
    × ((account_with smax k jitter mode credit last).last ≡ last)

-- ---- the policing step: 0, 9 and 8 with their credit, any other code with 0; and the account after the step
abbrev pub StepFigures : Type 0
StepFigures =
    ((code credit : ℕ) → ((step_numbers code credit).code ≡ code) × ((step_numbers code credit).credit ≡ credit))
    × ((n : StepNumbers) (a : Account) → ((step_done n a).says ≡ n) × ((step_done n a).account ≡ a))
    × ((code credit : ℕ) (a : Account)
    → (step_done_of (stepped (OutcomeOf.Forwarded credit) a) ≡ step_done (step_numbers 0 credit) a)
    × (step_done_of (stepped (OutcomeOf.Short credit) a) ≡ step_done (step_numbers 9 credit) a)
    × (step_done_of (stepped (OutcomeOf.Late credit) a) ≡ step_done (step_numbers 8 credit) a)
    × (step_done_of (stepped (OutcomeOf.Refused code) a) ≡ step_done (step_numbers code 0) a))
    × ((r : Refusal) (a : Account)
    → step_done_of (stepped (OutcomeOf.Refused (number_of r)) a) ≡ step_done (step_numbers (number_of r) 0) a)

-- ---- the frame call: 0 with mask and credit, 9 and 8 with their credit and mask 0, any other code with zeros; and the
-- state after the call
abbrev pub CallFigures : Type 0
CallFigures =
    ((code mask credit : ℕ)
    → ((call_numbers code mask credit).code ≡ code)
    × ((call_numbers code mask credit).mask ≡ mask)
    × ((call_numbers code mask credit).credit ≡ credit))
    × ((n : CallNumbers) (s : State) → ((call_done n s).says ≡ n) × ((call_done n s).state ≡ s))
    × ((code mask credit : ℕ) (s : State)
    → (call_done_of (after_of (reported (VerdictOf.Forwarded mask credit)) s) ≡ call_done (call_numbers 0 mask credit) s)
    × (call_done_of (after_of (reported (VerdictOf.Short credit)) s) ≡ call_done (call_numbers 9 0 credit) s)
    × (call_done_of (after_of (reported (VerdictOf.Late credit)) s) ≡ call_done (call_numbers 8 0 credit) s)
    × (call_done_of (after_of (reported (VerdictOf.Refused code)) s) ≡ call_done (call_numbers code 0 0) s))
    × ((r : Refusal) (s : State)
    → call_done_of (after_of (reported (VerdictOf.Refused (number_of r))) s) ≡ call_done (call_numbers (number_of r) 0 0) s)

-- ---- reading and loading an image
abbrev pub ImageNumbers : Type 0
ImageNumbers =
    (code offset constant accounts links : ℕ)
    → ((loaded_with code offset constant accounts links).code ≡ code)
    × ((loaded_with code offset constant accounts links).offset ≡ offset)
    × ((loaded_with code offset constant accounts links).settings.constant ≡ constant)
    × ((loaded_with code offset constant accounts links).settings.accounts ≡ accounts)
    × ((loaded_with code offset constant accounts links).settings.links ≡ links)

-- ---- the receiving end: 0 is network A, any other number B; the numbers of the five answers; and the memory after the
-- call
abbrev pub ReceptionFigures : Type 0
ReceptionFigures =
    (network_of 0 ≡ A)
    × ((n : ℕ) → (n ≡ 0 → ⊥) → network_of n ≡ B)
    × ((n : ℕ) (r : List ℕ) → ((reception_done n r).number ≡ n) × ((reception_done n r).memory ≡ r))
    × ((r : List ℕ)
    → map (λ a. reception_done_of (received_of a r)) (Delivered ∷ Copy ∷ OutOfSequence ∷ UnknownLink ∷ Late ∷ [])
    ≡ map (λ n. reception_done n r) (0 ∷ 30 ∷ 31 ∷ 4 ∷ 8 ∷ []))

-- ---- an answer carries what it reports, and nothing that it doesn't report
abbrev pub carried : Prelude.Option ℕ → Option ℕ
carried None = none
carried (Some x) = some x

abbrev pub AnswersCarry : Type 0
AnswersCarry =
    ((o : Outcome) → carried (outcome_credit o) ≡ (step_reported o).credit)
    × ((v : Verdict) → (carried (verdict_mask v) ≡ (reported v).mask) × (carried (verdict_credit v) ≡ (reported v).credit))

-- all figures of the static library
pub record ExportFigures : Type 0 where
  pub header : HeaderNumbers
  pub account : AccountNumbers
  pub step : StepFigures
  pub call : CallFigures
  pub image : ImageNumbers
  pub reception : ReceptionFigures
  pub carries : AnswersCarry
