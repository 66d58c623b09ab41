-- The numbers that programs in other languages get, each equal to a part of an answer. Assumes nothing.
use mathlib.Core.Path.{◌≡◌, refl}
use Rattle.account.specs.Step.{step_reported, outcome_credit}
use Rattle.account.specs.declared.Outcome.{Outcome}
use Rattle.account.specs.declared.Outcome.TheVariants as OutcomeOf
use Rattle.switch_verdict.specs.Verdict.{reported, verdict_mask, verdict_credit}
use Rattle.switch_verdict.specs.declared.Verdict.{Verdict}
use Rattle.switch_verdict.specs.declared.Verdict.TheVariants as VerdictOf
use Rattle.exports.specs.Claims.{carried, ExportFigures}
use Rattle.exports.proofs.Answers.{network_b}

-- an answer carries what it reports, case by case
step_carries : (o : Outcome) → carried (outcome_credit o) ≡ (step_reported o).credit
step_carries (OutcomeOf.Forwarded c) = refl
step_carries (OutcomeOf.Short c) = refl
step_carries (OutcomeOf.Late c) = refl
step_carries (OutcomeOf.Refused n) = refl

mask_carried : (v : Verdict) → carried (verdict_mask v) ≡ (reported v).mask
mask_carried (VerdictOf.Forwarded m c) = refl
mask_carried (VerdictOf.Short c) = refl
mask_carried (VerdictOf.Late c) = refl
mask_carried (VerdictOf.Refused n) = refl

credit_carried : (v : Verdict) → carried (verdict_credit v) ≡ (reported v).credit
credit_carried (VerdictOf.Forwarded m c) = refl
credit_carried (VerdictOf.Short c) = refl
credit_carried (VerdictOf.Late c) = refl
credit_carried (VerdictOf.Refused n) = refl

pub export_figures : ExportFigures
export_figures =
    record {
      header = λ _ _ _. (refl, refl, refl);
      account = λ _ _ _ _ _ _. (refl, refl, refl, refl, refl, refl);
      step = ((λ _ _. (refl, refl)), (λ _ _. (refl, refl)), (λ _ _ _. (refl, refl, refl, refl)), (λ _ _. refl));
      call = ((λ _ _ _. (refl, refl, refl)), (λ _ _. (refl, refl)), (λ _ _ _ _. (refl, refl, refl, refl)), (λ _ _. refl));
      image = λ _ _ _ _ _. (refl, refl, refl, refl, refl);
      reception = (refl, network_b, (λ _ _. (refl, refl)), (λ _. refl));
      carries = (step_carries, λ v. (mask_carried v, credit_carried v));
    }
