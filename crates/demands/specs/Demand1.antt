-- Demand 1, of document 01's calls: every call answers, and a refusal changes nothing. The statements stand with the calls that
-- they are about; here they are gathered. All are for any input whatsoever. Proved in proofs/Demands.antt. The receiving end's
-- are gathered in receive_history.
use Rattle.frame.specs.Claims.{ReadingAnswers, ReadingRefused}
use Rattle.account.specs.Claims.{StepAnswers, RefusedStepKeeps, RefusedStepReports, StepsApart, ShortStepTopsUp}
use Rattle.image_read.specs.Claims.{ReadCodes}
use Rattle.image_load.specs.Claims.{LoadCodes, RefusedLoadKeeps, OffsetsInside}
use Rattle.image_write.specs.Claims.{WriteCodes, RefusedWriteKeeps}
use Rattle.switch.specs.Claims.{CallAnswers, RefusedCallKeeps}
use Rattle.switch.specs.Effects.{CallEffects}
use Rattle.switch_verdict.specs.Claims.{VerdictsApart}

-- the codes that each call can answer ("Codes, in order of checking"; "The configuration image"; "The frame")
pub record Answers : Type 0 where
  pub frame_call : CallAnswers
  pub policing_step : StepAnswers
  pub frame_reading : ReadingAnswers
  pub image_reading : ReadCodes
  pub image_loading : LoadCodes
  pub image_writing : WriteCodes

-- what a refusal leaves: everything, but that 9 brings its account to the frame's time ("Codes, in order of checking", after
-- it). The other exception, a reader's place, is the second promise of image_reader's `load`: it is then the offset answered
pub record RefusalsKeep : Type 0 where
  pub frame_call : RefusedCallKeeps
  pub frame_call_effects : CallEffects
  pub policing_step : RefusedStepKeeps
  pub short_step : ShortStepTopsUp
  pub frame_reading : ReadingRefused
  pub image_loading : RefusedLoadKeeps
  pub image_writing : RefusedWriteKeeps

pub record Demand1 : Type 0 where
  pub answers : Answers
  pub refusals_keep : RefusalsKeep
  -- different answers report different values; what a refused step reports; offsets of an image's answer lie inside it
  pub verdicts_apart : VerdictsApart
  pub steps_apart : StepsApart
  pub step_reports_lem : RefusedStepReports
  pub offsets : OffsetsInside
