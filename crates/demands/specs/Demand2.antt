-- Demand 2: every answer is the right one. That each call's answer is document 01's is its contract, an equation with the
-- definition that states it; here are gathered the readings of these definitions that document 01 and document 02's Q-3 settle
-- by themselves, and the round trips. Proved in proofs/Demands.antt.
use Rattle.account.specs.Claims.{StepCodesInOrder, ForwardedStepTakesCost}
use Rattle.account.specs.Methods.{StepIsTopUpAndDebit, RefusedMethodsIdle, MethodsHandBack}
use Rattle.tables.specs.Claims.{LinksInUseExactly, FindsFirst, FindsNone}
use Rattle.image_field.specs.Claims.{HeadCodesInOrder, NextCodesInOrder, TagsInOrder, FieldsByTag}
use Rattle.image_read.specs.Claims.{AcceptedEnds, GoodFieldsExactly, ReadFieldByField, ReadAnswers, PrefixRead}
use Rattle.image_fill.specs.Claims.{LongEnoughExactly}
use Rattle.image_load.specs.Claims.{LoadRefuses, RowsBeyondKept, PrefixLoad}
use Rattle.image_load.specs.Fresh.{LoadAccepts, LoadFresh, FreshHolds, FreshSound}
use Rattle.image_write.specs.Claims.{CountsExactly, WriteRefuses, WriteAccepts, WriteOffsets, WritesImage}
use Rattle.image_write.specs.Claims.{ImageLength, FirstBadConstant, FirstBadAccount, FirstBadLink}
use Rattle.image_round_trip.specs.RoundTrips.{AcceptedIsImage, ImageIsAccepted, WriteRead, ReadWrite}
use Rattle.switch.specs.Claims.{LengthAlone, PortsBeyond, InUseExactly, AtTheCount, RowsBeyondUnread}
use Rattle.switch.specs.Effects.{CallEffects}
use Rattle.switch.specs.Table.{CodesInOrder}
use Rattle.demands.specs.Figures.{Figures}
use Rattle.demands.specs.Replay.{Replay}

-- writing and then loading, and loading and then writing ("The configuration image"); octets are accepted exactly where they
-- are the image of good tables
pub record RoundTrips : Type 0 where
  pub written_reads_back : WriteRead
  pub read_writes_back : ReadWrite
  pub accepted_is_image : AcceptedIsImage
  pub image_is_accepted : ImageIsAccepted

-- the frame call and the policing step ("Codes, in order of checking"; "Credit, in whole units")
pub record Verdicts : Type 0 where
  pub codes_in_order : CodesInOrder
  pub step_codes_in_order : StepCodesInOrder
  pub effects : CallEffects
  pub length_alone : LengthAlone
  pub ports_beyond : PortsBeyond
  pub in_use_lem : InUseExactly
  pub at_the_count : AtTheCount
  pub rows_beyond : RowsBeyondUnread
  pub links_in_use_lem : LinksInUseExactly
  pub finds_first : FindsFirst
  pub finds_none : FindsNone
  pub takes_cost : ForwardedStepTakesCost
  pub top_up_and_debit : StepIsTopUpAndDebit
  pub methods_idle : RefusedMethodsIdle
  pub methods_hand_back : MethodsHandBack

-- reading, loading and writing an image ("The configuration image")
pub record Images : Type 0 where
  pub head_codes : HeadCodesInOrder
  pub next_codes : NextCodesInOrder
  pub tags : TagsInOrder
  pub fields_by_tag : FieldsByTag
  pub answers : ReadAnswers
  pub accepted_ends : AcceptedEnds
  pub good_fields : GoodFieldsExactly
  pub field_by_field : ReadFieldByField
  pub long_enough_lem : LongEnoughExactly
  pub load_accepts : LoadAccepts
  pub load_refuses : LoadRefuses
  pub load_fresh : LoadFresh
  pub fresh_holds : FreshHolds
  pub fresh_sound : FreshSound
  pub rows_beyond : RowsBeyondKept
  pub prefix_read : PrefixRead
  pub prefix_load : PrefixLoad
  pub counts : CountsExactly
  pub write_accepts : WriteAccepts
  pub write_refuses : WriteRefuses
  pub write_offsets : WriteOffsets
  pub writes_image : WritesImage
  pub image_length_lem : ImageLength
  pub first_bad_constant : FirstBadConstant
  pub first_bad_account : FirstBadAccount
  pub first_bad_link : FirstBadLink

pub record Demand2 : Type 0 where
  pub round_trips : RoundTrips
  pub verdicts : Verdicts
  pub images : Images
  pub figures : Figures
  pub replay : Replay
