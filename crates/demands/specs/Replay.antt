-- The replay's part of demand 2 (document 01, "The replay program" and case 14 of the bench sheet): the records of a log, the
-- answer to each, the text of the whole and its lines. Proved in proofs/Demands.antt.
use Rattle.replay_words.specs.Claims.{DigitsReadBack, NoLeadingZero, DigitFigures, WordFigures}
use Rattle.replay_text.specs.Claims.{LinesFit, LinesByVerdict, SheetLines, OtherLines}
use Rattle.replay_log.specs.Claims.{NextSettled, NextMoved, NeverMore, FrameInside, RecordReadsBack, NoWholeRecord}
use Rattle.replay_log.specs.Figures.{RecordFigures}
use Rattle.replay_answer.specs.Claims.{LongFrameSkipped, RecordAnswered, RepliedParts}
use Rattle.replay_turn.specs.Claims.{EnoughRecords, LogReadsBack, TextOfPieces, TurnsMoveOn, RestKept}
use Rattle.replay_turn.specs.Joins.{TurnIsCall, ReplayEnds, TextByFrames, Beginnings}
use Rattle.replay_turn.specs.Figures.{TurnFigures, StopFigures}
use Rattle.demands.specs.Replayed.{ReplayOfRig, RefusedRig, CaseFourteen}

pub record Replay : Type 0 where
  -- the log
  pub record_reads_back : RecordReadsBack
  pub no_whole_record : NoWholeRecord
  pub record_figures : RecordFigures
  pub frame_inside : FrameInside
  -- results don't depend on how the log is split into reads
  pub next_settled : NextSettled
  pub next_moved : NextMoved
  pub never_more : NeverMore
  -- the answer to a record
  pub record_answered : RecordAnswered
  pub long_frame_skipped : LongFrameSkipped
  pub replied_parts : RepliedParts
  -- the text of the whole, however it is read
  pub replay_of_rig : ReplayOfRig
  pub refused_rig : RefusedRig
  pub text_of_pieces : TextOfPieces
  pub log_reads_back : LogReadsBack
  pub enough_records : EnoughRecords
  pub replay_ends : ReplayEnds
  pub text_by_frames : TextByFrames
  pub beginnings : Beginnings
  pub turn_is_call : TurnIsCall
  pub turns_move_on : TurnsMoveOn
  pub rest_kept : RestKept
  pub turn_figures : TurnFigures
  pub stop_figures : StopFigures
  pub case_fourteen : CaseFourteen
  -- the lines
  pub lines_by_verdict : LinesByVerdict
  pub sheet_lines : SheetLines
  pub other_lines : OtherLines
  pub lines_fit : LinesFit
  pub digits_read_back : DigitsReadBack
  pub no_leading_zero : NoLeadingZero
  pub digit_figures : DigitFigures
  pub word_figures : WordFigures
