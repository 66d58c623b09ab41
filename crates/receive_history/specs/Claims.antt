-- What holds of every history of the receiving end, and the whole of request Q-1; proved in proofs/Claims.antt.
use Rattle.std.specs.Prelude.{ℕ, List, ◌≡◌, length}
use Rattle.lists.specs.Claims.{PickedAnswers}
use Rattle.receive_answer.specs.declared.Arrival.{Arrival}
use Rattle.receive_sequence.specs.Claims.{NumbersAreOctets, PassTable, PassesExactly}
use Rattle.receive.specs.Claims.{PossibleAnswers, RefusedKeeps, UnknownExactly, RowIsFirst, RowIsNowhere}
use Rattle.receive.specs.Claims.{SkewRowsBeyondUnread, AnswersByMemory, LaterDeliveryIsNone}
use Rattle.receive.specs.Claims.{ChangesOwnMemory, TimeAndNumberStored, ByOwnMemory}
use Rattle.receive.specs.Figures.{SkewRowFigures, SkewRowReads, RowsInUseExactly, MemoryFigures}
use Rattle.receive_answer.specs.Claims.{AnswersApart, ReceptionNumbers, AnswersExactly, LaterCountsAsNone, AnswersInFigures}
use Rattle.receive_history.specs.History.{frame_answers, Empty, Octets}
use Rattle.receive_history.specs.Rule.{rule_answers}
use Rattle.receive_history.specs.Figures.{HistoryInFigures, ZerosAreEmpty}
use Rattle.receive_history.specs.Isolation.{ReceptionsApartFromAny, ReceptionsApart}
use Rattle.receive_history.specs.Words.{RuleOfNext, OtherReceptionsInWords, CopiesInWords, CopyMeetsDelivery}
use Rattle.receive_history.specs.Words.{MetOnce, OneCopyEach, AloneDelivered}

-- ---- the rule: for any rows, any empty memories and any list of frames, the answers of the whole list are the rule's
abbrev pub RuleOfReceptions : Type 0
RuleOfReceptions = (rows r : List ℕ) → Empty rows r → (h : List Arrival) → Octets h → frame_answers rows r h ≡ rule_answers rows (length r) h

-- ---- the whole of request Q-1
pub record ReceivingEnd : Type 0 where
  pub possible_answers : PossibleAnswers
  pub answers_apart : AnswersApart
  pub reception_numbers : ReceptionNumbers
  pub answers_exactly : AnswersExactly
  pub later_counts_as_none : LaterCountsAsNone
  pub answers_in_figures : AnswersInFigures
  pub refused_keeps : RefusedKeeps
  pub unknown_exactly : UnknownExactly
  pub row_is_first : RowIsFirst
  pub row_is_nowhere : RowIsNowhere
  pub rows_beyond : SkewRowsBeyondUnread
  pub skew_row_figures : SkewRowFigures
  pub skew_row_reads : SkewRowReads
  pub rows_in_use_exactly : RowsInUseExactly
  pub memory_figures : MemoryFigures
  pub answers_by_memory : AnswersByMemory
  pub later_delivery_is_none : LaterDeliveryIsNone
  pub changes_own_memory : ChangesOwnMemory
  pub time_and_number_stored : TimeAndNumberStored
  pub by_own_memory : ByOwnMemory
  pub numbers_are_octets : NumbersAreOctets
  pub pass_table : PassTable
  pub passes_exactly : PassesExactly
  pub zeros_are_empty : ZerosAreEmpty
  pub rule : RuleOfReceptions
  pub history_in_figures : HistoryInFigures
  pub rule_of_next : RuleOfNext
  pub others_in_words : OtherReceptionsInWords
  pub copies_in_words : CopiesInWords
  pub copy_meets_delivery : CopyMeetsDelivery
  pub met_once : MetOnce
  pub one_copy_each : OneCopyEach
  pub alone_delivered : AloneDelivered
  pub apart_from_any : ReceptionsApartFromAny
  pub apart : ReceptionsApart
  pub picked_answers : PickedAnswers
