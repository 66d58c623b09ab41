-- Histories of the receiving end (document 02, Q-1): lists of frames from empty memories, each frame on the memories
-- that the frame before left.
use Rattle.std.specs.Prelude.{ℕ, ◌*◌, ◌<◌, Bool, ◌≡◌, length, take, drop, eqb, Option, Some, None}
use mathlib.Core.List.{List, [], Memᴰ}
use Rattle.lists.specs.History
use Rattle.lists.specs.History.{Machine}
use Rattle.rows.specs.Rows.{Found}
use Rattle.receive_answer.specs.declared.Arrival.{Arrival}
use Rattle.receive_answer.specs.declared.Reception.{Reception}
use Rattle.receive.specs.Lent.{skew_in, memory_words, rows_in_use, row_found, word}
use Rattle.receive.specs.Receive.{received}
use Rattle.receive_sequence.specs.Sequence.{number_count}

-- a frame with its answer
pub record Answered : Type 0 where
  pub frame : Arrival
  pub says : Reception

abbrev pub answered_of : Arrival → Reception → Answered
answered_of f a = record { frame = f; says = a }

-- frames received by these rows: the answer to a frame, and the memories that the frame leaves
abbrev pub receiving : List ℕ → Machine (List ℕ) Arrival Answered
receiving rows = record { says = λ r f. answered_of f (received rows r f).says; leaves = λ r f. (received rows r f).memory }

-- the answers to a list of frames, and the memories that the last frame leaves
abbrev pub frame_answers : List ℕ → List ℕ → List Arrival → List Answered
frame_answers rows r h = History.answers (receiving rows) r h

abbrev pub final_memory : List ℕ → List ℕ → List Arrival → List ℕ
final_memory rows r h = History.final (receiving rows) r h

-- the memories of the rows in use are empty
abbrev pub Empty : List ℕ → List ℕ → Type 0
Empty rows r = (j : ℕ) → j < rows_in_use (length rows) (length r) → (k : ℕ) → k < memory_words → word r j k ≡ 0

-- all sequence numbers are octets, as in every call
abbrev pub Octets : List Arrival → Type 0
Octets h = (f : Arrival) → Memᴰ f h → f.number < number_count

-- ---- a link's own part: its frames, its SkewMax if it has a row, its memory
abbrev pub on_link : ℕ → Arrival → Bool
on_link link f = eqb f.link link

abbrev pub skew_by : List ℕ → Found → Option ℕ
skew_by rows None = None
skew_by rows (Some j) = Some (skew_in rows j)

abbrev pub skew_of : List ℕ → List ℕ → ℕ → Option ℕ
skew_of rows r link = skew_by rows (row_found rows (length r) link)

abbrev pub memory_by : List ℕ → Found → List ℕ
memory_by r None = []
memory_by r (Some j) = take memory_words (drop (memory_words * j) r)

abbrev pub memory_of : List ℕ → List ℕ → ℕ → List ℕ
memory_of rows r link = memory_by r (row_found rows (length r) link)
