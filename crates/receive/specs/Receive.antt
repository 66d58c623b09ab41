-- The receiving end's call (document 02, Q-1): what the call answers and the memories that it leaves, for any rows and
-- memories whatsoever.
use Rattle.std.specs.Prelude.{ℕ, List, length, Some, None}
use Rattle.rows.specs.Rows.{Found}
use Rattle.receive_answer.specs.declared.Arrival.{Arrival}
use Rattle.receive_answer.specs.declared.Reception.{Reception}
use Rattle.receive_answer.specs.declared.Reception.TheVariants.{Delivered, Copy, OutOfSequence, UnknownLink, Late}
use Rattle.receive.specs.Lent.{skew_in, row_found, latest_time, last_number, awaiting, noted, met, delivered}
use Rattle.receive_answer.specs.Answer.{reception_by, other}

-- ---- what an answer leaves in memory j: the two refusals leave it unchanged; any other answer stores the number and
-- the time; after a copy the delivery of the copy has met it, and a delivery awaits its copy
abbrev pub memory_after : List ℕ → ℕ → Arrival → Reception → List ℕ
memory_after r j f UnknownLink = r
memory_after r j f Late = r
memory_after r j f OutOfSequence = noted r j f
memory_after r j f Copy = met (noted r j f) j (other f.network) f.number
memory_after r j f Delivered = delivered (noted r j f) j f

-- ---- the call

-- the answer of a call, and the memories after the call
pub record Received : Type 0 where
  pub says : Reception
  pub memory : List ℕ

abbrev pub received_of : Reception → List ℕ → Received
received_of a r = record { says = a; memory = r }

-- the answer by memory j, on a link with this SkewMax
unfoldable pub answer_by : ℕ → List ℕ → ℕ → Arrival → Reception
answer_by skew r j f =
    reception_by skew (latest_time r j) (last_number r j f.network) (awaiting r j (other f.network) f.number) f.number f.time

abbrev pub on_memory : ℕ → List ℕ → ℕ → Arrival → Received
on_memory skew r j f = received_of (answer_by skew r j f) (memory_after r j f (answer_by skew r j f))

-- the answer and the memories after the call, by the row found: 4 where no row is found
abbrev pub on_row : List ℕ → List ℕ → Arrival → Found → Received
on_row rows r f None = received_of UnknownLink r
on_row rows r f (Some j) = on_memory (skew_in rows j) r j f

unfoldable pub received : List ℕ → List ℕ → Arrival → Received
received rows r f = on_row rows r f (row_found rows (length r) f.link)
