-- What holds of one call of the receiving end for any rows and memories whatsoever (document 02, Q-1); proved in
-- proofs/Claims.antt.
use Rattle.std.specs.Prelude.{ℕ, ◌+◌, ◌*◌, ◌≤◌, ◌<◌, true, ◌⊎◌, ◌↔◌, ◌≡◌, length, get_or, Some, None}
use mathlib.Core.List.{List, [], ◌∷◌, Memᴰ}
use Rattle.octets.specs.Numbers.{number_at}
use Rattle.receive_answer.specs.declared.Arrival.{Arrival}
use Rattle.receive_answer.specs.declared.Reception.TheVariants.{Delivered, UnknownLink, Late}
use Rattle.receive_sequence.specs.Sequence.{number_count, passes}
use Rattle.receive_answer.specs.Answer.{reception_code, other}
use Rattle.receive_answer.specs.Claims.{AnsweredBy}
use Rattle.receive.specs.Lent.{skew_row_octets, skew_in, memory_words, rows_in_use, row_found, word}
use Rattle.receive.specs.Lent.{latest_time, last_number, awaiting}
use Rattle.receive.specs.Receive.{received}

-- demand 1: the answers are delivered, copy, out of sequence, 4 and 8, and no other
abbrev pub PossibleAnswers : Type 0
PossibleAnswers = (rows r : List ℕ) (f : Arrival) → Memᴰ (reception_code (received rows r f).says) (0 ∷ 30 ∷ 31 ∷ 4 ∷ 8 ∷ [])

-- demand 1: 4 and 8 change nothing
abbrev pub RefusedKeeps : Type 0
RefusedKeeps =
    (rows r : List ℕ) (f : Arrival) → (reception_code (received rows r f).says ≡ 4) ⊎ (reception_code (received rows r f).says ≡ 8)
    → (received rows r f).memory ≡ r

-- code 4 comes first: exactly where no row in use has the link's number
abbrev pub UnknownExactly : Type 0
UnknownExactly = (rows r : List ℕ) (f : Arrival) → ((received rows r f).says ≡ UnknownLink) ↔ (row_found rows (length r) f.link ≡ None)

-- a row that is found is in use, has the number, and is the first that has the number; where no row is found, no row in
-- use has the number
abbrev pub RowIsFirst : Type 0
RowIsFirst =
    (rows : List ℕ) (words link j : ℕ) → row_found rows words link ≡ Some j
    → (j < rows_in_use (length rows) words)
    × (number_at 2 rows (skew_row_octets * j) ≡ link)
    × ((i : ℕ) → i < j → number_at 2 rows (skew_row_octets * i) ≡ link → ⊥)

abbrev pub RowIsNowhere : Type 0
RowIsNowhere =
    (rows : List ℕ) (words link : ℕ) → row_found rows words link ≡ None
    → (j : ℕ) → j < rows_in_use (length rows) words → number_at 2 rows (skew_row_octets * j) ≡ link → ⊥

-- rows beyond those in use play no part
abbrev pub SkewRowsBeyondUnread : Type 0
SkewRowsBeyondUnread =
    (rows : List ℕ) (words : ℕ) (rows' : List ℕ) (words' link : ℕ) → rows_in_use (length rows) words ≡ rows_in_use (length rows') words'
    → ((j : ℕ) → j < rows_in_use (length rows) words → number_at 2 rows (skew_row_octets * j) ≡ number_at 2 rows' (skew_row_octets * j))
    → row_found rows words link ≡ row_found rows' words' link

-- ---- of a call whose link has row j: the answer exactly, by what memory j says
abbrev pub AnswersByMemory : Type 0
AnswersByMemory =
    (rows r : List ℕ) (f : Arrival) (j : ℕ) → row_found rows (length r) f.link ≡ Some j
    → AnsweredBy (skew_in rows j) (latest_time r j) (last_number r j f.network) (awaiting r j (other f.network) f.number)
    f.number f.time (received rows r f).says

-- a delivery timed after the frame counts as none
abbrev pub LaterDeliveryIsNone : Type 0
LaterDeliveryIsNone =
    (rows r : List ℕ) (f : Arrival) (j : ℕ) → row_found rows (length r) f.link ≡ Some j
    → latest_time r j ≤ f.time → passes (last_number r j f.network) f.number ≡ true
    → (d : ℕ) → awaiting r j (other f.network) f.number ≡ Some d → f.time < d
    → (received rows r f).says ≡ Delivered

-- only memory j may change
pub record OnlyMemory (j : ℕ) (r s : List ℕ) : Type 0 where
  pub long : length s ≡ length r
  pub before : (i : ℕ) → i < memory_words * j → get_or s i 0 ≡ get_or r i 0
  pub after : (i : ℕ) → memory_words * j + memory_words ≤ i → get_or s i 0 ≡ get_or r i 0

abbrev pub ChangesOwnMemory : Type 0
ChangesOwnMemory =
    (rows r : List ℕ) (f : Arrival) → f.number < number_count → (j : ℕ) → row_found rows (length r) f.link ≡ Some j
    → OnlyMemory j r (received rows r f).memory

-- any answer but the refusals, out of sequence too, stores the frame's time, for both networks, and the frame's number,
-- for its own network
abbrev pub TimeAndNumberStored : Type 0
TimeAndNumberStored =
    (rows r : List ℕ) (f : Arrival) (j : ℕ) → row_found rows (length r) f.link ≡ Some j → ((received rows r f).says ≡ Late → ⊥)
    → (latest_time (received rows r f).memory j ≡ f.time) × (last_number (received rows r f).memory j f.network ≡ Some f.number)

-- a call depends on nothing but the link's SkewMax and the link's memory
abbrev pub SameMemory : List ℕ → ℕ → List ℕ → ℕ → Type 0
SameMemory r j s i = (k : ℕ) → k < memory_words → word r j k ≡ word s i k

abbrev pub ByOwnMemory : Type 0
ByOwnMemory =
    (rows r : List ℕ) (j : ℕ) (rows' r' : List ℕ) (i : ℕ) (f : Arrival) → f.number < number_count
    → row_found rows (length r) f.link ≡ Some j → row_found rows' (length r') f.link ≡ Some i
    → skew_in rows j ≡ skew_in rows' i → SameMemory r j r' i
    → ((received rows r f).says ≡ (received rows' r' f).says) × SameMemory (received rows r f).memory j (received rows' r' f).memory i
