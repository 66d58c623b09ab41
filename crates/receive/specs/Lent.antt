-- What a receiving end is lent (document 02, Q-1): a row for each link and, in a run of words, a memory for each row in
-- use. The papers leave the form of rows and memories open; this file states it.
use Rattle.std.specs.Prelude.{ℕ, ◌+◌, ◌*◌, ◌/◌, List, length, get_or, set, Option}
use Rattle.octets.specs.Numbers.{number_at}
use Rattle.receive_sequence.specs.Sequence.{number_of}
use Rattle.receive_answer.specs.Answer.{delivery_of}
use Rattle.rows.specs.Rows.{table_of, in_use, found_in}
use Rattle.rows.specs.Rows.{Found}
use Rattle.receive_answer.specs.declared.Arrival.{Arrival}
use Rattle.receive_answer.specs.declared.Network.{Network}
use Rattle.receive_answer.specs.declared.Network.TheVariants.{A, B}

-- ---- networks
abbrev pub index : Network → ℕ
index A = 0
index B = 1

-- ---- rows: number (2), SkewMax in us (4)
abbrev pub skew_row_octets : ℕ
skew_row_octets = 6

unfoldable pub skew_in : List ℕ → ℕ → ℕ
skew_in rows j = number_at 4 rows (skew_row_octets * j + 2)

-- words of a memory, which is document 02's record; a word has 64 bits: the link's last time, the last number on each
-- network, and for each network and number two words, for the delivery that may await its copy; 3 + 2 × 256 × 2
abbrev pub memory_words : ℕ
memory_words = 1027

-- rows in use: rows that are lent whole with their memory
unfoldable pub rows_in_use : ℕ → ℕ → ℕ
rows_in_use octets words = in_use skew_row_octets octets (words / memory_words)

-- the row of a link: the first row in use with the link's number
unfoldable pub row_found : List ℕ → ℕ → ℕ → Found
row_found rows words link = found_in (table_of skew_row_octets rows) (rows_in_use (length rows) words) link

-- ---- word k of memory j, and that word stored
unfoldable pub word : List ℕ → ℕ → ℕ → ℕ
word r j k = get_or r (memory_words * j + k) 0

unfoldable pub store : List ℕ → ℕ → ℕ → ℕ → List ℕ
store r j k v = set r (memory_words * j + k) v

-- ---- the indices of a memory's words: the last time; the last number on a network; whether the delivery of n on a
-- network awaits its copy; that delivery's time. All words of an empty memory are 0
abbrev pub time_word : ℕ
time_word = 0

abbrev pub number_word : Network → ℕ
number_word x = 1 + index x

abbrev pub awaiting_word : Network → ℕ → ℕ
awaiting_word x n = 3 + 512 * index x + 2 * n

abbrev pub delivered_word : Network → ℕ → ℕ
delivered_word x n = 4 + 512 * index x + 2 * n

-- ---- what memory j says: the link's last time, the last number received on a network, the time of the delivery of n on a
-- network that awaits its copy
abbrev pub latest_time : List ℕ → ℕ → ℕ
latest_time r j = word r j time_word

abbrev pub last_number : List ℕ → ℕ → Network → Option ℕ
last_number r j x = number_of (word r j (number_word x))

abbrev pub awaiting : List ℕ → ℕ → Network → ℕ → Option ℕ
awaiting r j x n = delivery_of (word r j (awaiting_word x n)) (word r j (delivered_word x n))

-- ---- what is stored in a memory: time and number of a frame; that a delivery has met its copy; that a frame was
-- delivered
unfoldable pub noted : List ℕ → ℕ → Arrival → List ℕ
noted r j f = store (store r j time_word f.time) j (number_word f.network) (f.number + 1)

unfoldable pub met : List ℕ → ℕ → Network → ℕ → List ℕ
met r j x n = store r j (awaiting_word x n) 0

unfoldable pub delivered : List ℕ → ℕ → Arrival → List ℕ
delivered r j f = store (store r j (awaiting_word f.network f.number) 1) j (delivered_word f.network f.number) f.time
