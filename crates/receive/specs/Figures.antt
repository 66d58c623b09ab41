-- The form of rows and memories in figures (document 02, Q-1: "Links with their SkewMax are lent as rows, the first with a number
-- counts; records start empty"); proved in proofs/Figures.antt.
use Rattle.std.specs.Prelude.{ℕ, ◌+◌, ◌*◌, ◌≤◌, ◌<◌, List, [], ◌∷◌, ◌++◌, map, ◌↔◌, ◌≡◌, length, Some, None}
use Rattle.octets.specs.Numbers.{number_at}
use Rattle.octets.specs.Spelled.{Part, part, spelled, Fit}
use Rattle.receive_sequence.specs.Sequence.{number_of}
use Rattle.receive_answer.specs.Answer.{delivery_of}
use Rattle.receive_answer.specs.declared.Network.TheVariants.{A, B}
use Rattle.receive.specs.Lent.{skew_row_octets, skew_in, memory_words, rows_in_use, row_found}
use Rattle.receive.specs.Lent.{time_word, number_word, awaiting_word, delivered_word}

-- ---- rows: link 258 with SkewMax 50,595,078, link 1,800 with 151,653,132, and link 258 again
abbrev pub three_rows : List ℕ
three_rows = 1 ∷ 2 ∷ 3 ∷ 4 ∷ 5 ∷ 6 ∷ 7 ∷ 8 ∷ 9 ∷ 10 ∷ 11 ∷ 12 ∷ 1 ∷ 2 ∷ 13 ∷ 14 ∷ 15 ∷ 16 ∷ []

-- the SkewMax of the three rows; the rows that are found with three memories, the first of two with one number; 515
-- stands at another offset, 3 nowhere
abbrev pub SkewRowFigures : Type 0
SkewRowFigures =
    (map (skew_in three_rows) (0 ∷ 1 ∷ 2 ∷ []) ≡ 50595078 ∷ 151653132 ∷ 219025168 ∷ [])
    × (map (row_found three_rows 3081) (258 ∷ 1800 ∷ 515 ∷ 3 ∷ []) ≡ Some 0 ∷ Some 1 ∷ None ∷ None ∷ [])

-- row j spelled from any values reads back as these values, whatever stands before and after it: number (2), SkewMax
-- (4)
abbrev pub skew_parts : ℕ → ℕ → List Part
skew_parts number skew = part 2 number ∷ part 4 skew ∷ []

abbrev pub SkewRowReads : Type 0
SkewRowReads =
    (number skew j : ℕ) (before after : List ℕ) → Fit (skew_parts number skew) → length before ≡ 6 * j
    → (number_at 2 (before ++ spelled (skew_parts number skew) ++ after) (6 * j) ≡ number)
    × (skew_in (before ++ spelled (skew_parts number skew) ++ after) j ≡ skew)

-- ---- row j is in use exactly where its 6 octets and the 1,027 words of its memory are lent
pub record RowsInUseExactly : Type 0 where
  pub row : (octets words j : ℕ) → (j < rows_in_use octets words) ↔ ((6 * j + 6 ≤ octets) × (1027 * j + 1027 ≤ words))
  pub whole : (n : ℕ) → rows_in_use (6 * n) (1027 * n) ≡ n
  pub word_short : (n : ℕ) → rows_in_use (6 * n + 6) (1027 * n + 1026) ≡ n
  pub octet_short : (n : ℕ) → rows_in_use (6 * n + 5) (1027 * n + 1027) ≡ n

-- ---- a memory in figures: its words, by network and for numbers 0 and 255; what the word of a last number and the
-- words of a delivery say
abbrev pub MemoryFigures : Type 0
MemoryFigures =
    (skew_row_octets ≡ 6) × (memory_words ≡ 1027) × (time_word ≡ 0) × (map number_word (A ∷ B ∷ []) ≡ 1 ∷ 2 ∷ [])
    × (map (awaiting_word A) (0 ∷ 1 ∷ 255 ∷ []) ≡ 3 ∷ 5 ∷ 513 ∷ [])
    × (map (delivered_word A) (0 ∷ 1 ∷ 255 ∷ []) ≡ 4 ∷ 6 ∷ 514 ∷ [])
    × (map (awaiting_word B) (0 ∷ 1 ∷ 255 ∷ []) ≡ 515 ∷ 517 ∷ 1025 ∷ [])
    × (map (delivered_word B) (0 ∷ 1 ∷ 255 ∷ []) ≡ 516 ∷ 518 ∷ 1026 ∷ [])
    × (map number_of (0 ∷ 1 ∷ 256 ∷ []) ≡ None ∷ Some 0 ∷ Some 255 ∷ [])
    × (delivery_of 0 9 ≡ None) × (delivery_of 1 9 ≡ Some 9)
