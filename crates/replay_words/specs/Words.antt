-- The words of a text, as characters, and what appending them to a room leaves (document 01, "The replay program").
use Rattle.std.specs.Prelude.{ℕ, ◌+◌, List, [], ◌∷◌, ◌++◌, length, leb}
use Rattle.std.specs.Prelude.{if◌then◌else◌}
use Rattle.octets.specs.Runs.{put}
use Rattle.replay_words.specs.Digits.{decimal_of}

-- a number and the character after it
unfoldable pub word_of : ℕ → ℕ → List ℕ
word_of x mark = decimal_of x ++ (mark ∷ [])

-- ---- a run appended at an offset: the room and the next offset, both unchanged where it has no room
pub record Appended : Type 0 where
  pub room : List ℕ
  pub next : ℕ

abbrev pub appended_of : ℕ → List ℕ → Appended
appended_of p d = record { room = d; next = p }

unfoldable pub next_offset : List ℕ → ℕ → List ℕ → ℕ
next_offset d at xs = if leb (at + length xs) (length d) then at + length xs else at

abbrev pub appended : List ℕ → ℕ → List ℕ → Appended
appended d at xs = record { room = put d at xs; next = next_offset d at xs }
