-- Rows at equal distances in a run of octets: where a row stands, and the first row in use that has a number. The rows of
-- accounts and links (document 01, "The configuration image") and those of a receiving end (document 02, Q-1) are such rows.
use Rattle.std.specs.Prelude.{ℕ, ◌+◌, ◌*◌, ◌/◌, min, Bool, not, List, ltb, eqb, Option, Some, None}
use Rattle.std.specs.Prelude.{if◌then◌else◌}
use Rattle.lists.specs.Leading.{leading}
use Rattle.octets.specs.Numbers.{number_at}
use Rattle.octets.specs.Runs.{octets_at}

-- the octets that the rows stand in, the offset of the first row, and the distance from one row to the next: in a table
-- rows touch, in an image a field's tag and length stand between two rows
pub record Rows : Type 0 where
  pub octets : List ℕ
  pub first : ℕ
  pub step : ℕ

abbrev pub spaced : List ℕ → ℕ → ℕ → Rows
spaced s first step = record { octets = s; first = first; step = step }

-- rows of w octets that touch
abbrev pub table_of : ℕ → List ℕ → Rows
table_of w s = record { octets = s; first = 0; step = w }

-- the offset of row i, and its w octets
abbrev pub row_offset : Rows → ℕ → ℕ
row_offset r i = r.first + r.step * i

abbrev pub row_octets : ℕ → Rows → ℕ → List ℕ
row_octets w r i = octets_at w r.octets (row_offset r i)

-- octets of a row's number, and the number that row i begins with
abbrev pub number_octets : ℕ
number_octets = 2

abbrev pub row_number : Rows → ℕ → ℕ
row_number r i = number_at number_octets r.octets (row_offset r i)

-- rows of w octets in use in a run of so many octets: a count larger than the rows lent is read as their number; a row
-- that is lent in part is not in use
abbrev pub in_use : ℕ → ℕ → ℕ → ℕ
in_use w octets count = min count (octets / w)

-- whether row i has another number than x; the first of n rows that has number x, n where no row has it; and that row
-- as an answer
abbrev pub other_number : Rows → ℕ → ℕ → Bool
other_number r x i = not (eqb (row_number r i) x)

abbrev pub row_of : Rows → ℕ → ℕ → ℕ
row_of r n x = leading (other_number r x) n

abbrev pub Found : Type 0
Found = Option ℕ

unfoldable pub found_in : Rows → ℕ → ℕ → Found
found_in r n x = if ltb (row_of r n x) n then Some (row_of r n x) else None
