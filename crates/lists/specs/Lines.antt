-- A table of codes read line by line, as document 01 has its tables ("Codes, in order of checking"; "The configuration image").
use Rattle.std.specs.Prelude.{ℕ, Bool, List, [], ◌∷◌}
use Rattle.std.specs.Prelude.{if◌then◌else◌}

-- a line of a table: its code, and whether the line fits
pub record Line : Type 0 where
  pub code : ℕ
  pub fits : Bool

abbrev pub line : ℕ → Bool → Line
line c b = record { code = c; fits = b }

-- the code of the first line that fits, 0 where no line fits
unfoldable pub first_fit : List Line → ℕ
first_fit [] = 0
first_fit (l ∷ ls) = if l.fits then l.code else first_fit ls
