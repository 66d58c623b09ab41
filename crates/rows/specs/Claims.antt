-- Rows in figures (document 01, "Accounts and links" and "Codes, in order of checking"; document 02, Q-1). Proved in
-- proofs/Claims.antt.
use Rattle.std.specs.Prelude.{[], ◌∷◌, map, ◌≡◌, Some, None}
use Rattle.rows.specs.Rows.{table_of, in_use, found_in}

-- rows in use: two rows of 13 octets and the counts 0 to 3; a row that is lent in part is not in use
abbrev pub RowsInUse : Type 0
RowsInUse = (map (in_use 13 26) (0 ∷ 1 ∷ 2 ∷ 3 ∷ []) ≡ 0 ∷ 1 ∷ 2 ∷ 2 ∷ []) × (in_use 13 25 9 ≡ 1)

-- of two rows with one number the first counts: rows of 3 octets with the numbers 258, 1,029 and 258; 515 stands elsewhere
abbrev pub FirstRowCounts : Type 0
FirstRowCounts =
    map (found_in (table_of 3 (1 ∷ 2 ∷ 3 ∷ 4 ∷ 5 ∷ 6 ∷ 1 ∷ 2 ∷ 7 ∷ [])) 3) (258 ∷ 1029 ∷ 515 ∷ [])
    ≡ Some 0 ∷ Some 1 ∷ None ∷ []
