-- A field spelled and read, both ways (document 01, "The configuration image"); proved in proofs/Claims.antt.
use Rattle.std.specs.Prelude.{ℕ, ◌+◌, ◌^◌, ◌<◌, Bool, true, false, List, [], ◌∷◌, ◌++◌, map, ◌≡◌, length, get_or}
use Rattle.octets.specs.Runs.{octets_at}
use Rattle.fields.specs.declared.Field.{Field}
use Rattle.fields.specs.Fields.{field_of, tag_and_length, field_at, stands_at}

-- a field that is spelled reads back, whatever stands before and after it: tag, length and data
abbrev pub FieldReadsBack : Type 0
FieldReadsBack =
    (before after bytes : List ℕ) (tag : ℕ) → length bytes < 2 ^ 16
    → (field_at (before ++ field_of tag bytes ++ after) (length before)
    ≡ record { headed = true; tag = tag; size = length bytes; whole = true })
    × (octets_at (length bytes) (before ++ field_of tag bytes ++ after) (length before + tag_and_length) ≡ bytes)

-- the octets of a field that stands whole are its tag, its length and its data spelled
abbrev pub FieldSpelled : Type 0
FieldSpelled =
    (s : List ℕ) (at tag size : ℕ) → ((i : ℕ) → get_or s i 0 < 256) → stands_at s at tag size ≡ true
    → octets_at (tag_and_length + size) s at ≡ field_of tag (octets_at size s (at + tag_and_length))

-- what is read of a field, by its four parts
abbrev pub field : Bool → ℕ → ℕ → Bool → Field
field headed tag size whole = record { headed = headed; tag = tag; size = size; whole = whole }

-- a field of tag 7 cut after two octets, after its length, after one octet of data; a whole field; no octets at all. A
-- field stands only with its own tag, its own length and all its data
abbrev pub FieldFigures : Type 0
FieldFigures =
    (map (λ s. field_at s 0) ((7 ∷ 1 ∷ []) ∷ (7 ∷ 1 ∷ 2 ∷ []) ∷ (7 ∷ 0 ∷ 2 ∷ 8 ∷ []) ∷ (7 ∷ 0 ∷ 2 ∷ 8 ∷ 9 ∷ []) ∷ [] ∷ [])
    ≡ field false 7 256 false ∷ field true 7 258 false ∷ field true 7 2 false ∷ field true 7 2 true ∷ field false 0 0 false ∷ [])
    × (map (λ n. stands_at (7 ∷ 0 ∷ 2 ∷ 8 ∷ 9 ∷ []) 0 7 n) (1 ∷ 2 ∷ 3 ∷ []) ≡ false ∷ true ∷ false ∷ [])
    × (stands_at (7 ∷ 0 ∷ 2 ∷ 8 ∷ 9 ∷ []) 0 8 2 ≡ false)
    × (stands_at (7 ∷ 0 ∷ 2 ∷ 8 ∷ []) 0 7 2 ≡ false)
