-- Tagged fields (document 01, "The configuration image" and "The replay program"): one octet tag, two octets length, then the
-- data.
use Rattle.std.specs.Prelude.{ℕ, ◌+◌, Bool, ◌&&◌, List, ◌∷◌, ◌++◌, length, get_or, leb, eqb}
use Rattle.octets.specs.Numbers.{number_at, octets_of}
use Rattle.fields.specs.declared.Field.{Field}

-- the octets of a field with a tag and data
unfoldable pub field_of : ℕ → List ℕ → List ℕ
field_of tag bytes = tag ∷ octets_of 2 (length bytes) ++ bytes

-- octets of a field's tag and length
abbrev pub tag_and_length : ℕ
tag_and_length = 3

-- the length that a field at an offset names
abbrev pub length_at : List ℕ → ℕ → ℕ
length_at s at = number_at 2 s (at + 1)

-- what stands at an offset: whether tag and length are there, the tag, the length, and whether all data are there
abbrev pub field_at : List ℕ → ℕ → Field
field_at s at =
    record {
      headed = leb (at + tag_and_length) (length s);
      tag = get_or s at 0;
      size = length_at s at;
      whole = leb (at + (tag_and_length + length_at s at)) (length s);
    }

-- whether a field of this tag and this length stands whole at an offset
unfoldable pub stands_at : List ℕ → ℕ → ℕ → ℕ → Bool
stands_at s at tag size = (field_at s at).whole && eqb (field_at s at).tag tag && eqb (field_at s at).size size
