-- The table of a field's codes, line by line (document 01, "The configuration image": "For each field, in this order"); proved in
-- proofs/Claims.antt.
use Rattle.std.specs.Prelude.{ℕ, suc, ◌+◌, ◌*◌, Bool, true, false, not, ◌&&◌, ◌||◌, List, [], ◌∷◌, map, ◌≡◌, length, get_or, leb, ltb, eqb}
use Rattle.lists.specs.Lines.{Line, line, first_fit}
use Rattle.octets.specs.Numbers.{number_at}
use Rattle.tables_rules.specs.Rules.{account_good, link_good}
use Rattle.image_layout.specs.Layout.{constant_good}
use Rattle.image_field.specs.Checks.{head_code, account_fields, link_fields, in_order, data_octets, is_full, values_good, next_code}

-- the lines of a field at an offset, whose data are to have a given length: 20 fewer than 3 octets left; 21 a tag
-- unknown or out of order; 22 a wrong length; 20 data cut; 24 one field too many; 23 a bad value
abbrev pub field_lines : List ℕ → ℕ → Bool → ℕ → Bool → Bool → List Line
field_lines s at order size full good =
    line 20 (ltb (length s) (at + 3))
    ∷ line 21 (not order)
    ∷ line 22 (not (eqb (number_at 2 s (at + 1)) size))
    ∷ line 20 (ltb (length s) (at + (3 + size)))
    ∷ line 24 full
    ∷ line 23 (not good)
    ∷ []

-- the head: tag 1, 5 octets, edition 1 and a good constant field; one head only, so never one too many
abbrev pub HeadCodesInOrder : Type 0
HeadCodesInOrder =
    (s : List ℕ)
    → head_code s ≡ first_fit (field_lines s 0 (eqb (get_or s 0 0) 1) 5 false (eqb (get_or s 3 0) 1 && constant_good (number_at 4 s 4)))

-- the field after n accounts and m links, which stands at 8 + 9 n + 16 m
abbrev pub next_at : ℕ → ℕ → ℕ
next_at n m = 8 + 9 * n + 16 * m

abbrev pub NextCodesInOrder : Type 0
NextCodesInOrder =
    (s : List ℕ) (n m tag : ℕ) → tag ≡ get_or s (next_at n m) 0
    → next_code s n m
    ≡ first_fit (field_lines s (next_at n m) (in_order tag n m) (data_octets tag) (is_full tag n m) (values_good s tag n m))

-- which tags may stand after n accounts and m links: first an account; then an account or a link; after a link a link or the end
abbrev pub TagsInOrder : Type 0
TagsInOrder =
    (tag n m : ℕ)
    → (in_order tag 0 m ≡ eqb tag 2)
    × (in_order tag (suc n) 0 ≡ (eqb tag 2 || eqb tag 3))
    × (in_order tag (suc n) (suc m) ≡ (eqb tag 3 || eqb tag 9))

-- what the field of each tag is: an account of 6 octets, at most 64 accounts; a link of 13 octets, at most 256 links;
-- the end of none; and whose values are judged
pub record ByTag (s : List ℕ) (n m : ℕ) : Type 0 where
  pub lengths : map data_octets (2 ∷ 3 ∷ 9 ∷ []) ≡ 6 ∷ 13 ∷ 0 ∷ []
  pub too_many : map (λ tag. is_full tag n m) (2 ∷ 3 ∷ 9 ∷ []) ≡ leb 64 n ∷ leb 256 m ∷ false ∷ []
  pub values : map (λ tag. values_good s tag n m) (2 ∷ 3 ∷ 9 ∷ [])
      ≡ account_good (account_fields s) n ∷ link_good (account_fields s) (link_fields s n) n m ∷ true ∷ []

abbrev pub FieldsByTag : Type 0
FieldsByTag = (s : List ℕ) (n m : ℕ) → ByTag s n m
