-- The table of a field's codes, from the definitions alone. Assumes nothing.
use Prim.Native.Nat.{ℕ, suc, ◌+◌}
use mathlib.Core.Bool.{Bool, true, false}
use mathlib.Core.List.{List}
use mathlib.Core.Path.{◌≡◌, refl, ap, ◌∙◌}
use native.Mathlib.Omega.{arith}
use lib.ListN.{length}
use lib.Dec.{leb, eqb}
use borrow.Author.Tests.{eqb-true, ne_eqb}
use Rattle.lists.specs.Lines.{first_fit}
use Rattle.lists.proofs.Tests.{split, not_above, above}
use Rattle.fields.specs.Fields.{length_at, field_at}
use Rattle.image_layout.specs.Layout.{field_offset}
use Rattle.image_field.specs.Checks.{field_code, head_good, head_code, in_order, data_octets, is_full, values_good, next_code}
use Rattle.image_field.specs.Claims.{field_lines, HeadCodesInOrder, NextCodesInOrder, TagsInOrder, FieldsByTag}

-- the code of a field is that of the first line that fits
lines : (s : List ℕ) (at : ℕ) (order : Bool) (size : ℕ) (full good : Bool)
    → field_code (field_at s at) order size full good ≡ first_fit (field_lines s at order size full good)
unfolding first_fit field_code
lines s at order size full good =
    split (leb (at + 3) (length s))
    (λ h. split order
    (λ o. split (eqb (length_at s at) size)
    (λ e.
    let q : length_at s at ≡ size = eqb-true _ _ e in
    split (leb (at + (3 + size)) (length s))
    (λ w. let v : leb (at + (3 + length_at s at)) (length s) ≡ true = ap (λ (k : ℕ). leb (at + (3 + k)) (length s)) q ∙ w in
    split full
    (λ f. simp (h, not_above (at + 3) (length s) h, o, e, v, not_above (at + (3 + size)) (length s) w, f))
    (λ f. split good
    (λ g. simp (h, not_above (at + 3) (length s) h, o, e, v, not_above (at + (3 + size)) (length s) w, f, g))
    (λ g. simp (h, not_above (at + 3) (length s) h, o, e, v, not_above (at + (3 + size)) (length s) w, f, g))))
    (λ w. let v : leb (at + (3 + length_at s at)) (length s) ≡ false = ap (λ (k : ℕ). leb (at + (3 + k)) (length s)) q ∙ w in
    simp (h, not_above (at + 3) (length s) h, o, e, v, above (at + (3 + size)) (length s) w)))
    (λ e. simp (h, not_above (at + 3) (length s) h, o, e)))
    (λ o. simp (h, not_above (at + 3) (length s) h, o)))
    (λ h. simp (h, above (at + 3) (length s) h))

pub head_codes_in_order : HeadCodesInOrder
unfolding head_good head_code
head_codes_in_order s = lines s 0 _ 5 false _

pub next_codes_in_order : NextCodesInOrder
unfolding field_offset next_code
next_codes_in_order s n m tag e = rw e (lines s _ _ _ _ _)

pub tags_in_order : TagsInOrder
unfolding in_order
tags_in_order tag n m = (refl, simp (ne_eqb (suc n) 0 (λ e. omega arith)), simp (ne_eqb (suc n) 0 (λ e. omega arith), ne_eqb (suc m) 0 (λ e. omega arith)))

pub fields_by_tag : FieldsByTag
unfolding data_octets is_full values_good
fields_by_tag s n m = record { lengths = refl; too_many = refl; values = refl }
