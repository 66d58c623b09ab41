-- Laws of tagged fields. Assumes nothing.
use Prim.Native.Nat.{ℕ, suc, ◌+◌, ◌^◌, ◌≤◌, ◌<◌, min}
use mathlib.Core.Bool.{Bool, true, ◌&&◌}
use mathlib.Core.List.{List, [], ◌∷◌, ◌++◌}
use mathlib.Core.Path.{◌≡◌, refl, sym, ap, ap₂, ◌∙◌}
use native.Mathlib.Nat.{add-zero, zero-add, add_assoc}
use native.Mathlib.Omega.{arith}
use lib.Dec.{leb, eqb}
use lib.ListN.{length, get_or, length-append, get_or-append}
use lib.Seq.{get_or-append-add}
use borrow.Author.Tests.{le-leb, leb-false, leb-true, eq-eqb, eqb-true}
use Rattle.octets.specs.Numbers.{number_at, octets_of}
use Rattle.octets.specs.Runs.{octets_at}
use Rattle.octets.proofs.Numbers.{number_shift, number_octets_lem, number_past, length_octets}
use Rattle.octets.proofs.Parts.{length_part, get_d_part, part_is, part_join, octets_number}
use Rattle.lists.proofs.Tests.{split, both}
use Rattle.fields.specs.Fields.{field_of, tag_and_length, length_at, field_at, stands_at}

-- ---- a field as the code reads it, part by part; an offset above the largest, m, is cut to m
pub number_cut : (w : ℕ) (s : List ℕ) (at m p : ℕ) → p ≡ min at m → length s ≤ m → number_at w s p ≡ number_at w s at
number_cut w s at m p q l =
    split (leb at m)
    (λ e. let h = leb-true _ _ e in let r : p ≡ at = omega arith in ap (number_at w s) r)
    (λ e. let h = leb-false _ _ e in number_past w s p (omega arith) ∙ sym (number_past w s at (omega arith)))

module _ (s : List ℕ) (at : ℕ) where
  pub field_is : (h w : Bool) (t n : ℕ) → h ≡ leb (at + tag_and_length) (length s) → t ≡ get_or s at 0 → n ≡ length_at s at
      → w ≡ leb (at + (tag_and_length + n)) (length s) → record { headed = h; tag = t; size = n; whole = w } ≡ field_at s at
  field_is h w t n eh et en ew = rw (eh, et, ew, en)

  -- ---- whether a field stands whole
  module _ (tag size : ℕ) where
    pub stands_by : get_or s at 0 ≡ tag → length_at s at ≡ size → at + (tag_and_length + size) ≤ length s → stands_at s at tag size ≡ true
    unfolding stands_at
    stands_by t n h = simp (n, le-leb _ _ h, eq-eqb _ _ t, eq-eqb size size refl)

    -- what a field that stands whole is like
    module _ (e : stands_at s at tag size ≡ true) where
      parts : (((field_at s at).whole && eqb (get_or s at 0) tag) ≡ true) × (eqb (length_at s at) size ≡ true)
      unfolding stands_at
      parts = both ((field_at s at).whole && eqb (get_or s at 0) tag) (eqb (length_at s at) size) e

      pub stands_tag : get_or s at 0 ≡ tag
      stands_tag = eqb-true _ _ (both (field_at s at).whole (eqb (get_or s at 0) tag) parts.0).1

      pub stands_length : length_at s at ≡ size
      stands_length = eqb-true _ _ parts.1

      pub stands_whole : at + (tag_and_length + size) ≤ length s
      stands_whole =
          let l = stands_length in
          let w : at + (tag_and_length + length_at s at) ≤ length s = leb-true _ _ (both (field_at s at).whole (eqb (get_or s at 0) tag) parts.0).0 in
          omega arith

-- ---- the octets of one field
module _ (tag : ℕ) (bytes : List ℕ) where
  field_tag : get_or (field_of tag bytes) 0 0 ≡ tag
  unfolding field_of
  field_tag = refl

  field_length : (k : ℕ) → k < 2 → get_or (field_of tag bytes) (1 + k) 0 ≡ get_or (octets_of 2 (length bytes)) (0 + k) 0
  unfolding field_of
  field_length k l =
      let o = length_octets 2 (length bytes) in
      let a : 1 + k ≡ suc k = omega arith in
      rw (a, zero-add k) (get_or-append (octets_of 2 (length bytes)) bytes 0 k (omega arith))

  field_data : (k : ℕ) → get_or (field_of tag bytes) (tag_and_length + k) 0 ≡ get_or bytes k 0
  unfolding field_of
  field_data k =
      let o = length_octets 2 (length bytes) in
      let a : length (tag ∷ octets_of 2 (length bytes)) + k ≡ tag_and_length + k = omega arith in
      ap (λ (i : ℕ). get_or ((tag ∷ octets_of 2 (length bytes)) ++ bytes) i 0) (sym a) ∙ get_or-append-add (tag ∷ octets_of 2 (length bytes)) bytes k 0

-- a field spelled at an offset: the tag, the length and the data are read there
module _ (s : List ℕ) (at w tag : ℕ) (bytes : List ℕ) (l : length bytes ≡ w) (e : octets_at (tag_and_length + w) s at ≡ field_of tag bytes) where
  octet : (k : ℕ) → k < tag_and_length + w → get_or s (at + k) 0 ≡ get_or (field_of tag bytes) k 0
  octet k h = sym (get_d_part (tag_and_length + w) s at k h) ∙ ap (λ (xs : List ℕ). get_or xs k 0) e

  pub tag_read : get_or s at 0 ≡ tag
  tag_read = ap (λ (i : ℕ). get_or s i 0) (sym (add-zero at)) ∙ octet 0 (omega arith) ∙ field_tag tag bytes

  pub length_read : w < 2 ^ 16 → number_at 2 s (at + 1) ≡ w
  length_read h =
      number_shift 2 s (octets_of 2 (length bytes)) (at + 1) 0
      (λ k b. ap (λ (i : ℕ). get_or s i 0) (add_assoc at 1 k) ∙ octet (1 + k) (omega arith) ∙ field_length tag bytes k b)
      ∙ number_octets_lem 2 (length bytes) (omega arith)
      ∙ l

  pub data_read : octets_at w s (at + tag_and_length) ≡ bytes
  data_read =
      part_is w s (at + tag_and_length) bytes l
      (λ k b. ap (λ (i : ℕ). get_or s i 0) (add_assoc at tag_and_length k) ∙ octet (tag_and_length + k) (omega arith) ∙ field_data tag bytes k)

-- a tag and a length before w octets spell a field with these octets as data
pub field_spelled : (s : List ℕ) (at w tag : ℕ) → ((i : ℕ) → get_or s i 0 < 256) → get_or s at 0 ≡ tag → number_at 2 s (at + 1) ≡ w
    → octets_at (tag_and_length + w) s at ≡ field_of tag (octets_at w s (at + tag_and_length))
unfolding field_of
field_spelled s at w tag o t n =
    let two : octets_at 2 s (at + 1) ≡ octets_of 2 (length (octets_at w s (at + tag_and_length))) =
    sym (octets_number 2 s (at + 1) o) ∙ ap (octets_of 2) (n ∙ sym (length_part w s (at + tag_and_length))) in
    let one : octets_at 1 s at ≡ tag ∷ [] = part_is 1 s at (tag ∷ []) refl (λ k l. let z : k ≡ 0 = omega arith in rw (z, add-zero at) t) in
    part_join tag_and_length w s at
    ∙ ap (λ (xs : List ℕ). xs ++ octets_at w s (at + tag_and_length)) (part_join 1 2 s at ∙ ap₂ ◌++◌ one two)

-- the length of a spelled field
pub length_field : (tag : ℕ) (bytes : List ℕ) → length (field_of tag bytes) ≡ tag_and_length + length bytes
unfolding field_of
length_field tag bytes =
    let l = length_octets 2 (length bytes) in
    let a = length-append (octets_of 2 (length bytes)) bytes in
    omega arith
