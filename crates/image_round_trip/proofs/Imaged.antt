-- The fields of an image, found again in the image's octets; and octets that are written out as fields, spelled as an
-- image. Assumes nothing.
use Prim.Native.Nat.{ℕ, ◌+◌, ◌*◌, ◌≤◌, ◌<◌}
use mathlib.Core.List.{List, [], ◌∷◌, ◌++◌}
use mathlib.Core.Path.{◌≡◌, sym, ap, ap₂, ◌∙◌}
use native.Mathlib.Nat.{add-zero, zero-add}
use native.Mathlib.Omega.{arith}
use lib.ListN.{length, get_or, length-append}
use Rattle.octets.specs.Numbers.{octets_of}
use Rattle.octets.specs.Runs.{octets_at, joined}
use Rattle.octets.proofs.Parts.{part_is, part_front, part_after, part_join, part_whole, part_joined, joined_at, joined_same}
use Rattle.tables.specs.Rows.{Config, account_octets, link_octets}
use Rattle.fields.specs.Fields.{field_of, tag_and_length}
use Rattle.image_layout.specs.Layout.{head_tag, account_tag, link_tag, end_tag, edition, image_of, head_size, account_size, link_size, field_offset, image_length}
use Rattle.fields.proofs.Fields.{length_field}
use Rattle.image_octets.proofs.Written.{length_fields, head_size_lem, row_field, length_row_field}

-- ---- where links stand
offset_link : (n j : ℕ) → field_offset n j ≡ field_offset n 0 + link_size * j
unfolding field_offset
offset_link n j = omega arith

-- ---- the fields of an image
module _ (g : Config) where
  abbrev head : List ℕ
  head = field_of head_tag (edition ∷ octets_of 4 g.constant)

  abbrev accounts : List ℕ
  accounts = joined (row_field account_tag account_octets g.accounts) g.count_of_accounts

  abbrev links : List ℕ
  links = joined (row_field link_tag link_octets g.links) g.count_of_links

  length_front : length (head ++ accounts) ≡ field_offset g.count_of_accounts 0
  unfolding field_offset
  length_front =
      let a = head_size_lem g.constant in
      let b = length_fields account_tag account_octets g.accounts g.count_of_accounts in
      length-append head accounts ∙ omega arith

  length_before_end : length (head ++ accounts ++ links) ≡ field_offset g.count_of_accounts g.count_of_links
  unfolding field_offset
  length_before_end =
      let a = head_size_lem g.constant in
      let b = length_fields account_tag account_octets g.accounts g.count_of_accounts in
      let c = length_fields link_tag link_octets g.links g.count_of_links in
      let d = length-append head accounts in
      length-append (head ++ accounts) links ∙ omega arith

  pub image_head : octets_at head_size (image_of g) 0 ≡ head
  unfolding image_of
  image_head =
      let a = head_size_lem g.constant in
      let b = length-append head accounts in
      let c = length-append (head ++ accounts) links in
      part_front head_size (head ++ accounts ++ links) (field_of end_tag []) 0 (omega arith)
      ∙ part_front head_size (head ++ accounts) links 0 (omega arith)
      ∙ part_front head_size head accounts 0 (omega arith)
      ∙ part_is head_size head 0 head a (λ k l. ap (λ (i : ℕ). get_or head i 0) (zero-add k))

  pub image_account : (i : ℕ) → i < g.count_of_accounts → octets_at account_size (image_of g) (field_offset i 0) ≡ row_field account_tag account_octets g.accounts i
  unfolding image_of field_offset
  image_account i h =
      let a = head_size_lem g.constant in
      let b = length-append head accounts in
      let c = length-append (head ++ accounts) links in
      let d = length_fields account_tag account_octets g.accounts g.count_of_accounts in
      let p : head_size + account_size * i + link_size * 0 ≡ head_size + account_size * i = omega arith in
      ap (octets_at account_size (head ++ accounts ++ links ++ field_of end_tag [])) p
      ∙ part_front account_size (head ++ accounts ++ links) (field_of end_tag []) (head_size + account_size * i) (omega arith)
      ∙ part_front account_size (head ++ accounts) links (head_size + account_size * i) (omega arith)
      ∙ part_after account_size head accounts head_size (account_size * i) a
      ∙ joined_at (row_field account_tag account_octets g.accounts) account_size (length_row_field account_tag account_octets g.accounts) g.count_of_accounts i h

  pub image_link_lem : (j : ℕ) → j < g.count_of_links → octets_at link_size (image_of g) (field_offset g.count_of_accounts j) ≡ row_field link_tag link_octets g.links j
  unfolding image_of
  image_link_lem j h =
      let p : field_offset g.count_of_accounts j ≡ field_offset g.count_of_accounts 0 + link_size * j = offset_link g.count_of_accounts j in
      let a = length_front in
      let c = length-append (head ++ accounts) links in
      let d = length_fields link_tag link_octets g.links g.count_of_links in
      let q : field_offset g.count_of_accounts 0 + link_size * j + link_size ≤ length (head ++ accounts ++ links) = omega arith in
      ap (octets_at link_size (head ++ accounts ++ links ++ field_of end_tag [])) p
      ∙ part_front link_size (head ++ accounts ++ links) (field_of end_tag []) (field_offset g.count_of_accounts 0 + link_size * j) q
      ∙ part_after link_size (head ++ accounts) links (field_offset g.count_of_accounts 0) (link_size * j) a
      ∙ joined_at (row_field link_tag link_octets g.links) link_size (length_row_field link_tag link_octets g.links) g.count_of_links j h

  pub image_end : octets_at (tag_and_length + 0) (image_of g) (field_offset g.count_of_accounts g.count_of_links) ≡ field_of end_tag []
  unfolding image_of
  image_end =
      ap (octets_at (tag_and_length + 0) (head ++ accounts ++ links ++ field_of end_tag [])) (sym (add-zero (field_offset g.count_of_accounts g.count_of_links)))
      ∙ part_after (tag_and_length + 0) (head ++ accounts ++ links) (field_of end_tag []) (field_offset g.count_of_accounts g.count_of_links) 0 length_before_end
      ∙ part_is (tag_and_length + 0) (field_of end_tag []) 0 (field_of end_tag []) (length_field end_tag []) (λ k l. ap (λ (i : ℕ). get_or (field_of end_tag []) i 0) (zero-add k))

-- ---- octets in which every field is spelled are the image
pub image_spelled : (g : Config) (s : List ℕ) → length s ≡ image_length g.count_of_accounts g.count_of_links
    → octets_at head_size s 0 ≡ field_of head_tag (edition ∷ octets_of 4 g.constant)
    → ((i : ℕ) → i < g.count_of_accounts → octets_at account_size s (field_offset i 0) ≡ row_field account_tag account_octets g.accounts i)
    → ((j : ℕ) → j < g.count_of_links → octets_at link_size s (field_offset g.count_of_accounts j) ≡ row_field link_tag link_octets g.links j)
    → octets_at tag_and_length s (field_offset g.count_of_accounts g.count_of_links) ≡ field_of end_tag []
    → image_of g ≡ s
unfolding image_of field_offset
image_spelled g s l h a k e =
    let n : ℕ = g.count_of_accounts in
    let m : ℕ = g.count_of_links in
    let a1 : octets_at (account_size * n) s (0 + head_size) ≡ joined (row_field account_tag account_octets g.accounts) n =
    part_joined account_size n s (0 + head_size)
    ∙ joined_same (λ i. octets_at account_size s (0 + head_size + account_size * i)) (row_field account_tag account_octets g.accounts) n
    (λ i b. let p : 0 + head_size + account_size * i ≡ head_size + account_size * i + link_size * 0 = omega arith in ap (octets_at account_size s) p ∙ a i b) in
    let k1 : octets_at (link_size * m) s (0 + (head_size + account_size * n)) ≡ joined (row_field link_tag link_octets g.links) m =
    part_joined link_size m s (0 + (head_size + account_size * n))
    ∙ joined_same (λ j. octets_at link_size s (0 + (head_size + account_size * n) + link_size * j)) (row_field link_tag link_octets g.links) m
    (λ j b. let p : 0 + (head_size + account_size * n) + link_size * j ≡ head_size + account_size * n + link_size * j = omega arith in ap (octets_at link_size s) p ∙ k j b) in
    let e1 : octets_at tag_and_length s (0 + (head_size + account_size * n + link_size * m)) ≡ field_of end_tag [] = ap (octets_at tag_and_length s) (zero-add _) ∙ e in
    sym (sym (part_whole s)
    ∙ ap (λ (w : ℕ). octets_at w s 0) l
    ∙ part_join (head_size + account_size * n + link_size * m) tag_and_length s 0
    ∙ ap₂ ◌++◌
    (part_join (head_size + account_size * n) (link_size * m) s 0 ∙ ap₂ ◌++◌ (part_join head_size (account_size * n) s 0 ∙ ap₂ ◌++◌ h a1) k1)
    e1)
