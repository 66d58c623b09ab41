-- Octets that are written out as an image, with good values, read as accepted: the converse of Accepted. Assumes
-- nothing.
use Prim.Native.Nat.{ℕ, ◌+◌, ◌≤◌, ◌<◌}
use mathlib.Core.Bool.{Bool, true, false, ◌&&◌, false≢true}
use mathlib.Core.List.{List}
use mathlib.Core.Path.{◌≡◌, refl, sym, ap, ap₂, ◌∙◌}
use native.Mathlib.Omega.{arith}
use lib.Dec.{eqb}
use lib.ListN.{length, get_or}
use borrow.Author.Tests.{le-leb, lt-leb, eq-eqb, ne_eqb, eqb-true}
use Rattle.octets.specs.Numbers.{number_at}
use Rattle.lists.proofs.Tests.{split, both}
use Rattle.tables.specs.Rows.{account_octets, link_octets, settings_of}
use Rattle.tables_rules.specs.Rules.{account_good, link_good}
use Rattle.lists.proofs.Leading.{leading_zero, leading_stop, leading_is}
use Rattle.fields.specs.Fields.{stands_at}
use Rattle.fields.proofs.Fields.{stands_by, stands_tag, stands_length, stands_whole}
use Rattle.image_layout.specs.Layout.{head_tag, account_tag, link_tag, end_tag, edition, head_octets, head_size, field_offset, image_length, max_accounts, max_links, constant_good}
use Rattle.image_read.specs.Read.{good_field, good_accounts, good_links, read_image}
use Rattle.image_field.specs.Checks.{head_good, head_code, account_fields, link_fields, in_order, data_octets, is_full, values_good, code_by_tag, tag_at, next_code}
use Rattle.image_read.proofs.Accepted.{passes, good_by, good_tag, good_code, good_passes, link_first}
use Rattle.image_read.proofs.Reading.{end_accepted, head_passed}

-- ---- the head
pub head_good_by : (s : List ℕ) → get_or s 3 0 ≡ edition → constant_good (number_at 4 s 4) ≡ true → head_good s ≡ true
unfolding head_good
head_good_by s e c = ap₂ ◌&&◌ (eq-eqb _ _ e) c

pub head_good_constant : (s : List ℕ) → head_good s ≡ true → constant_good (number_at 4 s 4) ≡ true
unfolding head_good
head_good_constant s e = (both (eqb (get_or s 3 0) edition) (constant_good (number_at 4 s 4)) e).1

pub head_good_edition : (s : List ℕ) → head_good s ≡ true → get_or s 3 0 ≡ edition
unfolding head_good
head_good_edition s e = eqb-true _ _ (both (eqb (get_or s 3 0) edition) (constant_good (number_at 4 s 4)) e).0

pub head_code_by : (s : List ℕ) → head_size ≤ length s → get_or s 0 0 ≡ head_tag → number_at 2 s (0 + 1) ≡ head_octets → head_good s ≡ true → head_code s ≡ 0
unfolding head_code
head_code_by s l t n g =
    passes s 0 (eqb (get_or s 0 0) head_tag) head_octets false (head_good s)
    (record { headed = omega arith; ordered = eq-eqb _ _ t; sized = n; whole = omega arith; few = refl; sound = g })

-- ---- a later field, by its tag: a field that stands whole, in order and not one too many is good exactly where its
-- values are
module _ (s : List ℕ) (tag n m : ℕ) where
  field_passes : stands_at s (field_offset n m) tag (data_octets tag) ≡ true → in_order tag n m ≡ true → is_full tag n m ≡ false
      → values_good s tag n m ≡ true → good_field s tag n m ≡ true
  unfolding next_code
  field_passes w o f g =
      let t = stands_tag s (field_offset n m) tag (data_octets tag) w in
      let l = stands_length s (field_offset n m) tag (data_octets tag) w in
      let h = stands_whole s (field_offset n m) tag (data_octets tag) w in
      good_by s tag n m t
      (ap (code_by_tag s n m) t
      ∙ passes s (field_offset n m) (in_order tag n m) (data_octets tag) (is_full tag n m) (values_good s tag n m)
      (record { headed = omega arith; ordered = o; sized = l; whole = omega arith; few = f; sound = g }))

  good_stands : good_field s tag n m ≡ true → stands_at s (field_offset n m) tag (data_octets tag) ≡ true
  good_stands e =
      let p = good_passes s tag n m e in
      let w = p.whole in
      stands_by s (field_offset n m) tag (data_octets tag) (good_tag s tag n m e) p.sized (omega arith)

  module _ (at : ℕ) (p : at ≡ field_offset n m) (b : Bool) (e : b ≡ stands_at s at tag (data_octets tag)) where
    there : b ≡ stands_at s (field_offset n m) tag (data_octets tag)
    there = e ∙ ap (λ (x : ℕ). stands_at s x tag (data_octets tag)) p

    field_unlike : b ≡ false → false ≡ good_field s tag n m
    field_unlike h =
        split (good_field s tag n m) (λ g. absurd (false≢true (sym h ∙ there ∙ good_stands g))) (λ g. sym g)

    field_valued : b ≡ true → in_order tag n m ≡ true → is_full tag n m ≡ false → (v : Bool) → v ≡ values_good s tag n m → v ≡ good_field s tag n m
    field_valued h o f v q =
        split v
        (λ z. z ∙ sym (field_passes (sym there ∙ h) o f (sym q ∙ z)))
        (λ z. split (good_field s tag n m) (λ g. q ∙ (good_passes s tag n m g).sound ∙ sym g) (λ g. z ∙ sym g))

account_ordered : (i : ℕ) → in_order account_tag i 0 ≡ true
unfolding in_order
account_ordered i = split (eqb i 0) (λ q. simp q) (λ q. simp q)

link_ordered : (n j : ℕ) → 1 ≤ n → in_order link_tag n j ≡ true
unfolding in_order
link_ordered n j h =
    let d : (n ≡ 0 → ⊥) = λ e. omega arith in
    split (eqb j 0) (λ q. simp (ne_eqb _ _ d, q)) (λ q. simp (ne_eqb _ _ d, q))

end_ordered : (n m : ℕ) → 1 ≤ n → 1 ≤ m → in_order end_tag n m ≡ true
unfolding in_order
end_ordered n m h k =
    let d : (n ≡ 0 → ⊥) = λ e. omega arith in
    let f : (m ≡ 0 → ⊥) = λ e. omega arith in
    simp (ne_eqb _ _ d, ne_eqb _ _ f)

module _ (s : List ℕ) where
  pub account_passes : (i : ℕ) → stands_at s (field_offset i 0) account_tag account_octets ≡ true → i < max_accounts
      → account_good (account_fields s) i ≡ true → good_field s account_tag i 0 ≡ true
  unfolding data_octets is_full values_good
  account_passes i w h g = field_passes s account_tag i 0 w (account_ordered i) (lt-leb _ _ h) g

  pub link_passes : (n j : ℕ) → 1 ≤ n → stands_at s (field_offset n j) link_tag link_octets ≡ true → j < max_links
      → link_good (account_fields s) (link_fields s n) n j ≡ true → good_field s link_tag n j ≡ true
  unfolding data_octets is_full values_good
  link_passes n j p w h g = field_passes s link_tag n j w (link_ordered n j p) (lt-leb _ _ h) g

  pub end_passes : (n m : ℕ) → 1 ≤ n → 1 ≤ m → stands_at s (field_offset n m) end_tag 0 ≡ true → next_code s n m ≡ 0
  unfolding data_octets is_full values_good
  end_passes n m p q w =
      good_code s end_tag n m
      (field_passes s end_tag n m w (end_ordered n m p q) refl refl)

module _ (s : List ℕ) (i at : ℕ) (p : at ≡ field_offset i 0) (b : Bool) (e : b ≡ stands_at s at account_tag account_octets) where
  pub account_unlike : b ≡ false → false ≡ good_field s account_tag i 0
  unfolding data_octets
  account_unlike = field_unlike s account_tag i 0 at p b e

  pub account_valued : b ≡ true → i < max_accounts → (v : Bool) → v ≡ account_good (account_fields s) i → v ≡ good_field s account_tag i 0
  unfolding data_octets is_full values_good
  account_valued h l = field_valued s account_tag i 0 at p b e h (account_ordered i) (lt-leb _ _ l)

module _ (s : List ℕ) (n j at : ℕ) (p : at ≡ field_offset n j) (b : Bool) (e : b ≡ stands_at s at link_tag link_octets) where
  pub link_unlike : b ≡ false → false ≡ good_field s link_tag n j
  unfolding data_octets
  link_unlike = field_unlike s link_tag n j at p b e

  pub link_valued : b ≡ true → 1 ≤ n → j < max_links → (v : Bool) → v ≡ link_good (account_fields s) (link_fields s n) n j → v ≡ good_field s link_tag n j
  unfolding data_octets is_full values_good
  link_valued h o l = field_valued s link_tag n j at p b e h (link_ordered n j o) (lt-leb _ _ l)

-- an account or a link over the limit is not good
not_full : (s : List ℕ) (tag n m : ℕ) → is_full tag n m ≡ true → false ≡ good_field s tag n m
not_full s tag n m e =
    split (good_field s tag n m) (λ g. absurd (false≢true (sym (good_passes s tag n m g).few ∙ e))) (λ g. sym g)

pub account_over : (s : List ℕ) (i : ℕ) → max_accounts ≤ i → false ≡ good_field s account_tag i 0
unfolding is_full
account_over s i h = not_full s account_tag i 0 (le-leb max_accounts i h)

pub link_over : (s : List ℕ) (n j : ℕ) → max_links ≤ j → false ≡ good_field s link_tag n j
unfolding is_full
link_over s n j h = not_full s link_tag n j (le-leb max_links j h)

-- there is no link before the first account
pub links_none : (s : List ℕ) (n : ℕ) → n ≡ 0 → 0 ≡ good_links s n
unfolding good_links
links_none s n z =
    sym (leading_stop (λ j. good_field s link_tag n j) 0 max_links (leading_zero _)
    (split (good_field s link_tag n 0) (λ e. absurd (link_first s n 0 e z)) (λ e. e))
    (omega arith))

-- ---- a whole image
other_tag : (s : List ℕ) (tag n m : ℕ) → (tag_at s n m ≡ tag → ⊥) → good_field s tag n m ≡ false
unfolding good_field
other_tag s tag n m d = ap (λ (b : Bool). b && eqb (next_code s n m) 0) (ne_eqb _ _ d)

module _ (s : List ℕ) (n m : ℕ) (few : n ≤ max_accounts) (some : 1 ≤ m) (few-l : m ≤ max_links) (h : head_code s ≡ 0)
    (rows : (i : ℕ) → i < n → good_field s account_tag i 0 ≡ true) (ls : (j : ℕ) → j < m → good_field s link_tag n j ≡ true)
    (first : tag_at s n 0 ≡ link_tag) (last : tag_at s n m ≡ end_tag) (e : next_code s n m ≡ 0) (l : length s ≡ image_length n m) where
  counts_accounts : good_accounts s ≡ n
  unfolding good_accounts
  counts_accounts = leading_is (λ i. good_field s account_tag i 0) n max_accounts few rows (λ k. other_tag s account_tag n 0 (λ q. omega arith))

  counts_links : good_links s n ≡ m
  unfolding good_links
  counts_links = leading_is (λ j. good_field s link_tag n j) m max_links few-l ls (λ k. other_tag s link_tag n m (λ q. omega arith))

  pub reads_as : read_image s ≡ record { code = 0; offset = length s; settings = settings_of (number_at 4 s 4) n m }
  reads_as =
      sym (head_passed s _ refl h n m _ (sym counts_accounts) (sym counts_links) (end_accepted s n m _ refl e _ refl (omega arith) _ refl))
