-- What an accepted image is like, field by field, and that a refusal answers counts of 0. Assumes nothing.
use Prim.Native.Nat.{ℕ, ◌+◌, ◌≤◌, ◌<◌}
use mathlib.Core.Bool.{Bool, true, false, ◌&&◌, false≢true}
use mathlib.Core.List.{List}
use mathlib.Core.Path.{◌≡◌, refl, sym, ap, ap₂, ◌∙◌}
use native.Mathlib.Omega.{arith}
use lib.Dec.{leb, eqb}
use lib.ListN.{length, get_or}
use borrow.Author.Tests.{leb-true, leb-false, le-leb, eq-eqb, ne_eqb, eqb-true, eqb-false}
use Rattle.octets.specs.Numbers.{number_at}
use Rattle.lists.proofs.Tests.{split, both}
use Rattle.tables_rules.specs.Rules.{account_good, link_good}
use Rattle.lists.proofs.Leading.{leading_before, leading_fails}
use Rattle.fields.specs.Fields.{tag_and_length, field_at}
use Rattle.fields.specs.declared.Field.{Field}
use Rattle.image_layout.specs.Layout.{head_tag, account_tag, link_tag, end_tag, head_octets, field_offset, image_length, max_accounts, max_links}
use Rattle.image_read.specs.declared.ImageAnswer.{ImageAnswer}
use Rattle.image_read.specs.Read.{good_field, good_accounts, good_links, read_image}
use Rattle.image_field.specs.Checks.{field_code, head_good, head_code, account_fields, link_fields, in_order, data_octets, is_full, values_good, tag_at, next_code}
use Rattle.image_read.proofs.Reading.{by_end, by_reading}

-- ---- a field that passes every check
pub record Passed (s : List ℕ) (at : ℕ) (order : Bool) (size : ℕ) (full good : Bool) : Type 0 where
  pub headed : at + tag_and_length ≤ length s
  pub ordered : order ≡ true
  pub sized : number_at 2 s (at + 1) ≡ size
  pub whole : at + tag_and_length + size ≤ length s
  pub few : full ≡ false
  pub sound : good ≡ true

module _ (s : List ℕ) (at : ℕ) (order : Bool) (size : ℕ) (full good : Bool) (z : field_code (field_at s at) order size full good ≡ 0) where
  abbrev f : Field
  f = field_at s at

  is_headed : f.headed ≡ true
  unfolding field_code
  is_headed = split f.headed (λ e. e) (λ e. let h = simp e at z in absurd (omega arith))

  passed_ordered : order ≡ true
  unfolding field_code
  passed_ordered = split order (λ e. e) (λ e. let h = simp (is_headed, e) at z in absurd (omega arith))

  passed_sized : number_at 2 s (at + 1) ≡ size
  unfolding field_code
  passed_sized =
      split (eqb (number_at 2 s (at + 1)) size)
      (λ e. eqb-true _ _ e)
      (λ e. let h = simp (is_headed, passed_ordered, e) at z in absurd (omega arith))

  is_whole : f.whole ≡ true
  unfolding field_code
  is_whole =
      split f.whole (λ e. e)
      (λ e. let h = simp (is_headed, passed_ordered, eq-eqb _ _ passed_sized, e) at z in absurd (omega arith))

  passed_few : full ≡ false
  unfolding field_code
  passed_few =
      split full
      (λ e. let h = simp (is_headed, passed_ordered, eq-eqb _ _ passed_sized, is_whole, e) at z in absurd (omega arith))
      (λ e. e)

  passed_sound : good ≡ true
  unfolding field_code
  passed_sound =
      split good (λ e. e)
      (λ e. let h = simp (is_headed, passed_ordered, eq-eqb _ _ passed_sized, is_whole, passed_few, e) at z in absurd (omega arith))

  passed_headed : at + tag_and_length ≤ length s
  passed_headed = leb-true _ _ is_headed

  passed_whole : at + tag_and_length + size ≤ length s
  passed_whole =
      let w : at + (tag_and_length + number_at 2 s (at + 1)) ≤ length s = leb-true _ _ is_whole in
      let n = passed_sized in omega arith

  pub passed : Passed s at order size full good
  passed =
      record {
        headed = passed_headed;
        ordered = passed_ordered;
        sized = passed_sized;
        whole = passed_whole;
        few = passed_few;
        sound = passed_sound;
      }

-- a field with all these properties passes every check
pub passes : (s : List ℕ) (at : ℕ) (order : Bool) (size : ℕ) (full good : Bool) → Passed s at order size full good
    → field_code (field_at s at) order size full good ≡ 0
unfolding field_code
passes s at order size full good p =
    let w = p.whole in
    let n = p.sized in
    simp (
      le-leb (at + tag_and_length) (length s) p.headed,
      p.ordered,
      eq-eqb _ _ n,
      le-leb (at + (tag_and_length + number_at 2 s (at + 1))) (length s) (omega arith),
      p.few,
      p.sound,
    )

-- the checks that the head passes, and a later field
pub head_passes : (s : List ℕ) → head_code s ≡ 0 → Passed s 0 (eqb (get_or s 0 0) head_tag) head_octets false (head_good s)
unfolding head_code
head_passes s z = passed s 0 (eqb (get_or s 0 0) head_tag) head_octets false (head_good s) z

abbrev pub Next : List ℕ → ℕ → ℕ → Type 0
Next s n m = Passed s (field_offset n m) (in_order (tag_at s n m) n m) (data_octets (tag_at s n m)) (is_full (tag_at s n m) n m) (values_good s (tag_at s n m) n m)

pub next_passes : (s : List ℕ) (n m : ℕ) → next_code s n m ≡ 0 → Next s n m
unfolding next_code
next_passes s n m z =
    passed s (field_offset n m) (in_order (tag_at s n m) n m) (data_octets (tag_at s n m)) (is_full (tag_at s n m) n m) (values_good s (tag_at s n m) n m) z

-- ---- a field that has the tag and is good
module _ (s : List ℕ) (tag n m : ℕ) (e : good_field s tag n m ≡ true) where
  pub good_tag : tag_at s n m ≡ tag
  unfolding good_field
  good_tag = eqb-true _ _ (both (eqb (tag_at s n m) tag) (eqb (next_code s n m) 0) e).0

  pub good_code : next_code s n m ≡ 0
  unfolding good_field
  good_code = eqb-true _ _ (both (eqb (tag_at s n m) tag) (eqb (next_code s n m) 0) e).1

  pub good_passes : Passed s (field_offset n m) (in_order tag n m) (data_octets tag) (is_full tag n m) (values_good s tag n m)
  good_passes = rw good_tag at (next_passes s n m good_code)

pub good_by : (s : List ℕ) (tag n m : ℕ) → tag_at s n m ≡ tag → next_code s n m ≡ 0 → good_field s tag n m ≡ true
unfolding good_field
good_by s tag n m t z = ap₂ ◌&&◌ (eq-eqb _ _ t) (eq-eqb _ _ z)

pub good_account : (s : List ℕ) (i : ℕ) → good_field s account_tag i 0 ≡ true → account_good (account_fields s) i ≡ true
unfolding values_good
good_account s i e = (good_passes s account_tag i 0 e).sound

module _ (s : List ℕ) (n j : ℕ) (e : good_field s link_tag n j ≡ true) where
  pub good_link : link_good (account_fields s) (link_fields s n) n j ≡ true
  unfolding values_good
  good_link = (good_passes s link_tag n j e).sound

  -- there is no link before the first account
  pub link_first : n ≡ 0 → ⊥
  unfolding in_order
  link_first z = false≢true (rw z at (good_passes s link_tag n j e).ordered)

-- ---- the accounts and links that were counted
pub counted_account : (s : List ℕ) (i : ℕ) → i < good_accounts s → good_field s account_tag i 0 ≡ true
unfolding good_accounts
counted_account s i l = leading_before (λ k. good_field s account_tag k 0) max_accounts i l

pub counted_link : (s : List ℕ) (n j : ℕ) → j < good_links s n → good_field s link_tag n j ≡ true
unfolding good_links
counted_link s n j l = leading_before (λ k. good_field s link_tag n k) max_links j l

-- ---- an accepted image
pub record Accepted (s : List ℕ) (q : ImageAnswer) : Type 0 where
  pub head_code_lem : head_code s ≡ 0
  pub end_code : next_code s q.settings.accounts q.settings.links ≡ 0
  pub accounts_are : q.settings.accounts ≡ good_accounts s
  pub links_are : q.settings.links ≡ good_links s q.settings.accounts
  pub offset_is : q.offset ≡ length s
  pub length_is : length s ≡ image_length q.settings.accounts q.settings.links
  pub constant_is : q.settings.constant ≡ number_at 4 s 4

pub accepted : (s : List ℕ) → (read_image s).code ≡ 0 → Accepted s (read_image s)
accepted s =
    by_reading s (λ q. q.code ≡ 0 → Accepted s q)
    (λ d z. absurd (d z))
    (λ h. by_end s (λ q. q.code ≡ 0 → Accepted s q) (good_accounts s) (good_links s (good_accounts s))
    (λ d z. absurd (d z))
    (λ e l at h z. absurd (omega arith))
    (λ e l z. record {
      head_code_lem = h;
      end_code = e;
      accounts_are = refl;
      links_are = refl;
      offset_is = refl;
      length_is = let p = (next_passes s (good_accounts s) (good_links s (good_accounts s)) e).headed in omega arith;
      constant_is = refl;
    }))

-- a refusal answers zeros
abbrev pub Zeros : ImageAnswer → Type 0
Zeros q = (q.settings.constant ≡ 0) × (q.settings.accounts ≡ 0) × (q.settings.links ≡ 0)

pub refused_zeros : (s : List ℕ) → ((read_image s).code ≡ 0 → ⊥) → Zeros (read_image s)
refused_zeros s =
    by_reading s (λ q. (q.code ≡ 0 → ⊥) → Zeros q)
    (λ d f. (refl, refl, refl))
    (λ h. by_end s (λ q. (q.code ≡ 0 → ⊥) → Zeros q) (good_accounts s) (good_links s (good_accounts s))
    (λ d f. (refl, refl, refl))
    (λ e l at h f. (refl, refl, refl))
    (λ e l f. absurd (f refl)))

-- ---- the field that ends the reading of an accepted image is the end field
ltb_of : {a b : ℕ} → leb a b ≡ false → b < a
ltb_of {a} {b} e = leb-false a b e

module _ (tag n m : ℕ) (o : in_order tag n m ≡ true) where
  none_first : n ≡ 0 → tag ≡ account_tag
  unfolding in_order
  none_first z = eqb-true _ _ (rw (eq-eqb _ _ z) at o)

  both_later : (n ≡ 0 → ⊥) → (m ≡ 0 → ⊥) → (tag ≡ link_tag → ⊥) → tag ≡ end_tag
  unfolding in_order
  both_later d f g = eqb-true _ _ (rw (ne_eqb _ _ d, ne_eqb _ _ f, ne_eqb _ _ g) at o)

  links_wait : (n ≡ 0 → ⊥) → m ≡ 0 → (tag ≡ link_tag → ⊥) → tag ≡ account_tag
  unfolding in_order
  links_wait d z g =
      split (eqb tag account_tag)
      (λ e. eqb-true _ _ e)
      (λ e. absurd (false≢true (rw (ne_eqb _ _ d, eq-eqb _ _ z, e, ne_eqb _ _ g) at o)))

module _ (s : List ℕ) (n m : ℕ) (an : n ≡ good_accounts s) (am : m ≡ good_links s n) (z : next_code s n m ≡ 0) where
  p : Next s n m
  p = next_passes s n m z

  not_link : tag_at s n m ≡ link_tag → ⊥
  unfolding good_links is_full
  not_link t =
      let k : m < max_links = ltb_of (sym (ap (λ (x : ℕ). is_full x n m) t) ∙ p.few) in
      false≢true (sym (leading_fails (λ j. good_field s link_tag n j) max_links (rw am at k)) ∙ rw am at (good_by s link_tag n m t z))

  no_links : n ≡ 0 → m ≡ 0
  no_links e =
      split (eqb m 0)
      (λ q. eqb-true _ _ q)
      (λ q.
      let d : (m ≡ 0 → ⊥) = eqb-false m 0 q in
      absurd (link_first s n 0 (counted_link s n 0 (omega arith)) e))

  not_account : m ≡ 0 → tag_at s n m ≡ account_tag → ⊥
  unfolding good_accounts is_full
  not_account e t =
      let k : n < max_accounts = ltb_of (sym (ap (λ (x : ℕ). is_full x n m) t) ∙ p.few) in
      let g : good_field s account_tag n 0 ≡ true = rw e at (good_by s account_tag n m t z) in
      false≢true (sym (leading_fails (λ i. good_field s account_tag i 0) max_accounts (rw an at k)) ∙ rw an at g)

  pub some_accounts : 1 ≤ n
  some_accounts =
      split (eqb n 0)
      (λ q. let e = eqb-true _ _ q in absurd (not_account (no_links e) (none_first (tag_at s n m) n m p.ordered e)))
      (λ q. let d : (n ≡ 0 → ⊥) = eqb-false n 0 q in omega arith)

  pub some_links : 1 ≤ m
  some_links =
      split (eqb m 0)
      (λ q.
      let e = eqb-true _ _ q in
      let h = some_accounts in
      absurd (not_account e (links_wait (tag_at s n m) n m p.ordered (λ x. omega arith) e not_link)))
      (λ q. let d : (m ≡ 0 → ⊥) = eqb-false m 0 q in omega arith)

  pub end_tag_lem : tag_at s n m ≡ end_tag
  end_tag_lem =
      let h = some_accounts in
      let k = some_links in
      both_later (tag_at s n m) n m p.ordered (λ x. omega arith) (λ x. omega arith) not_link
