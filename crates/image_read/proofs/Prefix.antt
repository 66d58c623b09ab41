-- An image of any length is answered by its first octets: nothing past image_prefix is read, and no length past
-- image_prefix is compared. Assumes nothing.
use Prim.Native.Nat.{ℕ, suc, ◌+◌, ◌-◌, ◌*◌, ◌≤◌, ◌<◌}
use mathlib.Core.Bool.{Bool, false}
use mathlib.Core.List.{List}
use mathlib.Core.Path.{◌≡◌, refl, sym, ap, ◌∙◌}
use native.Mathlib.Omega.{arith}
use lib.Dec.{ltb, leb, eqb}
use lib.ListN.{length, get_or, take}
use lib.Seq.{length-take-le, take_all, get_or-take}
use borrow.Author.Tests.{le-ltb, ltb-false, leb-true, leb-false, le-leb, eqb-true}
use Rattle.octets.specs.Numbers.{number_at}
use Rattle.lists.proofs.Tests.{split}
use Rattle.octets.proofs.Numbers.{number_shift}
use Rattle.tables.specs.Rows.{link_octets, account_in, link_in}
use Rattle.lists.proofs.Leading.{leading_same}
use Rattle.tables.specs.Laws.{terms_same, link_same}
use Rattle.tables_rules.proofs.Rules.{account_good_same, link_good_same}
use Rattle.fields.specs.Fields.{tag_and_length, field_at}
use Rattle.image_layout.specs.Layout.{head_tag, account_tag, link_tag, head_octets, head_size, account_size, link_size, field_offset, image_length, max_accounts, max_links, image_prefix}
use Rattle.image_read.specs.Read.{good_field, good_accounts, good_links, read_end, read_image}
use Rattle.image_field.specs.Checks.{field_code, head_good, head_code, account_fields, link_fields, in_order, data_octets, is_full, values_good, tag_at, next_code}
use Rattle.image_read.specs.Claims.{PrefixRead}
use Rattle.image_read.proofs.Reading.{few_accounts, few_links, head_refused, head_passed, by_reading}

-- no field's data are longer than a link's
small_data : (tag : ℕ) → data_octets tag ≤ link_octets
unfolding data_octets
small_data tag =
    split (eqb tag account_tag)
    (λ e. simp e (omega arith))
    (λ e. split (eqb tag link_tag) (λ f. simp (e, f) (omega arith)) (λ f. simp (e, f) (omega arith)))

-- the prefix, as a sum of sizes
abbrev prefix : ℕ
prefix = head_size + account_size * max_accounts + link_size * max_links + link_size

-- ---- two runs with the same first octets, and with lengths that are alike up to the prefix
module _ (s t : List ℕ) (same : (i : ℕ) → i < prefix → get_or s i 0 ≡ get_or t i 0) (long : (x : ℕ) → x ≤ prefix → leb x (length s) ≡ leb x (length t)) where
  number_same : (w at : ℕ) → at + w ≤ prefix → number_at w s at ≡ number_at w t at
  number_same w at h = number_shift w s t at at (λ k l. same (at + k) (omega arith))

  -- a field that ends before the prefix does has the same code
  code_same : (at : ℕ) (order : Bool) (size : ℕ) (full a b : Bool) → at + tag_and_length + size ≤ prefix → a ≡ b
      → field_code (field_at s at) order size full a ≡ field_code (field_at t at) order size full b
  unfolding field_code
  code_same at order size full a b h g =
      split (eqb (number_at 2 t (at + 1)) size)
      (λ e.
      let l : number_at 2 t (at + 1) ≡ size = eqb-true _ _ e in
      rw (long (at + tag_and_length) (omega arith), number_same 2 (at + 1) (omega arith), l, long (at + (tag_and_length + size)) (omega arith), g))
      (λ e. rw (long (at + tag_and_length) (omega arith), number_same 2 (at + 1) (omega arith), g) (simp e))

  head_good_same : head_good s ≡ head_good t
  unfolding head_good
  head_good_same = rw (same 3 (omega arith), number_same 4 4 (omega arith))

  head_same : head_code s ≡ head_code t
  unfolding head_code
  head_same =
      code_same 0 (eqb (get_or s 0 0) head_tag) head_octets false (head_good s) (head_good t) (omega arith) head_good_same
      ∙ ap (λ (x : ℕ). field_code (field_at t 0) (eqb x head_tag) head_octets false (head_good t)) (same 0 (omega arith))

  -- rows of accounts and links, up to one row too many
  account_same : (i : ℕ) → i ≤ max_accounts → account_in (account_fields s) i ≡ account_in (account_fields t) i
  unfolding field_offset
  account_same i h = terms_same s t _ _ (λ k l. same _ (omega arith))

  module _ (n : ℕ) (few : n ≤ max_accounts) where
    link_read_same : (j : ℕ) → j ≤ max_links → link_in (link_fields s n) j ≡ link_in (link_fields t n) j
    unfolding field_offset
    link_read_same j h = link_same s t _ _ (λ k l. same _ (omega arith))

    module _ (m : ℕ) (few-m : m ≤ max_links) where
      -- the field after n accounts and m links, and the counts of good fields
      offset_low : field_offset n m + link_size ≤ prefix
      unfolding field_offset
      offset_low = omega arith

      tag_same : tag_at s n m ≡ tag_at t n m
      tag_same = let p = offset_low in same (field_offset n m) (omega arith)

      values_same : (tag : ℕ) → values_good s tag n m ≡ values_good t tag n m
      unfolding values_good
      values_same tag =
          rw (
            account_good_same (account_fields s) (account_fields t) n n (account_same n few),
            link_good_same (account_fields s) (account_fields t) (link_fields s n) (link_fields t n) n m
                (λ i l. account_same i (omega arith)) (link_read_same m few-m) (link_read_same (m - 1) (omega arith)),
          )

      next_same : next_code s n m ≡ next_code t n m
      unfolding next_code
      next_same =
          let p = offset_low in
          let d = small_data (tag_at s n m) in
          code_same (field_offset n m) (in_order (tag_at s n m) n m) (data_octets (tag_at s n m)) (is_full (tag_at s n m) n m) _ _
          (omega arith) (values_same (tag_at s n m))
          ∙ ap (λ (x : ℕ). field_code (field_at t (field_offset n m)) (in_order x n m) (data_octets x) (is_full x n m) (values_good t x n m)) tag_same

      field_same : (tag : ℕ) → good_field s tag n m ≡ good_field t tag n m
      unfolding good_field
      field_same tag = rw (tag_same, next_same)

    links_same : good_links s n ≡ good_links t n
    unfolding good_links
    links_same = leading_same (λ j. good_field s link_tag n j) (λ j. good_field t link_tag n j) max_links (λ j l. field_same j (omega arith) link_tag)

  accounts_same : good_accounts s ≡ good_accounts t
  unfolding good_accounts
  accounts_same =
      leading_same (λ i. good_field s account_tag i 0) (λ i. good_field t account_tag i 0) max_accounts
      (λ i l. field_same i (omega arith) 0 (omega arith) account_tag)

  -- a run shorter than the prefix is as long as the other run
  lengths_same : length s < prefix → length s ≡ length t
  lengths_same h =
      let a : length s ≤ length t = leb-true _ _ (sym (long (length s) (omega arith)) ∙ le-leb (length s) (length s) (omega arith)) in
      let b : length t ≤ length s = ltb-false _ _ (sym (long (suc (length s)) (omega arith)) ∙ le-ltb (length s) (length s) (omega arith)) in
      omega arith

  end_same : (n m : ℕ) → n ≤ max_accounts → m ≤ max_links → read_end s n m ≡ read_end t n m
  unfolding read_end
  end_same n m a b =
      let p = offset_low n a m b in
      let e : ltb (image_length n m) (length s) ≡ ltb (image_length n m) (length t) = long (suc (image_length n m)) (omega arith) in
      split (ltb (image_length n m) (length s))
      (λ l. simp (next_same n a m b, l, sym e ∙ l))
      (λ l.
      let h : length s ≤ image_length n m = ltb-false _ _ l in
      simp (next_same n a m b, lengths_same (omega arith), number_same 4 4 (omega arith)))

  -- both runs read the same
  pub read_same : read_image s ≡ read_image t
  read_same =
      by_reading s (λ q. q ≡ read_image t)
      (λ d. head_refused t (head_code s) head_same d _ refl)
      (λ z.
      head_passed t (head_code s) head_same z (good_accounts s) (good_links s (good_accounts s)) _
      accounts_same (links_same (good_accounts s) (few_accounts s))
      (end_same (good_accounts s) (good_links s (good_accounts s)) (few_accounts s) (few_links s (good_accounts s))))

-- ---- the prefix of a run
prefix_is : image_prefix ≡ prefix
unfolding field_offset
prefix_is = refl

prefix_long : (s : List ℕ) (x : ℕ) → x ≤ prefix → leb x (length (take prefix s)) ≡ leb x (length s)
prefix_long s x h =
    split (leb prefix (length s))
    (λ e.
    let k : prefix ≤ length s = leb-true _ _ e in
    let l : length (take prefix s) ≡ prefix = length-take-le prefix s k in
    le-leb x (length (take prefix s)) (omega arith) ∙ sym (le-leb x (length s) (omega arith)))
    (λ e.
    let k : length s < prefix = leb-false _ _ e in
    ap (λ (u : List ℕ). leb x (length u)) (take_all prefix s (omega arith)))

pub prefix_read : PrefixRead
prefix_read s =
    ap (λ (p : ℕ). read_image (take p s)) prefix_is
    ∙ read_same (take prefix s) s (λ i l. get_or-take prefix s i 0 l) (prefix_long s)
