-- What holds of reading for any octets. Assumes nothing.
use Prim.Native.Nat.{ℕ, zero, suc, ◌+◌, ◌-◌, ◌*◌, ◌≤◌, ◌<◌}
use mathlib.Core.Bool.{Bool, true, false, not, ◌||◌, false≢true}
use mathlib.Core.List.{List, [], ◌∷◌, Memᴰ}
use mathlib.Core.Path.{◌≡◌, refl, sym, ap, ◌∙◌}
use native.Mathlib.Omega.{arith}
use lib.Dec.{eqb}
use lib.ListN.{length, get_or}
use borrow.Author.Tests.{leb-false, lt-ltb, le-ltb, eq-eqb, ne_eqb, eqb-true}
use Rattle.std.specs.Prelude.{if◌then◌else◌}
use Rattle.lists.proofs.Tests.{split}
use Rattle.tables.specs.Rows.{account_octets, link_octets}
use Rattle.lists.proofs.Leading.{leading_fails}
use Rattle.fields.specs.Fields.{tag_and_length, field_at}
use Rattle.fields.specs.declared.Field.{Field}
use Rattle.image_layout.specs.Layout.{head_tag, account_tag, link_tag, head_size, account_size, link_size, head_octets, field_offset, image_length, max_accounts, max_links, longest_image}
use Rattle.image_read.specs.Read.{good_field, good_accounts, good_links, read_end, read_image}
use Rattle.image_field.specs.Checks.{field_code, head_good, head_code, in_order, data_octets, is_full, values_good, tag_at, next_code}
use Rattle.image_read.specs.Claims.{ReadCodes, AcceptedEnds, GoodFieldsExactly, walked, ReadFieldByField, ReadAnswers}
use Rattle.image_read.proofs.Accepted.{Accepted, accepted, head_passes, good_passes, link_first, counted_account, counted_link, some_accounts, some_links, end_tag_lem, good_tag, good_code, good_by}
use Rattle.image_read.proofs.Reading.{few_accounts, few_links, few_read, by_end, by_reading}

-- ---- codes
-- a property of both answers is one of the choice between them
by_choice : {A : Type 0} (P : A → Type 0) (b : Bool) (x y : A) → P x → P y → P (if b then x else y)
by_choice P true x y f g = f
by_choice P false x y f g = g

-- a property of every code that a field can get
module _ (P : ℕ → Type 0) (p0 : P 0) (p20 : P 20) (p21 : P 21) (p22 : P 22) (p23 : P 23) (p24 : P 24) where
  by_field : (f : Field) (order : Bool) (size : ℕ) (full good : Bool) → P (field_code f order size full good)
  unfolding field_code
  by_field f order size full good =
      by_choice P (not f.headed) _ _ p20
      (by_choice P (not order) _ _ p21
      (by_choice P (not (eqb f.size size)) _ _ p22
      (by_choice P (not f.whole) _ _ p20
      (by_choice P full _ _ p24
      (by_choice P (not good) _ _ p23 p0)))))

  by_head : (s : List ℕ) → P (head_code s)
  unfolding head_code
  by_head s = by_field (field_at s 0) (eqb (get_or s 0 0) head_tag) head_octets false (head_good s)

  by_next : (s : List ℕ) (n m : ℕ) → P (next_code s n m)
  unfolding next_code
  by_next s n m =
      by_field (field_at s (field_offset n m)) (in_order (tag_at s n m) n m) (data_octets (tag_at s n m)) (is_full (tag_at s n m) n m) (values_good s (tag_at s n m) n m)

  -- a property of every code that an image can get
  pub by_code : P 25 → (s : List ℕ) → P (read_image s).code
  by_code p25 s =
      by_reading s (λ q. P q.code)
      (λ _. by_head s)
      (λ _. by_end s (λ q. P q.code) (good_accounts s) (good_links s (good_accounts s))
      (λ _. by_next s (good_accounts s) (good_links s (good_accounts s)))
      (λ _ _ _ _. p25)
      (λ _ _. p0))

-- whether a list has a number, by computing
abbrev pub has : ℕ → List ℕ → Bool
has x [] = false
has x (y ∷ l) = eqb x y || has x l

pub listed : (x : ℕ) (l : List ℕ) → has x l ≡ true → Memᴰ x l
listed x [] e = absurd (false≢true e)
listed x (y ∷ l) e =
    split (eqb x y)
    (λ q. Memᴰ.head (eqb-true _ _ q))
    (λ q. Memᴰ.tail (listed x l (rw q at e)))

-- a list that has every code that reading can answer has the code of any image
pub code_listed : (l : List ℕ)
    → has 0 l ≡ true → has 20 l ≡ true → has 21 l ≡ true → has 22 l ≡ true → has 23 l ≡ true → has 24 l ≡ true → has 25 l ≡ true
    → (s : List ℕ) → Memᴰ (read_image s).code l
code_listed l p0 p20 p21 p22 p23 p24 p25 =
    by_code (λ x. Memᴰ x l) (listed 0 l p0) (listed 20 l p20) (listed 21 l p21) (listed 22 l p22) (listed 23 l p23) (listed 24 l p24) (listed 25 l p25)

pub read_codes : ReadCodes
read_codes = code_listed (0 ∷ 20 ∷ 21 ∷ 22 ∷ 23 ∷ 24 ∷ 25 ∷ []) refl refl refl refl refl refl refl

-- reading never answers 26
pub not_26 : (s : List ℕ) → (read_image s).code ≡ 26 → ⊥
not_26 =
    by_code (λ x. x ≡ 26 → ⊥) (λ e. omega arith) (λ e. omega arith) (λ e. omega arith) (λ e. omega arith) (λ e. omega arith)
    (λ e. omega arith) (λ e. omega arith)

-- ---- accepted images
longest : (s : List ℕ) {n m : ℕ} → length s ≡ image_length n m → n ≤ max_accounts → m ≤ max_links → length s ≤ longest_image
unfolding field_offset
longest s e h k = omega arith

pub accepted_ends : AcceptedEnds
accepted_ends s z =
    let a : Accepted s (read_image s) = accepted s z in
    let n : ℕ = (read_image s).settings.accounts in
    let m : ℕ = (read_image s).settings.links in (
      end_tag_lem s n m a.accounts_are a.links_are a.end_code,
      a.length_is,
      some_accounts s n m a.accounts_are a.links_are a.end_code,
      some_links s n m a.accounts_are a.links_are a.end_code,
      (few_read s).0,
      (few_read s).1,
      longest s a.length_is (few_read s).0 (few_read s).1,
    )

-- ---- offsets: where the next field stands
offset_head : field_offset 0 0 ≡ head_size
unfolding field_offset
offset_head = refl

offset_account : (n : ℕ) → field_offset (suc n) 0 ≡ field_offset n 0 + account_size
unfolding field_offset
offset_account n = omega arith

offset_link : (n m : ℕ) → field_offset n (suc m) ≡ field_offset n m + link_size
unfolding field_offset
offset_link n m = omega arith

module _ (s : List ℕ) (z : head_code s ≡ 0) where
  -- the field after the accounts that were counted starts inside the image, or at its end
  accounts_inside : (n : ℕ) → n ≤ good_accounts s → field_offset n 0 ≤ length s
  unfolding data_octets
  accounts_inside zero h = let p = offset_head in let w = (head_passes s z).whole in omega arith
  accounts_inside (suc n) h =
      let w : field_offset n 0 + tag_and_length + account_octets ≤ length s = (good_passes s account_tag n 0 (counted_account s n (omega arith))).whole in
      let p = offset_account n in
      omega arith

  -- the field after the links that were counted starts inside the image, or at its end
  links_inside : (n m : ℕ) → n ≤ good_accounts s → m ≤ good_links s n → field_offset n m ≤ length s
  unfolding data_octets
  links_inside n zero k h = accounts_inside n k
  links_inside n (suc m) k h =
      let w : field_offset n m + tag_and_length + link_octets ≤ length s = (good_passes s link_tag n m (counted_link s n m (omega arith))).whole in
      let p = offset_link n m in
      omega arith

pub offset_inside : (s : List ℕ) → (read_image s).offset ≤ length s
offset_inside s =
    by_reading s (λ q. q.offset ≤ length s)
    (λ _. omega arith)
    (λ z.
    let n : ℕ = good_accounts s in
    let m : ℕ = good_links s n in
    by_end s (λ q. q.offset ≤ length s) n m
    (λ _. links_inside s z n m (omega arith) (omega arith))
    (λ _ _ at h. h)
    (λ _ _. omega arith))

-- ---- reading field by field: one step of the walk
module _ (k : ℕ) (s : List ℕ) (n m : ℕ) where
  walk_account : good_field s account_tag n m ≡ true → walked (suc k) s n m ≡ walked k s (suc n) m
  unfolding walked
  walk_account e = simp e

  walk_link : good_field s account_tag n m ≡ false → good_field s link_tag n m ≡ true → walked (suc k) s n m ≡ walked k s n (suc m)
  unfolding walked
  walk_link f e = simp (f, e)

  walk_end : good_field s account_tag n m ≡ false → good_field s link_tag n m ≡ false → walked (suc k) s n m ≡ read_end s n m
  unfolding walked
  walk_end f g = simp (f, g)

-- a test that is not true is false
not_good : (b : Bool) → (b ≡ true → ⊥) → b ≡ false
not_good b h = split b (λ e. absurd (h e)) (λ e. e)

-- an account is good only before the links, and while the limit leaves room for one; a link only after an account, and
-- while the limit leaves room for one
module _ (s : List ℕ) (n m : ℕ) where
  account_room : good_field s account_tag n m ≡ true → n < max_accounts
  unfolding is_full
  account_room g = leb-false _ _ (good_passes s account_tag n m g).few

  link_room : good_field s link_tag n m ≡ true → m < max_links
  unfolding is_full
  link_room g = leb-false _ _ (good_passes s link_tag n m g).few

  account_before : good_field s account_tag n m ≡ true → (n ≡ 0 → ⊥) → m ≡ 0
  unfolding in_order
  account_before g d =
      split (eqb m 0)
      (λ q. eqb-true _ _ q)
      (λ q. absurd (false≢true (rw (ne_eqb _ _ d, q) at (good_passes s account_tag n m g).ordered)))

-- counting ends where the test fails
accounts_end : (s : List ℕ) → good_field s account_tag (good_accounts s) 0 ≡ true → ⊥
unfolding good_accounts
accounts_end s g = false≢true (sym (leading_fails (λ i. good_field s account_tag i 0) max_accounts (account_room s (good_accounts s) 0 g)) ∙ g)

links_end : (s : List ℕ) (n : ℕ) → good_field s link_tag n (good_links s n) ≡ true → ⊥
unfolding good_links
links_end s n g = false≢true (sym (leading_fails (λ j. good_field s link_tag n j) max_links (link_room s n (good_links s n) g)) ∙ g)

module _ (s : List ℕ) where
  abbrev n : ℕ
  n = good_accounts s

  abbrev m : ℕ
  m = good_links s n

  -- no account stands among the links
  no_account : (j : ℕ) → j ≤ m → good_field s account_tag n j ≡ true → ⊥
  no_account zero h g = accounts_end s g
  no_account (suc j) h g =
      let b : (n ≡ 0 → ⊥) = link_first s n j (counted_link s n j (omega arith)) in
      let e : suc j ≡ 0 = account_before s n (suc j) g b in
      omega arith

  -- the walk passes the accounts, then the links, and stops
  walk_accounts : (k d i : ℕ) → i + d ≡ n → walked (k + d) s i 0 ≡ walked k s n 0
  walk_accounts k zero i e =
      let p : k + 0 ≡ k = omega arith in
      let q : i ≡ n = omega arith in
      ap (λ (x : ℕ). walked x s i 0) p ∙ ap (λ (x : ℕ). walked k s x 0) q
  walk_accounts k (suc d) i e =
      let p : k + suc d ≡ suc (k + d) = omega arith in
      ap (λ (x : ℕ). walked x s i 0) p
      ∙ walk_account (k + d) s i 0 (counted_account s i (omega arith))
      ∙ walk_accounts k d (suc i) (omega arith)

  walk_links : (k d j : ℕ) → j + d ≡ m → walked (k + d) s n j ≡ walked k s n m
  walk_links k zero j e =
      let p : k + 0 ≡ k = omega arith in
      let q : j ≡ m = omega arith in
      ap (λ (x : ℕ). walked x s n j) p ∙ ap (walked k s n) q
  walk_links k (suc d) j e =
      let p : k + suc d ≡ suc (k + d) = omega arith in
      ap (λ (x : ℕ). walked x s n j) p
      ∙ walk_link (k + d) s n j (not_good _ (no_account j (omega arith))) (counted_link s n j (omega arith))
      ∙ walk_links k d (suc j) (omega arith)

  walk_whole : (k : ℕ) → max_accounts + max_links < k → walked k s 0 0 ≡ read_end s n m
  walk_whole k h =
      let a : n ≤ max_accounts = few_accounts s in
      let b : m ≤ max_links = few_links s n in
      let r : ℕ = k - n - m - 1 in
      let p : k ≡ suc r + m + n = omega arith in
      ap (λ (x : ℕ). walked x s 0 0) p
      ∙ walk_accounts (suc r + m) n 0 (omega arith)
      ∙ walk_links (suc r) m 0 (omega arith)
      ∙ walk_end r s n m (not_good _ (no_account m (omega arith))) (not_good _ (links_end s n))

pub read_field_by_field : ReadFieldByField
read_field_by_field s k h z =
    by_reading s (λ q. walked k s 0 0 ≡ q)
    (λ d. absurd (d z))
    (λ _. walk_whole s k h)

-- ---- every answer with its offset, from the definitions alone
pub read_answers : ReadAnswers
unfolding field_offset read_end read_image
read_answers s =
    let n : ℕ = good_accounts s in
    let m : ℕ = good_links s n in
    record {
      head = λ d. simp (ne_eqb (head_code s) 0 d);
      field = λ z d. simp (eq-eqb (head_code s) 0 z, ne_eqb (next_code s n m) 0 d);
      surplus = λ z e l. simp (eq-eqb (head_code s) 0 z, eq-eqb (next_code s n m) 0 e, lt-ltb (8 + 9 * n + 16 * m + 3) (length s) l);
      success = λ z e l. simp (eq-eqb (head_code s) 0 z, eq-eqb (next_code s n m) 0 e, le-ltb (8 + 9 * n + 16 * m + 3) (length s) l);
    }

pub good_fields_exactly : GoodFieldsExactly
good_fields_exactly s tag n m = (λ e. (good_tag s tag n m e, good_code s tag n m e), λ h. good_by s tag n m h.0 h.1)
