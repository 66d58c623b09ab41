-- The two round trips. Assumes nothing.
use Prim.Native.Nat.{ℕ, suc, ◌+◌, ◌-◌, ◌*◌, ◌^◌, ◌≤◌, ◌<◌}
use mathlib.Core.Bool.{true, false≢true}
use mathlib.Core.List.{List, [], ◌∷◌, ◌++◌}
use mathlib.Core.Path.{◌≡◌, refl, sym, ap, ap₂, ◌∙◌}
use native.Mathlib.Nat.{zero-add}
use native.Mathlib.Omega.{arith}
use lib.ListN.{length, get_or, take, replicate}
use lib.Seq.{take-length}
use borrow.Author.Tests.{le-leb, eqb-true}
use Rattle.octets.specs.Numbers.{number_at, octets_of}
use Rattle.octets.specs.Runs.{octets_at, put}
use Rattle.octets.proofs.Numbers.{number_shift, number_octets_lem}
use Rattle.octets.proofs.Parts.{length_part, get_d_part, part_is, part_none, part_join, part_joined, part_take, joined_same, octets_number}
use Rattle.terms.specs.Terms.{capacity}
use Rattle.terms.specs.declared.Terms.{Terms}
use Rattle.rows.specs.Rows.{row_octets}
use Rattle.tables.specs.Rows.{Config, account_octets, link_octets, account_table, link_table, account_in, link_in, config_of, settings_of}
use Rattle.tables_rules.specs.Rules.{account_good, link_good}
use Rattle.lists.proofs.Leading.{leading_before, leading_is}
use Rattle.tables.proofs.Rows.{terms_part, link_part}
use Rattle.tables_rules.proofs.Rules.{account_good_same, link_good_same}
use Rattle.fields.specs.Fields.{tag_and_length, field_of, stands_at}
use Rattle.image_layout.specs.Layout.{head_tag, account_tag, link_tag, end_tag, edition, head_octets, head_size, account_size, link_size, field_offset, data_offset, image_length, max_accounts, max_links, constant_good, image_of}
use Rattle.image_read.specs.declared.ImageAnswer.{ImageAnswer}
use Rattle.image_read.specs.Read.{good_field, read_image}
use Rattle.image_field.specs.Checks.{head_code, account_fields, link_fields, data_octets, tag_at, next_code}
use Rattle.image_load.specs.Loading.{loading_of, loading}
use Rattle.image_fill.specs.Filling.{runs_hold, Runs, runs_of, account_rows, link_rows, capacities, filled}
use Rattle.image_load.specs.Fresh.{Fresh, HoldsImage}
use Rattle.image_layout.proofs.Offsets.{account_offset, link_offset}
use Rattle.image_read.proofs.Reading.{few_read}
use Rattle.image_read.proofs.Accepted.{Accepted, accepted, head_passes, good_tag, good_by, good_passes, good_account, good_link, counted_account, counted_link, some_accounts, some_links, end_tag_lem}
use Rattle.image_read.proofs.Passing.{head_good_by, head_good_constant, head_good_edition, head_code_by, account_passes, link_passes, end_passes, reads_as}
use Rattle.image_load.proofs.Loading.{by_load}
use Rattle.image_load.proofs.Fresh.{begins_put, rows_at, load_fresh, fresh_holds, held_long}
use Rattle.image_write.specs.Writing.{Written, counts_good, count_good, bad_account, bad_link, value_answer, written_of, write_answer, writing_of, writing}
use Rattle.image_round_trip.specs.RoundTrips.{tables_in, AcceptedIsImage, ImageIsAccepted, written_image, read_back, WriteRead, loaded_tables, ReadWrite}
use Rattle.image_write.proofs.Writing.{writing_answer, accounts_counted, links_counted, by_values, by_writing, all_good, room_enough, writing_done}
use Rattle.fields.proofs.Fields.{stands_by, tag_read, length_read, data_read, field_spelled}
use Rattle.image_round_trip.proofs.Imaged.{image_head, image_account, image_link_lem, image_end, image_spelled}
use Rattle.image_octets.proofs.Written.{row_field, length_head, length_image}

-- ---- laws that both round trips use
abbrev accepting : ℕ → ℕ → ℕ → ℕ → ImageAnswer
accepting l c n m = record { code = 0; offset = l; settings = settings_of c n m }

account_inside : (i n m : ℕ) (s : List ℕ) → i < n → length s ≡ image_length n m → field_offset i 0 + account_size ≤ length s
unfolding field_offset
account_inside i n m s l e = omega arith

link_inside : (n j m : ℕ) (s : List ℕ) → j < m → length s ≡ image_length n m → field_offset n j + link_size ≤ length s
unfolding field_offset
link_inside n j m s l e = omega arith

counts_by : (accounts : List ℕ) (n : ℕ) (links : List ℕ) (m : ℕ) → 1 ≤ n → n ≤ max_accounts → account_octets * n ≤ length accounts
    → 1 ≤ m → m ≤ max_links → link_octets * m ≤ length links → counts_good accounts n links m ≡ true
unfolding counts_good count_good
counts_by accounts n links m a b c d e f = simp (le-leb _ _ a, le-leb _ _ b, le-leb _ _ c, le-leb _ _ d, le-leb _ _ e, le-leb _ _ f)

-- the octets of fresh rows are the image's
module _ (s : List ℕ) (r : Runs) (f : Fresh s r) where
  account_octets_lem : (i : ℕ) → i < (read_image s).settings.accounts → row_octets account_octets (account_table r.accounts) i ≡ row_octets account_octets (account_fields s) i
  unfolding account_rows
  account_octets_lem i l =
      ap (octets_at account_octets r.accounts) (zero-add (account_octets * i))
      ∙ rows_at (row_octets account_octets (account_fields s)) account_octets (λ k. length_part account_octets s _) (read_image s).settings.accounts r.accounts f.accounts i l

  link_octets_lem : (j : ℕ) → j < (read_image s).settings.links → row_octets link_octets (link_table r.links) j ≡ row_octets link_octets (link_fields s (read_image s).settings.accounts) j
  unfolding link_rows
  link_octets_lem j l =
      ap (octets_at link_octets r.links) (zero-add (link_octets * j))
      ∙ rows_at (row_octets link_octets (link_fields s (read_image s).settings.accounts)) link_octets (λ k. length_part link_octets s _) (read_image s).settings.links r.links f.links j l

-- ---- tables that the writer accepts
pub record Accepts (g : Config) (room : ℕ) : Type 0 where
  pub counts : counts_good g.accounts g.count_of_accounts g.links g.count_of_links ≡ true
  pub constant : constant_good g.constant ≡ true
  pub accounts : (i : ℕ) → i < g.count_of_accounts → account_good (account_table g.accounts) i ≡ true
  pub links : (j : ℕ) → j < g.count_of_links → link_good (account_table g.accounts) (link_table g.links) g.count_of_accounts j ≡ true
  pub fits : image_length g.count_of_accounts g.count_of_links ≤ room

accounts_all : (g : Config) → g.count_of_accounts ≤ bad_account g → (i : ℕ) → i < g.count_of_accounts → account_good (account_table g.accounts) i ≡ true
unfolding bad_account
accounts_all g h i l = leading_before (account_good (account_table g.accounts)) g.count_of_accounts i (omega arith)

links_all : (g : Config) → g.count_of_links ≤ bad_link g → (j : ℕ) → j < g.count_of_links
    → link_good (account_table g.accounts) (link_table g.links) g.count_of_accounts j ≡ true
unfolding bad_link
links_all g h j l = leading_before (link_good (account_table g.accounts) (link_table g.links) g.count_of_accounts) g.count_of_links j (omega arith)

-- tables whose image is written with success are tables that the writer accepts
accepts : (g : Config) (room : ℕ) → (write_answer g room).code ≡ 0 → Accepts g room
accepts g room =
    by_writing g (λ w. w.code ≡ 0 → Accepts g room) room
    (λ e z. absurd (omega arith))
    (λ e d z. absurd (d z))
    (λ v h z. absurd (omega arith))
    (λ e v h z. by_values g (λ w. w.code ≡ 0 → Accepts g room)
    (λ c o. absurd (omega arith))
    (λ a o. absurd (omega arith))
    (λ b o. absurd (omega arith))
    (λ c a b o. record { counts = e; constant = c; accounts = accounts_all g a; links = links_all g b; fits = h })
    v)

-- tables with good counts and good values are tables that the writer accepts, for a room that is just long enough
accepts_values : (g : Config) → counts_good g.accounts g.count_of_accounts g.links g.count_of_links ≡ true → (value_answer g).code ≡ 0
    → Accepts g (image_length g.count_of_accounts g.count_of_links)
accepts_values g e =
    by_values g (λ w. w.code ≡ 0 → Accepts g (image_length g.count_of_accounts g.count_of_links))
    (λ c o. absurd (omega arith))
    (λ a o. absurd (omega arith))
    (λ b o. absurd (omega arith))
    (λ c a b o. record { counts = e; constant = c; accounts = accounts_all g a; links = links_all g b; fits = omega arith })

-- tables that the writer accepts are written
all_accounts : (g : Config) (room : ℕ) → Accepts g room → bad_account g ≡ g.count_of_accounts
unfolding bad_account
all_accounts g room a = leading_is (account_good (account_table g.accounts)) g.count_of_accounts g.count_of_accounts (omega arith) a.accounts (λ h. absurd (omega arith))

all_links : (g : Config) (room : ℕ) → Accepts g room → bad_link g ≡ g.count_of_links
unfolding bad_link
all_links g room a =
    leading_is (link_good (account_table g.accounts) (link_table g.links) g.count_of_accounts) g.count_of_links g.count_of_links (omega arith) a.links (λ h. absurd (omega arith))

values_are : (g : Config) (room : ℕ) → Accepts g room → written_of 0 (image_length g.count_of_accounts g.count_of_links) ≡ value_answer g
values_are g room a =
    let x = all_accounts g room a in
    let y = all_links g room a in
    all_good g true (sym a.constant) refl (bad_account g) refl (omega arith) (bad_link g) refl (omega arith) _ refl

values_fine : (g : Config) (room : ℕ) → Accepts g room → (value_answer g).code ≡ 0
values_fine g room a = sym (ap (λ (w : Written). w.code) (values_are g room a))

module _ (g : Config) (d : List ℕ) (a : Accepts g (length d)) where
  answers : written_of 0 (image_length g.count_of_accounts g.count_of_links) ≡ write_answer g (length d)
  answers =
      room_enough g (length d) true (sym a.counts) refl (written_of 0 (image_length g.count_of_accounts g.count_of_links)) (values_are g (length d) a)
      refl _ refl a.fits

  pub writes : writing g d ≡ writing_of (written_of 0 (image_length g.count_of_accounts g.count_of_links)) (put d 0 (image_of g))
  writes = sym (writing_done g d (written_of 0 (image_length g.count_of_accounts g.count_of_links)) answers refl (put d 0 (image_of g)) refl)

-- what was written is the image
written_is : (g : Config) (d : List ℕ) → Accepts g (length d) → written_image g d ≡ image_of g
written_is g d a =
    let l = length_image g in
    let f = a.fits in
    ap (λ w. take w.answer.offset w.room) (writes g d a)
    ∙ ap (λ (n : ℕ). take n (put d 0 (image_of g))) (sym l)
    ∙ begins_put d (image_of g) (omega arith)

-- ---- reading an image of good tables
module _ (g : Config) (room : ℕ) (a : Accepts g room) (c32 : g.constant < 2 ^ 32) where
  abbrev s : List ℕ
  s = image_of g

  abbrev n : ℕ
  n = g.count_of_accounts

  abbrev m : ℕ
  m = g.count_of_links

  -- the head
  head_data : octets_at head_octets s (0 + tag_and_length) ≡ edition ∷ octets_of 4 g.constant
  head_data = data_read s 0 head_octets head_tag (edition ∷ octets_of 4 g.constant) (length_head g.constant) (image_head g)

  head_octet : (k : ℕ) → k < head_octets → get_or s (3 + k) 0 ≡ get_or (edition ∷ octets_of 4 g.constant) k 0
  head_octet k l = sym (get_d_part head_octets s (0 + tag_and_length) k l) ∙ ap (λ (xs : List ℕ). get_or xs k 0) head_data

  pub constant_back : number_at 4 s 4 ≡ g.constant
  constant_back =
      number_shift 4 s (octets_of 4 g.constant) 4 0
      (λ k l. let p : 4 + k ≡ 3 + suc k = omega arith in ap (λ (i : ℕ). get_or s i 0) p ∙ head_octet (suc k) (omega arith) ∙ ap (λ (i : ℕ). get_or (octets_of 4 g.constant) i 0) (sym (zero-add k)))
      ∙ number_octets_lem 4 g.constant c32

  -- accounts and links: their data are the rows
  account_data : (i : ℕ) → i < n → octets_at account_octets s (data_offset i 0) ≡ row_octets account_octets (account_table g.accounts) i
  account_data i l =
      data_read s (field_offset i 0) account_octets account_tag (row_octets account_octets (account_table g.accounts) i) (length_part account_octets g.accounts _) (image_account g i l)

  link_data : (j : ℕ) → j < m → octets_at link_octets s (data_offset n j) ≡ row_octets link_octets (link_table g.links) j
  link_data j l =
      data_read s (field_offset n j) link_octets link_tag (row_octets link_octets (link_table g.links) j) (length_part link_octets g.links _) (image_link_lem g j l)

  pub account_back : (i : ℕ) → i < n → row_octets account_octets (account_fields s) i ≡ row_octets account_octets (account_table g.accounts) i
  account_back i l = ap (octets_at account_octets s) (sym (account_offset i)) ∙ account_data i l

  pub link_back : (j : ℕ) → j < m → row_octets link_octets (link_fields s n) j ≡ row_octets link_octets (link_table g.links) j
  link_back j l = ap (octets_at link_octets s) (sym (link_offset n j)) ∙ link_data j l

  pub terms_back : (i : ℕ) → i < n → account_in (account_fields s) i ≡ account_in (account_table g.accounts) i
  terms_back i l = terms_part s g.accounts _ _ (account_back i l)

  links_back : (j : ℕ) → j < m → link_in (link_fields s n) j ≡ link_in (link_table g.links) j
  links_back j l = link_part s g.links _ _ (link_back j l)

  -- every field of the image passes
  length_is : length s ≡ image_length n m
  length_is = length_image g

  some_n : (1 ≤ n) × (n ≤ max_accounts)
  some_n = let c = accounts_counted g.accounts n g.links m a.counts in (c.some, c.few)

  some_m : (1 ≤ m) × (m ≤ max_links)
  some_m = let c = links_counted g.accounts n g.links m a.counts in (c.some, c.few)

  head_ok : head_code s ≡ 0
  unfolding field_offset
  head_ok =
      let l = length_is in
      head_code_by s (omega arith)
      (tag_read s 0 head_octets head_tag (edition ∷ octets_of 4 g.constant) (length_head g.constant) (image_head g))
      (length_read s 0 head_octets head_tag (edition ∷ octets_of 4 g.constant) (length_head g.constant) (image_head g) (omega arith))
      (head_good_by s (head_octet 0 (omega arith)) (ap constant_good constant_back ∙ a.constant))

  -- a field of the image stands whole
  stands : (at w tag : ℕ) (bytes : List ℕ) → length bytes ≡ w → octets_at (tag_and_length + w) s at ≡ field_of tag bytes → w < 2 ^ 16
      → at + (tag_and_length + w) ≤ length s → stands_at s at tag w ≡ true
  stands at w tag bytes l e h = stands_by s at tag w (tag_read s at w tag bytes l e) (length_read s at w tag bytes l e h)

  account_ok : (i : ℕ) → i < n → good_field s account_tag i 0 ≡ true
  account_ok i l =
      let few : n ≤ max_accounts = some_n.1 in
      account_passes s i
      (stands (field_offset i 0) account_octets account_tag _ (length_part account_octets g.accounts _) (image_account g i l) (omega arith) (account_inside i n m s l length_is))
      (omega arith)
      (account_good_same (account_fields s) (account_table g.accounts) i i (terms_back i l) ∙ a.accounts i l)

  link_tag_lem : (j : ℕ) → j < m → tag_at s n j ≡ link_tag
  link_tag_lem j l =
      tag_read s (field_offset n j) link_octets link_tag (row_octets link_octets (link_table g.links) j) (length_part link_octets g.links _) (image_link_lem g j l)

  link_ok : (j : ℕ) → j < m → good_field s link_tag n j ≡ true
  link_ok j l =
      let few : m ≤ max_links = some_m.1 in
      link_passes s n j some_n.0
      (stands (field_offset n j) link_octets link_tag _ (length_part link_octets g.links _) (image_link_lem g j l) (omega arith) (link_inside n j m s l length_is))
      (omega arith)
      (link_good_same (account_fields s) (account_table g.accounts) (link_fields s n) (link_table g.links) n j terms_back (links_back j l) (links_back (j - 1) (omega arith))
      ∙ a.links j l)

  end_is : tag_at s n m ≡ end_tag
  end_is = tag_read s (field_offset n m) 0 end_tag [] refl (image_end g)

  end_ok : next_code s n m ≡ 0
  end_ok =
      let l = length_is in
      end_passes s n m some_n.0 some_m.0 (stands (field_offset n m) 0 end_tag [] refl (image_end g) (omega arith) (omega arith))

  pub image_reads : read_image s ≡ record { code = 0; offset = length s; settings = settings_of g.constant n m }
  image_reads =
      reads_as s n m some_n.1 some_m.0 some_m.1 head_ok account_ok link_ok (link_tag_lem 0 some_m.0) end_is end_ok length_is
      ∙ ap (λ (c : ℕ). accepting (length s) c n m) constant_back

  -- the rows that are loaded are the tables' own
  rows_back : account_rows s n ≡ take (account_octets * n) g.accounts
  unfolding account_rows
  rows_back =
      let h = (accounts_counted g.accounts n g.links m a.counts).rows in
      joined_same (row_octets account_octets (account_fields s)) (row_octets account_octets (account_table g.accounts)) n account_back
      ∙ sym (part_joined account_octets n g.accounts 0)
      ∙ part_take (account_octets * n) g.accounts 0 (omega arith)

  link_rows_back : link_rows s n m ≡ take (link_octets * m) g.links
  unfolding link_rows
  link_rows_back =
      let h = (links_counted g.accounts n g.links m a.counts).rows in
      joined_same (row_octets link_octets (link_fields s n)) (row_octets link_octets (link_table g.links)) m link_back
      ∙ sym (part_joined link_octets m g.links 0)
      ∙ part_take (link_octets * m) g.links 0 (omega arith)

  capacities_back : capacities (account_fields s) n ≡ capacities (account_table g.accounts) n
  unfolding capacities
  capacities_back =
      joined_same (λ i. capacity (account_in (account_fields s) i) ∷ []) (λ i. capacity (account_in (account_table g.accounts) i) ∷ []) n
      (λ i l. ap (λ (p : Terms). capacity p ∷ []) (terms_back i l))

  filled_back : (r : Runs) → filled s n m r ≡ (read_back g r).runs
  unfolding filled read_back
  filled_back r = rw (rows_back, link_rows_back, capacities_back)

  pub loads_back : (r : Runs) → runs_hold n m (length r.accounts) (length r.credits) (length r.lasts) (length r.links) ≡ true → loading s r ≡ read_back g r
  unfolding read_back
  loads_back r t =
      let e = image_reads in
      by_load s r (λ w. w ≡ read_back g r)
      (λ d. absurd (d (ap (λ (q : ImageAnswer). q.code) e)))
      (λ z h. rw e (ap (loading_of (accepting (length s) g.constant n m)) (filled_back r)))
      (λ z h. absurd (false≢true (sym (rw e at h) ∙ t)))

pub image_is_accepted : ImageIsAccepted
image_is_accepted g c32 e v = image_reads g (image_length g.count_of_accounts g.count_of_links) (accepts_values g e v) c32

pub write_read : WriteRead
write_read g d r c32 z t =
    let a : Accepts g (length d) = accepts g (length d) (sym (ap (λ (w : Written). w.code) (writing_answer g d)) ∙ z) in
    ap (λ (s : List ℕ). loading s r) (written_is g d a) ∙ loads_back g (length d) a c32 r t

-- ---- writing what was read
module _ (s : List ℕ) (o : (i : ℕ) → get_or s i 0 < 256) (z : (read_image s).code ≡ 0) (r : Runs) (f : Fresh s r) where
  abbrev q : ImageAnswer
  q = read_image s

  abbrev g : Config
  g = config_of q.settings.constant r.accounts q.settings.accounts r.links q.settings.links

  ok : Accepted s q
  ok = accepted s z

  rows : HoldsImage s r q.settings.accounts q.settings.links
  rows = fresh_holds s r f

  account_field_good : (i : ℕ) → i < q.settings.accounts → good_field s account_tag i 0 ≡ true
  account_field_good i l = let e = ok.accounts_are in counted_account s i (omega arith)

  link_field_good : (j : ℕ) → j < q.settings.links → good_field s link_tag q.settings.accounts j ≡ true
  link_field_good j l = let e = ok.links_are in counted_link s q.settings.accounts j (omega arith)

  -- the writer accepts the tables that were loaded
  pub read_accepts : (room : ℕ) → length s ≤ room → Accepts g room
  read_accepts room h =
      let l = ok.length_is in
      let b = held_long q.settings.accounts q.settings.links _ _ _ _ rows.long in
      let few = few_read s in
      record {
        counts = counts_by r.accounts q.settings.accounts r.links q.settings.links
            (some_accounts s q.settings.accounts q.settings.links ok.accounts_are ok.links_are ok.end_code) few.0 b.accounts_long
            (some_links s q.settings.accounts q.settings.links ok.accounts_are ok.links_are ok.end_code) few.1 b.links_long;
        constant = ap constant_good ok.constant_is ∙ head_good_constant s (head_passes s ok.head_code_lem).sound;
        accounts = λ i k. account_good_same (account_table r.accounts) (account_fields s) i i (rows.accounts i k) ∙ good_account s i (account_field_good i k);
        links = λ j k.
            link_good_same (account_table r.accounts) (account_fields s) (link_table r.links) (link_fields s q.settings.accounts) q.settings.accounts j rows.accounts (rows.links j k) (rows.links (j - 1) (omega arith))
            ∙ good_link s q.settings.accounts j (link_field_good j k);
        fits = omega arith;
      }

  -- the image of the tables that were loaded is the one that was read
  spelled_head : octets_at head_size s 0 ≡ field_of head_tag (edition ∷ octets_of 4 q.settings.constant)
  spelled_head =
      let p = head_passes s ok.head_code_lem in
      let one : octets_at 1 s 3 ≡ edition ∷ [] =
      part_is 1 s 3 (edition ∷ []) refl (λ k l. let y : 3 + k ≡ 3 = omega arith in let x : k ≡ 0 = omega arith in rw (y, x) (head_good_edition s p.sound)) in
      let four : octets_at 4 s (3 + 1) ≡ octets_of 4 q.settings.constant = sym (octets_number 4 s 4 o) ∙ ap (octets_of 4) (sym ok.constant_is) in
      field_spelled s 0 head_octets head_tag o (eqb-true _ _ p.ordered) p.sized
      ∙ ap (field_of head_tag) (part_join 1 4 s 3 ∙ ap₂ ◌++◌ one four)

  spelled_account : (i : ℕ) → i < q.settings.accounts → octets_at account_size s (field_offset i 0) ≡ row_field account_tag account_octets r.accounts i
  unfolding data_octets
  spelled_account i l =
      let w = account_field_good i l in
      field_spelled s (field_offset i 0) account_octets account_tag o (good_tag s account_tag i 0 w) (good_passes s account_tag i 0 w).sized
      ∙ ap (field_of account_tag) (ap (octets_at account_octets s) (account_offset i) ∙ sym (account_octets_lem s r f i l))

  spelled_link : (j : ℕ) → j < q.settings.links → octets_at link_size s (field_offset q.settings.accounts j) ≡ row_field link_tag link_octets r.links j
  unfolding data_octets
  spelled_link j l =
      let w = link_field_good j l in
      let n = q.settings.accounts in
      field_spelled s (field_offset n j) link_octets link_tag o (good_tag s link_tag n j w) (good_passes s link_tag n j w).sized
      ∙ ap (field_of link_tag) (ap (octets_at link_octets s) (link_offset q.settings.accounts j) ∙ sym (link_octets_lem s r f j l))

  spelled_end : octets_at tag_and_length s (field_offset q.settings.accounts q.settings.links) ≡ field_of end_tag []
  unfolding data_octets
  spelled_end =
      let n = q.settings.accounts in
      let m = q.settings.links in
      let t = end_tag_lem s n m ok.accounts_are ok.links_are ok.end_code in
      field_spelled s (field_offset n m) 0 end_tag o t (good_passes s end_tag n m (good_by s end_tag n m t ok.end_code)).sized
      ∙ ap (field_of end_tag) (part_none s _)

  pub image_again : image_of g ≡ s
  image_again = image_spelled g s ok.length_is spelled_head spelled_account spelled_link spelled_end

-- runs that hold what loading writes, and nothing beyond that
abbrev pub own_runs : List ℕ → Runs
own_runs s =
    runs_of (account_rows s (read_image s).settings.accounts)
    (capacities (account_fields s) (read_image s).settings.accounts)
    (replicate (read_image s).settings.accounts 0)
    (link_rows s (read_image s).settings.accounts (read_image s).settings.links)

pub own_fresh : (s : List ℕ) → (read_image s).code ≡ 0 → Fresh s (own_runs s)
own_fresh s z = record { accepted = z; accounts = take-length _; credits = take-length _; lasts = take-length _; links = take-length _ }

pub accepted_is_image : AcceptedIsImage
accepted_is_image s o z =
    let a : Accepts (tables_in s) (length s) = read_accepts s o z _ (own_fresh s z) (length s) (omega arith) in
    (image_again s o z _ (own_fresh s z), a.counts, values_fine (tables_in s) (length s) a)

pub read_write : ReadWrite
read_write s r d o z h =
    let e : (loading s r).answer ≡ read_image s = (load_fresh s r z).0 in
    let y : (read_image s).code ≡ 0 = sym (ap (λ (x : ImageAnswer). x.code) e) ∙ z in
    let f : Fresh s (loading s r).runs = (load_fresh s r z).1 in
    let l = (accepted s y).length_is in
    let same : loaded_tables s r ≡ g s o y (loading s r).runs f =
    ap (λ (x : ImageAnswer). config_of x.settings.constant (loading s r).runs.accounts x.settings.accounts (loading s r).runs.links x.settings.links) e in
    ap (λ (x : Config). writing x d) same
    ∙ writes (g s o y (loading s r).runs f) d (read_accepts s o y (loading s r).runs f (length d) h)
    ∙ ap₂ (λ (n : ℕ) (x : List ℕ). writing_of (written_of 0 n) (put d 0 x)) (sym l) (image_again s o y (loading s r).runs f)
