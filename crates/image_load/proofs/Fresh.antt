-- The tables of a history's start: they hold the image's rows, and code 10 fits no row. Assumes nothing.
use Prim.Native.Nat.{ℕ, zero, suc, ◌+◌, ◌-◌, ◌*◌, ◌≤◌, ◌<◌, min}
use mathlib.Core.Bool.{true, false≢true}
use mathlib.Core.List.{List, [], ◌∷◌}
use mathlib.Core.Path.{◌≡◌, refl, sym, ap, ◌∙◌}
use native.Mathlib.Nat.{zero-add, min-le_right}
use native.Mathlib.Omega.{arith}
use lib.Dec.{leb}
use lib.ListN.{length, get_or, take, drop, replicate, length-take, length-replicate, get_or-replicate}
use lib.Seq.{take-append_seam, get_or-take}
use borrow.Author.Tests.{ltb-true, leb-true, leb-false, ne_eqb}
use Rattle.octets.specs.Runs.{octets_at, joined, put}
use Rattle.lists.proofs.Tests.{split, both}
use Rattle.octets.proofs.Parts.{length_part, get_d_part, part_same, part_octet, length_joined, joined_at, row_below}
use Rattle.octets.proofs.Runs.{put_fits}
use Rattle.terms.specs.Terms.{capacity}
use Rattle.rows.specs.Rows.{Rows, row_octets}
use Rattle.tables.specs.Rows.{account_octets, link_octets, account_table, link_table, account_in, link_in}
use Rattle.tables_rules.specs.Rules.{link_sound, number_rises, link_good}
use Rattle.tables.specs.Laws.{terms_same, link_same}
use Rattle.tables_rules.proofs.Rules.{account_good_same, link_good_same}
use Rattle.image_read.specs.Read.{good_accounts, good_links, read_image}
use Rattle.image_field.specs.Checks.{account_fields, link_fields}
use Rattle.image_fill.specs.Filling.{runs_hold, Runs, runs_of, account_rows, link_rows, capacities, filled}
use Rattle.image_load.specs.Fresh.{Begins, Fresh, LoadFresh, LoadAccepts, HoldsImage, FreshHolds, FreshSound}
use Rattle.image_read.proofs.Reading.{few_read}
use Rattle.image_load.proofs.Loading.{runs_held, by_load, length_account_rows, length_link_rows, length_capacities}
use Rattle.image_fill.proofs.Claims.{long_enough_exactly}
use Rattle.image_read.proofs.Accepted.{Accepted, accepted, counted_account, counted_link, good_account, good_link, some_accounts, some_links}

-- what the test of the runs' lengths says of these lengths
module _ (n m accounts credits lasts links : ℕ) where
  pub record Long : Type 0 where
    pub accounts_long : account_octets * n ≤ accounts
    pub credits_long : n ≤ credits
    pub lasts_long : n ≤ lasts
    pub links_long : link_octets * m ≤ links

  pub held_long : runs_hold n m accounts credits lasts links ≡ true → Long
  held_long e =
      let r : Runs = runs_of (replicate accounts 0) (replicate credits 0) (replicate lasts 0) (replicate links 0) in
      let h = simp length-replicate at ((long_enough_exactly n m r).0 (simp length-replicate e)) in
      record { accounts_long = h.0; credits_long = h.1; lasts_long = h.2; links_long = h.3 }

-- ---- loading accepts what reading accepts
pub load_accepts : LoadAccepts
load_accepts s r z t =
    by_load s r (λ w. w.answer ≡ read_image s)
    (λ d. refl)
    (λ _ _. refl)
    (λ _ f. absurd (false≢true (sym f ∙ t)))

-- ---- a run that begins with another run: one into which that run was written
pub begins_put : (d xs : List ℕ) → length xs ≤ length d → Begins xs (put d 0 xs)
begins_put d xs h = ap (take (length xs)) (put_fits d 0 xs (omega arith)) ∙ take-append_seam xs (drop (0 + length xs) d)

module _ (xs ys : List ℕ) (e : Begins xs ys) where
  -- a run is at least as long as the run that it begins with
  pub begins_length : length xs ≤ length ys
  begins_length =
      let m : min (length xs) (length ys) ≡ length xs = sym (length-take (length xs) ys) ∙ ap length e in
      let h : min (length xs) (length ys) ≤ length ys = min-le_right (length xs) (length ys) in
      omega arith

  -- a run has the octets of the run that it begins with
  pub begins_at : (k : ℕ) → k < length xs → get_or ys k 0 ≡ get_or xs k 0
  begins_at k l = sym (get_or-take (length xs) ys k 0 l) ∙ ap (λ (zs : List ℕ). get_or zs k 0) e

-- rows of w octets at the beginning of a run
module _ (f : ℕ → List ℕ) (w : ℕ) (each : (i : ℕ) → length (f i) ≡ w) (n : ℕ) (d : List ℕ) (e : Begins (joined f n) d) where
  -- each row stands at its offset
  pub rows_at : (i : ℕ) → i < n → octets_at w d (w * i) ≡ f i
  rows_at i h =
      let l : length (joined f n) ≡ w * n = length_joined f w each n in
      let b = row_below w i n h in
      part_same w d (joined f n) (w * i) (w * i) (λ k c. begins_at (joined f n) d e (w * i + k) (omega arith))
      ∙ joined_at f w each n i h

-- rows of one element at the beginning of a run
module _ (x : ℕ → ℕ) (n : ℕ) (d : List ℕ) (e : Begins (joined (λ i. x i ∷ []) n) d) where
  pub ones_at : (i : ℕ) → i < n → get_or d i 0 ≡ x i
  ones_at i h =
      let p : 1 * i + 0 ≡ i = omega arith in
      ap (λ (k : ℕ). get_or d k 0) (sym p)
      ∙ sym (get_d_part 1 d (1 * i) 0 (omega arith))
      ∙ ap (λ (xs : List ℕ). get_or xs 0 0) (rows_at (λ i. x i ∷ []) 1 (λ i. refl) n d e i h)

-- ---- loading leaves fresh tables
pub filled_fresh : (s : List ℕ) (r : Runs) → (read_image s).code ≡ 0 → runs_held s r ≡ true → Fresh s (filled s (read_image s).settings.accounts (read_image s).settings.links r)
unfolding filled
filled_fresh s r z t =
    let n : ℕ = (read_image s).settings.accounts in
    let m : ℕ = (read_image s).settings.links in
    let h = (long_enough_exactly n m r).0 t in
    let a : length (account_rows s n) ≡ account_octets * n = length_account_rows s n m in
    let c : length (capacities (account_fields s) n) ≡ n = length_capacities s n m in
    let u : length {A = ℕ} (replicate n 0) ≡ n = length-replicate n 0 in
    let l : length (link_rows s n m) ≡ link_octets * m = length_link_rows s n m in
    record {
      accepted = z;
      accounts = begins_put r.accounts (account_rows s n) (rw a h.0);
      credits = begins_put r.credits (capacities (account_fields s) n) (rw c h.1);
      lasts = begins_put r.lasts (replicate n 0) (rw u h.2);
      links = begins_put r.links (link_rows s n m) (rw l h.3);
    }

pub load_fresh : LoadFresh
load_fresh s r =
    by_load s r (λ w. w.answer.code ≡ 0 → (w.answer ≡ read_image s) × Fresh s w.runs)
    (λ d z. absurd (d z))
    (λ z t _. (refl, filled_fresh s r z t))
    (λ _ _ z. absurd (omega arith))

-- ---- fresh tables hold the image's rows
module _ (s : List ℕ) (n m : ℕ) (d : List ℕ) where
  account_held_lem : Begins (account_rows s n) d → (i : ℕ) → i < n → account_in (account_table d) i ≡ account_in (account_fields s) i
  unfolding account_rows
  account_held_lem e i h =
      terms_same d s (0 + account_octets * i) _
      (part_octet account_octets d s (0 + account_octets * i) _
      (ap (octets_at account_octets d) (zero-add (account_octets * i))
      ∙ rows_at (row_octets account_octets (account_fields s)) account_octets (λ k. length_part account_octets s _) n d e i h))

  link_held : Begins (link_rows s n m) d → (j : ℕ) → j < m → link_in (link_table d) j ≡ link_in (link_fields s n) j
  unfolding link_rows
  link_held e j h =
      link_same d s (0 + link_octets * j) _
      (part_octet link_octets d s (0 + link_octets * j) _
      (ap (octets_at link_octets d) (zero-add (link_octets * j))
      ∙ rows_at (row_octets link_octets (link_fields s n)) link_octets (λ k. length_part link_octets s _) m d e j h))

  credit_held : Begins (capacities (account_fields s) n) d → (i : ℕ) → i < n → get_or d i 0 ≡ capacity (account_in (account_fields s) i)
  unfolding capacities
  credit_held e i h = ones_at (λ k. capacity (account_in (account_fields s) k)) n d e i h

pub fresh_holds : FreshHolds
fresh_holds s r f =
    let n : ℕ = (read_image s).settings.accounts in
    let m : ℕ = (read_image s).settings.links in
    let a : length (account_rows s n) ≡ account_octets * n = length_account_rows s n m in
    let c : length (capacities (account_fields s) n) ≡ n = length_capacities s n m in
    let u : length {A = ℕ} (replicate n 0) ≡ n = length-replicate n 0 in
    let l : length (link_rows s n m) ≡ link_octets * m = length_link_rows s n m in
    record {
      long = (long_enough_exactly n m r).1 (
        rw a at (begins_length (account_rows s n) r.accounts f.accounts),
        rw c at (begins_length (capacities (account_fields s) n) r.credits f.credits),
        rw u at (begins_length (replicate n 0) r.lasts f.lasts),
        rw l at (begins_length (link_rows s n m) r.links f.links),
      );
      accounts = account_held_lem s n m r.accounts f.accounts;
      links = link_held s n m r.links f.links;
    }

-- ---- fresh tables are sound

-- both halves of a good link
module _ (a l : Rows) (n j : ℕ) (e : link_good a l n j ≡ true) where
  good_sound : link_sound (link_in l j) n (account_in a (link_in l j).account).smax ≡ true
  unfolding link_good
  good_sound = (both (number_rises l j) (link_sound (link_in l j) n (account_in a (link_in l j).account).smax) e).1

  good_rises : number_rises l j ≡ true
  unfolding link_good
  good_rises = (both (number_rises l j) (link_sound (link_in l j) n (account_in a (link_in l j).account).smax) e).0

-- a number that rises is above that of the row before
rises_next : (l : Rows) (i j : ℕ) → suc i ≡ j → number_rises l j ≡ true → (link_in l i).number < (link_in l j).number
unfolding number_rises
rises_next l i j k e =
    let d : (j ≡ 0 → ⊥) = λ z. omega arith in
    let p : j - 1 ≡ i = omega arith in
    ltb-true (link_in l i).number (link_in l j).number (rw (ne_eqb _ _ d, p) at e)

-- numbers that rise from row to row rise throughout
rises_all : (l : Rows) (m : ℕ) → ((j : ℕ) → j < m → number_rises l j ≡ true) → (i j : ℕ) → i < j → j < m → (link_in l i).number < (link_in l j).number
rises_all l m h i zero b c = absurd (omega arith)
rises_all l m h i (suc j) b c =
    let q : (link_in l j).number < (link_in l (suc j)).number = rises_next l j (suc j) refl (h (suc j) c) in
    split (leb j i)
    (λ w.
    let p : j ≤ i = leb-true _ _ w in
    let k : (link_in l j).number ≡ (link_in l i).number = ap (λ (t : ℕ). (link_in l t).number) (omega arith) in
    omega arith)
    (λ w.
    let p : i < j = leb-false _ _ w in
    let v : (link_in l i).number < (link_in l j).number = rises_all l m h i j p (omega arith) in
    omega arith)

module _ (s : List ℕ) (r : Runs) (f : Fresh s r) where
  abbrev n : ℕ
  n = (read_image s).settings.accounts

  abbrev m : ℕ
  m = (read_image s).settings.links

  -- what reading answered, and the rows that the tables hold
  read : Accepted s (read_image s)
  read = accepted s f.accepted

  rows : HoldsImage s r n m
  rows = fresh_holds s r f

  -- each link is good among the tables' own rows
  link_good_lem : (j : ℕ) → j < m → link_good (account_table r.accounts) (link_table r.links) n j ≡ true
  link_good_lem j h =
      let k : m ≡ good_links s n = read.links_are in
      link_good_same (account_table r.accounts) (account_fields s) (link_table r.links) (link_fields s n) n j
      rows.accounts (rows.links j h) (rows.links (j - 1) (omega arith))
      ∙ good_link s n j (counted_link s n j (omega arith))

pub fresh_sound : FreshSound
fresh_sound s r f =
    let n : ℕ = (read_image s).settings.accounts in
    let m : ℕ = (read_image s).settings.links in
    let a : Accepted s (read_image s) = read s r f in
    let k : n ≡ good_accounts s = a.accounts_are in
    let g = link_good_lem s r f in
    record {
      long = (rows s r f).long;
      some_accounts = (some_accounts s n m a.accounts_are a.links_are a.end_code, (few_read s).0);
      some_links = (some_links s n m a.accounts_are a.links_are a.end_code, (few_read s).1);
      accounts = λ i h.
          account_good_same (account_table r.accounts) (account_fields s) i i ((rows s r f).accounts i h)
          ∙ good_account s i (counted_account s i (omega arith));
      full = λ i h. credit_held s n m r.credits f.credits i h ∙ ap capacity (sym ((rows s r f).accounts i h));
      unused = λ i h.
          begins_at (replicate n 0) r.lasts f.lasts i (rw (length-replicate {A = ℕ} n 0) h) ∙ get_or-replicate n i 0 0 h;
      links = λ j h. good_sound (account_table r.accounts) (link_table r.links) n j (g j h);
      rising = rises_all (link_table r.links) m (λ j h. good_rises (account_table r.accounts) (link_table r.links) n j (g j h));
    }
