-- Tables just loaded: the start of a history (document 01, "The terms of demand 3"). Proved in proofs/Fresh.antt.
use Rattle.std.specs.Prelude.{ℕ, ◌≤◌, ◌<◌, true, List, ◌≡◌, length, get_or, take, replicate}
use Rattle.terms.specs.Terms.{capacity}
use Rattle.tables.specs.Rows.{account_table, link_table, account_in, link_in}
use Rattle.tables_rules.specs.Rules.{account_good, link_row_sound}
use Rattle.image_layout.specs.Layout.{max_accounts, max_links}
use Rattle.image_read.specs.Read.{read_image}
use Rattle.image_field.specs.Checks.{account_fields, link_fields}
use Rattle.image_load.specs.Loading.{loading}
use Rattle.image_fill.specs.Filling.{Runs, long_enough, account_rows, link_rows, capacities}

-- ys begins with xs, whatever follows
abbrev pub Begins : List ℕ → List ℕ → Type 0
Begins xs ys = take (length xs) ys ≡ xs

-- the image is accepted, and the runs begin with what loading it writes
pub record Fresh (s : List ℕ) (r : Runs) : Type 0 where
  pub accepted : (read_image s).code ≡ 0
  pub accounts : Begins (account_rows s (read_image s).settings.accounts) r.accounts
  pub credits : Begins (capacities (account_fields s) (read_image s).settings.accounts) r.credits
  pub lasts : Begins (replicate (read_image s).settings.accounts 0) r.lasts
  pub links : Begins (link_rows s (read_image s).settings.accounts (read_image s).settings.links) r.links

-- loading that answers 0 answers what reading answers, constant field and counts, and leaves fresh tables; nothing is
-- asked of the runs
abbrev pub LoadFresh : Type 0
LoadFresh =
    (s : List ℕ) (r : Runs) → (loading s r).answer.code ≡ 0
    → ((loading s r).answer ≡ read_image s) × Fresh s (loading s r).runs

-- loading answers 0 for every image that reads as 0 and runs that are long enough
abbrev pub LoadAccepts : Type 0
LoadAccepts =
    (s : List ℕ) (r : Runs) → (read_image s).code ≡ 0
    → long_enough (read_image s).settings.accounts (read_image s).settings.links r ≡ true
    → (loading s r).answer ≡ read_image s

-- fresh tables hold the image's rows, and are long enough for these rows
pub record HoldsImage (s : List ℕ) (r : Runs) (n m : ℕ) : Type 0 where
  pub long : long_enough n m r ≡ true
  pub accounts : (i : ℕ) → i < n → account_in (account_table r.accounts) i ≡ account_in (account_fields s) i
  pub links : (j : ℕ) → j < m → link_in (link_table r.links) j ≡ link_in (link_fields s n) j

abbrev pub FreshHolds : Type 0
FreshHolds = (s : List ℕ) (r : Runs) → Fresh s r → HoldsImage s r (read_image s).settings.accounts (read_image s).settings.links

-- tables of n accounts and m links in which code 10 fits no row: counts within the limits, runs that are long enough,
-- values in order, credits full, last times 0; and each link number stands once
pub record SoundTables (r : Runs) (n m : ℕ) : Type 0 where
  pub long : long_enough n m r ≡ true
  pub some_accounts : (1 ≤ n) × (n ≤ max_accounts)
  pub some_links : (1 ≤ m) × (m ≤ max_links)
  pub accounts : (i : ℕ) → i < n → account_good (account_table r.accounts) i ≡ true
  pub full : (i : ℕ) → i < n → get_or r.credits i 0 ≡ capacity (account_in (account_table r.accounts) i)
  pub unused : (i : ℕ) → i < n → get_or r.lasts i 0 ≡ 0
  pub links : (j : ℕ) → j < m → link_row_sound (account_table r.accounts) (link_table r.links) n j ≡ true
  pub rising : (i j : ℕ) → i < j → j < m → (link_in (link_table r.links) i).number < (link_in (link_table r.links) j).number

abbrev pub FreshSound : Type 0
FreshSound = (s : List ℕ) (r : Runs) → Fresh s r → SoundTables r (read_image s).settings.accounts (read_image s).settings.links
