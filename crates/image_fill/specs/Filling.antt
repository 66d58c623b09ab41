-- What filling the four lent runs from an image leaves in them (document 01, "The configuration image" and "Credit, in whole
-- units").
use Rattle.std.specs.Prelude.{ℕ, ◌*◌, Bool, ◌&&◌, List, [], ◌∷◌, length, leb, replicate}
use Rattle.octets.specs.Runs.{joined, put}
use Rattle.terms.specs.Terms.{capacity, checked_capacity}
use Rattle.rows.specs.Rows.{Rows, row_octets}
use Rattle.tables.specs.Rows.{account_octets, link_octets, account_in}
use Rattle.image_field.specs.Checks.{account_fields, link_fields}

-- the lent runs: rows of accounts, credits, last times, rows of links
pub record Runs : Type 0 where
  pub accounts : List ℕ
  pub credits : List ℕ
  pub lasts : List ℕ
  pub links : List ℕ

abbrev pub runs_of : List ℕ → List ℕ → List ℕ → List ℕ → Runs
runs_of a c t l = record { accounts = a; credits = c; lasts = t; links = l }

-- ---- what is written: the rows of n accounts, the rows of m links after these accounts, and the accounts' capacities
unfoldable pub account_rows : List ℕ → ℕ → List ℕ
account_rows s n = joined (row_octets account_octets (account_fields s)) n

unfoldable pub link_rows : List ℕ → ℕ → ℕ → List ℕ
link_rows s n m = joined (row_octets link_octets (link_fields s n)) m

abbrev pub full_credit : Rows → ℕ → ℕ
full_credit a i = capacity (account_in a i)

unfoldable pub capacities : Rows → ℕ → List ℕ
capacities a n = joined (λ i. full_credit a i ∷ []) n

-- the capacities as the code takes them: 0 for values that break a limit, which an accepted image does not have
abbrev pub checked_capacities : List ℕ → ℕ → List ℕ
checked_capacities s n = joined (λ i. checked_capacity (account_in (account_fields s) i) ∷ []) n

-- the runs after filling as the code takes the capacities
unfoldable pub checked_filled : List ℕ → ℕ → ℕ → Runs → Runs
checked_filled s n m r =
    runs_of
    (put r.accounts 0 (account_rows s n))
    (put r.credits 0 (checked_capacities s n))
    (put r.lasts 0 (replicate n 0))
    (put r.links 0 (link_rows s n m))

-- whether runs of these lengths are long enough for n accounts and m links
unfoldable pub runs_hold : ℕ → ℕ → ℕ → ℕ → ℕ → ℕ → Bool
runs_hold n m accounts credits lasts links =
    leb (account_octets * n) accounts && leb n credits && leb n lasts && leb (link_octets * m) links

abbrev pub long_enough : ℕ → ℕ → Runs → Bool
long_enough n m r = runs_hold n m (length r.accounts) (length r.credits) (length r.lasts) (length r.links)

-- the runs after filling: they begin with the rows, the capacities and zeros, and are otherwise as they were
unfoldable pub filled : List ℕ → ℕ → ℕ → Runs → Runs
filled s n m r =
    runs_of
    (put r.accounts 0 (account_rows s n))
    (put r.credits 0 (capacities (account_fields s) n))
    (put r.lasts 0 (replicate n 0))
    (put r.links 0 (link_rows s n m))
