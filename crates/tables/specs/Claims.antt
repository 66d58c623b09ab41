-- What holds of rows spelled from their values (document 01, "The configuration image", the table), of the search for a link's
-- number, and of what a call is lent; proved in proofs/Claims.antt.
use Rattle.std.specs.Prelude.{ℕ, ◌+◌, ◌*◌, ◌≤◌, ◌<◌, List, [], ◌∷◌, ◌++◌, ◌↔◌, ◌≡◌, length}
use Rattle.octets.specs.Spelled.{Part, part, spelled, Fit}
use Rattle.std.specs.Prelude.{Some, None}
use Rattle.terms.specs.declared.Terms.{Terms}
use Rattle.tables.specs.declared.Link.{Link}
use Rattle.tables.specs.Rows.{account_octets, link_octets, account_table, link_table, account_in, link_in, links_in_use}
use Rattle.tables.specs.Rows.{terms_at, link_at, found, config_of, settings_of, config_for}

-- ---- a row spelled from any values reads back as these values, whatever stands before and after it
-- an account: Smax (2), k (1), J (2), mode (1)
abbrev pub account_parts : Terms → List Part
account_parts p = part 2 p.smax ∷ part 1 p.k ∷ part 2 p.jitter ∷ part 1 p.mode ∷ []

abbrev pub AccountReadsBack : Type 0
AccountReadsBack =
    (p : Terms) (before after : List ℕ) → Fit (account_parts p)
    → (terms_at (before ++ spelled (account_parts p) ++ after) (length before) ≡ p)
    × (length (spelled (account_parts p)) ≡ account_octets)

-- a link: number (2), port (1), mask (4), smallest (2), largest (2), account (2)
abbrev pub link_parts : Link → List Part
link_parts l =
    part 2 l.number ∷ part 1 l.port ∷ part 4 l.mask
    ∷ part 2 l.smallest ∷ part 2 l.largest ∷ part 2 l.account ∷ []

abbrev pub LinkReadsBack : Type 0
LinkReadsBack =
    (l : Link) (before after : List ℕ) → Fit (link_parts l)
    → (link_at (before ++ spelled (link_parts l) ++ after) (length before) ≡ l) × (length (spelled (link_parts l)) ≡ link_octets)

-- the second of two rows, of octets that all differ, in figures
abbrev pub sample_accounts : List ℕ
sample_accounts = 1 ∷ 2 ∷ 3 ∷ 4 ∷ 5 ∷ 6 ∷ 7 ∷ 8 ∷ 9 ∷ 10 ∷ 11 ∷ 12 ∷ []

abbrev pub sample_links : List ℕ
sample_links =
    1 ∷ 2 ∷ 3 ∷ 4 ∷ 5 ∷ 6 ∷ 7 ∷ 8 ∷ 9 ∷ 10 ∷ 11 ∷ 12 ∷ 13
    ∷ 14 ∷ 15 ∷ 16 ∷ 17 ∷ 18 ∷ 19 ∷ 20 ∷ 21 ∷ 22 ∷ 23 ∷ 24 ∷ 25 ∷ 26 ∷ []

abbrev pub RowFigures : Type 0
RowFigures =
    (account_in (account_table sample_accounts) 1 ≡ record { smax = 1800; k = 9; jitter = 2571; mode = 12 })
    × (link_in (link_table sample_links) 1
    ≡ record { number = 3599; port = 16; mask = 286397204; smallest = 5398; largest = 5912; account = 6426 })

-- ---- the search: a row is in use exactly where it is below the count and lent whole
abbrev pub LinksInUseExactly : Type 0
LinksInUseExactly = (links : List ℕ) (count j : ℕ) → (j < links_in_use links count) ↔ ((j < count) × (13 * j + 13 ≤ length links))

-- a row that is found is in use, has the number, and is the first that has the number
abbrev pub FindsFirst : Type 0
FindsFirst =
    (links : List ℕ) (count x i : ℕ) → found links count x ≡ Some i
    → (i < links_in_use links count)
    × ((link_in (link_table links) i).number ≡ x)
    × ((j : ℕ) → j < i → (link_in (link_table links) j).number ≡ x → ⊥)

-- where no row is found, no row in use has the number
abbrev pub FindsNone : Type 0
FindsNone =
    (links : List ℕ) (count x : ℕ) → found links count x ≡ None
    → (j : ℕ) → j < links_in_use links count → (link_in (link_table links) j).number ≡ x → ⊥

-- ---- what a call is lent of tables and settings, each part by its name
abbrev pub ConfigParts : Type 0
ConfigParts =
    (c : ℕ) (accounts : List ℕ) (n : ℕ) (links : List ℕ) (m : ℕ)
    → ((config_of c accounts n links m).constant ≡ c)
    × ((config_of c accounts n links m).accounts ≡ accounts)
    × ((config_of c accounts n links m).count_of_accounts ≡ n)
    × ((config_of c accounts n links m).links ≡ links)
    × ((config_of c accounts n links m).count_of_links ≡ m)

abbrev pub SettingsParts : Type 0
SettingsParts =
    (c n m : ℕ) (accounts links : List ℕ)
    → ((settings_of c n m).constant ≡ c) × ((settings_of c n m).accounts ≡ n) × ((settings_of c n m).links ≡ m)
    × (config_for (settings_of c n m) accounts links ≡ config_of c accounts n links m)
