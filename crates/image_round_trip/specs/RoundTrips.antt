-- Demand 2: the round trips, both ways, over the layout and through the very definitions that the contracts of `load` and `write`
-- cite; proved in proofs/RoundTrips.antt.
use Rattle.std.specs.Prelude.{ℕ, ◌*◌, ◌^◌, ◌≤◌, ◌<◌, true, List, ◌≡◌, length, get_or, take, replicate}
use Rattle.octets.specs.Runs.{put}
use Rattle.tables.specs.Rows.{Config, account_octets, link_octets, account_table, config_for, settings_of}
use Rattle.image_layout.specs.Layout.{image_of}
use Rattle.image_read.specs.Read.{read_image}
use Rattle.image_load.specs.Loading.{Loading, loading_of, loading}
use Rattle.image_fill.specs.Filling.{Runs, runs_of, long_enough, account_rows, link_rows, capacities}
use Rattle.image_write.specs.Writing.{counts_good, value_answer, written_of, writing_of, writing}

-- ---- the octets that are accepted are the images of good tables, and no others

-- the tables that accepted octets name
abbrev pub tables_in : List ℕ → Config
tables_in s =
    config_for (read_image s).settings
    (account_rows s (read_image s).settings.accounts)
    (link_rows s (read_image s).settings.accounts (read_image s).settings.links)

-- accepted octets are the image of the tables that they name, and the image of good tables is accepted; good tables are
-- those with neither a bad count nor a bad value
abbrev pub AcceptedIsImage : Type 0
AcceptedIsImage =
    (s : List ℕ) → ((i : ℕ) → get_or s i 0 < 256) → (read_image s).code ≡ 0
    → (image_of (tables_in s) ≡ s)
    × (counts_good (tables_in s).accounts (tables_in s).count_of_accounts (tables_in s).links (tables_in s).count_of_links ≡ true)
    × ((value_answer (tables_in s)).code ≡ 0)

abbrev pub ImageIsAccepted : Type 0
ImageIsAccepted =
    (g : Config) → g.constant < 2 ^ 32 → counts_good g.accounts g.count_of_accounts g.links g.count_of_links ≡ true → (value_answer g).code ≡ 0
    → read_image (image_of g)
    ≡ record { code = 0; offset = length (image_of g); settings = settings_of g.constant g.count_of_accounts g.count_of_links }

-- ---- write, then read

-- the octets that were written: as many of the room's first octets as writing answers
abbrev pub written_image : Config → List ℕ → List ℕ
written_image g d = take (writing g d).answer.offset (writing g d).room

-- what loading such an image answers and leaves: the tables' constant field, counts and rows, credits at capacity, last
-- times 0
unfoldable pub read_back : Config → Runs → Loading
read_back g r =
    loading_of
    (record { code = 0; offset = length (image_of g); settings = settings_of g.constant g.count_of_accounts g.count_of_links })
    (runs_of
    (put r.accounts 0 (take (account_octets * g.count_of_accounts) g.accounts))
    (put r.credits 0 (capacities (account_table g.accounts) g.count_of_accounts))
    (put r.lasts 0 (replicate g.count_of_accounts 0))
    (put r.links 0 (take (link_octets * g.count_of_links) g.links)))

-- the image of any tables that the writer accepts loads as these tables, whatever rows lie beyond the counts, for any
-- room and any runs that are long enough; the constant field has 32 bits
abbrev pub WriteRead : Type 0
WriteRead =
    (g : Config) (d : List ℕ) (r : Runs) → g.constant < 2 ^ 32 → (writing g d).answer.code ≡ 0
    → long_enough g.count_of_accounts g.count_of_links r ≡ true
    → loading (written_image g d) r ≡ read_back g r

-- ---- read, then write

-- the tables that loading left, with the settings that loading answered
abbrev pub loaded_tables : List ℕ → Runs → Config
loaded_tables s r = config_for (loading s r).answer.settings (loading s r).runs.accounts (loading s r).runs.links

-- any octets that load, into any runs, are written again octet for octet into any room that is long enough; the room
-- beyond them is unchanged
abbrev pub ReadWrite : Type 0
ReadWrite =
    (s : List ℕ) (r : Runs) (d : List ℕ) → ((i : ℕ) → get_or s i 0 < 256) → (loading s r).answer.code ≡ 0 → length s ≤ length d
    → writing (loaded_tables s r) d ≡ writing_of (written_of 0 (length s)) (put d 0 s)
