-- Rows of accounts and links in octets, in the order of the image's data (document 01, "The configuration image", the table), and
-- the tables that the writer and a frame call are lent.
use Rattle.std.specs.Prelude.{ℕ, ◌+◌, List, length, get_or, Option}
use Rattle.octets.specs.Numbers.{number_at}
use Rattle.rows.specs.Rows.{Rows, table_of, row_offset, in_use, found_in}
use Rattle.rows.specs.Rows.{Found}
use Rattle.std.specs.Prelude.{Some, None}
use Rattle.terms.specs.declared.Terms.{Terms}
use Rattle.tables.specs.declared.Link.{Link}
use Rattle.tables.specs.declared.Settings.{Settings}

-- the account whose octets start at an offset: Smax (2), k (1), J (2), mode (1)
abbrev pub account_octets : ℕ
account_octets = 6

unfoldable pub terms_at : List ℕ → ℕ → Terms
terms_at s at = record { smax = number_at 2 s at; k = get_or s (at + 2) 0; jitter = number_at 2 s (at + 3); mode = get_or s (at + 5) 0 }

-- the link whose octets start at an offset: number (2), port (1), mask (4), smallest (2), largest (2), account (2)
abbrev pub link_octets : ℕ
link_octets = 13

unfoldable pub link_at : List ℕ → ℕ → Link
link_at s at =
    record {
      number = number_at 2 s at;
      port = get_or s (at + 2) 0;
      mask = number_at 4 s (at + 3);
      smallest = number_at 2 s (at + 7);
      largest = number_at 2 s (at + 9);
      account = number_at 2 s (at + 11);
    }

-- account i and link j of rows at equal distances: in a table rows touch, in an image a field's tag and length stand
-- between two rows
abbrev pub account_in : Rows → ℕ → Terms
account_in r i = terms_at r.octets (row_offset r i)

abbrev pub link_in : Rows → ℕ → Link
link_in r j = link_at r.octets (row_offset r j)

-- a table of accounts and one of links
abbrev pub account_table : List ℕ → Rows
account_table s = table_of account_octets s

abbrev pub link_table : List ℕ → Rows
link_table s = table_of link_octets s

-- link rows in use ("Accounts and links"): a count larger than the rows lent is read as their number; a row that is
-- lent in part is not in use
abbrev pub links_in_use : List ℕ → ℕ → ℕ
links_in_use links count = in_use link_octets (length links) count

-- the first of the rows in use that has a number ("Codes, in order of checking": the first row counts)
abbrev pub found : List ℕ → ℕ → ℕ → Found
found links count x = found_in (link_table links) (links_in_use links count) x

-- the link of the row found, if a row is found
abbrev pub lookup_in : List ℕ → Found → Option Link
lookup_in links (Some j) = Some (link_in (link_table links) j)
lookup_in links None = None

-- the constant field, the two tables and their counts: what an image is written from, and what a frame call is lent
pub record Config : Type 0 where
  pub constant : ℕ
  pub accounts : List ℕ
  pub count_of_accounts : ℕ
  pub links : List ℕ
  pub count_of_links : ℕ

abbrev pub config_of : ℕ → List ℕ → ℕ → List ℕ → ℕ → Config
config_of c accounts n links m = record { constant = c; accounts = accounts; count_of_accounts = n; links = links; count_of_links = m }

-- the constant field and the counts as loading answers them
abbrev pub settings_of : ℕ → ℕ → ℕ → Settings
settings_of c n m = record { constant = c; accounts = n; links = m }

-- what a frame call is lent ("Accounts and links"): the settings, with the tables that loading filled
abbrev pub config_for : Settings → List ℕ → List ℕ → Config
config_for q accounts links = config_of q.constant accounts q.accounts links q.links
