-- Rows spelled from their values, and the search for a link's number. Assumes nothing.
use Prim.Native.Nat.{ℕ, ◌<◌}
use mathlib.Core.List.{List, ◌++◌}
use mathlib.Core.Path.{◌≡◌, refl, sym, ap}
use native.Mathlib.Omega.{arith}
use lib.ListN.{length}
use Rattle.octets.specs.Numbers.{number_at}
use Rattle.octets.specs.Spelled.{spelled}
use Rattle.octets.proofs.Spelled.{spelled_reads, length_spelled, read_at, octet_at}
use Rattle.rows.specs.Rows.{Rows, found_in}
use Rattle.rows.proofs.Finding.{first_found, none_found, found_same}
use Rattle.tables.specs.Rows.{terms_at, link_at, link_table, link_in, links_in_use}
use Rattle.tables.specs.Claims.{ConfigParts, SettingsParts, account_parts, AccountReadsBack, link_parts, LinkReadsBack, RowFigures, LinksInUseExactly, FindsFirst, FindsNone}
use Rattle.tables.proofs.Rows.{terms_read, link_read}
use Rattle.tables.specs.declared.Link.{Link}

-- rows with the same links give the same answer
pub links_same : (l m : Rows) (n x : ℕ) → ((j : ℕ) → j < n → link_in l j ≡ link_in m j) → found_in l n x ≡ found_in m n x
unfolding link_at
links_same l m n x h = found_same l m n x (λ j k. ap (λ (w : Link). w.number) (h j k))

pub links_in_use_exactly : LinksInUseExactly
links_in_use_exactly links count j = (λ h. (omega arith, omega arith), λ h. omega (arith, h.0, h.1))

-- the number that a row begins with is its link's
pub finds_first : FindsFirst
unfolding link_at
finds_first links count x i = first_found (link_table links) (links_in_use links count) x i

pub finds_none : FindsNone
unfolding link_at
finds_none links count x = none_found (link_table links) (links_in_use links count) x

-- ---- rows spelled from their values
pub account_reads_back : AccountReadsBack
unfolding terms_at
account_reads_back p before after fit =
    let s : List ℕ = before ++ spelled (account_parts p) ++ after in
    let r = spelled_reads (account_parts p) before after fit in (
      sym (terms_read s (length before) p.smax p.k p.jitter p.mode
          (sym r.0)
          (sym (octet_at s r.1.0 (omega arith)))
          (sym (read_at 2 s r.1.1.0 (omega arith)))
          (sym (octet_at s r.1.1.1.0 (omega arith)))),
      length_spelled (account_parts p),
    )

pub link_reads_back : LinkReadsBack
unfolding link_at
link_reads_back l before after fit =
    let s : List ℕ = before ++ spelled (link_parts l) ++ after in
    let r = spelled_reads (link_parts l) before after fit in (
      sym (link_read s (length before) l.number l.port l.mask l.smallest l.largest l.account
          (sym r.0)
          (sym (octet_at s r.1.0 (omega arith)))
          (sym (read_at 4 s r.1.1.0 (omega arith)))
          (sym (read_at 2 s r.1.1.1.0 (omega arith)))
          (sym (read_at 2 s r.1.1.1.1.0 (omega arith)))
          (sym (read_at 2 s r.1.1.1.1.1.0 (omega arith)))),
      length_spelled (link_parts l),
    )

pub row_figures : RowFigures
unfolding number_at terms_at link_at
row_figures = (refl, refl)

pub config_parts : ConfigParts
config_parts c accounts n links m = (refl, refl, refl, refl, refl)

pub settings_parts : SettingsParts
settings_parts c n m accounts links = (refl, refl, refl, refl)
