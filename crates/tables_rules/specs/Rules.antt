-- The value rules of an account row and of a link row (document 01, "Accounts and links" and "The configuration image").
-- Reading and writing an image answer 23 by `account_good` and `link_good`; code 10 of a frame call is about the same rows,
-- whatever their order.
use Rattle.std.specs.Prelude.{ℕ, ◌-◌, ◌/◌, ◌%◌, ◌^◌, Bool, true, not, ◌&&◌, ltb, leb, eqb}
use Rattle.std.specs.Prelude.{if◌then◌else◌}
use Rattle.frame.specs.Limits.{smallest_frame}
use Rattle.terms.specs.Terms.{terms_good}
use Rattle.rows.specs.Rows.{Rows}
use Rattle.tables.specs.Rows.{account_in, link_in}
use Rattle.tables.specs.declared.Link.{Link}

-- ports of a switch
abbrev pub port_count : ℕ
port_count = 32

-- whether a port is an input port, and a mask names some output port and not the input port, bit p for port p
unfoldable pub ports_sound : ℕ → ℕ → Bool
ports_sound port mask = ltb port port_count && not (eqb mask 0) && eqb (mask / 2 ^ port % 2) 0

-- whether sizes rise: the smallest frame, the link's smallest, the link's largest, the account's Smax, each at most the
-- next
unfoldable pub sizes_sound : ℕ → ℕ → ℕ → Bool
sizes_sound smallest largest smax = leb smallest_frame smallest && leb smallest largest && leb largest smax

-- whether a link's values keep their rules among n accounts; `smax` is the Smax of the link's own account
unfoldable pub link_sound : Link → ℕ → ℕ → Bool
link_sound l n smax = ltb l.account n && ports_sound l.port l.mask && sizes_sound l.smallest l.largest smax

-- whether the values of row i of the accounts keep their limits
unfoldable pub account_good : Rows → ℕ → Bool
account_good a i = terms_good (account_in a i)

-- whether row j of the links keeps its rules among n accounts, by the Smax in the row of the link's own account
abbrev pub link_row_sound : Rows → Rows → ℕ → ℕ → Bool
link_row_sound a l n j = link_sound (link_in l j) n (account_in a (link_in l j).account).smax

-- whether the number of link row j is above that of the row before it
unfoldable pub number_rises : Rows → ℕ → Bool
number_rises l j = if eqb j 0 then true else ltb (link_in l (j - 1)).number (link_in l j).number

-- whether the values of row j of the links keep their rules and the number rises
unfoldable pub link_good : Rows → Rows → ℕ → ℕ → Bool
link_good a l n j = number_rises l j && link_row_sound a l n j
