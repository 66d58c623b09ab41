-- Laws of the link that a number leads to. Assumes nothing.
use Prim.Native.Nat.{ℕ, ◌+◌, ◌*◌, ◌≤◌}
use mathlib.Core.List.{List}
use mathlib.Core.Path.{◌≡◌, refl, sym, ◌∙◌}
use lib.ListN.{length}
use Rattle.std.specs.Prelude.{Some}
use Rattle.rows.specs.Rows.{Found}
use Rattle.rows.proofs.Finding.{first_found}
use Rattle.rows.proofs.Rows.{row_inside}
use Rattle.tables.specs.Rows.{link_octets, link_table, links_in_use, found}

-- a row that is found lies inside the run
pub found_inside : (links : List ℕ) (count x : ℕ) (d : Found) → d ≡ found links count x → (j : ℕ) → d ≡ Some j → link_octets * j + link_octets ≤ length links
found_inside links count x d e j r =
    row_inside link_octets (length links) count (links_in_use links count) refl j (first_found (link_table links) (links_in_use links count) x j (sym e ∙ r)).0
