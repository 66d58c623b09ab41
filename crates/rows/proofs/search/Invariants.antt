-- `search`: two rows a turn, then the one row that may be left. The loop's invariant: none of the rows of earlier turns has
-- the number. Assumes nothing.
use Prim.Native.Nat.{◌*◌}
use mathlib.Core.Path.{◌≡◌}
use Rattle.lists.specs.Leading.{leading}
use Rattle.rows.specs.Rows.{table_of, other_number}
use Rattle.rows.proofs.search.Given as goal

abbrev pub invariant-loop-pair : goal.invariant-loop-pair
invariant-loop-pair l = leading (other_number (table_of l.width l.rows) l.number) (2 * l.pair) ≡ 2 * l.pair
