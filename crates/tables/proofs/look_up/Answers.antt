-- `look_up`: the row found, which lies inside the run. Assumes nothing.
use Prim.Native.Nat.{◌+◌, ◌*◌, ◌≤◌}
use native.Mathlib.Omega.{arith}
use lib.ListN.{length}
use Rattle.tables.specs.Rows.{link_octets}
use Rattle.tables.proofs.Lookups.{found_inside}
use Rattle.tables.proofs.look_up.Goals as goal
use Rattle.tables.proofs.look_up.Goals.{In_ok-row}

inside : (c : In_ok-row) → link_octets * c.in_ok-row.row + link_octets ≤ length c.args.links.now
inside c = found_inside _ _ _ _ c.find.ensures _ c.in_ok-row.was

pub overflow_mul-at : goal.overflow_mul-at
overflow_mul-at c = omega (arith, inside c)

pub overflow_add-at : goal.overflow_add-at
overflow_add-at c = omega (arith, inside c)

pub slice_bounds-of_octets-end : goal.slice_bounds-of_octets-end
slice_bounds-of_octets-end c = omega (arith, inside c)
