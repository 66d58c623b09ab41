-- `fill_credits`: the first i credits are stored. Assumes nothing.
use Rattle.rows.specs.Spaced.{rows_of}
use Rattle.octets.proofs.Filled.{Filled}
use Rattle.image_fill.proofs.Filling.{row_capacity}
use Rattle.image_fill.proofs.fill_credits.Given as goal

abbrev pub invariant-loop-i : goal.invariant-loop-i
invariant-loop-i l = Filled l.initial.credits 0 1 (row_capacity (rows_of l.accounts)) l.n l.i l.credits
