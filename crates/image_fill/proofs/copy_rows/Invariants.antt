-- `copy_rows`: the first i rows are written. Assumes nothing.
use Rattle.rows.specs.Rows.{row_octets}
use Rattle.rows.specs.Spaced.{rows_of}
use Rattle.octets.proofs.Filled.{Filled}
use Rattle.image_fill.proofs.copy_rows.Given as goal

abbrev pub invariant-loop-i : goal.invariant-loop-i
invariant-loop-i g l = Filled l.initial.to 0 g.R.Row.OCTETS (row_octets g.R.Row.OCTETS (rows_of l.from)) l.n l.i l.to
