-- The rows that a struct with its run of octets stands for.
use Rattle.rows.specs.Rows.{Rows, spaced}
use Rattle.rows.specs.declared.SpacedRows.{SpacedRows}

abbrev pub rows_of : SpacedRows → Rows
rows_of r = spaced r.octets.now r.first r.step
