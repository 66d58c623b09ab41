-- `row_at`: the octets that are there, from an offset that is cut to the end. Assumes nothing.
use mathlib.Core.Path.{◌∙◌}
use Rattle.tables.proofs.Rows.{read_from}
use Rattle.tables.proofs.row_at.Goals as goal

pub returns : goal.returns
returns g c = c.of_octets-2.ensures ∙ read_from _ _ g.met.R.Row.read_by_octets _ _ _ c.min.ensures
