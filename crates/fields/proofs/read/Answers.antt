-- `read`: part by part. Assumes nothing.
use mathlib.Core.Path.{◌∙◌}
use native.Mathlib.Omega.{arith}
use Rattle.fields.proofs.Fields.{field_is, number_cut}
use Rattle.fields.proofs.read.Goals as goal

pub returns : goal.returns
returns c =
    let a = c.args in
    let n = c.number_at-size.ensures ∙ number_cut 2 a.run.now _ _ _ c.saturating_add.ensures (omega arith) in
    field_is a.run.now a.at _ _ _ _ c.has_room.ensures c.octet_at.ensures n c.has_room-2.ensures
