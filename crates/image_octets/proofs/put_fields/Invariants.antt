-- `put_fields`: nothing without room, else field by field. The loop's invariant: the first i fields are written. Assumes nothing.
use Prim.Native.Nat.{◌+◌}
use Rattle.octets.proofs.Filled.{Filled}
use Rattle.fields.specs.Fields.{tag_and_length}
use Rattle.image_octets.proofs.Written.{row_field}
use Rattle.image_octets.proofs.put_fields.Given as goal

abbrev pub invariant-loop-i : goal.invariant-loop-i
invariant-loop-i l = Filled l.initial.room l.at (tag_and_length + l.size) (row_field l.tag l.size l.rows) l.n l.i l.room
