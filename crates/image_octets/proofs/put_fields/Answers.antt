-- `put_fields`: nothing without room, else field by field. The loop's invariant: the first i fields are written. Assumes nothing.
use mathlib.Core.Path.{refl}
use native.Mathlib.Nat.{zero-add}
use Rattle.octets.proofs.Filled.{fill_start, fill_refused, fill_next, fill_end}
use Rattle.octets.proofs.Tests.{fits}
use Rattle.image_octets.proofs.Written.{length_row_field}
use Rattle.image_octets.proofs.put_fields.Goals as goal

pub returns-then-not-has_room : goal.returns-then-not-has_room
returns-then-not-has_room c = fill_refused _ _ _ _ _ (length_row_field _ _ _) refl c.has_room.ensures c.if-not-has_room.true

pub loop-i-init : goal.loop-i-init
loop-i-init c = search (fill_start, length_row_field, fits)

pub loop-i-preserved : goal.loop-i-preserved
loop-i-preserved c =
    fill_next c.loop-i.invariant c.loop-i-test.true refl
    (rw zero-add) c.put_field.ensures

pub returns : goal.returns
returns c = search fill_end
