-- `put_field`: nothing without room, else tag, length and data side by side. Assumes nothing.
use Prim.Native.Nat.{◌+◌, ◌≤◌}
use lib.ListN.{length}
use Rattle.octets.proofs.Parts.{length_part}
use Rattle.octets.proofs.Runs.{put_refused}
use Rattle.octets.proofs.Tests.{fits}
use Rattle.fields.specs.Fields.{tag_and_length}
use Rattle.image_octets.proofs.Written.{length_sized, field_written}
use Rattle.image_octets.proofs.put_field.Goals as goal
use Rattle.image_octets.proofs.put_field.Goals.{Else-not-has_room}

-- there is room after the test
room : (c : Else-not-has_room) → c.args.at + (tag_and_length + c.args.size) ≤ length c.args.room.now
room c = fits _ _ _ _ c.has_room.ensures c.if-not-has_room.false

pub returns-then-not-has_room : goal.returns-then-not-has_room
returns-then-not-has_room c = search (put_refused, length_sized)

pub returns : goal.returns
returns c =
    field_written _ _ _ _ _ _ _ (length_part _ _ _) (room (goal.at.returns c).Else-not-has_room) c.put_number.ensures c.copy.ensures
