-- `put_image`: nothing without room, else head, accounts, links and end side by side. Assumes nothing.
use native.Mathlib.Omega.{arith}
use Rattle.image_octets.proofs.Written.{image_refused, image_written}
use Rattle.image_octets.proofs.put_image.Goals as goal

pub returns-then-room-data_offset : goal.returns-then-room-data_offset
returns-then-room-data_offset c = search image_refused

pub returns : goal.returns
returns c =
    image_written _ _ _ _ _ _ _ _ _ (omega arith)
    c.field_offset.ensures c.field_offset-2.ensures c.field_offset-3.ensures
    c.put_head.ensures c.put_fields.ensures c.put_fields-2.ensures c.put_field.ensures
