-- `copy`: nothing without room, else the part that is lent is filled. Assumes nothing.
use Rattle.octets.proofs.Parts.{length_part}
use Rattle.octets.proofs.Runs.{put_refused, length_lent, put_lent}
use Rattle.octets.proofs.Tests.{fits}
use Rattle.octets_write.proofs.copy.Goals as goal

pub returns-then-not-has_room : goal.returns-then-not-has_room
returns-then-not-has_room c = search (put_refused, length_part)

pub returns-then-has_room : goal.returns-then-has_room
returns-then-has_room c =
    let a = c.args in
    let h = fits _ _ _ _ c.has_room.ensures c.if-not-has_room.false in
    put_lent a.to.now a.offset a.size h (rw (length_lent a.to.now a.offset a.size h) at c.copy_whole.ensures) (length_part a.size a.from.now a.at)

pub returns-else-has_room : goal.returns-else-has_room
returns-else-has_room c =
    let a = c.args in
    let h = fits _ _ _ _ c.has_room.ensures c.if-not-has_room.false in
    put_lent a.to.now a.offset a.size h (rw (length_lent a.to.now a.offset a.size h) at c.copy_padded.ensures) (length_part a.size a.from.now a.at)
