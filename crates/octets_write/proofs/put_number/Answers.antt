-- `put_number`: nothing without room, else the part that is lent is spelled. Assumes nothing.
use Prim.Native.Nat.{◌+◌, ◌≤◌}
use mathlib.Core.Path.{◌≡◌, sym, ◌∙◌}
use lib.ListN.{length}
use Rattle.octets.specs.Numbers.{octets_of}
use native.Mathlib.Omega.{arith}
use Rattle.octets.proofs.Numbers.{length_octets}
use Rattle.octets.proofs.Runs.{put_all, put_refused, length_lent, put_lent}
use Rattle.octets.proofs.Tests.{fits}
use Rattle.octets_write.proofs.put_number.Goals as goal

pub returns-then-has_room : goal.returns-then-has_room
returns-then-has_room g c =
    let w = g.N.Number.OCTETS in
    let x = g.N.Number.value c.args.number in
    let h : c.args.at + c.OCTETS-width.result ≤ length c.args.to.now = fits _ _ _ _ c.has_room.ensures c.if-has_room.true in
    let l : length (octets_of w x) ≡ c.OCTETS-width.result = omega (arith, length_octets w x, c.OCTETS-width.ensures) in
    put_lent _ _ _ h (c.spell.ensures ∙ put_all _ _ (l ∙ sym (length_lent _ _ _ h))) l

pub returns-else-has_room : goal.returns-else-has_room
returns-else-has_room g c =
    let w = g.N.Number.OCTETS in
    let x = g.N.Number.value c.args.number in
    put_refused _ _ _ _ _ c.has_room.ensures (omega (arith, length_octets w x, c.OCTETS-width.ensures)) c.if-has_room.false
