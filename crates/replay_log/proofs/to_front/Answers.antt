-- `to_front`: the octets at hand are moved, and zeros put after them. Assumes nothing.
use Rattle.replay_log.proofs.Front.{front_moved}
use Rattle.replay_log.proofs.to_front.Goals as goal

pub returns : goal.returns
returns c =
    front_moved _ _ _ _ _ c.if-log-size.false c.min-start.ensures c.min-n.ensures _ _ c.copy_within.ensures.after
    (c.fill.ensures.after (λ y h. h))
