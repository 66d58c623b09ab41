-- `clear_lasts`: nothing without room, else zeros. Assumes nothing.
use Rattle.std.proofs.Common.{rules}
use Rattle.image_fill.proofs.Filling.{lasts_kept, lasts_cleared}
use Rattle.image_fill.proofs.clear_lasts.Goals as goal

pub returns-then-lasts-n : goal.returns-then-lasts-n
returns-then-lasts-n c = lasts_kept _ _ c.if-lasts-n.true

pub returns : goal.returns
returns c = lasts_cleared _ _ _ c.if-lasts-n.false (c.fill.ensures.after (λ y e. search rules))
