-- `write`: the counts, the values, the room, and then the image. Assumes nothing.
use mathlib.Core.Path.{sym, ◌∙◌}
use native.Mathlib.Omega.{arith}
use Rattle.image_write.proofs.Writing.{accounts_counted, links_counted, write_no_room, write_done}
use Rattle.image_write.proofs.write.Goals as goal

pub overflow_cast-n : goal.overflow_cast-n
overflow_cast-n c = let h = (accounts_counted _ _ _ _ (sym c.counts_good.ensures ∙ c.if-not-counts_good.false)).few in omega arith

pub overflow_cast-m : goal.overflow_cast-m
overflow_cast-m c = let h = (links_counted _ _ _ _ (sym c.counts_good.ensures ∙ c.if-not-counts_good.false)).few in omega arith

pub returns-then-room-size : goal.returns-then-room-size
returns-then-room-size c =
    write_no_room _ _ _ c.counts_good.ensures c.if-not-counts_good.false _ c.in_ok-size.ensures c.if-room-size.true

pub returns : goal.returns
returns c =
    write_done _ _ _ c.counts_good.ensures c.if-not-counts_good.false _ c.in_ok-size.ensures c.if-room-size.false _ c.put_image.ensures
