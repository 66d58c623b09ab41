-- `count_leading`: the count goes on at an item that passes, and stops at one that fails. Assumes nothing.
use native.Mathlib.Numerals.{add-one}
use Rattle.lists.proofs.Leading.{leading_zero, count_stops, count_goes_on}
use Rattle.lists.proofs.count_leading.Goals as goal

pub loop-i-init : goal.loop-i-init
loop-i-init g c = leading_zero _

pub returns-then-not-passes : goal.returns-then-not-passes
returns-then-not-passes g c = search count_stops

pub loop-i-preserved : goal.loop-i-preserved
loop-i-preserved g c = rw (add-one c.loop-i.i) (search count_goes_on)
