use Rattle.std.proofs.Common.{◌≡◌}
use Rattle.lists.specs.Leading.{leading}
use Rattle.lists.proofs.count_leading.Given as goal

-- all items so far pass
abbrev pub invariant-loop-i : goal.invariant-loop-i
invariant-loop-i g l = leading (g.T.Test.passes l.test) l.i ≡ l.i
