use Rattle.std.proofs.Common.{ℕ, true, ◌<◌}
use Rattle.lists.proofs.closures.first_failing.Given as goal

abbrev pub invariant-loop-i : goal.invariant-loop-i
invariant-loop-i g l = (k : ℕ) → k < l.i → goal.F-post g l.passes k true
