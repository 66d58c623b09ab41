-- `search`: two rows a turn, then the one row that may be left. Assumes nothing.
use Prim.Native.Nat.{ℕ, ◌+◌, ◌-◌, ◌*◌, ◌/◌, ◌%◌, ◌≤◌}
use mathlib.Core.Path.{◌≡◌}
use native.Mathlib.Omega.{arith}
use Rattle.lists.proofs.Leading.{leading_zero}
use Rattle.rows.proofs.Finding.{search_on, search_hit, search_miss}
use Rattle.rows.proofs.search.Goals as goal

pub loop-pair-init : goal.loop-pair-init
loop-pair-init c = leading_zero _

pub returns-then-number_in-number : goal.returns-then-number_in-number
returns-then-number_in-number c =
    search_hit _ _ _ _ _ c.loop-pair.invariant (omega arith) _ c.number_in.ensures c.if-number_in-number.true

pub returns-then-number_in-number-2 : goal.returns-then-number_in-number-2
returns-then-number_in-number-2 c =
    search_hit _ _ _ _ _ (search_on _ _ _ c.args.used _ c.loop-pair.invariant (omega arith) _ c.number_in.ensures c.if-number_in-number.false)
    (omega arith) _ c.number_in-in-loop-pair.ensures c.if-number_in-number-2.true

pub loop-pair-preserved : goal.loop-pair-preserved
loop-pair-preserved c =
    let i : ℕ = 2 * c.loop-pair.pair in
    let e : i + 1 + 1 ≡ 2 * (c.loop-pair.pair + 1) = omega arith in
    rw (← e)
    (search_on _ _ _ c.args.used _
    (search_on _ _ _ c.args.used _ c.loop-pair.invariant (omega arith) _ c.number_in.ensures c.if-number_in-number.false)
    (omega arith) _ c.number_in-in-loop-pair.ensures c.if-number_in-number-2.false)

-- after the last turn of an odd number of rows the last row is left
left : (used pair : ℕ) → pair ≤ used / 2 → used / 2 ≤ pair → (used % 2 ≡ 0 → ⊥) → 2 * pair ≡ used - 1
left used pair a b odd = omega (arith, odd)

even : (used pair : ℕ) → pair ≤ used / 2 → used / 2 ≤ pair → used % 2 ≡ 0 → 2 * pair ≡ used
even used pair a b e = omega arith

pub returns-then-used-eq0 : goal.returns-then-used-eq0
returns-then-used-eq0 c =
    search_miss _ _ _ _ _ c.loop-pair.invariant (even _ _ c.loop-pair.auto.pair-end c.loop-pair-test.false c.if-used-eq0.true)

pub returns-then-number_in-number-3 : goal.returns-then-number_in-number-3
returns-then-number_in-number-3 c =
    let e : 2 * c.loop-pair.pair ≡ c.args.used - 1 =
    left _ _ c.loop-pair.auto.pair-end c.loop-pair-test.false c.if-used-eq0.false in
    rw (← e)
    (search_hit _ _ _ _ _ c.loop-pair.invariant (omega arith) _ (rw e c.number_in-2.ensures) c.if-number_in-number-3.true)

pub returns : goal.returns
returns c =
    let e : 2 * c.loop-pair.pair ≡ c.args.used - 1 =
    left _ _ c.loop-pair.auto.pair-end c.loop-pair-test.false c.if-used-eq0.false in
    search_miss _ _ _ _ _
    (search_on _ _ _ c.args.used _ c.loop-pair.invariant (omega arith) _ (rw e c.number_in-2.ensures) c.if-number_in-number-3.false)
    (omega arith)
