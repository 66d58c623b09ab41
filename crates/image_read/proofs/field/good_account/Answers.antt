-- `good_account`: a field that stands whole, then its values. Assumes nothing.
use native.Mathlib.Omega.{arith}
use Rattle.image_read.proofs.Passing.{account_unlike, account_valued}
use Rattle.image_read.proofs.Values.{inside, account_values}
use Rattle.image_read.proofs.field.good_account.Goals as goal

pub returns-then-not-stands : goal.returns-then-not-stands
returns-then-not-stands c = search account_unlike

pub overflow_add-row : goal.overflow_add-row
overflow_add-row c = omega (arith, inside _ _ _ _ _ c.stands.ensures c.if-not-stands.false)

pub overflow_add-row-2 : goal.overflow_add-row-2
overflow_add-row-2 c = omega (arith, inside _ _ _ _ _ c.stands.ensures c.if-not-stands.false)

pub slice_bounds-of_octets-end : goal.slice_bounds-of_octets-end
slice_bounds-of_octets-end c = omega (arith, inside _ _ _ _ _ c.stands.ensures c.if-not-stands.false)

pub returns : goal.returns
returns c = search (account_valued, account_values)
