-- `good_link`: a field that stands whole, then its number and its values. Assumes nothing.
use mathlib.Core.Path.{ap}
use native.Mathlib.Omega.{arith}
use Rattle.tables.specs.declared.Link.{Link}
use Rattle.tables_rules.proofs.Rules.{link_falls, link_values}
use Rattle.image_read.proofs.Passing.{link_unlike, link_valued}
use Rattle.image_read.proofs.Values.{inside, link_in_lem}
use Rattle.image_read.proofs.field.good_link.Goals as goal

pub returns-then-not-stands : goal.returns-then-not-stands
returns-then-not-stands c = search link_unlike

pub overflow_add-row : goal.overflow_add-row
overflow_add-row c = omega (arith, inside _ _ _ _ _ c.stands.ensures c.if-not-stands.false)

pub overflow_add-row-2 : goal.overflow_add-row-2
overflow_add-row-2 c = omega (arith, inside _ _ _ _ _ c.stands.ensures c.if-not-stands.false)

pub slice_bounds-of_octets-end : goal.slice_bounds-of_octets-end
slice_bounds-of_octets-end c = omega (arith, inside _ _ _ _ _ c.stands.ensures c.if-not-stands.false)

pub number_rises-requires : goal.number_rises-requires
number_rises-requires c = ap (λ (l : Link). l.number) (link_in_lem _ _ _ _ c.field_offset-at.ensures _ c.of_octets-link.ensures)

pub returns-then-not-number_rises : goal.returns-then-not-number_rises
returns-then-not-number_rises c = search (link_valued, link_falls)

pub returns : goal.returns
returns c = search (link_valued, link_values, link_in_lem)
