-- `find`: the search among the rows in use, which lie inside the run. Assumes nothing.
use Prim.Native.Nat.{ℕ, ◌+◌}
use mathlib.Core.Path.{ap, ◌∙◌}
use Rattle.rows.specs.Rows.{number_octets, table_of, found_in}
use Rattle.rows.proofs.Rows.{rows_inside}
use borrow.Author.Rules.{rules}
use Rattle.rows.proofs.find.Goals as goal

pub search-requires : goal.search-requires
search-requires c = search (rows_inside, rules)

pub returns : goal.returns
returns c =
    let a = c.args in
    c.search.ensures ∙ ap (λ (n : ℕ). found_in (table_of (number_octets + a.rest) a.rows.now) n a.number) c.min-used.ensures
