-- `number_at`: the octets that are there, from an offset that is cut to the end. Assumes nothing.
use mathlib.Core.Path.{◌∙◌, ap}
use Rattle.std.proofs.lemmas.List.{take_rest}
use Rattle.octets.specs.Numbers.{number_at}
use Rattle.octets.proofs.Parts.{number_from}
use Rattle.octets.proofs.number_at.Goals as goal

pub returns : goal.returns
returns g c =
    c.of_octets-2.ensures
    ∙ ap (λ xs. number_at g.N.Number.OCTETS xs 0) (take_rest c.args.s.now c.min.result)
    ∙ number_from _ _ _ c.min.ensures
