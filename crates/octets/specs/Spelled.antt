-- Numbers spelled one after the other, each in octets of its own: a row, the head of a frame and the head of a record
-- are made of their values in this way (document 01, "The frame", "The configuration image" and "The replay program").
use Rattle.std.specs.Prelude.{ℕ, ◌^◌, ◌<◌, List, [], ◌∷◌, ◌++◌}
use Rattle.octets.specs.Numbers.{octets_of}

-- a value and the octets that it takes
pub record Part : Type 0 where
  pub octets : ℕ
  pub value : ℕ

abbrev pub part : ℕ → ℕ → Part
part w x = record { octets = w; value = x }

unfoldable pub spelled : List Part → List ℕ
spelled [] = []
spelled (p ∷ ps) = octets_of p.octets p.value ++ spelled ps

-- whether every value fits its octets
abbrev pub Fit : List Part → Type 0
Fit [] = Unit {0}
Fit (p ∷ ps) = (p.value < 256 ^ p.octets) × Fit ps
