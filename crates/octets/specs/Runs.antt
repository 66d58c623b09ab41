-- Runs of octets: a part of a run, several runs one after the other, and a run written into a longer run, which is what
-- a write leaves in lent room. Document 01 has no rule of its own for these; an octet past the end counts as 0, and a
-- write without room leaves the run unchanged.
use Rattle.std.specs.Prelude.{ℕ, zero, suc, ◌+◌, List, [], ◌∷◌, ◌++◌, length, get_or, take, drop, leb}
use Rattle.std.specs.Prelude.{if◌then◌else◌}

-- the w octets from an offset on; an octet past the end counts as 0
unfoldable pub octets_at : ℕ → List ℕ → ℕ → List ℕ
octets_at zero s at = []
octets_at (suc w) s at = octets_at w s at ++ (get_or s (at + w) 0 ∷ [])

-- the first n of a list of runs, one after the other
unfoldable pub joined : (ℕ → List ℕ) → ℕ → List ℕ
joined f zero = []
joined f (suc n) = joined f n ++ f n

-- d with xs written from an offset on; d unchanged where it has no room for the whole of xs there
unfoldable pub put : List ℕ → ℕ → List ℕ → List ℕ
put d at xs =
    if leb (at + length xs) (length d)
    then take at d ++ xs ++ drop (at + length xs) d
    else d
