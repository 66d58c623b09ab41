-- Numbers spelled in octets, the high octet first, as document 01 has numbers ("What the box covers", byte order). One
-- definition serves every width.
use Rattle.std.specs.Prelude.{ℕ, zero, suc, ◌+◌, ◌*◌, ◌/◌, ◌%◌, List, [], ◌∷◌, ◌++◌, get_or}

-- the number of the w octets from an offset on; an octet past the end counts as 0
unfoldable pub number_at : ℕ → List ℕ → ℕ → ℕ
number_at zero s at = 0
number_at (suc w) s at = number_at w s at * 256 + get_or s (at + w) 0

-- the w octets that spell x
unfoldable pub octets_of : ℕ → ℕ → List ℕ
octets_of zero x = []
octets_of (suc w) x = octets_of w (x / 256) ++ (x % 256 ∷ [])
