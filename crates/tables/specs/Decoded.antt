-- What a row says is settled by its own octets.
use Rattle.std.specs.Prelude.{ℕ, ◌+◌, ◌<◌, ◌≡◌, List, get_or}

-- what is decoded from an offset on depends on w octets alone
abbrev pub ReadByOctets : {A : Type 0} → ℕ → (List ℕ → ℕ → A) → Type 0
ReadByOctets w decoded =
    (s t : List ℕ) (a b : ℕ) → ((k : ℕ) → k < w → get_or s (a + k) 0 ≡ get_or t (b + k) 0)
    → decoded s a ≡ decoded t b
