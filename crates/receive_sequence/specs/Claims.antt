-- Figures of sequence numbers (document 02, Q-1); proved in proofs/Claims.antt.
use Rattle.std.specs.Prelude.{ℕ, ◌+◌, ◌<◌, true, false, [], ◌∷◌, map, ◌⊎◌, ◌↔◌, ◌≡◌, Some, None}
use Rattle.receive_sequence.specs.Sequence.{number_count, greatest_number, passes}

-- sequence numbers are octets
abbrev pub NumbersAreOctets : Type 0
NumbersAreOctets = (number_count ≡ 256) × (greatest_number ≡ 255)

-- which of 0, 1, 2, 3, 253, 254 and 255 pass, first and after 0, 252, 253, 254 and 255
abbrev pub PassTable : Type 0
PassTable =
    map (λ last. map (passes last) (0 ∷ 1 ∷ 2 ∷ 3 ∷ 253 ∷ 254 ∷ 255 ∷ []))
    (None ∷ Some 0 ∷ Some 252 ∷ Some 253 ∷ Some 254 ∷ Some 255 ∷ [])
    ≡ (true ∷ true ∷ true ∷ true ∷ true ∷ true ∷ true ∷ [])
    ∷ (true ∷ true ∷ true ∷ false ∷ false ∷ false ∷ false ∷ [])
    ∷ (true ∷ false ∷ false ∷ false ∷ true ∷ true ∷ false ∷ [])
    ∷ (true ∷ false ∷ false ∷ false ∷ false ∷ true ∷ true ∷ [])
    ∷ (true ∷ true ∷ false ∷ false ∷ false ∷ false ∷ true ∷ [])
    ∷ (true ∷ true ∷ true ∷ false ∷ false ∷ false ∷ false ∷ [])
    ∷ []

-- which numbers pass, first and after every last number: 0, and one or two steps on
pub record PassesExactly : Type 0 where
  pub first : (n : ℕ) → passes None n ≡ true
  pub below_254 : (p n : ℕ) → p < 254 → (passes (Some p) n ≡ true) ↔ ((n ≡ 0) ⊎ (n ≡ p + 1) ⊎ (n ≡ p + 2))
  pub after_254 : (n : ℕ) → (passes (Some 254) n ≡ true) ↔ ((n ≡ 0) ⊎ (n ≡ 255) ⊎ (n ≡ 1))
  pub after_255 : (n : ℕ) → (passes (Some 255) n ≡ true) ↔ ((n ≡ 0) ⊎ (n ≡ 1) ⊎ (n ≡ 2))
