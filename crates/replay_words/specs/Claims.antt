-- What holds of the digits of any number of 64 bits (document 01, "The replay program"); proved in proofs/Claims.antt.
use Rattle.std.specs.Prelude.{ℕ, ◌^◌, ◌≤◌, ◌<◌, List, [], ◌∷◌, map, ◌≡◌, get_or}
use Rattle.replay_words.specs.Digits.{zero_char, width_of, decimal_of, digits_read}
use Rattle.replay_words.specs.Words.{word_of, appended_of, appended}

-- the digits of a number of 64 bits spell it, with no leading zero
abbrev pub DigitsReadBack : Type 0
DigitsReadBack = (x : ℕ) → x < 2 ^ 64 → digits_read (width_of x) (decimal_of x) ≡ x

abbrev pub NoLeadingZero : Type 0
NoLeadingZero = (x : ℕ) → x < 2 ^ 64 → (x < 10 → width_of x ≡ 1) × (10 ≤ x → get_or (decimal_of x) 0 0 ≡ zero_char → ⊥)

-- digits as characters: 0 to 9 are 48 to 57; 10, 907 and the largest number of 64 bits
abbrev pub DigitFigures : Type 0
DigitFigures =
    (map decimal_of (0 ∷ 1 ∷ 8 ∷ 9 ∷ 10 ∷ 907 ∷ [])
    ≡ (48 ∷ []) ∷ (49 ∷ []) ∷ (56 ∷ []) ∷ (57 ∷ []) ∷ (49 ∷ 48 ∷ []) ∷ (57 ∷ 48 ∷ 55 ∷ []) ∷ [])
    × (decimal_of 18446744073709551615
    ≡ 49 ∷ 56 ∷ 52 ∷ 52 ∷ 54 ∷ 55 ∷ 52 ∷ 52 ∷ 48 ∷ 55 ∷ 51 ∷ 55 ∷ 48 ∷ 57 ∷ 53 ∷ 53 ∷ 49 ∷ 54 ∷ 49 ∷ 53 ∷ [])

-- a word is its digits and the character after them; appended where the room has octets for all of it, else nothing is
abbrev pub WordFigures : Type 0
WordFigures =
    (word_of 26 32 ≡ 50 ∷ 54 ∷ 32 ∷ [])
    × ((next : ℕ) (room : List ℕ) → ((appended_of next room).next ≡ next) × ((appended_of next room).room ≡ room))
    × (appended (1 ∷ 2 ∷ 3 ∷ 4 ∷ []) 1 (word_of 7 32) ≡ appended_of 3 (1 ∷ 55 ∷ 32 ∷ 4 ∷ []))
    × (appended (1 ∷ 2 ∷ 3 ∷ 4 ∷ []) 2 (word_of 7 32) ≡ appended_of 4 (1 ∷ 2 ∷ 55 ∷ 32 ∷ []))
    × (appended (1 ∷ 2 ∷ 3 ∷ 4 ∷ []) 3 (word_of 7 32) ≡ appended_of 3 (1 ∷ 2 ∷ 3 ∷ 4 ∷ []))
