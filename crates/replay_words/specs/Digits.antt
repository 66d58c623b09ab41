-- Numbers in decimal digits, as the lines of a replay have them (document 01, "The replay program" and case 14 of its bench
-- sheet).
use Rattle.std.specs.Prelude.{ℕ, zero, suc, ◌+◌, ◌*◌, ◌-◌, ◌/◌, ◌%◌, ◌^◌, List, [], ◌∷◌, ◌++◌, get_or, leb}
use Rattle.lists.specs.Leading.{leading}

-- the character 0; those of the other digits follow it
abbrev pub zero_char : ℕ
zero_char = 48

-- the last w decimal digits of x
unfoldable pub digits_of : ℕ → ℕ → List ℕ
digits_of zero x = []
digits_of (suc w) x = digits_of w (x / 10) ++ ((zero_char + x % 10) ∷ [])

-- a digit more as long as 10 or more are left; 64 bits have 20 digits at most
abbrev pub tens_left : ℕ → ℕ → ℕ
tens_left x k = x / 10 ^ k

abbrev pub more_digits : ℕ
more_digits = 19

unfoldable pub width_of : ℕ → ℕ
width_of x = suc (leading (λ k. leb 10 (tens_left x k)) more_digits)

abbrev pub decimal_of : ℕ → List ℕ
decimal_of x = digits_of (width_of x) x

-- the number that the first w digits of a run spell
unfoldable pub digits_read : ℕ → List ℕ → ℕ
digits_read zero s = 0
digits_read (suc w) s = digits_read w s * 10 + (get_or s w 0 - zero_char)
