-- Sequence numbers and integrity (document 02, Q-1; ARINC 664P7, 3.2.6.1 and 3.2.6.2.1).
use Rattle.std.specs.Prelude.{ℕ, ◌+◌, ◌-◌, Bool, true, ◌||◌, eqb, Option, Some, None, if◌then◌else◌}

-- how many sequence numbers there are, and the greatest; they are octets
abbrev pub number_count : ℕ
number_count = 256

abbrev pub greatest_number : ℕ
greatest_number = 255

-- the number after the greatest: 1, not 0
abbrev pub after_greatest : ℕ
after_greatest = 1

-- the number one step on: numbers run 0, 1 to 255, then 1 again
unfoldable pub next : ℕ → ℕ
next n = if eqb n greatest_number then after_greatest else n + 1

-- whether number n passes after the last number received on its network: the first number, 0, and one or two steps on
unfoldable pub passes : Option ℕ → ℕ → Bool
passes None n = true
passes (Some p) n = eqb n 0 || eqb n (next p) || eqb n (next (next p))

-- a last number from the word that holds it: the word is 0 for none, else the number with 1 added
unfoldable pub number_of : ℕ → Option ℕ
number_of w = if eqb w 0 then None else Some (w - 1)
