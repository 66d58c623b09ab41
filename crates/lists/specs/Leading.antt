-- The count of consecutive items, from the first, that pass a test. The search for the first row with a number and for
-- the first value that breaks a rule are such counts.
use Rattle.std.specs.Prelude.{ℕ, zero, suc, Bool, ◌&&◌, eqb}
use Rattle.std.specs.Prelude.{if◌then◌else◌}

-- counts consecutive items, from the first of n, that pass a test; the count is the index of the first item that fails,
-- or n
unfoldable pub leading : (ℕ → Bool) → ℕ → ℕ
leading f zero = 0
leading f (suc n) = if eqb (leading f n) n && f n then suc n else leading f n
