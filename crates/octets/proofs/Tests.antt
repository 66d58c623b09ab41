-- The test of room for octets in a run, and what the test says. Other tests are those of lists. Assumes nothing.
use Prim.Native.Nat.{ℕ, ◌+◌, ◌≤◌, ◌<◌}
use mathlib.Core.Bool.{Bool, true, false}
use mathlib.Core.Path.{◌≡◌, sym, ◌∙◌}
use native.Mathlib.Nat.{zero-add}
use lib.Dec.{leb}
use borrow.Author.Tests.{leb-true, leb-false}

-- ---- the test of room for `size` octets at an offset in a run of `len`
module _ (len at size : ℕ) where
  -- what the test's answer says
  module _ (r : Bool) (e : r ≡ leb (at + size) len) where
    pub fits : r ≡ true → at + size ≤ len
    fits h = leb-true _ _ (sym e ∙ h)

    pub fits_not : r ≡ false → len < at + size
    fits_not h = leb-false _ _ (sym e ∙ h)

-- the test of room at a run's start
module _ (len size : ℕ) (r : Bool) (e : r ≡ leb (0 + size) len) where
  pub fits_first : r ≡ true → size ≤ len
  fits_first h = rw (zero-add size) at (fits len 0 size r e h)
