-- Tests and what they say: case analysis of a test, both halves of a conjunction, a number that is neither of two,
-- orders that imply each other. Assumes nothing.
use Prim.Native.Nat.{ℕ, ◌≤◌, ◌<◌}
use mathlib.Core.Bool.{Bool, true, false, ◌&&◌, false≢true}
use mathlib.Core.Logic.{◌⊎◌, ⊎_elim}
use mathlib.Core.Path.{◌≡◌, refl, sym, ◌∙◌}
use native.Mathlib.Omega.{arith}
use lib.Dec.{leb, ltb}
use borrow.Author.Tests.{leb-true, leb-false, le-leb, le-ltb, lt-ltb}

-- case analysis of a test, with the equation in hand
pub split : {P : Type 0} (b : Bool) → (b ≡ true → P) → (b ≡ false → P) → P
split true f g = f refl
split false f g = g refl

-- both halves of a true conjunction
pub both : (x y : Bool) → (x && y) ≡ true → (x ≡ true) × (y ≡ true)
both true y e = (refl, e)
both false y e = absurd (false≢true e)

-- a number that is neither of two
pub neither : (x y z : ℕ) {P : Type 0} → (x ≡ y → ⊥) → (x ≡ z → ⊥) → (x ≡ y) ⊎ (x ≡ z) → P
neither x y z f g e = absurd (⊎_elim f g e)

-- two orders that follow from each other have the same test
pub leb_same : (a b c d : ℕ) → (a ≤ b → c ≤ d) → (c ≤ d → a ≤ b) → leb a b ≡ leb c d
leb_same a b c d f g =
    split (leb a b)
    (λ e. e ∙ sym (le-leb c d (f (leb-true a b e))))
    (λ e. split (leb c d)
    (λ h. let x : a ≤ b = g (leb-true c d h) in let y : b < a = leb-false a b e in absurd (omega arith))
    (λ h. e ∙ sym h))

-- a number is at most another exactly where it is not above the other
pub not_above : (a b : ℕ) → leb a b ≡ true → ltb b a ≡ false
not_above a b e = le-ltb b a (leb-true a b e)

pub above : (a b : ℕ) → leb a b ≡ false → ltb b a ≡ true
above a b e = lt-ltb b a (leb-false a b e)
