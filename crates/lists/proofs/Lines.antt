-- Laws of a table of codes read line by line. Assumes nothing.
use Prim.Native.Nat.{ℕ}
use mathlib.Core.Bool.{Bool, true, false}
use mathlib.Core.List.{List, [], ◌∷◌}
use mathlib.Core.Path.{◌≡◌, refl, ◌∙◌}
use Rattle.lists.specs.Lines.{Line, line, first_fit}

-- a line that fits gives its code
pub takes : (c : ℕ) (b : Bool) (ls : List Line) → b ≡ true → c ≡ first_fit (line c b ∷ ls)
unfolding first_fit
takes c b ls e = simp e

-- a line that doesn't fit is passed over
pub skips : (c d : ℕ) (b : Bool) (ls : List Line) → b ≡ false → d ≡ first_fit ls → d ≡ first_fit (line c b ∷ ls)
unfolding first_fit
skips c d b ls e q = q ∙ simp e

pub none_left : 0 ≡ first_fit []
unfolding first_fit
none_left = refl
