-- Laws of the items of a list that pass a test. Assumes nothing.
use mathlib.Core.Bool.{Bool, true, false}
use mathlib.Core.List.{List, [], ◌∷◌}
use mathlib.Core.Path.{◌≡◌, refl}
use Rattle.lists.specs.Lists.{only}

module _ {A : Type 0} (p : A → Bool) where
  pub only_take : (f : A) (fs : List A) → p f ≡ true → only p (f ∷ fs) ≡ f ∷ only p fs
  unfolding only
  only_take f fs e = simp e

  pub only_drop : (f : A) (fs : List A) → p f ≡ false → only p (f ∷ fs) ≡ only p fs
  unfolding only
  only_drop f fs e = simp e

  pub only_none : only p [] ≡ []
  unfolding only
  only_none = refl
