-- The items of a list that pass a test, and the answers to the calls that pass a test.
use Rattle.std.specs.Prelude.{Bool, List, [], ◌∷◌}
use Rattle.std.specs.Prelude.{if◌then◌else◌}

unfoldable pub only : {A : Type 0} → (A → Bool) → List A → List A
only p [] = []
only p (x ∷ xs) = if p x then x ∷ only p xs else only p xs

-- the answers to the calls that pass a test, from one answer a call
unfoldable pub answers_to : {C A : Type 0} → (C → Bool) → List C → List A → List A
answers_to p [] ws = []
answers_to p (c ∷ cs) [] = []
answers_to p (c ∷ cs) (w ∷ ws) = if p c then w ∷ answers_to p cs ws else answers_to p cs ws
