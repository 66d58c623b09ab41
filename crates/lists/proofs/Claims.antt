-- What the answers to picked calls are, and which line of a table gives the code. Assumes nothing.
use Prim.Native.Nat.{ℕ}
use mathlib.Core.Bool.{Bool}
use mathlib.Core.List.{List, [], ◌∷◌, map}
use mathlib.Core.Path.{◌≡◌, refl, ap}
use Rattle.lists.specs.Lines.{first_fit}
use Rattle.lists.specs.Lists.{only, answers_to}
use Rattle.lists.specs.Claims.{PickedAnswers, FirstFits}
use Rattle.lists.proofs.Tests.{split}

picked : (p : ℕ → Bool) (f : ℕ → ℕ) (h : List ℕ) → answers_to p h (map f h) ≡ map f (only p h)
unfolding only answers_to
picked p f [] = refl
picked p f (c ∷ h) = split (p c) (λ e. simp e (ap (◌∷◌ (f c)) (picked p f h))) (λ e. simp e (picked p f h))

pub picked_answers : PickedAnswers
unfolding only answers_to
picked_answers = (picked, refl, refl)

pub first_fits : FirstFits
unfolding first_fit
first_fits = (refl, refl, refl)
