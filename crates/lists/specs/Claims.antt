-- What the answers to picked calls are, and which line of a table gives the code; proved in proofs/Claims.antt.
use Rattle.std.specs.Prelude.{ℕ, Bool, true, false, List, [], ◌∷◌, map, ◌≡◌, eqb}
use Rattle.lists.specs.Lines.{line, first_fit}
use Rattle.lists.specs.Lists.{only, answers_to}

-- where each call is answered by itself, the answers to the picked calls are those of the list of picked calls; in
-- figures, the first and the third of three calls
abbrev pub PickedAnswers : Type 0
PickedAnswers =
    ((p : ℕ → Bool) (f : ℕ → ℕ) (h : List ℕ) → answers_to p h (map f h) ≡ map f (only p h))
    × (only {A = ℕ} (eqb 1) (1 ∷ 2 ∷ 1 ∷ []) ≡ 1 ∷ 1 ∷ [])
    × (answers_to {A = ℕ} (eqb 1) (1 ∷ 2 ∷ 1 ∷ []) (10 ∷ 20 ∷ 30 ∷ []) ≡ 10 ∷ 30 ∷ [])

-- a table of codes in figures: of two lines that fit the first counts, whatever the codes; where no line fits the code
-- is 0
abbrev pub FirstFits : Type 0
FirstFits =
    (first_fit (line 3 false ∷ line 9 true ∷ line 5 true ∷ []) ≡ 9)
    × (first_fit (line 3 true ∷ line 9 true ∷ line 5 true ∷ []) ≡ 3)
    × (first_fit (line 3 false ∷ line 9 false ∷ []) ≡ 0)
