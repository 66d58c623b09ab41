-- What holds of the policing step for any account whatsoever (document 01, "Credit, in whole units" and "Codes, in order of
-- checking"); proved in proofs/Claims.antt and proofs/Codes.antt.
use Rattle.std.specs.Prelude.{ℕ, ◌-◌, ◌≤◌, ◌<◌, true, not, ◌⊎◌, ◌↔◌, ◌≡◌, ltb}
use Rattle.std.proofs.Math.Option.{none, some}
use mathlib.Core.List.{List, [], ◌∷◌, Memᴰ}
use Rattle.lists.specs.Lines.{Line, line, first_fit}
use Rattle.terms.specs.Terms.{terms_good, capacity, cost}
use Rattle.account.specs.Account.{terms_of, holding, account_sound, credit_at}
use Rattle.account.specs.Step.{StepReport, step_reported, policed}
use Rattle.account.specs.declared.Account.{Account}
use Rattle.account.specs.declared.Outcome.{Outcome}

-- a sound account has values within limits and holds at most its capacity
abbrev pub SoundLimits : Type 0
SoundLimits = (a : Account) → (account_sound a ≡ true) ↔ ((terms_good (terms_of a) ≡ true) × (a.credit ≤ capacity (terms_of a)))

-- two answers that report the same are the same
abbrev pub StepsApart : Type 0
StepsApart = (o q : Outcome) → step_reported o ≡ step_reported q → o ≡ q

-- demand 1: the codes that a step can answer
abbrev pub StepAnswers : Type 0
StepAnswers = (a : Account) (n t : ℕ) → Memᴰ (policed a n t).says.code (0 ∷ 1 ∷ 2 ∷ 8 ∷ 9 ∷ 10 ∷ [])

-- the step's table of codes, line by line ("Called alone, the policing step answers 1 or 2 by the octets, then 10, 8, 9
-- or 0"): the step's code is that of the first line that fits, 0 where no line fits
abbrev pub step_table : Account → ℕ → ℕ → List Line
step_table a n t =
    line 1 (ltb n 64)
    ∷ line 2 (ltb 1518 n)
    ∷ line 10 (not (account_sound a))
    ∷ line 8 (ltb t a.last)
    ∷ line 9 (ltb (credit_at a t) (cost (terms_of a) n))
    ∷ []

abbrev pub StepCodesInOrder : Type 0
StepCodesInOrder = (a : Account) (n t : ℕ) → (policed a n t).says.code ≡ first_fit (step_table a n t)

-- demand 1: a refusal other than 9 leaves the account as it was
abbrev pub RefusedStepKeeps : Type 0
RefusedStepKeeps =
    (a : Account) (n t : ℕ) → ((policed a n t).says.code ≡ 0 → ⊥) → ((policed a n t).says.code ≡ 9 → ⊥)
    → (policed a n t).account ≡ a

-- code 9 brings the account to the frame's time, topped up, and reports the credit held
abbrev pub ShortStepTopsUp : Type 0
ShortStepTopsUp =
    (a : Account) (n t : ℕ) → (policed a n t).says.code ≡ 9
    → ((policed a n t).account ≡ holding a (credit_at a t) t)
    × ((policed a n t).says.credit ≡ some (credit_at a t))
    × (credit_at a t < cost (terms_of a) n)

-- code 0 brings the account to the frame's time, topped up and less the cost, and reports the credit left
abbrev pub ForwardedStepTakesCost : Type 0
ForwardedStepTakesCost =
    (a : Account) (n t : ℕ) → (policed a n t).says.code ≡ 0
    → ((policed a n t).account ≡ holding a (credit_at a t - cost (terms_of a) n) t)
    × ((policed a n t).says.credit ≡ some (credit_at a t - cost (terms_of a) n))
    × (cost (terms_of a) n ≤ credit_at a t)

-- a step of at most Smax octets that answers 0 or 9 leaves less than the capacity; every frame call's step has at most
-- Smax octets
abbrev pub StepBelowCapacity : Type 0
StepBelowCapacity =
    (a : Account) (n t : ℕ) → n ≤ (terms_of a).smax → ((policed a n t).says.code ≡ 0) ⊎ ((policed a n t).says.code ≡ 9)
    → (policed a n t).account.credit < capacity (terms_of a)

-- what a refusal reports: code 8 the credit held, the frame's time being before the last; codes 1, 2 and 10 no credit
abbrev pub Reports : Account → ℕ → StepReport → Type 0
Reports a t w =
    (w.code ≡ 8 → (w.credit ≡ some a.credit) × (t < a.last))
    × ((w.code ≡ 1) ⊎ ((w.code ≡ 2) ⊎ (w.code ≡ 10)) → w.credit ≡ none)

abbrev pub RefusedStepReports : Type 0
RefusedStepReports = (a : Account) (n t : ℕ) → Reports a t (policed a n t).says
