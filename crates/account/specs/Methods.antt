-- What holds of an account's methods, beside the policing step, for any account whatsoever (document 01, "Credit, in
-- whole units" and "Each place and its form"; document 02, Q-2); proved in proofs/Claims.antt.
use Rattle.std.specs.Prelude.{ℕ, ◌≤◌, true, ◌⊎◌, ◌≡◌}
use Rattle.frame.specs.Frame.{length_code}
use Rattle.terms.specs.Terms.{capacity, cost}
use Rattle.account.specs.Account.{terms_of, holding, account_sound, credit_at, capacity_of, cost_of, measured, topped_up, debited}
use Rattle.account.specs.Step.{policed}
use Rattle.account.specs.declared.Account.{Account}

-- where the step answers 0 or 9, the step leaves what a top-up and then a debit leave
abbrev pub StepIsTopUpAndDebit : Type 0
StepIsTopUpAndDebit =
    (a : Account) (n t : ℕ) → ((policed a n t).says.code ≡ 0) ⊎ ((policed a n t).says.code ≡ 9)
    → (policed a n t).account ≡ debited (topped_up a t) n

-- a top-up of a sound account at capacity, at a time not before its last, stores the time alone (document 02, Q-2)
abbrev pub FullTopUp : Type 0
FullTopUp =
    (a : Account) (t : ℕ) → account_sound a ≡ true → a.credit ≡ capacity (terms_of a) → a.last ≤ t
    → topped_up a t ≡ holding a a.credit t

-- a method gives 0, or changes nothing, where the step refuses what that method is given
abbrev pub Idle : Account → ℕ → ℕ → ℕ → Type 0
Idle a n t code =
    ((code ≡ 1) ⊎ (code ≡ 2) → (cost_of a n ≡ 0) × (debited a n ≡ a))
    × (code ≡ 10 → (capacity_of a ≡ 0) × (cost_of a n ≡ 0) × (topped_up a t ≡ a) × (debited a n ≡ a))
    × (code ≡ 8 → topped_up a t ≡ a)

abbrev pub RefusedMethodsIdle : Type 0
RefusedMethodsIdle = (a : Account) (n t : ℕ) → Idle a n t (policed a n t).says.code

-- a sound account's methods give the values of the formulas, the cost for a frame's octets, the top-up for a time not
-- before the last
abbrev pub SoundMethods : Type 0
SoundMethods =
    (a : Account) (n t : ℕ) → account_sound a ≡ true
    → (capacity_of a ≡ capacity (terms_of a))
    × (length_code n ≡ 0 → cost_of a n ≡ cost (terms_of a) n)
    × (a.last ≤ t → topped_up a t ≡ holding a (credit_at a t) t)

-- capacity and cost hand back their number, and the account as it was ("Each place and its form")
abbrev pub MethodsHandBack : Type 0
MethodsHandBack = (x : ℕ) (a : Account) → ((measured x a).units ≡ x) × ((measured x a).account ≡ a)
