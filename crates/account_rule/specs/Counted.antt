-- Which frames the rule's sums are about, and what each frame counts for (document 01, "The terms of demand 3"): the
-- frames that were answered 0 or 9, with their cost where the answer was 0. Proved in proofs/Counted.antt.
use Rattle.std.specs.Prelude.{ℕ, ◌≤◌, ◌<◌, Bool, true, ◌||◌, ◌≡◌, length, get_or, eqb}
use mathlib.Core.List.{List, [], map, zip, reverse}
use Rattle.std.specs.Prelude.{if◌then◌else◌}
use Rattle.lists.specs.Lists.{only}
use Rattle.terms.specs.Terms.{terms_good, cost}
use Rattle.terms.specs.declared.Terms.{Terms}
use Rattle.account.specs.Account.{loaded}
use Rattle.account_rule.specs.Bucket.{Reached, reached}
use Rattle.account_rule.specs.Rule.{StepCall, step_reports, step_codes, step_rule_past}

-- whether a frame with this code has reached its account
abbrev pub reaching : ℕ → Bool
reaching code = eqb code 0 || eqb code 9

-- what a frame of n octets at time t counts for, by its code
abbrev pub counted_for : Terms → ℕ → ℕ → ℕ → Reached
counted_for p n t code = reached t (if eqb code 0 then cost p n else 0)

-- times never fall: no frame of a past is later than one nearer to its head, which is newer
abbrev pub NeverFall : List Reached → Type 0
NeverFall past = (i j : ℕ) → i ≤ j → j < length past → (get_or past j (reached 0 0)).at ≤ (get_or past i (reached 0 0)).at

-- the steps that reached the account, from the answers to the steps, the newest first
abbrev pub steps_reached : Terms → List StepCall → List ℕ → List Reached
steps_reached p steps codes =
    reverse (map (λ x. counted_for p x.0.octets x.0.time x.1) (only (λ x. reaching x.1) (zip steps codes)))

-- the steps that the rule sums up are those that reached the account, and their times never fall, so that each "time
-- since" is the difference of two times
abbrev pub StepsReached : Type 0
StepsReached =
    (p : Terms) → terms_good p ≡ true → (steps : List StepCall)
    → (step_rule_past p [] steps ≡ steps_reached p steps (step_codes (step_reports (loaded p) steps)))
    × NeverFall (step_rule_past p [] steps)
