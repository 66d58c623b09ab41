-- Histories: lists of calls, each on the state that the call before left. Calls, answers and states are of any types: a call
-- may be one of several kinds, a state several runs.
use Rattle.std.specs.Prelude.{List, [], ◌∷◌}

-- how calls are answered: the answer to a call on a state, and the state that the call leaves
pub record Machine (S C A : Type 0) : Type 0 where
  pub says : S → C → A
  pub leaves : S → C → S

module _ {S C A : Type 0} (m : Machine S C A) where
  -- the answers to a list of calls, one answer a call
  unfoldable pub answers : S → List C → List A
  answers s [] = []
  answers s (c ∷ cs) = m.says s c ∷ answers (m.leaves s c) cs

  -- the state that the last call leaves
  unfoldable pub final : S → List C → S
  final s [] = s
  final s (c ∷ cs) = final (m.leaves s c) cs

  -- the state after a past. A past is a list of calls, or of answers, with the newest first
  unfoldable pub left_by : S → List C → S
  left_by s [] = s
  left_by s (c ∷ past) = m.leaves (left_by s past) c

-- ---- rules, machines that read no stored state
-- a rule that answers a call from the calls before it
abbrev pub by_calls : {C A : Type 0} → (List C → C → A) → Machine (List C) C A
by_calls rule = record { says = rule; leaves = λ past c. c ∷ past }

-- a rule that answers a call from the answers before it, which may carry their calls
abbrev pub by_answers : {C A : Type 0} → (List A → C → A) → Machine (List A) C A
by_answers rule = record { says = rule; leaves = λ past c. rule past c ∷ past }
