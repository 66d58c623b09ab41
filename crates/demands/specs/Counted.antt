-- Which frames of a history the rule's sums are about, and what each counts for (document 01, "The terms of demand 3"): by the
-- answers that the frames got. Proved in proofs/Counted.antt.
use Rattle.std.specs.Prelude.{ℕ, Bool, ◌&&◌, ◌≡◌, length}
use mathlib.Core.List.{List, map, zip, reverse}
use Rattle.lists.specs.Lists.{only}
use Rattle.account_rule.specs.Bucket.{Reached}
use Rattle.account_rule.specs.Counted.{reaching, counted_for, NeverFall}
use Rattle.image_fill.specs.Filling.{Runs}
use Rattle.image_load.specs.Fresh.{Fresh}
use Rattle.switch.specs.Call.{Call}
use Rattle.switch.specs.History.{call_answers}
use Rattle.demands.specs.History.{call_codes, config_in, state_in}
use Rattle.demands.specs.Rule.{image_terms, meant, reached_in}

-- a call with its code: whether it was meant for account a and reached it, and what it counts for there
abbrev pub reached_with : List ℕ → ℕ → Call × ℕ → Bool
reached_with s a x = meant s a x.0 && reaching x.1

abbrev pub counted_in : List ℕ → ℕ → Call × ℕ → Reached
counted_in s a x = counted_for (image_terms s a) (length x.0.octets) x.0.time x.1

-- the frames that reached account a, the newest first: the rule's list is that of the frames meant for it that were answered
-- 0 or 9, each with its time and, where the answer was 0, its cost
abbrev pub ReachedByAnswers : Type 0
ReachedByAnswers =
    (s : List ℕ) (r : Runs) → Fresh s r → (h : List Call) (a : ℕ)
    → reached_in s (reverse h) a
    ≡ reverse (map (counted_in s a) (only (reached_with s a) (zip h (call_codes (call_answers (config_in s r) (state_in r) h)))))

-- the times of the frames that reached an account never fall, so that each "time since" of the rule is the difference of two times
abbrev pub TimesNeverFall : Type 0
TimesNeverFall = (s : List ℕ) (past : List Call) (a : ℕ) → NeverFall (reached_in s past a)
