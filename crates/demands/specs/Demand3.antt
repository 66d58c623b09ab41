-- Demand 3 (document 01, "The terms of demand 3"): the rule, over every history, and one account's answers apart from all other
-- traffic. Proved in proofs/.
use Rattle.std.specs.Prelude.{ℕ, ◌≤◌, ◌<◌, true, false, ◌↔◌, ◌≡◌, length, get_or, set, take, replicate}
use mathlib.Core.List.{List, [], ◌∷◌, map, reverse, Memᴰ}
use Rattle.lists.specs.Claims.{PickedAnswers}
use Rattle.lists.specs.Lists.{only, answers_to}
use Rattle.terms.specs.Terms.{cost}
use Rattle.account_rule.specs.Bucket.{last_time, FromEach, RuleRead}
use Rattle.account_rule.specs.Counted.{StepsReached}
use Rattle.account_rule.specs.Rule.{allowance, AllowanceByMode, RuleOfSteps, StepsInWords}
use Rattle.tables.specs.Rows.{Config}
use Rattle.image_read.specs.Read.{read_image}
use Rattle.image_read.specs.Bench.{image_p, answer_p}
use Rattle.image_load.specs.Loading.{loading}
use Rattle.image_fill.specs.Filling.{Runs}
use Rattle.image_load.specs.Fresh.{Fresh}
use Rattle.image_round_trip.specs.RoundTrips.{loaded_tables}
use Rattle.switch.specs.Call.{State, Call, call_of, called}
use Rattle.demands.specs.Counted.{ReachedByAnswers, TimesNeverFall}
use Rattle.switch.specs.History.{call_answers, final_state}
use Rattle.demands.specs.History.{call_codes, config_in, state_in}
use Rattle.demands.specs.Rule.{image_terms, link_row, account_named, filter_code, meant, reached_in, rule_codes}

-- ---- first half

-- for any octets that load into any runs, and any list of calls on what loading left and answered: the codes of the whole list
-- are the rule's
abbrev pub RuleOfHistory : Type 0
RuleOfHistory =
    (s : List ℕ) (r : Runs) → (loading s r).answer.code ≡ 0 → (h : List Call)
    → call_codes (call_answers (loaded_tables s r) (state_in (loading s r).runs) h) ≡ rule_codes s h

-- the same of any runs that begin with what loading writes, whatever lies beyond and however long they are
abbrev pub RuleOfFreshTables : Type 0
RuleOfFreshTables = (s : List ℕ) (r : Runs) → Fresh s r → (h : List Call) → call_codes (call_answers (config_in s r) (state_in r) h) ≡ rule_codes s h

-- in words, for a frame f on account a after a past, and the code that it got: 0 exactly where, from itself and from each frame
-- that reached the account earlier, the costs forwarded since and its own are within the allowance; else 9
pub record Judged (s : List ℕ) (past : List Call) (f : Call) (a code : ℕ) : Type 0 where
  pub exactly : (code ≡ 0) ↔ FromEach (allowance (image_terms s a)) f.time (cost (image_terms s a) (length f.octets)) (reached_in s past a)
  pub otherwise : (FromEach (allowance (image_terms s a)) f.time (cost (image_terms s a) (length f.octets)) (reached_in s past a) → ⊥) → code ≡ 9

-- of every frame that reaches its account after the calls `before`: no code before 8 fits it, and no frame that reached the
-- account is later
abbrev pub RuleInWords : Type 0
RuleInWords =
    (s : List ℕ) (r : Runs) → Fresh s r → (before : List Call) (f : Call) → filter_code s f ≡ 0
    → last_time (reached_in s (reverse before) (account_named s (link_row s f))) ≤ f.time
    → Judged s (reverse before) f (account_named s (link_row s f))
    (called (config_in s r) (final_state (config_in s r) (state_in r) before) f).says.code

-- and of every other frame: the filter's code, or 8 where a frame that reached the account is later
abbrev pub OthersInWords : Type 0
OthersInWords =
    (s : List ℕ) (r : Runs) → Fresh s r → (before : List Call) (f : Call)
    → ((filter_code s f ≡ 0 → ⊥) → (called (config_in s r) (final_state (config_in s r) (state_in r) before) f).says.code ≡ filter_code s f)
    × (filter_code s f ≡ 0 → f.time < last_time (reached_in s (reverse before) (account_named s (link_row s f)))
    → (called (config_in s r) (final_state (config_in s r) (state_in r) before) f).says.code ≡ 8)

-- 10 never: every code of a history is one from 0 to 9
abbrev pub TenNever : Type 0
TenNever = (s : List ℕ) (r : Runs) → Fresh s r → (h : List Call) (c : ℕ) → Memᴰ c (call_codes (call_answers (config_in s r) (state_in r) h)) → c ≤ 9

-- ---- second half

-- what two lists of calls must share: the calls meant for account a. All others are free
abbrev pub SameMeant : List ℕ → ℕ → List Call → List Call → Type 0
SameMeant s a h h' = only (meant s a) h ≡ only (meant s a) h'

-- what two histories, each from its own tables, then share: the answers to these calls, code, mask and credit; and what account
-- a holds in the end
pub record SameAnswers (s : List ℕ) (a : ℕ) (g : Config) (t : State) (h : List Call) (g' : Config) (t' : State) (h' : List Call) : Type 0 where
  pub verdicts : answers_to (meant s a) h (call_answers g t h) ≡ answers_to (meant s a) h' (call_answers g' t' h')
  pub credit : get_or (final_state g t h).credits a 0 ≡ get_or (final_state g' t' h').credits a 0
  pub last : get_or (final_state g t h).lasts a 0 ≡ get_or (final_state g' t' h').lasts a 0

-- one image loaded twice, into any runs
abbrev pub Isolation : Type 0
Isolation =
    (s : List ℕ) (a : ℕ) → a < (read_image s).settings.accounts
    → (r : Runs) → (loading s r).answer.code ≡ 0 → (h : List Call)
    → (r' : Runs) → (loading s r').answer.code ≡ 0 → (h' : List Call)
    → SameMeant s a h h'
    → SameAnswers s a (loaded_tables s r) (state_in (loading s r).runs) h (loaded_tables s r') (state_in (loading s r').runs) h'

-- the same of any two sets of runs that begin with what loading writes
abbrev pub IsolationOfFreshTables : Type 0
IsolationOfFreshTables =
    (s : List ℕ) (a : ℕ) → a < (read_image s).settings.accounts
    → (r : Runs) → Fresh s r → (h : List Call) → (r' : Runs) → Fresh s r' → (h' : List Call)
    → SameMeant s a h h'
    → SameAnswers s a (config_in s r) (state_in r) h (config_in s r') (state_in r') h'

-- whether frames are meant for account 0, on image P with 0 for its link's number: to number 0, one of 5 octets, the last of
-- the number missing, is not; of 6 and of 63 they are; one to number 7 is not. One of 63 to number 0 is not meant for account 1.
-- Constant field, port and time play no part
abbrev pub zero_image_p : List ℕ
zero_image_p = set image_p 21 0

abbrev pub destined : ℕ → ℕ → Call
destined number n = call_of (take n (3 ∷ 0 ∷ 0 ∷ 0 ∷ 0 ∷ number ∷ replicate 58 0)) 2 0

abbrev pub MeantLimits : Type 0
MeantLimits =
    (read_image zero_image_p ≡ answer_p)
    × (map (meant zero_image_p 0) (destined 0 5 ∷ destined 0 6 ∷ destined 0 63 ∷ destined 7 63 ∷ []) ≡ false ∷ true ∷ true ∷ false ∷ [])
    × (meant zero_image_p 1 (destined 0 63) ≡ false)
    × (meant zero_image_p 0 (call_of (9 ∷ 8 ∷ 7 ∷ 6 ∷ 0 ∷ 0 ∷ []) 31 5) ≡ true)

-- ---- the whole of it, with the rule read literally, the allowance by mode (document 02, Q-3) and the claim for lists of
-- policing steps
pub record Demand3 : Type 0 where
  pub rule : RuleOfHistory
  pub rule_of_fresh_tables : RuleOfFreshTables
  pub in_words : RuleInWords
  pub others_in_words : OthersInWords
  pub ten_never : TenNever
  pub reached_by_answers : ReachedByAnswers
  pub times_never_fall : TimesNeverFall
  pub meant_limits : MeantLimits
  pub isolation : Isolation
  pub isolation_of_fresh_tables : IsolationOfFreshTables
  pub picked_answers : PickedAnswers
  pub rule_read : RuleRead
  pub allowance_by_mode : AllowanceByMode
  pub rule_of_steps : RuleOfSteps
  pub steps_in_words : StepsInWords
  pub steps_reached_lem : StepsReached
