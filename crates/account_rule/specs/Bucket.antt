-- The rule of demand 3 (document 01, "The terms of demand 3"), for any allowance of a time and with no stored credit. The
-- account's allowance is in Rule.antt.
use Rattle.std.specs.Prelude.{ℕ, suc, ◌+◌, ◌-◌, ◌≤◌, ◌<◌, Bool, true, ◌&&◌, ◌≡◌, List, [], ◌∷◌, ◌↔◌, length, get_or, take, leb}

-- a frame that reached the bucket: its time, and its cost where the frame was forwarded, else 0
pub record Reached : Type 0 where
  pub at : ℕ
  pub forwarded : ℕ

abbrev pub reached : ℕ → ℕ → Reached
reached t x = record { at = t; forwarded = x }

-- ---- a list `past` of frames that reached the bucket has the newest first

-- the time of the last frame to reach the bucket; 0 where no frame has, so that no time is before it
unfoldable pub last_time : List Reached → ℕ
last_time [] = 0
last_time (r ∷ past) = r.at

-- the rule for a frame at time t, from each frame of `past`: `spent` is the frame's own cost and what was forwarded
-- after all of `past`. Where the rule is asked, no frame of `past` is later than t, since the frame would be late
unfoldable pub holds_from : (ℕ → ℕ) → ℕ → ℕ → List Reached → Bool
holds_from allow t spent [] = true
holds_from allow t spent (r ∷ past) =
    leb (spent + r.forwarded) (allow (t - r.at)) && holds_from allow t (spent + r.forwarded) past

-- the rule for a frame that costs x: from itself, and from each frame that reached the bucket earlier
unfoldable pub rule_holds : (ℕ → ℕ) → ℕ → ℕ → List Reached → Bool
rule_holds allow t x past = leb x (allow 0) && holds_from allow t x past

-- ---- the rule read literally

-- the sum of the costs forwarded
unfoldable pub costs : List Reached → ℕ
costs [] = 0
costs (r ∷ past) = r.forwarded + costs past

-- the rule from the frame itself: no cost was forwarded since, and no time has passed
abbrev pub FromItself : (ℕ → ℕ) → ℕ → Type 0
FromItself allow x = x ≤ allow 0

-- the rule from frame j of `past`, the newest being 0: the costs of frames j, .., 0 and the judged frame's own are
-- within the allowance of the time since frame j
abbrev pub FromFrame : (ℕ → ℕ) → ℕ → ℕ → List Reached → ℕ → Type 0
FromFrame allow t x past j = costs (take (suc j) past) + x ≤ allow (t - (get_or past j (reached 0 0)).at)

-- the rule from the frame itself and from every earlier frame
abbrev pub FromEach : (ℕ → ℕ) → ℕ → ℕ → List Reached → Type 0
FromEach allow t x past = FromItself allow x × ((j : ℕ) → j < length past → FromFrame allow t x past j)

-- the test is the rule read literally
abbrev pub RuleRead : Type 0
RuleRead = (allow : ℕ → ℕ) (t x : ℕ) (past : List Reached) → (rule_holds allow t x past ≡ true) ↔ FromEach allow t x past
