-- What a log holds from an offset on (document 01, "The replay program"): the frame calls of its records, and whether it is cut.
use Rattle.std.specs.Prelude.{ℕ, zero, suc, Bool, true, false, List, [], ◌∷◌, length}
use Rattle.switch.specs.Call.{Call}
use Rattle.replay_log.specs.Records.{next_in}
use Rattle.replay_log.specs.declared.Entry.{Entry}
use Rattle.replay_log.specs.declared.Entry.TheVariants.{Frame, More, Cut, End}
use Rattle.replay_answer.specs.Answer.{record_call}

pub record Logged : Type 0 where
  pub calls : List Call
  pub cut : Bool

abbrev pub logged_of : List Call → Bool → Logged
logged_of h cut = record { calls = h; cut = cut }

-- a call before those that follow
abbrev pub with_call : Call → Logged → Logged
with_call f l = logged_of (f ∷ l.calls) l.cut

-- by the entry at an offset; `after` is what the log holds after a record
abbrev pub logged_by : (ℕ → Logged) → List ℕ → Entry → Logged
logged_by after s (Frame r) = with_call (record_call s r) (after r.next)
logged_by after s Cut = logged_of [] true
logged_by after s More = logged_of [] false
logged_by after s End = logged_of [] false

-- n records at most from an offset of the octets s, after which the log has no more
unfoldable pub logged_up_to : ℕ → List ℕ → ℕ → Logged
logged_up_to zero s at = logged_of [] false
logged_up_to (suc n) s at = logged_by (logged_up_to n s) s (next_in s at true)

-- all records: each has an octet or more, so there are no more records than octets
abbrev pub logged_from : List ℕ → ℕ → Logged
logged_from s at = logged_up_to (suc (length s)) s at
