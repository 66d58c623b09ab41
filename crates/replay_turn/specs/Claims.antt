-- What holds of a replay whatever the log and however it is read (document 01, "The replay program"); proved in proofs/.
use Rattle.std.specs.Prelude.{ℕ, ◌+◌, ◌^◌, ◌≤◌, ◌<◌, Bool, true, false, ◌≡◌, length, get_or, take, drop}
use mathlib.Core.List.{List, [], ◌++◌, flat_map, Memᴰ}
use Rattle.std.specs.Prelude.{if◌then◌else◌}
use Rattle.tables.specs.Rows.{Config}
use Rattle.switch.specs.Call.{State, Call}
use Rattle.replay_log.specs.Claims.{record_of}
use Rattle.replay_log.specs.Records.{longest_record, next_in}
use Rattle.replay_log.specs.declared.Entry.TheVariants.{Cut, End}
use Rattle.replay_turn.specs.declared.Stop.{Stop}
use Rattle.replay_turn.specs.declared.Stop.TheVariants.{Octets, Room, Finished, CutOff}
use Rattle.replay_turn.specs.Log.{logged_of, logged_up_to, logged_from}
use Rattle.replay_turn.specs.Turn.{stretch}
use Rattle.replay_turn.specs.Parts.{kept}
use Rattle.replay_turn.specs.Text.{Turn, text_of, over, read_by, printed, standing_at}

-- ---- what a log holds
-- how many records are looked for plays no part, as long as there are more than octets
abbrev pub EnoughRecords : Type 0
EnoughRecords = (s : List ℕ) (at n : ℕ) → length s < n → logged_up_to n s at ≡ logged_from s at

-- the records of a list of calls, one after the other
abbrev pub records_of : List Call → List ℕ
records_of = flat_map (λ f. record_of f.time f.port f.octets)

-- a log that is spelled from calls, whose times and frames fit a record, holds these calls, one each, and is cut where what
-- follows the last of them is no record
abbrev pub LogReadsBack : Type 0
LogReadsBack =
    (h : List Call) (tail : List ℕ)
    → ((f : Call) → Memᴰ f h → (f.time < 2 ^ 64) × (9 + length f.octets < 2 ^ 16))
    → (next_in tail 0 true ≡ End → logged_from (records_of h ++ tail) 0 ≡ logged_of h false)
    × (next_in tail 0 true ≡ Cut → logged_from (records_of h ++ tail) 0 ≡ logged_of h true)

-- ---- turns
-- however a log is read in pieces by the turns cs, until the turns ds read nothing more, and however many lines each turn has room
-- for: once the replay is over, what was printed is the text of the whole log, and it stopped as cut off exactly where the log
-- is cut
pub record TextOf (g : Config) (t : State) (log text : List ℕ) (stop : Stop) : Type 0 where
  pub text_is : text ≡ text_of g t log
  pub stop_is : stop ≡ (if (logged_from log 0).cut then CutOff else Finished)

abbrev pub TextOfPieces : Type 0
TextOfPieces =
    (g : Config) (t : State) (cs ds : List Turn)
    → ((c : Turn) → Memᴰ c cs → c.whole ≡ false)
    → ((c : Turn) → Memᴰ c ds → (c.piece ≡ []) × (c.whole ≡ true))
    → length (read_by cs) < 2 ^ 64
    → over (standing_at g t (cs ++ ds)).stop ≡ true
    → TextOf g t (read_by cs) (printed g t (cs ++ ds)) (standing_at g t (cs ++ ds)).stop

-- a turn moves on: it stops for room only after as many lines as there was room for, and for octets only where the log may have
-- more and fewer are left than the longest record has
abbrev pub TurnsMoveOn : Type 0
TurnsMoveOn =
    (n : ℕ) (g : Config) (s : List ℕ) (whole : Bool) (at k : ℕ) (t : State)
    → ((i : ℕ) → get_or s i 0 < 256)
    → ((stretch n g s whole at k t).stop ≡ Room → (stretch n g s whole at k t).frames ≡ k + n)
    × ((stretch n g s whole at k t).stop ≡ Octets
    → (whole ≡ false) × (length s < (stretch n g s whole at k t).at + longest_record))

-- what is kept between turns is what was at hand and not answered
abbrev pub RestKept : Type 0
RestKept =
    (s : List ℕ) (at filled : ℕ) → filled ≤ length s → at ≤ filled
    → take (kept s at filled).filled (kept s at filled).log ≡ drop at (take filled s)
