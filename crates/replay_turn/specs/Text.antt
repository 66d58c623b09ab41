-- The text of a whole log (document 01, "The replay program"): one line a frame, numbered from 1, and `cut` where the log is cut;
-- and a replay as a machine, turn after turn.
use Rattle.std.specs.Prelude.{ℕ, suc, Bool, true, false, drop}
use mathlib.Core.List.{List, [], ◌∷◌, ◌++◌, flat_map, flatten}
use Rattle.std.specs.Prelude.{if◌then◌else◌}
use Rattle.lists.specs.History
use Rattle.lists.specs.History.{Machine}
use Rattle.tables.specs.Rows.{Config}
use Rattle.switch_verdict.specs.Verdict.{Report}
use Rattle.switch.specs.Call.{State}
use Rattle.switch.specs.History.{call_answers}
use Rattle.replay_text.specs.Text.{line_of, cut_line}
use Rattle.replay_turn.specs.declared.Stop.{Stop}
use Rattle.replay_turn.specs.declared.Stop.TheVariants.{Octets, Room, Finished, CutOff}
use Rattle.replay_turn.specs.Log.{Logged, logged_from}
use Rattle.replay_turn.specs.Turn.{Stretch, stretch}

-- lines numbered from k on
unfoldable pub lines_from : ℕ → List Report → List ℕ
lines_from k [] = []
lines_from k (w ∷ ws) = line_of k w ++ lines_from (suc k) ws

-- what is printed after k frames: the lines of the calls that follow, on these tables, and the last line of a log that is cut
abbrev pub text_after : Config → State → ℕ → Logged → List ℕ
text_after g t k l = lines_from (suc k) (call_answers g t l.calls) ++ (if l.cut then cut_line else [])

-- the whole text of a log after its header
abbrev pub text_of : Config → State → List ℕ → List ℕ
text_of g t log = text_after g t 0 (logged_from log 0)

-- ---- a replay between turns: octets that were read and not answered yet, frames answered, what the tables hold, why it stopped
pub record Standing : Type 0 where
  pub hand : List ℕ
  pub frames : ℕ
  pub state : State
  pub stop : Stop

abbrev pub standing_of : List ℕ → ℕ → State → Stop → Standing
standing_of hand k t stop = record { hand = hand; frames = k; state = t; stop = stop }

abbrev pub start : State → Standing
start t = standing_of [] 0 t Octets

-- a turn: the octets that were read before it, whether the log has no more, and for how many lines there is room
pub record Turn : Type 0 where
  pub piece : List ℕ
  pub whole : Bool
  pub lines : ℕ

abbrev pub stretch_of : Config → Standing → Turn → Stretch
stretch_of g s c = stretch c.lines g (s.hand ++ c.piece) c.whole 0 s.frames s.state

-- whether a replay is over
abbrev pub over : Stop → Bool
over Octets = false
over Room = false
over Finished = true
over CutOff = true

-- what a turn prints, and where it leaves the replay; nothing where the replay is over
abbrev pub printed_by : Config → Standing → Turn → Stop → List ℕ
printed_by g s c Finished = []
printed_by g s c CutOff = []
printed_by g s c Octets = (stretch_of g s c).text
printed_by g s c Room = (stretch_of g s c).text

abbrev pub standing_after : List ℕ → Stretch → Standing
standing_after hand a = standing_of (drop a.at hand) a.frames a.state a.stop

abbrev pub left_by : Config → Standing → Turn → Stop → Standing
left_by g s c Finished = s
left_by g s c CutOff = s
left_by g s c Octets = standing_after (s.hand ++ c.piece) (stretch_of g s c)
left_by g s c Room = standing_after (s.hand ++ c.piece) (stretch_of g s c)

abbrev pub replaying : Config → Machine Standing Turn (List ℕ)
replaying g = record { says = λ s c. printed_by g s c s.stop; leaves = λ s c. left_by g s c s.stop }

-- the octets that the turns of a list read, and all that they print
abbrev pub read_by : List Turn → List ℕ
read_by = flat_map (λ c. c.piece)

abbrev pub printed : Config → State → List Turn → List ℕ
printed g t cs = flatten (History.answers (replaying g) (start t) cs)

abbrev pub standing_at : Config → State → List Turn → Standing
standing_at g t cs = History.final (replaying g) (start t) cs
