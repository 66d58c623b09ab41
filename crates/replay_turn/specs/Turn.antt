-- One turn of a replay (document 01, "The replay program"): the records at hand answered, each with its line, as far as octets
-- and room allow.
use Rattle.std.specs.Prelude.{ℕ, zero, suc, ◌-◌, ◌/◌, ◌^◌, Bool, List, [], ◌++◌, length, leb}
use Rattle.std.specs.Prelude.{if◌then◌else◌}
use Rattle.octets.specs.Runs.{put}
use Rattle.tables.specs.Rows.{Config}
use Rattle.switch.specs.Call.{State, called}
use Rattle.replay_text.specs.Text.{line_of, cut_line, longest_line}
use Rattle.replay_log.specs.Records.{next_in}
use Rattle.replay_log.specs.declared.Entry.{Entry}
use Rattle.replay_log.specs.declared.Entry.TheVariants.{Frame, More, Cut, End}
use Rattle.replay_answer.specs.Answer.{record_call}
use Rattle.replay_turn.specs.declared.Stop.{Stop}
use Rattle.replay_turn.specs.declared.Stop.TheVariants.{Octets, Room, Finished, CutOff}
use Rattle.replay_turn.specs.declared.Progress.{Progress}

-- ---- the octets s at hand, from an offset on: the lines' text, the offset and the number of frames then reached, what the
-- tables then hold, and why the replay stops there
pub record Stretch : Type 0 where
  pub text : List ℕ
  pub at : ℕ
  pub frames : ℕ
  pub state : State
  pub stop : Stop

abbrev pub stopped : List ℕ → ℕ → ℕ → State → Stop → Stretch
stopped text at k t stop = record { text = text; at = at; frames = k; state = t; stop = stop }

abbrev pub with_text : List ℕ → Stretch → Stretch
with_text xs a = record { text = xs ++ a.text; at = a.at; frames = a.frames; state = a.state; stop = a.stop }

-- the greatest number of a line, in 64 bits; a further frame would end the replay
abbrev pub most_frames : ℕ
most_frames = 2 ^ 64 - 1

-- why a replay stops at a log that is cut
abbrev pub cut_stop : Stop
cut_stop = CutOff

-- a stretch by the entry at its offset, after k frames; `after` is the stretch that follows a frame
abbrev pub stretch_by : (ℕ → State → Stretch) → Config → List ℕ → ℕ → ℕ → State → Entry → Stretch
stretch_by after g s at k t (Frame r) =
    if leb most_frames k then stopped [] at k t Finished
    else with_text (line_of (suc k) (called g t (record_call s r)).says) (after r.next (called g t (record_call s r)).state)
stretch_by after g s at k t Cut = stopped cut_line at k t cut_stop
stretch_by after g s at k t More = stopped [] at k t Octets
stretch_by after g s at k t End = stopped [] at k t Finished

-- n lines at most; `whole` says that the log has no octets after these
unfoldable pub stretch : ℕ → Config → List ℕ → Bool → ℕ → ℕ → State → Stretch
stretch zero g s whole at k t = stopped [] at k t Room
stretch (suc n) g s whole at k t = stretch_by (λ next left. stretch n g s whole next (suc k) left) g s at k t (next_in s at whole)

-- ---- a turn: progress, what the room for lines holds, what the tables hold
pub record Turned : Type 0 where
  pub progress : Progress
  pub room : List ℕ
  pub state : State

abbrev pub turned_of : Progress → List ℕ → State → Turned
turned_of p d t = record { progress = p; room = d; state = t }

abbrev pub progress_of : ℕ → ℕ → ℕ → Stop → Progress
progress_of at k written stop = record { at = at; frames = k; written = written; stop = stop }

-- as many lines as the room holds whatever they are, from its start on
abbrev pub lines_in : List ℕ → ℕ
lines_in d = length d / longest_line

abbrev pub turn_of : List ℕ → Stretch → Turned
turn_of d a = turned_of (progress_of a.at a.frames (length a.text) a.stop) (put d 0 a.text) a.state

abbrev pub turned : Config → List ℕ → Bool → Progress → List ℕ → State → Turned
turned g s whole p d t = turn_of d (stretch (lines_in d) g s whole p.at p.frames t)
