-- How a replay begins, what a turn does at one record, and what is kept between turns (document 01, "The replay program").
use Rattle.std.specs.Prelude.{ℕ, ◌-◌, min, List, length, eqb}
use Rattle.codes.specs.Codes
use Rattle.std.specs.Prelude.{if◌then◌else◌}
use Rattle.octets.specs.Runs.{octets_at, put}
use Rattle.tables.specs.Rows.{Config}
use Rattle.switch.specs.Call.{State, Call, called}
use Rattle.replay_words.specs.Words.{Appended, appended_of, appended, next_offset}
use Rattle.replay_text.specs.Text.{line_of, refused_line, header_line, cut_line}
use Rattle.replay_log.specs.declared.Entry.{Entry}
use Rattle.replay_log.specs.declared.Entry.TheVariants.{Frame, More, Cut, End}
use Rattle.replay_turn.specs.declared.Stop.{Stop}
use Rattle.replay_turn.specs.declared.Stop.TheVariants.{Octets, Finished}
use Rattle.replay_turn.specs.declared.Progress.{Progress}
use Rattle.replay_turn.specs.Turn.{cut_stop, progress_of}

-- ---- progress, and what the room for lines holds
pub record WithRoom : Type 0 where
  pub progress : Progress
  pub room : List ℕ

abbrev pub with_room : Progress → List ℕ → WithRoom
with_room p d = record { progress = p; room = d }

-- ---- the start: the header where an image was accepted, else the only line of the text
abbrev pub opening_text : ℕ → ℕ → List ℕ
opening_text code offset = if eqb code Codes.success then header_line else refused_line code offset

abbrev pub opening_stop : ℕ → Stop
opening_stop code = if eqb code Codes.success then Octets else Finished

abbrev pub opened : ℕ → ℕ → List ℕ → WithRoom
opened code offset d =
    with_room (progress_of 0 0 (next_offset d 0 (opening_text code offset)) (opening_stop code)) (put d 0 (opening_text code offset))

-- ---- in a turn: a line put into the room, and the tables after its frame
pub record Lined : Type 0 where
  pub appended : Appended
  pub state : State

abbrev pub lined_of : ℕ → List ℕ → State → Lined
lined_of next d t = record { appended = appended_of next d; state = t }

abbrev pub lined : Config → State → List ℕ → ℕ → ℕ → Call → Lined
lined g t d at number f = record { appended = appended d at (line_of number (called g t f).says); state = (called g t f).state }

-- and what ends a turn at something else than a frame
abbrev pub stopped_by : List ℕ → ℕ → ℕ → ℕ → Entry → WithRoom
stopped_by d at k written (Frame r) = with_room (progress_of at k written Finished) d
stopped_by d at k written Cut = with_room (progress_of at k (next_offset d written cut_line) cut_stop) (put d written cut_line)
stopped_by d at k written More = with_room (progress_of at k written Octets) d
stopped_by d at k written End = with_room (progress_of at k written Finished) d

-- ---- between turns: the octets from `at` on, of the first `filled`, stand at the front, for more to be read after them
pub record Kept : Type 0 where
  pub filled : ℕ
  pub log : List ℕ

abbrev pub kept_of : ℕ → List ℕ → Kept
kept_of n s = record { filled = n; log = s }

abbrev pub rest_octets : List ℕ → ℕ → ℕ → ℕ
rest_octets s at filled = min filled (length s) - min at (min filled (length s))

abbrev pub kept : List ℕ → ℕ → ℕ → Kept
kept s at filled = kept_of (rest_octets s at filled) (put s 0 (octets_at (rest_octets s at filled) s at))
