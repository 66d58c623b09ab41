-- Turns in figures, computed. Assumes nothing.
use Prim.Native.Nat.{ℕ, suc, ◌<◌}
use mathlib.Core.Path.{◌≡◌, refl, ap, ap₂, ◌∙◌}
use mathlib.Core.Bool.{Bool, true, false}
use mathlib.Core.List.{List, [], ◌∷◌, ◌++◌}
use lib.Dec.{lit<}
use Rattle.std.specs.Prelude.{if◌then◌else◌}
use Rattle.lists.specs.History.{answers}
use Rattle.lists.specs.Leading.{leading}
use Rattle.octets.specs.Numbers.{number_at}
use Rattle.octets.specs.Runs.{octets_at, put}
use Rattle.frame.specs.Frame.{length_code}
use Rattle.filter.specs.Filter.{frame_code, routed}
use Rattle.tables.specs.Rows.{Config}
use Rattle.switch_verdict.specs.Verdict.{Report, refused}
use Rattle.switch.specs.Call.{State, Call, call_of, After, after_of, called}
use Rattle.switch.specs.History.{call_answers}
use Rattle.replay_words.specs.Digits.{digits_of, width_of}
use Rattle.replay_words.specs.Words.{word_of, next_offset}
use Rattle.replay_text.specs.Text.{frame_line, line_of, refused_line, cut_line}
use Rattle.replay_log.specs.Claims.{frame_record}
use Rattle.replay_log.specs.Records.{unsettled, frame_record_at, record_at, next_in}
use Rattle.replay_log.specs.declared.FrameRecord.{FrameRecord}
use Rattle.replay_log.specs.declared.Entry.TheVariants.{Frame, More, Cut, End}
use Rattle.replay_answer.specs.Answer.{record_call}
use Rattle.replay_turn.specs.declared.Stop.{Stop}
use Rattle.replay_turn.specs.declared.Stop.TheVariants.{Octets, Room, Finished}
use Rattle.replay_turn.specs.Log.{logged_of, logged_up_to, logged_from}
use Rattle.replay_turn.specs.Text.{lines_from, text_after, text_of}
use Rattle.replay_turn.specs.Turn.{stopped, with_text, most_frames, stretch}
use Rattle.replay_turn.specs.Figures.{empty_frames, empty_text, TurnFigures, StopFigures}
use Rattle.replay_turn.proofs.Turning.{stretch_by_lem, stretch_frame}

abbrev one : Report
one = refused 1

-- a frame of no octets is answered 1 on any tables, and changes nothing
empty_called : (g : Config) (t : State) (port time : ℕ) → called g t (call_of [] port time) ≡ after_of one t
unfolding called routed frame_code length_code
empty_called g t port time = refl

abbrev empty_calls : List Call
empty_calls = call_of [] 1 5 ∷ call_of [] 1 6 ∷ []

empty_logged : (logged_from empty_frames 0 ≡ logged_of empty_calls false) × (logged_from (empty_frames ++ (17 ∷ [])) 0 ≡ logged_of empty_calls true)
unfolding logged_up_to octets_at next_in record_at frame_record_at unsettled number_at
empty_logged = (refl, refl)

empty_answers : (g : Config) (t : State) → call_answers g t empty_calls ≡ one ∷ one ∷ []
unfolding answers
empty_answers g t =
    ap (λ (a : After). a.says ∷ (called g a.state (call_of [] 1 6)).says ∷ []) (empty_called g t 1 5)
    ∙ ap (λ (a : After). one ∷ a.says ∷ []) (empty_called g t 1 6)

empty_lines : lines_from 1 (one ∷ one ∷ []) ≡ empty_text
unfolding lines_from frame_line word_of digits_of width_of leading
empty_lines = refl

empty_text_lem : (g : Config) (t : State) (log : List ℕ) (cut : Bool) → logged_from log 0 ≡ logged_of empty_calls cut
    → text_of g t log ≡ empty_text ++ (if cut then cut_line else [])
empty_text_lem g t log cut e =
    ap (text_after g t 0) e
    ∙ ap (λ (ws : List Report). lines_from 1 ws ++ (if cut then cut_line else [])) (empty_answers g t)
    ∙ ap (λ (xs : List ℕ). xs ++ (if cut then cut_line else [])) empty_lines

-- ---- one frame of no octets in a turn
empty_frame : (n : ℕ) (g : Config) (s : List ℕ) (w : Bool) (at k : ℕ) (t : State) (r : FrameRecord) (port time : ℕ)
    → next_in s at w ≡ Frame r → record_call s r ≡ call_of [] port time → k < most_frames
    → stretch (suc n) g s w at k t ≡ with_text (line_of (suc k) one) (stretch n g s w r.next (suc k) t)
empty_frame n g s w at k t r port time e c l =
    stretch_frame n g s w at k t r e l
    ∙ ap (λ (a : After). with_text (line_of (suc k) a.says) (stretch n g s w r.next (suc k) a.state))
    (ap (called g t) c ∙ empty_called g t port time)

abbrev first_record : FrameRecord
first_record = frame_record 5 1 12 0 12

abbrev second_record : FrameRecord
second_record = frame_record 6 1 24 0 24

entries : (w : Bool) → (next_in empty_frames 0 w ≡ Frame first_record) × (next_in empty_frames 12 w ≡ Frame second_record)
unfolding next_in record_at frame_record_at unsettled number_at
entries w = (refl, refl)

ends : (next_in empty_frames 24 true ≡ End) × (next_in empty_frames 24 false ≡ More) × (next_in (17 ∷ []) 0 false ≡ Cut)
unfolding next_in record_at unsettled number_at
ends = (refl, refl, refl)

record_calls : (record_call empty_frames first_record ≡ call_of [] 1 5) × (record_call empty_frames second_record ≡ call_of [] 1 6)
unfolding octets_at
record_calls = (refl, refl)

lines : (line_of 1 one ≡ 49 ∷ 32 ∷ 49 ∷ 32 ∷ 45 ∷ 10 ∷ []) × (line_of 2 one ≡ 50 ∷ 32 ∷ 49 ∷ 32 ∷ 45 ∷ 10 ∷ [])
unfolding frame_line word_of digits_of width_of leading
lines = (refl, refl)

module _ (g : Config) (t : State) where
  -- after the second frame, and after the first
  second : (n : ℕ) (w : Bool) (v : Stop) → stretch n g empty_frames w 24 2 t ≡ stopped [] 24 2 t v
      → stretch (suc n) g empty_frames w 12 1 t ≡ stopped (50 ∷ 32 ∷ 49 ∷ 32 ∷ 45 ∷ 10 ∷ []) 24 2 t v
  second n w v e =
      empty_frame n g empty_frames w 12 1 t second_record 1 6 (entries w).1 record_calls.1 (lit< tt)
      ∙ ap₂ with_text lines.1 e

  first : (n : ℕ) (w : Bool) (xs : List ℕ) (at k : ℕ) (v : Stop) → stretch n g empty_frames w 12 1 t ≡ stopped xs at k t v
      → stretch (suc n) g empty_frames w 0 0 t ≡ stopped ((49 ∷ 32 ∷ 49 ∷ 32 ∷ 45 ∷ 10 ∷ []) ++ xs) at k t v
  first n w xs at k v e =
      empty_frame n g empty_frames w 0 0 t first_record 1 5 (entries w).0 record_calls.0 (lit< tt)
      ∙ ap₂ with_text lines.0 e

  full : (s : List ℕ) (w : Bool) (at k : ℕ) → stretch 0 g s w at k t ≡ stopped [] at k t Room
  unfolding stretch
  full s w at k = refl

pub turn_figures : TurnFigures
turn_figures g t = (
  empty_text_lem g t empty_frames false empty_logged.0,
  empty_text_lem g t (empty_frames ++ (17 ∷ [])) true empty_logged.1,
  first g t 1 true _ 24 2 Room (second g t 0 true Room (full g t empty_frames true 24 2)),
  first g t 0 true [] 12 1 Room (full g t empty_frames true 12 1),
  second g t 1 false Octets (stretch_by_lem 0 g empty_frames false 24 2 t More ends.1),
  first g t 2 true _ 24 2 Finished (second g t 1 true Finished (stretch_by_lem 0 g empty_frames true 24 2 t End ends.0)),
  stretch_by_lem 2 g (17 ∷ []) false 0 8 t Cut ends.2,
)

pub stop_figures : StopFigures
unfolding put octets_at next_offset refused_line word_of digits_of width_of leading
stop_figures = (refl, refl, refl, refl, refl)
