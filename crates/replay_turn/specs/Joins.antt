-- What joins the code's turns to the machine, and the text to its frames (document 01, "The replay program"); proved in proofs/.
use Rattle.std.specs.Prelude.{ℕ, ◌+◌, ◌/◌, ◌^◌, ◌≤◌, ◌<◌, true, false, ◌≡◌, length, take, drop}
use mathlib.Core.List.{List, [], ◌∷◌, ◌++◌, Memᴰ}
use Rattle.octets.specs.Runs.{put}
use Rattle.tables.specs.Rows.{Config}
use Rattle.switch.specs.Call.{State, Call, called}
use Rattle.switch.specs.History.{final_state}
use Rattle.replay_text.specs.Text.{line_of, refused_line, header_line}
use Rattle.replay_turn.specs.declared.Progress.{Progress}
use Rattle.replay_turn.specs.declared.Stop.{Stop}
use Rattle.replay_turn.specs.declared.Stop.TheVariants.{Octets, Finished}
use Rattle.replay_turn.specs.Log.{logged_of}
use Rattle.replay_turn.specs.Turn.{Turned, turned}
use Rattle.replay_turn.specs.Parts.{opened}
use Rattle.replay_turn.specs.Text.{text_after, Standing, standing_of, Turn, over, replaying, read_by, standing_at}

-- a turn of the code is a call of the machine. The octets from the turn's offset on are those that were at hand and those that were
-- read; the room holds a line for each 36 characters. The turn puts the machine's text at the front of the room, and returns where
-- the machine then stands
pub record SameTurn (g : Config) (s : List ℕ) (x : Standing) (c : Turn) (d : List ℕ) (r : Turned) : Type 0 where
  pub text : r.room ≡ put d 0 ((replaying g).says x c)
  pub written : r.progress.written ≡ length ((replaying g).says x c)
  pub inside : r.progress.at ≤ length s
  pub left : standing_of (drop r.progress.at s) r.progress.frames r.state r.progress.stop ≡ (replaying g).leaves x c

abbrev pub TurnIsCall : Type 0
TurnIsCall =
    (g : Config) (s : List ℕ) (x : Standing) (c : Turn) (p : Progress) (d : List ℕ) → over x.stop ≡ false
    → p.at ≤ length s → drop p.at s ≡ x.hand ++ c.piece → p.frames ≡ x.frames → c.lines ≡ length d / 36
    → SameTurn g s x c d (turned g s c.whole p d x.state)

-- a replay ends: after the log's end, more turns with room for a line than octets were read are enough, whatever the log
abbrev pub ReplayEnds : Type 0
ReplayEnds =
    (g : Config) (t : State) (cs ds : List Turn)
    → ((c : Turn) → Memᴰ c ds → (c.piece ≡ []) × (c.whole ≡ true) × (0 < c.lines))
    → length (read_by cs) < length ds
    → over (standing_at g t (cs ++ ds)).stop ≡ true

-- the text frame by frame: none for none; each frame adds a line with the number of frames up to it, answered on what the frames
-- before it left; and `cut` comes last
abbrev pub TextByFrames : Type 0
TextByFrames =
    (g : Config) (t : State) (h : List Call) (f : Call)
    → (text_after g t 0 (logged_of [] false) ≡ [])
    × (text_after g t 0 (logged_of (h ++ (f ∷ [])) false)
    ≡ text_after g t 0 (logged_of h false) ++ line_of (length h + 1) (called g (final_state g t h) f).says)
    × (text_after g t 0 (logged_of h true) ≡ text_after g t 0 (logged_of h false) ++ (99 ∷ 117 ∷ 116 ∷ 10 ∷ []))

-- a replay begins with the header, or with the line of a refused image, and is then over; 36 characters are room enough
abbrev pub BeginsWith : ℕ → ℕ → List ℕ → List ℕ → Stop → Type 0
BeginsWith code offset d text stop =
    (take (opened code offset d).progress.written (opened code offset d).room ≡ text) × ((opened code offset d).progress.stop ≡ stop)

abbrev pub Beginnings : Type 0
Beginnings =
    (code offset : ℕ) (d : List ℕ) → code < 2 ^ 8 → 36 ≤ length d
    → (code ≡ 0 → BeginsWith code offset d header_line Octets)
    × ((code ≡ 0 → ⊥) → BeginsWith code offset d (refused_line code offset) Finished)
