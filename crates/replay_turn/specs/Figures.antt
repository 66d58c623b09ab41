-- Turns in figures (document 01, "The replay program"); proved in proofs/Figures.antt. A record of no frame octets is a frame of
-- code 1 on any tables, so these hold of all.
use Rattle.std.specs.Prelude.{ℕ, true, false, List, [], ◌∷◌, ◌++◌, map, ◌≡◌}
use Rattle.tables.specs.Rows.{Config}
use Rattle.switch.specs.Call.{State}
use Rattle.replay_text.specs.Text.{refused_line, header_line}
use Rattle.replay_turn.specs.declared.Stop.TheVariants.{Octets, Room, Finished, CutOff}
use Rattle.replay_turn.specs.Text.{text_of, over}
use Rattle.replay_turn.specs.Turn.{stopped, most_frames, stretch, progress_of}
use Rattle.replay_turn.specs.Parts.{opened, with_room, kept, kept_of}

-- two records of no frame octets
abbrev pub empty_frames : List ℕ
empty_frames =
    16 ∷ 0 ∷ 9 ∷ 0 ∷ 0 ∷ 0 ∷ 0 ∷ 0 ∷ 0 ∷ 0 ∷ 5 ∷ 1
    ∷ 16 ∷ 0 ∷ 9 ∷ 0 ∷ 0 ∷ 0 ∷ 0 ∷ 0 ∷ 0 ∷ 0 ∷ 6 ∷ 1
    ∷ []

-- `1 1 -` and `2 1 -`
abbrev pub empty_text : List ℕ
empty_text = 49 ∷ 32 ∷ 49 ∷ 32 ∷ 45 ∷ 10 ∷ 50 ∷ 32 ∷ 49 ∷ 32 ∷ 45 ∷ 10 ∷ []

-- the text of these records, with `cut` after it where another tag follows; turns with room for two lines and for one; from the
-- second record on, where more octets may follow; to the log's end; at another tag
abbrev pub TurnFigures : Type 0
TurnFigures =
    (g : Config) (t : State)
    → (text_of g t empty_frames ≡ empty_text)
    × (text_of g t (empty_frames ++ (17 ∷ [])) ≡ empty_text ++ (99 ∷ 117 ∷ 116 ∷ 10 ∷ []))
    × (stretch 2 g empty_frames true 0 0 t ≡ stopped empty_text 24 2 t Room)
    × (stretch 1 g empty_frames true 0 0 t ≡ stopped (49 ∷ 32 ∷ 49 ∷ 32 ∷ 45 ∷ 10 ∷ []) 12 1 t Room)
    × (stretch 2 g empty_frames false 12 1 t ≡ stopped (50 ∷ 32 ∷ 49 ∷ 32 ∷ 45 ∷ 10 ∷ []) 24 2 t Octets)
    × (stretch 3 g empty_frames true 0 0 t ≡ stopped empty_text 24 2 t Finished)
    × (stretch 3 g (17 ∷ []) false 0 8 t ≡ stopped (99 ∷ 117 ∷ 116 ∷ 10 ∷ []) 0 8 t CutOff)

-- which stops are the replay's end; the greatest number of a line; how a replay begins; what is kept of six octets of which the
-- first five are at hand and the first two answered
abbrev pub StopFigures : Type 0
StopFigures =
    (map over (Octets ∷ Room ∷ Finished ∷ CutOff ∷ []) ≡ false ∷ false ∷ true ∷ true ∷ [])
    × (most_frames ≡ 18446744073709551615)
    × (opened 0 36 (1 ∷ 2 ∷ header_line) ≡ with_room (progress_of 0 0 20 Octets) (header_line ++ (116 ∷ 10 ∷ [])))
    × (opened 20 3 (1 ∷ refused_line 20 3) ≡ with_room (progress_of 0 0 11 Finished) (refused_line 20 3 ++ (10 ∷ [])))
    × (kept (1 ∷ 2 ∷ 3 ∷ 4 ∷ 5 ∷ 6 ∷ []) 2 5 ≡ kept_of 3 (3 ∷ 4 ∷ 5 ∷ 4 ∷ 5 ∷ 6 ∷ []))
