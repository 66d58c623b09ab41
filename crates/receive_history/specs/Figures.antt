-- A history of the receiving end in figures (document 02, Q-1); proved in proofs/Figures.antt.
use Rattle.std.specs.Prelude.{ℕ, List, [], ◌∷◌, map, ◌≡◌, length, replicate}
use Rattle.receive_answer.specs.Answer.{arrival_of, reception_code}
use Rattle.receive_answer.specs.declared.Arrival.{Arrival}
use Rattle.receive_answer.specs.declared.Network.TheVariants.{A, B}
use Rattle.receive_history.specs.History.{Empty, frame_answers}

-- two rows: link 258 with SkewMax 10, and link 258 again, with SkewMax 0
abbrev pub skew_ten : List ℕ
skew_ten = 1 ∷ 2 ∷ 0 ∷ 0 ∷ 0 ∷ 10 ∷ 1 ∷ 2 ∷ 0 ∷ 0 ∷ 0 ∷ 0 ∷ []

-- frames with their network, number and time. B's first frame is late, since the link's last time is A's; then that
-- frame is a copy, exactly SkewMax old; 1 again is no step on, nor is 4 after 1; 5 follows the 4 that was received;
-- link 259 has no row; after 255 passes 1; 0 passes, and its delivery on A is 11 old when 0 comes on B; the delivery on
-- B awaits its copy
abbrev pub frames_in_figures : List Arrival
frames_in_figures =
    arrival_of 258 A 1 100 ∷ arrival_of 258 B 1 90 ∷ arrival_of 258 B 1 110 ∷ arrival_of 258 B 1 110
    ∷ arrival_of 258 A 4 120 ∷ arrival_of 258 A 5 120 ∷ arrival_of 259 A 6 120 ∷ arrival_of 258 A 255 121 ∷ arrival_of 258 A 1 122
    ∷ arrival_of 258 A 0 130 ∷ arrival_of 258 B 0 141 ∷ arrival_of 258 A 0 141
    ∷ []

-- the codes of these frames, from any two memories that are empty
abbrev pub HistoryInFigures : Type 0
HistoryInFigures =
    (r : List ℕ) → length r ≡ 2054 → Empty skew_ten r
    → map (λ a. reception_code a.says) (frame_answers skew_ten r frames_in_figures)
    ≡ 0 ∷ 8 ∷ 30 ∷ 31 ∷ 31 ∷ 0 ∷ 4 ∷ 31 ∷ 0 ∷ 0 ∷ 0 ∷ 30 ∷ []

-- memories of zeros are empty, however long and whatever the rows
abbrev pub ZerosAreEmpty : Type 0
ZerosAreEmpty = (rows : List ℕ) (n : ℕ) → Empty rows (replicate n 0)
