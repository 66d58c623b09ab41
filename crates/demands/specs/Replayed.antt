-- What a replay prints (document 01, "The replay program" and case 14 of the bench sheet): a function of the image's octets and
-- the log's. Proved in proofs/Replayed.antt.
use Rattle.std.specs.Prelude.{ℕ, ◌^◌, ◌<◌, true, false, ◌≡◌, eqb, length, replicate}
use mathlib.Core.List.{List, [], ◌∷◌, ◌++◌, Memᴰ}
use Rattle.codes.specs.Codes
use Rattle.std.specs.Prelude.{if◌then◌else◌}
use Rattle.switch.specs.Call.{State, state_of, Call, call_of}
use Rattle.image_field.specs.Checks.{account_fields}
use Rattle.image_read.specs.Read.{read_image}
use Rattle.image_read.specs.Bench.{image_p}
use Rattle.image_fill.specs.Filling.{Runs, capacities}
use Rattle.image_load.specs.Loading.{loading}
use Rattle.image_round_trip.specs.RoundTrips.{tables_in, loaded_tables}
use Rattle.replay_text.specs.Text.{refused_line, header_line}
use Rattle.replay_turn.specs.Claims.{records_of}
use Rattle.replay_turn.specs.Text.{Turn, over, read_by, printed, standing_at, text_of}
use Rattle.replay_turn.specs.Parts.{opening_text}
use Rattle.demands.specs.History.{state_in}
use Rattle.demands.specs.Bench.{sent}

-- credits full and last times 0, one each for the accounts of an image
abbrev pub image_state : List ℕ → State
image_state s =
    state_of (capacities (account_fields s) (read_image s).settings.accounts) (replicate (read_image s).settings.accounts 0)

-- the header and the lines of the log, by the image's own tables; or the only line of an image that is refused
abbrev pub replay_text : List ℕ → List ℕ → List ℕ
replay_text image log =
    opening_text (read_image image).code (read_image image).offset
    ++ (if eqb (read_image image).code Codes.success then text_of (tables_in image) (image_state image) log else [])

-- the turns of a replay print this, whatever the runs were into which the image was loaded, however the log was read in pieces
-- and however many lines there was room for at a time
abbrev pub ReplayOfRig : Type 0
ReplayOfRig =
    (image : List ℕ) (r : Runs) → (loading image r).answer.code ≡ 0
    → (cs ds : List Turn) → ((c : Turn) → Memᴰ c cs → c.whole ≡ false)
    → ((c : Turn) → Memᴰ c ds → (c.piece ≡ []) × (c.whole ≡ true))
    → length (read_by cs) < 2 ^ 64
    → over (standing_at (loaded_tables image r) (state_in (loading image r).runs) (cs ++ ds)).stop ≡ true
    → header_line ++ printed (loaded_tables image r) (state_in (loading image r).runs) (cs ++ ds) ≡ replay_text image (read_by cs)

-- a refused image gives one line, whatever the log
abbrev pub RefusedRig : Type 0
RefusedRig =
    (image log : List ℕ) → ((read_image image).code ≡ 0 → ⊥)
    → replay_text image log ≡ refused_line (read_image image).code (read_image image).offset

-- ---- case 14: link 7, port 2, 200 octets at 0, 499, 500 and 499, then link 8 at 600
abbrev pub sheet_calls : List Call
sheet_calls =
    sent 200 0 ∷ sent 200 499 ∷ sent 200 500 ∷ sent 200 499
    ∷ call_of (3 ∷ 0 ∷ 0 ∷ 0 ∷ 0 ∷ 8 ∷ replicate 194 0) 2 600
    ∷ []

-- `# frame code credit`, `1 0 100000`, `2 9 199800`, `3 0 0`, `4 8 0`, `5 4 -`
abbrev pub sheet_text : List ℕ
sheet_text =
    (35 ∷ 32 ∷ 102 ∷ 114 ∷ 97 ∷ 109 ∷ 101 ∷ 32 ∷ 99 ∷ 111 ∷ 100 ∷ 101 ∷ 32 ∷ 99 ∷ 114 ∷ 101 ∷ 100 ∷ 105 ∷ 116 ∷ 10 ∷ [])
    ++ (49 ∷ 32 ∷ 48 ∷ 32 ∷ 49 ∷ 48 ∷ 48 ∷ 48 ∷ 48 ∷ 48 ∷ 10 ∷ [])
    ++ (50 ∷ 32 ∷ 57 ∷ 32 ∷ 49 ∷ 57 ∷ 57 ∷ 56 ∷ 48 ∷ 48 ∷ 10 ∷ [])
    ++ (51 ∷ 32 ∷ 48 ∷ 32 ∷ 48 ∷ 10 ∷ [])
    ++ (52 ∷ 32 ∷ 56 ∷ 32 ∷ 48 ∷ 10 ∷ [])
    ++ (53 ∷ 32 ∷ 52 ∷ 32 ∷ 45 ∷ 10 ∷ [])

-- its whole output; the same with `cut` as its last line where one octet of a record follows; and `image 20 0` for no image
abbrev pub CaseFourteen : Type 0
CaseFourteen =
    (replay_text image_p (records_of sheet_calls) ≡ sheet_text)
    × (replay_text image_p (records_of sheet_calls ++ (16 ∷ [])) ≡ sheet_text ++ (99 ∷ 117 ∷ 116 ∷ 10 ∷ []))
    × ((log : List ℕ) → replay_text [] log ≡ 105 ∷ 109 ∷ 97 ∷ 103 ∷ 101 ∷ 32 ∷ 50 ∷ 48 ∷ 32 ∷ 48 ∷ 10 ∷ [])
