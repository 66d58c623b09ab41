-- Records of a log in figures (document 01, "The replay program"); proved in proofs/Claims.antt.
use Rattle.std.specs.Prelude.{ℕ, Bool, true, false, List, [], ◌∷◌, map, ◌≡◌}
use Rattle.replay_log.specs.Claims.{frame_record}
use Rattle.replay_log.specs.Records.{record_tag, time_octets, time_and_port_octets, port_offset, frame_start}
use Rattle.replay_log.specs.Records.{longest_record, next_in}
use Rattle.replay_log.specs.declared.Entry.TheVariants.{Frame, More, Cut, End}

-- a record of three frame octets after two other octets and before one; no two of its octets are equal
abbrev pub sample_log : List ℕ
sample_log =
    201 ∷ 202
    ∷ 16 ∷ 0 ∷ 12 ∷ 21 ∷ 22 ∷ 23 ∷ 24 ∷ 25 ∷ 26 ∷ 27 ∷ 28 ∷ 29 ∷ 31 ∷ 32 ∷ 33
    ∷ 203 ∷ []

-- records of no frame octet, with the lengths 9 and 8
abbrev pub nine_long : List ℕ
nine_long = 16 ∷ 0 ∷ 9 ∷ 21 ∷ 22 ∷ 23 ∷ 24 ∷ 25 ∷ 26 ∷ 27 ∷ 28 ∷ 29 ∷ []

abbrev pub eight_long : List ℕ
eight_long = 16 ∷ 0 ∷ 8 ∷ 21 ∷ 22 ∷ 23 ∷ 24 ∷ 25 ∷ 26 ∷ 27 ∷ 28 ∷ 29 ∷ []

-- a record cut after one, two and three octets and before its last one, and no octet at all
abbrev pub cut_short : List (List ℕ)
cut_short =
    (16 ∷ []) ∷ (16 ∷ 0 ∷ []) ∷ (16 ∷ 1 ∷ 0 ∷ [])
    ∷ (16 ∷ 0 ∷ 9 ∷ 21 ∷ 22 ∷ 23 ∷ 24 ∷ 25 ∷ 26 ∷ 27 ∷ 28 ∷ [])
    ∷ []
    ∷ []

-- the numbers of the layout; the records above, whether more follows or not; tag 17; what is cut short, where nothing follows and
-- where more may
abbrev pub RecordFigures : Type 0
RecordFigures =
    (record_tag ∷ time_octets ∷ time_and_port_octets ∷ port_offset ∷ frame_start ∷ longest_record ∷ []
    ≡ 16 ∷ 8 ∷ 9 ∷ 11 ∷ 12 ∷ 65538 ∷ [])
    × ((whole : Bool) → next_in sample_log 2 whole ≡ Frame (frame_record 1519427316551916316 29 14 3 17))
    × ((whole : Bool) → next_in nine_long 0 whole ≡ Frame (frame_record 1519427316551916316 29 12 0 12))
    × ((whole : Bool) → next_in eight_long 0 whole ≡ Cut)
    × ((whole : Bool) → next_in (17 ∷ []) 0 whole ≡ Cut)
    × (map (λ s. next_in s 0 true) cut_short ≡ Cut ∷ Cut ∷ Cut ∷ Cut ∷ End ∷ [])
    × (map (λ s. next_in s 0 false) cut_short ≡ More ∷ More ∷ More ∷ More ∷ More ∷ [])
