-- What holds of frame reading for any octets, and of frames spelled from their values (document 01, "The frame"); proved in
-- proofs/Claims.antt.
use Rattle.std.specs.Prelude.{ℕ, ◌+◌, ◌≤◌, ◌≡◌, length, ltb}
use mathlib.Core.List.{List, [], ◌∷◌, ◌++◌, Memᴰ}
use Rattle.lists.specs.Lines.{line, first_fit}
use Rattle.octets.specs.Spelled.{Part, part, spelled, Fit}
use Rattle.frame.specs.Frame.{length_code, constant_field, link_number, sequence_from_end, header_of}
use Rattle.frame.specs.Frame.{payload_start, payload_of, payload_place}

-- the limits of a length at both sides
abbrev pub LengthLimits : Type 0
LengthLimits = (length_code 63 ≡ 1) × (length_code 64 ≡ 0) × (length_code 1518 ≡ 0) × (length_code 1519 ≡ 2)

-- demand 1: the codes that frame reading can give
abbrev pub ReadingAnswers : Type 0
ReadingAnswers = (f : List ℕ) → Memᴰ (header_of f).code (0 ∷ 1 ∷ 2 ∷ [])

-- the code of frame reading, line by line
abbrev pub ReadingCodes : Type 0
ReadingCodes = (f : List ℕ) → (header_of f).code ≡ first_fit (line 1 (ltb (length f) 64) ∷ line 2 (ltb 1518 (length f)) ∷ [])

-- a refused frame has no link, no sequence number and no payload; the part handed back stands where the frame starts
abbrev pub ReadingRefused : Type 0
ReadingRefused =
    (f : List ℕ) (place : ℕ × ℕ) → ((header_of f).code ≡ 0 → ⊥)
    → ((header_of f).link ≡ 0) × ((header_of f).sequence ≡ 0) × (payload_of f ≡ []) × (payload_place place f ≡ place)

-- the length of the payload of a frame that is read, and so in the smallest and in the largest frame
abbrev pub PayloadLength : Type 0
PayloadLength =
    (f : List ℕ) → (header_of f).code ≡ 0
    → (length (payload_of f) + (payload_start + sequence_from_end) ≡ length f)
    × (length f ≡ 64 → length (payload_of f) ≡ 45)
    × (length f ≡ 1518 → length (payload_of f) ≡ 1499)

-- ---- a frame spelled from its values reads back: the constant field (4), the virtual link (2), eight further octets
-- of addresses and type, the payload, the sequence number (1) and the frame check sequence (4), whatever the octets
-- that are not judged
abbrev pub head_parts : ℕ → ℕ → List Part
head_parts constant link = part 4 constant ∷ part 2 link ∷ []

abbrev pub frame_of : ℕ → ℕ → List ℕ → List ℕ → ℕ → List ℕ → List ℕ
frame_of constant link between payload sequence check =
    spelled (head_parts constant link) ++ between ++ payload ++ (sequence ∷ check)

pub record FrameRead (constant link : ℕ) (payload : List ℕ) (sequence : ℕ) (f : List ℕ) : Type 0 where
  pub constant_field_lem : constant_field f ≡ constant
  pub link_number_lem : link_number f ≡ link
  pub header : header_of f ≡ record { code = 0; link = link; sequence = sequence }
  pub payload_octets : payload_of f ≡ payload

abbrev pub FrameReadsBack : Type 0
FrameReadsBack =
    (constant link : ℕ) (between payload : List ℕ) (sequence : ℕ) (check : List ℕ) → Fit (head_parts constant link)
    → length between ≡ 8 → 45 ≤ length payload → length payload ≤ 1499 → length check ≡ 4
    → FrameRead constant link payload sequence (frame_of constant link between payload sequence check)

-- a frame of 64 octets that all differ: its values, and where its payload stands, in figures
abbrev pub sample_payload : List ℕ
sample_payload =
    15 ∷ 16 ∷ 17 ∷ 18 ∷ 19 ∷ 20 ∷ 21 ∷ 22 ∷ 23 ∷ 24 ∷ 25 ∷ 26 ∷ 27 ∷ 28 ∷ 29 ∷ 30 ∷ 31 ∷ 32 ∷ 33 ∷ 34 ∷ 35 ∷ 36 ∷ 37 ∷ 38 ∷ 39
    ∷ 40 ∷ 41 ∷ 42 ∷ 43 ∷ 44 ∷ 45 ∷ 46 ∷ 47 ∷ 48 ∷ 49 ∷ 50 ∷ 51 ∷ 52 ∷ 53 ∷ 54 ∷ 55 ∷ 56 ∷ 57 ∷ 58 ∷ 59 ∷ []

abbrev pub sample_frame : List ℕ
sample_frame =
    1 ∷ 2 ∷ 3 ∷ 4 ∷ 5 ∷ 6 ∷ 7 ∷ 8 ∷ 9 ∷ 10 ∷ 11 ∷ 12 ∷ 13 ∷ 14 ∷ sample_payload
    ++ (60 ∷ 61 ∷ 62 ∷ 63 ∷ 64 ∷ [])

abbrev pub FrameFigures : Type 0
FrameFigures =
    (length sample_frame ≡ 64)
    × FrameRead 16909060 1286 sample_payload 60 sample_frame
    × ((block at : ℕ) → payload_place (block, at) sample_frame ≡ (block, 14 + at))
