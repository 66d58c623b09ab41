-- What the octets of a frame say (document 01, "The frame").
use Rattle.std.specs.Prelude.{ℕ, ◌+◌, ◌-◌, List, [], length, get_or, take, drop, ltb, eqb, Result, Ok, Err}
use Rattle.codes.specs.Codes
use Rattle.codes.specs.Refused.{number_of}
use Rattle.codes.specs.declared.Refusal.{Refusal}
use Rattle.std.specs.Prelude.{if◌then◌else◌}
use Rattle.octets.specs.Numbers.{number_at}
use Rattle.frame.specs.Limits.{smallest_frame, largest_frame}
use Rattle.frame.specs.declared.Header.{Header}

-- the code of a length ("Codes, in order of checking", 1 and 2); 0 where neither fits
unfoldable pub length_code : ℕ → ℕ
length_code n = if ltb n smallest_frame then Codes.too_short else if ltb largest_frame n then Codes.too_long else Codes.success

-- the constant field: octets 0 to 3
abbrev pub constant_field : List ℕ → ℕ
constant_field f = number_at 4 f 0

-- the virtual link number: octets 4 and 5
abbrev pub link_number : List ℕ → ℕ
link_number f = number_at 2 f 4

-- how far before the frame's end the sequence number stands: one octet, with the four of the frame check sequence after
-- it
abbrev pub sequence_from_end : ℕ
sequence_from_end = 5

abbrev pub sequence_offset : List ℕ → ℕ
sequence_offset f = length f - sequence_from_end

abbrev pub sequence_number : List ℕ → ℕ
sequence_number f = get_or f (sequence_offset f) 0

-- what reading a frame says: the code, the link and the sequence number; and that from what the code gives
pub record Reading : Type 0 where
  pub code : ℕ
  pub link : ℕ
  pub sequence : ℕ

abbrev pub reading_of : Result Header Refusal → Reading
reading_of (Ok h) = record { code = Codes.success; link = h.link; sequence = h.sequence }
reading_of (Err r) = record { code = number_of r; link = 0; sequence = 0 }

-- frame reading: the code, the link and the sequence number; zeros after a refusal
unfoldable pub header_of : List ℕ → Reading
header_of f =
    if eqb (length_code (length f)) Codes.success
    then record { code = Codes.success; link = link_number f; sequence = sequence_number f }
    else record { code = length_code (length f); link = 0; sequence = 0 }

-- the first octet of the payload, after the two addresses and the type
abbrev pub payload_start : ℕ
payload_start = 14

-- the payload: from its first octet to the octet before the sequence number; empty after a refusal
unfoldable pub payload_of : List ℕ → List ℕ
payload_of f =
    if eqb (length_code (length f)) Codes.success
    then take (sequence_offset f - payload_start) (drop payload_start f)
    else []

-- where the payload stands, as a block of memory and an offset in it: 14 octets into the frame, or where the frame
-- itself starts after a refusal
unfoldable pub payload_place : ℕ × ℕ → List ℕ → ℕ × ℕ
payload_place p f = if eqb (length_code (length f)) Codes.success then (p.0, payload_start + p.1) else p
