-- The receiving end's answers (document 02, Q-1): what a frame is answered, from what the frame's link remembers.
use Rattle.std.specs.Prelude.{ℕ, ◌-◌, Bool, true, false, not, ◌&&◌, leb, ltb, eqb, Option, Some, None, if◌then◌else◌}
use Rattle.codes.specs.Codes
use Rattle.receive_sequence.specs.Sequence.{passes}
use Rattle.receive_answer.specs.declared.Arrival.{Arrival}
use Rattle.receive_answer.specs.declared.Network.{Network}
use Rattle.receive_answer.specs.declared.Network.TheVariants.{A, B}
use Rattle.receive_answer.specs.declared.Reception.{Reception}
use Rattle.receive_answer.specs.declared.Reception.TheVariants.{Delivered, Copy, OutOfSequence, UnknownLink, Late}

abbrev pub other : Network → Network
other A = B
other B = A

-- a frame that comes in: its link, network, sequence number, and time in us, which is document 02's stamp
abbrev pub arrival_of : ℕ → Network → ℕ → ℕ → Arrival
arrival_of link x n t = record { link = link; network = x; number = n; time = t }

-- the number of an answer
abbrev pub reception_code : Reception → ℕ
reception_code Delivered = Codes.success
reception_code UnknownLink = Codes.unknown_link
reception_code Late = Codes.late
reception_code Copy = Codes.copy
reception_code OutOfSequence = Codes.out_of_sequence

-- whether the frame was received: true for all answers but the refusals
abbrev pub taken : Reception → Bool
taken Delivered = true
taken Copy = true
taken OutOfSequence = true
taken UnknownLink = false
taken Late = false

-- the time of a delivery that awaits its copy, from two words: the first is 0 where no delivery does, the second is the
-- time
unfoldable pub delivery_of : ℕ → ℕ → Option ℕ
delivery_of waits time = if eqb waits 0 then None else Some time

-- ---- the rule, for a frame of number n with time t on a link with this SkewMax: from the link's last time, the last
-- number received on the frame's network, and the time of the other network's latest delivery of n, if that delivery
-- awaits its copy

-- whether that delivery is no more than SkewMax old; a delivery timed after the frame counts as none
unfoldable pub in_skew : ℕ → Option ℕ → ℕ → Bool
in_skew skew None t = false
in_skew skew (Some d) t = leb d t && leb (t - d) skew

unfoldable pub reception_by : ℕ → ℕ → Option ℕ → Option ℕ → ℕ → ℕ → Reception
reception_by skew time number delivery n t =
    if ltb t time then Late
    else if not (passes number n) then OutOfSequence
    else if in_skew skew delivery t then Copy
    else Delivered
