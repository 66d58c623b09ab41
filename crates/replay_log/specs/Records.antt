-- The records of a log of frames, tagged fields (document 01, "The replay program", `rig.frames`).
use Rattle.std.specs.Prelude.{ℕ, ◌+◌, ◌-◌, Bool, not, List, length, get_or, leb, ltb, eqb}
use Rattle.std.specs.Prelude.{if◌then◌else◌}
use Rattle.octets.specs.Numbers.{number_at}
use Rattle.fields.specs.Fields.{tag_and_length, length_at, field_at}
use Rattle.replay_log.specs.declared.FrameRecord.{FrameRecord}
use Rattle.replay_log.specs.declared.Entry.{Entry}
use Rattle.replay_log.specs.declared.Entry.TheVariants.{Frame, More, Cut, End}

-- the tag of a record; the octets of its time, and those of its time and its port, which its length counts beside the frame's
abbrev pub record_tag : ℕ
record_tag = 16

abbrev pub time_octets : ℕ
time_octets = 8

abbrev pub time_and_port_octets : ℕ
time_and_port_octets = time_octets + 1

-- tag and length stand before the time, the time before the port, and that before the frame
abbrev pub port_offset : ℕ
port_offset = tag_and_length + time_octets

abbrev pub frame_start : ℕ
frame_start = tag_and_length + time_and_port_octets

-- a record as long as two octets of length can make it
abbrev pub longest_record : ℕ
longest_record = tag_and_length + 65535

-- too few octets: the log is cut where no more follow
unfoldable pub unsettled : Bool → Entry
unsettled whole = if whole then Cut else More

-- a record that is complete
unfoldable pub frame_record_at : List ℕ → ℕ → FrameRecord
frame_record_at s at =
    record {
      time = number_at time_octets s (at + tag_and_length);
      port = get_or s (at + port_offset) 0;
      start = at + frame_start;
      size = length_at s at - time_and_port_octets;
      next = at + (tag_and_length + length_at s at);
    }

-- a record whose tag and length are there: a length under 9, data cut, or a frame
unfoldable pub record_at : List ℕ → ℕ → Bool → Entry
record_at s at whole =
    if ltb (length_at s at) time_and_port_octets then Cut
    else if not (field_at s at).whole then unsettled whole
    else Frame (frame_record_at s at)

-- what stands at an offset of the octets s; `whole` says that the log has none after them
unfoldable pub next_in : List ℕ → ℕ → Bool → Entry
next_in s at whole =
    if leb (length s) at then (if whole then End else More)
    else if not (eqb (field_at s at).tag record_tag) then Cut
    else if not (field_at s at).headed then unsettled whole
    else record_at s at whole
