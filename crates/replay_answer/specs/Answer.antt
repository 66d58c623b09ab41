-- The answer to a recorded frame (document 01, "The replay program": one frame buffer, a longer frame skipped over and answered
-- 2).
use Rattle.std.specs.Prelude.{ℕ, List}
use Rattle.octets.specs.Runs.{octets_at, put}
use Rattle.tables.specs.Rows.{Config}
use Rattle.switch.specs.Call.{State, Call, call_of, After, called}
use Rattle.replay_log.specs.declared.FrameRecord.{FrameRecord}

-- the call that a record of a log stands for
abbrev pub record_call : List ℕ → FrameRecord → Call
record_call log r = call_of (octets_at r.size log r.start) r.port r.time

-- what is answered and left, and what the frame buffer then holds
pub record Replied : Type 0 where
  pub after : After
  pub buffer : List ℕ

abbrev pub replied_of : After → List ℕ → Replied
replied_of a d = record { after = a; buffer = d }

-- the frame call on the record's octets, however many; the buffer begins with them, or is as it was where they are too many
abbrev pub replied : Config → State → List ℕ → Call → Replied
replied g s d f = replied_of (called g s f) (put d 0 f.octets)
