-- What holds of the answer to any recorded frame (document 01, "The replay program"); proved in proofs/Claims.antt.
use Rattle.std.specs.Prelude.{ℕ, ◌+◌, ◌^◌, ◌<◌, Bool, List, ◌++◌, ◌≡◌, length}
use Rattle.octets.specs.Runs.{put}
use Rattle.frame.specs.Limits.{largest_frame}
use Rattle.tables.specs.Rows.{Config}
use Rattle.switch_verdict.specs.declared.Verdict.TheVariants.{Refused}
use Rattle.switch_verdict.specs.Verdict.{reported}
use Rattle.switch.specs.Call.{State, call_of, After, after_of, called}
use Rattle.replay_log.specs.Claims.{record_of}
use Rattle.replay_log.specs.Records.{next_in}
use Rattle.replay_log.specs.declared.FrameRecord.{FrameRecord}
use Rattle.replay_log.specs.declared.Entry.TheVariants.{Frame}
use Rattle.replay_answer.specs.Answer.{record_call, replied_of, replied}

-- a frame longer than any is answered 2, and nothing changes
abbrev pub LongFrameSkipped : Type 0
LongFrameSkipped =
    (g : Config) (s : State) (log : List ℕ) (r : FrameRecord) → largest_frame < r.size
    → called g s (record_call log r) ≡ after_of (reported (Refused 2)) s

-- a record that is spelled in a log is answered as the frame call answers its own frame, port and time; the buffer then begins
-- with the frame where it has room for it
abbrev pub RecordAnswered : Type 0
RecordAnswered =
    (g : Config) (s : State) (buffer before after frame : List ℕ) (time port : ℕ) (whole : Bool) (r : FrameRecord)
    → time < 2 ^ 64 → 9 + length frame < 2 ^ 16
    → next_in (before ++ record_of time port frame ++ after) (length before) whole ≡ Frame r
    → replied g s buffer (record_call (before ++ record_of time port frame ++ after) r)
    ≡ replied_of (called g s (call_of frame port time)) (put buffer 0 frame)

-- what is answered and the buffer, each by its name
abbrev pub RepliedParts : Type 0
RepliedParts = (a : After) (buffer : List ℕ) → ((replied_of a buffer).after ≡ a) × ((replied_of a buffer).buffer ≡ buffer)
