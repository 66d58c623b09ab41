-- What holds of the answer to any recorded frame. Assumes nothing.
use Prim.Native.Nat.{ℕ, ◌+◌, ◌<◌}
use mathlib.Core.Path.{◌≡◌, refl, sym, ap, ◌∙◌}
use mathlib.Core.List.{List, ◌++◌}
use native.Mathlib.Omega.{arith}
use lib.ListN.{length}
use Rattle.octets.specs.Runs.{octets_at}
use Rattle.octets.proofs.Parts.{length_part}
use Rattle.frame.specs.Limits.{largest_frame}
use Rattle.switch.specs.Call.{call_of}
use Rattle.replay_log.specs.Claims.{record_of, frame_record}
use Rattle.replay_log.specs.declared.FrameRecord.{FrameRecord}
use Rattle.replay_log.specs.declared.Entry.TheVariants.{Frame}
use Rattle.replay_log.proofs.Claims.{record_reads_back}
use Rattle.replay_answer.specs.Answer.{record_call, replied}
use Rattle.replay_answer.specs.Claims.{LongFrameSkipped, RecordAnswered, RepliedParts}
use Rattle.replay_answer.proofs.Answering.{called_long}

pub long_frame_skipped : LongFrameSkipped
long_frame_skipped g s log r h =
    let os : List ℕ = octets_at r.size log r.start in
    let n : length os ≡ r.size = length_part r.size log r.start in
    let l : largest_frame < length os = omega arith in
    called_long g s os r.port r.time l

-- the record is the one that was spelled, so its call is on the frame, the port and the time that were
pub record_answered : RecordAnswered
record_answered g s buffer before after frame time port whole r h small e =
    let log : List ℕ = before ++ record_of time port frame ++ after in
    let back = record_reads_back before after frame time port whole h small in
    let q : FrameRecord = frame_record time port (length before + 12) (length frame) (length before + 12 + length frame) in
    let one : Frame q ≡ Frame r = sym back.0 ∙ e in
    let same : q ≡ r = cc in
    ap (replied g s buffer)
    (ap (record_call log) (sym same) ∙ ap (λ (os : List ℕ). call_of os port time) back.1)

pub replied_parts : RepliedParts
replied_parts a buffer = (refl, refl)
