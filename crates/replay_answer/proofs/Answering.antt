-- Laws of the answer to a recorded frame. Assumes nothing.
use Prim.Native.Nat.{ℕ, ◌+◌, ◌≤◌, ◌<◌}
use mathlib.Core.Path.{◌≡◌, sym, ap, ap₂, ◌∙◌}
use mathlib.Core.List.{List}
use native.Mathlib.Nat.{sub-zero}
use native.Mathlib.Omega.{arith}
use lib.ListN.{length, take, drop}
use lib.Seq.{take_at}
use Rattle.std.specs.Prelude.{slice_range}
use Rattle.octets.specs.Runs.{octets_at, put}
use Rattle.octets.proofs.Runs.{put_fits}
use Rattle.octets.proofs.Parts.{length_part}
use Rattle.frame.specs.Limits.{largest_frame}
use Rattle.frame.specs.Frame.{length_code}
use Rattle.frame.proofs.Frame.{length_long}
use Rattle.tables.specs.Rows.{Config}
use Rattle.switch_verdict.specs.Verdict.{refused}
use Rattle.switch.specs.Call.{State, call_of, After, after_of, called}
use Rattle.filter.proofs.Filter.{frame_length, route_stopped}
use Rattle.switch.proofs.Call.{call_stopped}
use Rattle.replay_log.specs.declared.FrameRecord.{FrameRecord}
use Rattle.replay_answer.specs.Answer.{replied_of, replied, record_call}

-- a frame that is too long is answered 2, by its length alone
pub called_long : (g : Config) (s : State) (os : List ℕ) (port time : ℕ) → largest_frame < length os
    → called g s (call_of os port time) ≡ after_of (refused 2) s
called_long g s os port time h =
    let two : 2 ≡ length_code (length os) = sym (length_long (length os) (omega arith) h) in
    let some : ◌≡◌ {A = ℕ} 2 0 → ⊥ = λ z. omega arith in
    sym (call_stopped g s (call_of os port time) 2 (route_stopped os g.constant g.links g.count_of_links 2 (frame_length g.constant os 2 two some) some))

-- a record in hand, the frame buffer before it and after its octets were copied
module _ (g : Config) (s : State) (d log b : List ℕ) (r : FrameRecord) (e : b ≡ put d 0 (octets_at r.size log r.start)) where
  abbrev octets : List ℕ
  octets = octets_at r.size log r.start

  -- a frame that is longer than the buffer, which has room for the longest
  pub replied_long : length d ≡ largest_frame → length d < r.size → replied_of (after_of (refused 2) s) b ≡ replied g s d (record_call log r)
  replied_long k h =
      let l : length octets ≡ r.size = length_part r.size log r.start in
      ap₂ replied_of (sym (called_long g s octets r.port r.time (omega arith))) e

  -- a frame of which the octets stand at the start of the buffer
  pub replied_copied : (f : List ℕ) → f ≡ slice_range b 0 r.size → r.size ≤ length d → (a : After) → a ≡ called g s (call_of f r.port r.time)
      → replied_of a b ≡ replied g s d (record_call log r)
  replied_copied f q h a p =
      let l : length octets ≡ r.size = length_part r.size log r.start in
      let t : f ≡ octets = q ∙ ap (λ (m : ℕ). take m b) (sub-zero r.size) ∙ ap (take r.size) (e ∙ put_fits d 0 octets (omega arith)) ∙ take_at octets (drop (0 + length octets) d) r.size l in
      ap₂ replied_of (p ∙ ap (λ (xs : List ℕ). called g s (call_of xs r.port r.time)) t) e
