-- Laws of what a log holds. Assumes nothing.
use Prim.Native.Nat.{ℕ, zero, suc, ◌+◌, ◌^◌, ◌≤◌, ◌<◌}
use mathlib.Core.Bool.{Bool, true, false}
use mathlib.Core.List.{List, [], ◌∷◌, ◌++◌, append_assoc, append-nil, flat_map, Memᴰ}
use mathlib.Core.Path.{◌≡◌, refl, sym, ap, ap₂, ◌∙◌}
use native.Mathlib.Omega.{arith}
use lib.ListN.{length, take, drop, length-append, take-append-drop}
use lib.Seq.{length-take-le}
use Rattle.octets.proofs.Parts.{part_front, part_after}
use Rattle.switch.specs.Call.{Call, call_of}
use Rattle.replay_log.specs.Claims.{moved, frame_record, record_of}
use Rattle.replay_log.specs.Records.{frame_start, next_in}
use Rattle.replay_log.specs.declared.FrameRecord.{FrameRecord}
use Rattle.replay_log.specs.declared.Entry.{Entry}
use Rattle.replay_log.specs.declared.Entry.TheVariants.{Frame, More, Cut, End}
use Rattle.replay_log.proofs.Claims.{record_reads_back, length_record}
use Rattle.replay_log.proofs.Records.{next_end}
use Rattle.replay_log.proofs.Settled.{next_settled, next_moved, frame_inside}
use Rattle.replay_answer.specs.Answer.{record_call}
use Rattle.replay_turn.specs.Log.{Logged, logged_of, with_call, logged_by, logged_up_to, logged_from}
use Rattle.replay_turn.specs.Claims.{EnoughRecords, records_of, LogReadsBack}

-- ---- how many records are looked for
module _ (s : List ℕ) where
  same_by : (f h : ℕ → Logged) (e : Entry) → ((r : FrameRecord) → e ≡ Frame r → f r.next ≡ h r.next) → logged_by f s e ≡ logged_by h s e
  same_by f h (Frame r) k = ap (with_call (record_call s r)) (k r refl)
  same_by f h More k = refl
  same_by f h Cut k = refl
  same_by f h End k = refl

  -- a record is found within the octets, and has some
  further : (at : ℕ) (r : FrameRecord) → next_in s at true ≡ Frame r → at < r.next
  further at r e =
      let i = frame_inside s at true r e in
      let a : r.start ≡ at + frame_start = i.0 in
      let b : r.next ≡ r.start + r.size = i.1 in
      omega arith

  none_left : (n at : ℕ) → length s < at → logged_up_to n s at ≡ logged_of [] false
  unfolding logged_up_to
  none_left zero at h = refl
  none_left (suc n) at h = ap (logged_by (logged_up_to n s) s) (sym (next_end s at true (omega arith) refl))

  by_bounds : (n m at : ℕ) → length s < at + n → length s < at + m → logged_up_to n s at ≡ logged_up_to m s at
  unfolding logged_up_to
  by_bounds zero m at h k = let g : length s < at = omega arith in none_left zero at g ∙ sym (none_left m at g)
  by_bounds (suc n) zero at h k = let g : length s < at = omega arith in none_left (suc n) at g ∙ sym (none_left zero at g)
  by_bounds (suc n) (suc m) at h k =
      same_by (logged_up_to n s) (logged_up_to m s) (next_in s at true)
      (λ r e. let f : at < r.next = further at r e in by_bounds n m r.next (omega arith) (omega arith))

  -- the records from an offset on, by the first of them
  pub logged_next : (at : ℕ) → logged_from s at ≡ logged_by (logged_from s) s (next_in s at true)
  unfolding logged_up_to
  logged_next at =
      same_by (logged_up_to (length s) s) (logged_from s) (next_in s at true)
      (λ r e. let f : at < r.next = further at r e in by_bounds (length s) (suc (length s)) r.next (omega arith) (omega arith))

pub enough_records : EnoughRecords
enough_records s at n h = by_bounds s n (suc (length s)) at (omega arith) (omega arith)

-- ---- octets before
module _ (t s : List ℕ) where
  pub call_moved : (r : FrameRecord) (at : ℕ) → record_call (t ++ s) (record { time = r.time; port = r.port; start = length t + r.start; size = r.size; next = at })
      ≡ record_call s r
  call_moved r at = ap (λ (os : List ℕ). call_of os r.port r.time) (part_after r.size t s (length t) r.start refl)

  by_moved : (n : ℕ) (e : Entry) → ((at : ℕ) → logged_up_to n (t ++ s) (length t + at) ≡ logged_up_to n s at)
      → logged_by (logged_up_to n (t ++ s)) (t ++ s) (moved (length t) e) ≡ logged_by (logged_up_to n s) s e
  by_moved n (Frame r) k = ap₂ with_call (call_moved r (length t + r.next)) (k r.next)
  by_moved n More k = refl
  by_moved n Cut k = refl
  by_moved n End k = refl

  up_to_moved : (n at : ℕ) → logged_up_to n (t ++ s) (length t + at) ≡ logged_up_to n s at
  unfolding logged_up_to
  up_to_moved zero at = refl
  up_to_moved (suc n) at =
      ap (logged_by (logged_up_to n (t ++ s)) (t ++ s)) (next_moved t s at true) ∙ by_moved n (next_in s at true) (up_to_moved n)

  pub logged_moved : (at : ℕ) → logged_from (t ++ s) (length t + at) ≡ logged_from s at
  logged_moved at =
      let l : length (t ++ s) ≡ length t + length s = length-append t s in
      up_to_moved (suc (length (t ++ s))) at ∙ enough_records s at (suc (length (t ++ s))) (omega arith)

-- the octets before the offset play no part
pub logged_dropped : (s u : List ℕ) (at : ℕ) → at ≤ length s → logged_from (drop at s ++ u) 0 ≡ logged_from (s ++ u) at
logged_dropped s u at h =
    let l : length (take at s) ≡ at = length-take-le at s h in
    let e : take at s ++ (drop at s ++ u) ≡ s ++ u = sym (append_assoc (take at s) (drop at s) u) ∙ ap (λ (xs : List ℕ). xs ++ u) (take-append-drop at s) in
    let a : length (take at s) + 0 ≡ at = omega arith in
    sym (logged_moved (take at s) (drop at s ++ u) 0) ∙ ap₂ logged_from e a

-- ---- octets after: what is settled without them is settled with them, or there are none
pub entry_settled : (s u : List ℕ) (at : ℕ) (w : Bool) → (w ≡ true → u ≡ []) → (next_in s at w ≡ More → ⊥)
    → next_in (s ++ u) at true ≡ next_in s at w
entry_settled s u at true n m = ap (λ (xs : List ℕ). next_in (s ++ xs) at true) (n refl) ∙ ap (λ (xs : List ℕ). next_in xs at true) (append-nil s)
entry_settled s u at false n m = next_settled s u at true m

-- a record that is at hand is the same call
pub call_settled : (s u : List ℕ) (at : ℕ) (w : Bool) (r : FrameRecord) → next_in s at w ≡ Frame r → record_call (s ++ u) r ≡ record_call s r
call_settled s u at w r e =
    let i = frame_inside s at w r e in
    let b : r.next ≡ r.start + r.size = i.1 in
    let c : r.next ≤ length s = i.2 in
    ap (λ (os : List ℕ). call_of os r.port r.time) (part_front r.size s u r.start (omega arith))

-- ---- a log spelled from calls
spelled_after : (h : List Call) (tail : List ℕ) (l : Logged) → ((f : Call) → Memᴰ f h → (f.time < 2 ^ 64) × (9 + length f.octets < 2 ^ 16))
    → logged_from tail 0 ≡ l → logged_from (records_of h ++ tail) 0 ≡ logged_of (h ++ l.calls) l.cut
unfolding flat_map
spelled_after [] tail l k e = e
spelled_after (f ∷ h) tail l k e =
    let first : List ℕ = record_of f.time f.port f.octets in
    let rest : List ℕ = records_of h ++ tail in
    let q = k f (Memᴰ.head refl) in
    let back = record_reads_back [] rest f.octets f.time f.port true q.0 q.1 in
    let r : FrameRecord = frame_record f.time f.port 12 (length f.octets) (12 + length f.octets) in
    let n : length first ≡ 12 + length f.octets = length_record f.time f.port f.octets in
    let z : 12 + length f.octets ≡ length first + 0 = omega arith in
    ap (λ (xs : List ℕ). logged_from xs 0) (append_assoc first (records_of h) tail)
    ∙ logged_next (first ++ rest) 0
    ∙ ap (logged_by (logged_from (first ++ rest)) (first ++ rest)) back.0
    ∙ ap₂ with_call (ap (λ (os : List ℕ). call_of os f.port f.time) back.1)
    (ap (logged_from (first ++ rest)) z ∙ logged_moved first rest 0 ∙ spelled_after h tail l (λ d i. k d (Memᴰ.tail i)) e)

pub log_reads_back : LogReadsBack
log_reads_back h tail k = (
  (λ e.
      let z : logged_from tail 0 ≡ logged_of [] false = logged_next tail 0 ∙ ap (logged_by (logged_from tail) tail) e in
      spelled_after h tail (logged_of [] false) k z ∙ ap (λ (xs : List Call). logged_of xs false) (append-nil h)),
  (λ e.
      let z : logged_from tail 0 ≡ logged_of [] true = logged_next tail 0 ∙ ap (logged_by (logged_from tail) tail) e in
      spelled_after h tail (logged_of [] true) k z ∙ ap (λ (xs : List Call). logged_of xs true) (append-nil h)),
)
