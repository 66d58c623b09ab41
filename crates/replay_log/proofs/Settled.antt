-- What stands at an offset of a log is settled by the octets from there on. Assumes nothing.
use Prim.Native.Nat.{ℕ, ◌+◌, ◌-◌, ◌^◌, ◌≤◌, ◌<◌}
use mathlib.Core.Path.{◌≡◌, refl, sym, ap, ap₂, ◌∙◌}
use mathlib.Core.Bool.{Bool, true, false}
use mathlib.Core.List.{List, ◌++◌}
use native.Mathlib.Omega.{arith}
use native.Mathlib.Nat.{add_assoc}
use lib.Dec.{leb, ltb, eqb}
use lib.ListN.{length, get_or, length-append, get_or-append}
use lib.Seq.{get_or-append-add}
use borrow.Author.Tests.{le-leb, lt-leb, leb-true, leb-false, ltb-true, ltb-false, eqb-true, eqb-false}
use Rattle.octets.specs.Numbers.{number_at}
use Rattle.octets.proofs.Numbers.{number_shift, number_below}
use Rattle.lists.proofs.Tests.{split}
use Rattle.fields.specs.Fields.{tag_and_length, length_at}
use Rattle.replay_log.specs.Records.{record_tag, time_octets, time_and_port_octets, port_offset, frame_start, unsettled, record_at, next_in}
use Rattle.replay_log.specs.Claims.{moved, NextSettled, NextMoved, NeverMore, FrameInside}
use Rattle.replay_log.specs.declared.FrameRecord.{FrameRecord}
use Rattle.replay_log.specs.declared.Entry.{Entry}
use Rattle.replay_log.specs.declared.Entry.TheVariants.{Frame, More, Cut, End}
use Rattle.replay_log.proofs.Records.{open_more, logged_short, logged_open, logged_frame, next_end, next_more, next_tag, next_open, next_logged}

-- a record by its offsets
abbrev logged : List ℕ → ℕ → ℕ → ℕ → FrameRecord
logged s at start next =
    record { time = number_at time_octets s (at + tag_and_length); port = get_or s (at + port_offset) 0; start = start; size = length_at s at - time_and_port_octets; next = next }

-- by the cases of the definition, with what holds in each
module _ (s : List ℕ) (at : ℕ) (w : Bool) (P : Type 0) where
  by_logged : at + tag_and_length ≤ length s
      → (length_at s at < time_and_port_octets → Cut ≡ record_at s at w → P)
      → (time_and_port_octets ≤ length_at s at → length s < at + (tag_and_length + length_at s at) → unsettled w ≡ record_at s at w → P)
      → (time_and_port_octets ≤ length_at s at → at + (tag_and_length + length_at s at) ≤ length s
      → Frame (logged s at (at + frame_start) (at + (tag_and_length + length_at s at))) ≡ record_at s at w → P)
      → P
  by_logged r f g h =
      split (ltb (length_at s at) time_and_port_octets)
      (λ e. let a = ltb-true _ _ e in f a (logged_short s at w (length_at s at) refl a))
      (λ e. let a : time_and_port_octets ≤ length_at s at = ltb-false _ _ e in
      split (leb (at + (tag_and_length + length_at s at)) (length s))
      (λ d. h a (leb-true _ _ d) (logged_frame s at w (length_at s at) refl a _ refl _ _ d refl refl))
      (λ d. g a (leb-false _ _ d) (logged_open s at w (length_at s at) refl a _ refl _ d refl)))

  by_next : (length s ≤ at → P)
      → (at < length s → (get_or s at 0 ≡ record_tag → ⊥) → Cut ≡ next_in s at w → P)
      → (at < length s → get_or s at 0 ≡ record_tag → length s < at + tag_and_length → unsettled w ≡ next_in s at w → P)
      → (at < length s → get_or s at 0 ≡ record_tag → at + tag_and_length ≤ length s → record_at s at w ≡ next_in s at w → P)
      → P
  by_next f g h k =
      split (leb (length s) at)
      (λ e. f (leb-true _ _ e))
      (λ e. let a : at < length s = leb-false _ _ e in
      split (eqb (get_or s at 0) record_tag)
      (λ d. let b : get_or s at 0 ≡ record_tag = eqb-true _ _ d in
      split (leb (at + tag_and_length) (length s))
      (λ c. k a b (leb-true _ _ c) (next_logged s at w a _ refl b _ refl _ c refl))
      (λ c. h a b (leb-false _ _ c) (next_open s at w a _ refl b _ refl _ c refl)))
      (λ d. let b = eqb-false _ _ d in g a b (next_tag s at w a _ refl b)))

never : {A : Type 0} {e : Entry} → Cut ≡ e → e ≡ More → A
never p q = let z : ◌≡◌ {A = ℕ} 0 1 = cc in absurd (omega arith)

never_frame : {A : Type 0} {r : FrameRecord} {e : Entry} → Frame r ≡ e → e ≡ More → A
never_frame p q = let z : ◌≡◌ {A = ℕ} 0 1 = cc in absurd (omega arith)

pub never_more : NeverMore
never_more s at o h e =
    let n : length_at s at < 256 ^ 2 = number_below 2 s (at + 1) o in
    by_next s at false ⊥
    (λ l. omega arith)
    (λ _ _ c. never c e)
    (λ _ _ l _. omega arith)
    (λ _ _ l c.
    by_logged s at false ⊥ l
    (λ _ d. never (d ∙ c) e)
    (λ _ d _. omega arith)
    (λ _ _ d. never_frame (d ∙ c) e))

-- of a log that has no more octets none are wanted
pub never_open : (s : List ℕ) (at : ℕ) → next_in s at true ≡ More → ⊥
unfolding unsettled
never_open s at e =
    by_next s at true ⊥
    (λ a. let f : End ≡ More = next_end s at true a refl ∙ e in let z : ◌≡◌ {A = ℕ} 0 1 = cc in omega arith)
    (λ _ _ c. never c e)
    (λ _ _ _ c. never c e)
    (λ _ _ l c.
    by_logged s at true ⊥ l
    (λ _ d. never (d ∙ c) e)
    (λ _ _ d. never (d ∙ c) e)
    (λ _ _ d. never_frame (d ∙ c) e))

-- ---- more octets after
pub next_settled : NextSettled
next_settled s t at w h =
    let k : length (s ++ t) ≡ length s + length t = length-append s t in
    let same : (i : ℕ) → i < length s → get_or (s ++ t) i 0 ≡ get_or s i 0 = λ i l. get_or-append s t 0 i l in
    let more : unsettled false ≡ next_in s at false → next_in (s ++ t) at w ≡ next_in s at false =
    λ c. absurd (h (sym c ∙ sym (open_more false refl))) in
    by_next s at false (next_in (s ++ t) at w ≡ next_in s at false)
    (λ l. absurd (h (sym (next_more s at false l refl))))
    (λ l d c. sym (next_tag (s ++ t) at w (omega arith) (get_or s at 0) (sym (same at l)) d) ∙ c)
    (λ _ _ _ c. more c)
    (λ l d r c.
    let n : length_at s at ≡ length_at (s ++ t) at = sym (number_shift 2 (s ++ t) s (at + 1) (at + 1) (λ j b. same (at + 1 + j) (omega arith))) in
    let on : (x : Entry) → x ≡ record_at (s ++ t) at w → x ≡ record_at s at false → next_in (s ++ t) at w ≡ next_in s at false =
    λ x p q. sym (next_logged (s ++ t) at w (omega arith) (get_or s at 0) (sym (same at l)) d true (sym (le-leb (at + tag_and_length) (length (s ++ t)) (omega arith))) x refl p) ∙ q ∙ c in
    by_logged s at false (next_in (s ++ t) at w ≡ next_in s at false) r
    (λ a q. on Cut (logged_short (s ++ t) at w (length_at s at) n a) q)
    (λ _ _ q. more (q ∙ c))
    (λ a b q. on _
    (logged_frame (s ++ t) at w (length_at s at) n a true (sym (le-leb (at + (tag_and_length + length_at s at)) (length (s ++ t)) (omega arith))) _ _ refl
    (sym (number_shift 8 (s ++ t) s (at + tag_and_length) (at + tag_and_length) (λ j m. same (at + tag_and_length + j) (omega arith))))
    (sym (same (at + port_offset) (omega arith))))
    q))

-- ---- octets before
moved_open : (k : ℕ) (w : Bool) → unsettled w ≡ moved k (unsettled w)
unfolding unsettled
moved_open k true = refl
moved_open k false = refl

pub next_moved : NextMoved
next_moved t s at w =
    let k : ℕ = length t in
    let l : length (t ++ s) ≡ k + length s = length-append t s in
    let far : (i j : ℕ) → j ≡ k + i → get_or s i 0 ≡ get_or (t ++ s) j 0 =
    λ i j e. sym (ap (λ (x : ℕ). get_or (t ++ s) x 0) e ∙ get_or-append-add t s i 0) in
    let P : Type 0 = next_in (t ++ s) (k + at) w ≡ moved k (next_in s at w) in
    by_next s at w P
    (λ a. split w
    (λ e. sym (next_end (t ++ s) (k + at) w (omega arith) e) ∙ ap (moved k) (next_end s at w a e))
    (λ e. sym (next_more (t ++ s) (k + at) w (omega arith) e) ∙ ap (moved k) (next_more s at w a e)))
    (λ a d c. sym (next_tag (t ++ s) (k + at) w (omega arith) (get_or s at 0) (far at (k + at) refl) d) ∙ ap (moved k) c)
    (λ a d b c.
    sym (next_open (t ++ s) (k + at) w (omega arith) (get_or s at 0) (far at (k + at) refl) d false (sym (lt-leb (k + at + tag_and_length) (length (t ++ s)) (omega arith))) _ refl refl)
    ∙ moved_open k w ∙ ap (moved k) c)
    (λ a d b c.
    let n : length_at s at ≡ length_at (t ++ s) (k + at) = number_shift 2 s (t ++ s) (at + 1) (k + at + 1) (λ j _. far (at + 1 + j) (k + at + 1 + j) (omega arith)) in
    let on : (x y : Entry) → x ≡ record_at (t ++ s) (k + at) w → x ≡ moved k y → y ≡ record_at s at w → P =
    λ x y p m q. sym (next_logged (t ++ s) (k + at) w (omega arith) (get_or s at 0) (far at (k + at) refl) d true (sym (le-leb (k + at + tag_and_length) (length (t ++ s)) (omega arith))) x refl p) ∙ m ∙ ap (moved k) (q ∙ c) in
    by_logged s at w P b
    (λ e q. on Cut Cut (logged_short (t ++ s) (k + at) w (length_at s at) n e) refl q)
    (λ e f q. on (unsettled w) (unsettled w)
    (logged_open (t ++ s) (k + at) w (length_at s at) n e false (sym (lt-leb (k + at + (tag_and_length + length_at s at)) (length (t ++ s)) (omega arith))) (unsettled w) refl refl) (moved_open k w) q)
    (λ e f q. on _ _
    (logged_frame (t ++ s) (k + at) w (length_at s at) n e true (sym (le-leb (k + at + (tag_and_length + length_at s at)) (length (t ++ s)) (omega arith)))
    (number_at time_octets s (at + tag_and_length)) (get_or s (at + port_offset) 0) refl
    (number_shift 8 s (t ++ s) (at + tag_and_length) (k + at + tag_and_length) (λ j _. far (at + tag_and_length + j) (k + at + tag_and_length + j) (omega arith)))
    (far (at + port_offset) (k + at + port_offset) (omega arith)))
    (ap₂ (λ (x y : ℕ). Frame (logged s at x y))
    (add_assoc k at frame_start) (add_assoc k at (tag_and_length + length_at s at)))
    q))

-- ---- a frame reported
not_frame : {r : FrameRecord} (w : Bool) → unsettled w ≡ Frame r → ⊥
unfolding unsettled
not_frame true e = let y : ◌≡◌ {A = ℕ} 0 1 = cc in omega arith
not_frame false e = let y : ◌≡◌ {A = ℕ} 0 1 = cc in omega arith

pub frame_inside : FrameInside
frame_inside s at w r e =
    let P : Type 0 = (r.start ≡ at + frame_start) × (r.next ≡ r.start + r.size) × (r.next ≤ length s) in
    let other : (x : Entry) → x ≡ next_in s at w → (x ≡ Frame r → ⊥) → P = λ x q n. absurd (n (q ∙ e)) in
    by_next s at w P
    (λ a. split w
    (λ f. other End (next_end s at w a f) (λ z. let y : ◌≡◌ {A = ℕ} 0 1 = cc in omega arith))
    (λ f. other More (next_more s at w a f) (λ z. let y : ◌≡◌ {A = ℕ} 0 1 = cc in omega arith)))
    (λ _ _ c. other Cut c (λ z. let y : ◌≡◌ {A = ℕ} 0 1 = cc in omega arith))
    (λ _ _ _ c. other (unsettled w) c (not_frame w))
    (λ _ _ b c.
    by_logged s at w P b
    (λ _ q. other Cut (q ∙ c) (λ z. let y : ◌≡◌ {A = ℕ} 0 1 = cc in omega arith))
    (λ _ _ q. other (unsettled w) (q ∙ c) (not_frame w))
    (λ f g q.
    let m = q ∙ c ∙ e in
    let k : logged s at (at + frame_start) (at + (tag_and_length + length_at s at)) ≡ r = cc in
    let x : at + frame_start ≡ r.start = ap (λ (z : FrameRecord). z.start) k in
    let y : length_at s at - time_and_port_octets ≡ r.size = ap (λ (z : FrameRecord). z.size) k in
    let z : at + (tag_and_length + length_at s at) ≡ r.next = ap (λ (z : FrameRecord). z.next) k in
    (sym x, omega arith, omega arith)))
