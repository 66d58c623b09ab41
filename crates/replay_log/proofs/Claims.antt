-- A record spelled and read, what is no whole record, and records in figures. Assumes nothing.
use Prim.Native.Nat.{ℕ, suc, ◌+◌, ◌-◌, ◌^◌, ◌≤◌, ◌<◌}
use mathlib.Core.Path.{◌≡◌, refl, sym, ap, ap₂, ◌∙◌}
use mathlib.Core.Bool.{Bool, true, false}
use mathlib.Core.List.{List, ◌∷◌, ◌++◌}
use native.Mathlib.Omega.{arith}
use native.Mathlib.Nat.{zero-add}
use lib.ListN.{length, get_or, length-append, get_or-append}
use lib.Seq.{get_or-append-add, get_or_at}
use borrow.Author.Tests.{le-leb, lt-leb, leb-true}
use lib.Dec.{leb}
use Rattle.octets.specs.Numbers.{number_at, octets_of}
use Rattle.octets.specs.Runs.{octets_at}
use Rattle.octets.proofs.Numbers.{number_shift, number_octets_lem, length_octets}
use Rattle.octets.proofs.Parts.{get_d_part, part_is}
use Rattle.fields.specs.Fields.{field_of, field_at, length_at}
use Rattle.fields.specs.declared.Field.{Field}
use Rattle.fields.proofs.Claims.{field_reads_back}
use Rattle.fields.proofs.Fields.{length_field}
use Rattle.replay_log.specs.Records.{unsettled, frame_record_at, record_at, next_in}
use Rattle.replay_log.specs.Claims.{frame_record, record_of, RecordReadsBack, NoWholeRecord}
use Rattle.replay_log.specs.Figures.{RecordFigures}
use Rattle.replay_log.specs.declared.Entry.{Entry}
use Rattle.replay_log.specs.declared.Entry.TheVariants.{Frame, More, Cut}
use Rattle.replay_log.proofs.Records.{logged_short, logged_open, logged_frame, next_end, next_more, next_tag, next_open, next_logged}

-- ---- the data of a record: time, port, frame
module _ (time port : ℕ) (frame : List ℕ) where
  abbrev bytes : List ℕ
  bytes = octets_of 8 time ++ (port ∷ frame)

  length_bytes : length bytes ≡ 9 + length frame
  length_bytes =
      let l = length_octets 8 time in
      let a = length-append (octets_of 8 time) (port ∷ frame) in
      omega arith

  bytes_time : (k : ℕ) → k < 8 → get_or bytes k 0 ≡ get_or (octets_of 8 time) k 0
  bytes_time k h = let l = length_octets 8 time in get_or-append (octets_of 8 time) (port ∷ frame) 0 k (omega arith)

  bytes_port : get_or bytes 8 0 ≡ port
  bytes_port = get_or_at (octets_of 8 time) port frame 0 8 (length_octets 8 time)

  bytes_frame : (k : ℕ) → get_or bytes (9 + k) 0 ≡ get_or frame k 0
  bytes_frame k =
      let l = length_octets 8 time in
      let e : length (octets_of 8 time) + suc k ≡ 9 + k = omega arith in
      ap (λ (i : ℕ). get_or bytes i 0) (sym e) ∙ get_or-append-add (octets_of 8 time) (port ∷ frame) (suc k) 0

-- ---- a record found between other octets
module _ (before after frame : List ℕ) (time port : ℕ) (small : 9 + length frame < 2 ^ 16) where
  abbrev run : List ℕ
  run = before ++ field_of 16 (bytes time port frame) ++ after

  n_is : length (bytes time port frame) ≡ 9 + length frame
  n_is = length_bytes time port frame

  field_is : field_at run (length before) ≡ record { headed = true; tag = 16; size = length (bytes time port frame); whole = true }
  field_is = (field_reads_back before after (bytes time port frame) 16 (omega (arith, n_is))).0

  octet : (k : ℕ) → k < 9 + length frame → get_or run (length before + 3 + k) 0 ≡ get_or (bytes time port frame) k 0
  octet k h =
      sym (get_d_part (length (bytes time port frame)) run (length before + 3) k (omega (arith, n_is)))
      ∙ ap (λ (xs : List ℕ). get_or xs k 0) (field_reads_back before after (bytes time port frame) 16 (omega (arith, n_is))).1

  time_is : time < 2 ^ 64 → time ≡ number_at 8 run (length before + 3)
  time_is h =
      sym (number_shift 8 run (octets_of 8 time) (length before + 3) 0
      (λ k b.
      octet k (omega arith) ∙ bytes_time time port frame k b
      ∙ ap (λ (i : ℕ). get_or (octets_of 8 time) i 0) (sym (zero-add k)))
      ∙ number_octets_lem 8 time (omega arith))

  port_is : port ≡ get_or run (length before + 11) 0
  port_is =
      let e : length before + 11 ≡ length before + 3 + 8 = omega arith in
      sym (ap (λ (i : ℕ). get_or run i 0) e ∙ octet 8 (omega arith) ∙ bytes_port time port frame)

  frame_is : octets_at (length frame) run (length before + 12) ≡ frame
  frame_is =
      part_is (length frame) run (length before + 12) frame refl
      (λ k b.
      let e : length before + 12 + k ≡ length before + 3 + (9 + k) = omega arith in
      ap (λ (i : ℕ). get_or run i 0) e ∙ octet (9 + k) (omega arith) ∙ bytes_frame time port frame k)

  entry_is : (whole : Bool) → time < 2 ^ 64
      → Frame (frame_record time port (length before + 12) (length frame) (length before + 12 + length frame))
      ≡ next_in run (length before) whole
  entry_is whole h =
      let n : 9 + length frame ≡ length_at run (length before) = sym n_is ∙ sym (ap (λ (f : Field). f.size) field_is) in
      let headed : true ≡ leb (length before + 3) (length run) = sym (ap (λ (f : Field). f.headed) field_is) in
      let room : true ≡ leb (length before + (3 + (9 + length frame))) (length run) =
      sym (ap (λ (f : Field). f.whole) field_is) ∙ ap (λ (m : ℕ). leb (length before + (3 + m)) (length run)) (sym n) in
      let inside : length before + 3 ≤ length run = leb-true _ _ (sym headed) in
      let size : length frame ≡ 9 + length frame - 9 = omega arith in
      let next : length before + 12 + length frame ≡ length before + (3 + (9 + length frame)) = omega arith in
      ap₂ (λ (x y : ℕ). Frame (frame_record time port (length before + 12) x y)) size next
      ∙ next_logged run (length before) whole (omega arith) 16 (sym (ap (λ (f : Field). f.tag) field_is)) refl true headed _ refl
      (logged_frame run (length before) whole (9 + length frame) n (omega arith) true room time port refl (time_is h) port_is)

pub record_reads_back : RecordReadsBack
unfolding record_of
record_reads_back before after frame time port whole h small =
    (sym (entry_is before after frame time port small whole h), frame_is before after frame time port small)

pub length_record : (time port : ℕ) (frame : List ℕ) → length (record_of time port frame) ≡ 12 + length frame
unfolding record_of
length_record time port frame =
    let a = length_field 16 (bytes time port frame) in
    let b = length_bytes time port frame in
    omega arith

-- ---- what is no whole record
module _ (s : List ℕ) (at : ℕ) (tag : get_or s at 0 ≡ 16) where
  -- tag and length are there
  headed : at + 3 ≤ length s → (whole : Bool) (x : Entry) → x ≡ record_at s at whole → next_in s at whole ≡ x
  headed h whole x e =
      sym (next_logged s at whole (omega arith) (get_or s at 0) refl tag true (sym (le-leb (at + 3) (length s) h)) x refl e)

  -- they are not, or the data is not
  no_length : at < length s → length s < at + 3 → (whole : Bool) (x : Entry) → x ≡ unsettled whole → next_in s at whole ≡ x
  no_length h l whole x e =
      sym (next_open s at whole h (get_or s at 0) refl tag false (sym (lt-leb (at + 3) (length s) l)) x refl e)

  no_data : at + 3 ≤ length s → 9 ≤ length_at s at → length s < at + (3 + length_at s at)
      → (whole : Bool) (x : Entry) → x ≡ unsettled whole → next_in s at whole ≡ x
  no_data h n l whole x e =
      headed h whole x
      (logged_open s at whole (length_at s at) refl n false (sym (lt-leb (at + (3 + length_at s at)) (length s) l)) x refl e)

pub no_whole_record : NoWholeRecord
unfolding unsettled
no_whole_record s at = (
  (λ h. (sym (next_end s at true h refl), sym (next_more s at false h refl))),
  (λ whole h d. sym (next_tag s at whole h (get_or s at 0) refl d)),
  (λ whole h t n. headed s at t h whole Cut (logged_short s at whole (length_at s at) refl n)),
  (λ h t l. (no_length s at t h l true Cut refl, no_length s at t h l false More refl)),
  (λ h t n l. (no_data s at t h n l true Cut refl, no_data s at t h n l false More refl)),
)

pub record_figures : RecordFigures
unfolding next_in record_at frame_record_at unsettled number_at
record_figures = (refl, (λ whole. refl), (λ whole. refl), (λ whole. refl), (λ whole. refl), refl, refl)
