-- What holds of frame reading for any octets: its codes, what a refusal gives, the payload's length, and a frame spelled from its
-- values. Assumes nothing.
use Prim.Native.Nat.{ℕ, ◌+◌, ◌-◌, ◌≤◌}
use mathlib.Core.Path.{◌≡◌, refl, sym, ap, ◌∙◌}
use mathlib.Core.List.Memᴰ
use mathlib.Core.List.{List, [], ◌∷◌, ◌++◌, append_assoc}
use native.Mathlib.Nat.{zero-add}
use native.Mathlib.Omega.{arith}
use lib.Dec.{ltb}
use Rattle.lists.specs.Lines.{first_fit}
use Rattle.lists.proofs.Tests.{split}
use lib.ListN.{length, take, drop, length-append, length-drop}
use lib.Seq.{length-take-le, take_at, drop_at, get_or_at}
use Rattle.octets.specs.Numbers.{number_at}
use Rattle.octets.specs.Spelled.{spelled, Fit}
use Rattle.octets.proofs.Spelled.{spelled_reads, length_spelled}
use Rattle.frame.specs.Frame.{Reading, length_code, sequence_number, sequence_offset, header_of, payload_start, payload_of, payload_place}
use Rattle.frame.specs.Claims.{LengthLimits, ReadingCodes, ReadingAnswers, ReadingRefused, PayloadLength, head_parts, frame_of, FrameRead, FrameReadsBack, FrameFigures}
use Rattle.frame.proofs.Frame.{by_length, within, length_good, header_code, header_refused, header_read, payload_refused, payload_read}

pub reading_answers : ReadingAnswers
reading_answers f =
    by_length (length f)
    (λ _ e. Memᴰ.tail (Memᴰ.head (header_code f ∙ e)))
    (λ _ _ e. Memᴰ.tail (Memᴰ.tail (Memᴰ.head (header_code f ∙ e))))
    (λ _ _ e. Memᴰ.head (header_code f ∙ e))

pub reading_codes : ReadingCodes
unfolding first_fit length_code header_of
reading_codes f = split (ltb (length f) 64) (λ e. simp e) (λ e. split (ltb 1518 (length f)) (λ d. simp (e, d)) (λ d. simp (e, d)))

pub reading_refused : ReadingRefused
reading_refused f place h =
    let k : length_code (length f) ≡ 0 → ⊥ = λ z. h (header_code f ∙ z) in
    let e = header_refused f (length_code (length f)) refl k in
    let p = payload_refused f (length_code (length f)) refl place k in (
      ap (λ (x : Reading). x.link) (sym e),
      ap (λ (x : Reading). x.sequence) (sym e),
      sym p.0,
      sym p.1 ∙ ap (λ (o : ℕ). (place.0, o)) (zero-add place.1),
    )

pub payload_length : PayloadLength
payload_length f z =
    let c : length_code (length f) ≡ 0 = sym (header_code f) ∙ z in
    let w = within (length f) c in
    let r : sequence_offset f - payload_start ≤ length (drop payload_start f) = simp length-drop (omega arith) in
    let e : length (payload_of f) ≡ sequence_offset f - payload_start =
    ap length (sym (payload_read f (length_code (length f)) refl (0, 0) c).0) ∙ length-take-le _ (drop payload_start f) r in
    (omega arith, λ h. omega arith, λ h. omega arith)

pub length_limits : LengthLimits
unfolding length_code
length_limits = (refl, refl, refl, refl)

-- ---- a frame spelled from its values
module _ (constant link : ℕ) (between payload : List ℕ) (sequence : ℕ) (check : List ℕ) (fit : Fit (head_parts constant link))
    (b : length between ≡ 8) (low : 45 ≤ length payload) (high : length payload ≤ 1499) (c : length check ≡ 4) where
  abbrev head : List ℕ
  head = spelled (head_parts constant link)

  abbrev frame : List ℕ
  frame = frame_of constant link between payload sequence check

  front : length (head ++ between) ≡ 14
  front = let l = length_spelled (head_parts constant link) in let m = length-append head between in omega arith

  before : length (head ++ between ++ payload) ≡ 14 + length payload
  before = let m = length-append (head ++ between) payload in let l = front in omega arith

  long : length frame ≡ 19 + length payload
  long = let m = length-append (head ++ between ++ payload) (sequence ∷ check) in let l = before in omega arith

  good : length_code (length frame) ≡ 0
  good = let l = long in length_good (length frame) (omega arith) (omega arith)

  parted : frame ≡ head ++ between ++ (payload ++ (sequence ∷ check))
  parted = append_assoc (head ++ between) payload (sequence ∷ check)

  reads : (number_at 4 frame 0 ≡ constant) × (number_at 2 frame 4 ≡ link)
  reads =
      let s : frame ≡ head ++ (between ++ (payload ++ (sequence ∷ check))) = parted ∙ append_assoc head between (payload ++ (sequence ∷ check)) in
      let r = spelled_reads (head_parts constant link) [] (between ++ (payload ++ (sequence ∷ check))) fit in
      (ap (λ (x : List ℕ). number_at 4 x 0) s ∙ r.0, ap (λ (x : List ℕ). number_at 2 x 4) s ∙ r.1.0)

  last : sequence_number frame ≡ sequence
  last = let l = long in let m = before in get_or_at (head ++ between ++ payload) sequence check 0 (sequence_offset frame) (omega arith)

  middle : payload_of frame ≡ payload
  middle =
      let l = long in
      sym (payload_read frame (length_code (length frame)) refl (0, 0) good).0
      ∙ ap (λ (x : List ℕ). take (sequence_offset frame - payload_start) (drop payload_start x)) parted
      ∙ ap (take (sequence_offset frame - payload_start)) (drop_at (head ++ between) (payload ++ (sequence ∷ check)) payload_start front)
      ∙ take_at payload (sequence ∷ check) (sequence_offset frame - payload_start) (omega arith)

  read_back_lem : FrameRead constant link payload sequence frame
  read_back_lem =
      record {
        constant_field_lem = reads.0;
        link_number_lem = reads.1;
        header = sym (header_read frame (length_code (length frame)) refl link sequence good (sym reads.1) (sym last));
        payload_octets = middle;
      }

pub frame_reads_back : FrameReadsBack
frame_reads_back = read_back_lem

pub frame_figures : FrameFigures
unfolding length_code number_at header_of payload_of payload_place
frame_figures = (refl, record { constant_field_lem = refl; link_number_lem = refl; header = refl; payload_octets = refl }, λ block at. refl)
