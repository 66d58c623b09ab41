-- Laws of a log's records, one for each answer. Assumes nothing.
use Prim.Native.Nat.{ℕ, ◌+◌, ◌-◌, ◌≤◌, ◌<◌}
use mathlib.Core.Path.{◌≡◌, sym, ap, ◌∙◌}
use mathlib.Core.Bool.{Bool, true, false}
use mathlib.Core.List.{List}
use lib.Dec.{leb, ltb}
use lib.ListN.{length, get_or}
use borrow.Author.Tests.{le-leb, leb-true, lt-leb, lt-ltb, le-ltb, eq-eqb, ne_eqb}
use Rattle.octets.specs.Numbers.{number_at}
use Rattle.fields.specs.Fields.{tag_and_length, length_at, field_at}
use Rattle.fields.specs.declared.Field.{Field}
use Rattle.replay_log.specs.Records.{record_tag, time_octets, time_and_port_octets, port_offset, frame_start, unsettled, frame_record_at, record_at, next_in}
use Rattle.replay_log.specs.declared.Entry.{Entry}
use Rattle.replay_log.specs.declared.Entry.TheVariants.{Frame, More, Cut, End}

pub open_more : (w : Bool) → w ≡ false → More ≡ unsettled w
unfolding unsettled
open_more w e = simp e

-- ---- a record whose tag and length are there
module _ (s : List ℕ) (at : ℕ) (w : Bool) (n : ℕ) (e : n ≡ length_at s at) where
  pub logged_short : n < time_and_port_octets → Cut ≡ record_at s at w
  unfolding record_at
  logged_short h = simp (lt-ltb (length_at s at) time_and_port_octets (rw e at h))

  module _ (h : time_and_port_octets ≤ n) (b : Bool) (f : b ≡ leb (at + (tag_and_length + n)) (length s)) where
    test : ltb (length_at s at) time_and_port_octets ≡ false
    test = le-ltb (length_at s at) time_and_port_octets (rw e at h)

    room : b ≡ leb (at + (tag_and_length + length_at s at)) (length s)
    room = rw e at f

    pub logged_open : (x : Entry) → b ≡ false → x ≡ unsettled w → x ≡ record_at s at w
    unfolding record_at
    logged_open x l g = g ∙ simp (test, sym room ∙ l)

    pub logged_frame : (t p : ℕ) → b ≡ true → t ≡ number_at time_octets s (at + tag_and_length) → p ≡ get_or s (at + port_offset) 0
        → Frame (record { time = t; port = p; start = at + frame_start; size = n - time_and_port_octets; next = at + (tag_and_length + n) }) ≡ record_at s at w
    unfolding record_at frame_record_at
    logged_frame t p l g k = simp (test, sym room ∙ l, g, k, e)

-- the same, by the field that stands there
module _ (s : List ℕ) (at : ℕ) (w : Bool) (g : Field) (e : g ≡ field_at s at) where
  size_is : g.size ≡ length_at s at
  size_is = ap (λ (x : Field). x.size) e

  room_is : g.whole ≡ leb (at + (tag_and_length + g.size)) (length s)
  room_is = ap (λ (x : Field). x.whole) e ∙ ap (λ (n : ℕ). leb (at + (tag_and_length + n)) (length s)) (sym size_is)

  pub field_inside : g.whole ≡ true → at + (tag_and_length + g.size) ≤ length s
  field_inside h = leb-true _ _ (sym room_is ∙ h)

  pub field_short : g.size < time_and_port_octets → Cut ≡ record_at s at w
  field_short = logged_short s at w g.size size_is

  module _ (h : time_and_port_octets ≤ g.size) where
    pub field_open : (x : Entry) → g.whole ≡ false → x ≡ unsettled w → x ≡ record_at s at w
    field_open = logged_open s at w g.size size_is h g.whole room_is

    pub field_frame : (t p : ℕ) → g.whole ≡ true → t ≡ number_at time_octets s (at + tag_and_length) → p ≡ get_or s (at + port_offset) 0
        → Frame (record { time = t; port = p; start = at + frame_start; size = g.size - time_and_port_octets; next = at + (tag_and_length + g.size) }) ≡ record_at s at w
    field_frame = logged_frame s at w g.size size_is h g.whole room_is

-- ---- what stands at an offset
module _ (s : List ℕ) (at : ℕ) (w : Bool) where
  pub next_end : length s ≤ at → w ≡ true → End ≡ next_in s at w
  unfolding next_in
  next_end h e = simp (le-leb (length s) at h, e)

  pub next_more : length s ≤ at → w ≡ false → More ≡ next_in s at w
  unfolding next_in
  next_more h e = simp (le-leb (length s) at h, e)

  module _ (h : at < length s) (x : ℕ) (e : x ≡ get_or s at 0) where
    pub next_tag : (x ≡ record_tag → ⊥) → Cut ≡ next_in s at w
    unfolding next_in
    next_tag d = simp (lt-leb (length s) at h, ne_eqb (get_or s at 0) record_tag (rw e at d))

    module _ (d : x ≡ record_tag) (b : Bool) (f : b ≡ leb (at + tag_and_length) (length s)) (r : Entry) where
      pub next_open : b ≡ false → r ≡ unsettled w → r ≡ next_in s at w
      unfolding next_in
      next_open l g = g ∙ simp (lt-leb (length s) at h, eq-eqb (get_or s at 0) record_tag (sym e ∙ d), sym f ∙ l)

      pub next_logged : b ≡ true → r ≡ record_at s at w → r ≡ next_in s at w
      unfolding next_in
      next_logged l g = g ∙ simp (lt-leb (length s) at h, eq-eqb (get_or s at 0) record_tag (sym e ∙ d), sym f ∙ l)

-- the cases of a record by its field, and of what stands at an offset
pub ruleset field_cases = (field_inside, field_short, field_open, field_frame)

pub ruleset next_cases = (next_end, next_more, next_tag, next_open, next_logged)
