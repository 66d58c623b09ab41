-- What holds of logs whatever they are (document 01, "The replay program"); proved in proofs/Settled.antt and proofs/Claims.antt.
use Rattle.std.specs.Prelude.{ℕ, ◌+◌, ◌^◌, ◌≤◌, ◌<◌, Bool, true, false, List, ◌∷◌, ◌++◌, ◌≡◌, length, get_or}
use Rattle.octets.specs.Numbers.{number_at, octets_of}
use Rattle.octets.specs.Runs.{octets_at}
use Rattle.fields.specs.Fields.{field_of}
use Rattle.replay_log.specs.Records.{frame_start, longest_record, next_in}
use Rattle.replay_log.specs.declared.FrameRecord.{FrameRecord}
use Rattle.replay_log.specs.declared.Entry.{Entry}
use Rattle.replay_log.specs.declared.Entry.TheVariants.{Frame, More, Cut, End}

-- ---- answers don't depend on how the log is split into reads
-- what is answered without more octets is answered with them, whichever they are
abbrev pub NextSettled : Type 0
NextSettled = (s t : List ℕ) (at : ℕ) (whole : Bool) → (next_in s at false ≡ More → ⊥) → next_in (s ++ t) at whole ≡ next_in s at false

-- the octets before the offset play no part
abbrev pub moved : ℕ → Entry → Entry
moved k (Frame r) = Frame (record { time = r.time; port = r.port; start = k + r.start; size = r.size; next = k + r.next })
moved k More = More
moved k Cut = Cut
moved k End = End

abbrev pub NextMoved : Type 0
NextMoved = (t s : List ℕ) (at : ℕ) (whole : Bool) → next_in (t ++ s) (length t + at) whole ≡ moved (length t) (next_in s at whole)

-- as many octets as the longest record has are enough
abbrev pub NeverMore : Type 0
NeverMore = (s : List ℕ) (at : ℕ) → ((i : ℕ) → get_or s i 0 < 256) → at + longest_record ≤ length s → next_in s at false ≡ More → ⊥

-- a frame that is found lies at hand whole, and the next offset is right after it
abbrev pub FrameInside : Type 0
FrameInside =
    (s : List ℕ) (at : ℕ) (whole : Bool) (r : FrameRecord) → next_in s at whole ≡ Frame r
    → (r.start ≡ at + frame_start) × (r.next ≡ r.start + r.size) × (r.next ≤ length s)

-- ---- what stands at an offset, in the figures of document 01
abbrev pub frame_record : ℕ → ℕ → ℕ → ℕ → ℕ → FrameRecord
frame_record time port start size next = record { time = time; port = port; start = start; size = size; next = next }

-- a record: tag 16, a length, the time (8), the port (1), the frame
unfoldable pub record_of : ℕ → ℕ → List ℕ → List ℕ
record_of time port frame = field_of 16 (octets_of 8 time ++ (port ∷ frame))

-- a record that is spelled reads back, whatever stands before and after it, and its frame's octets stand where the answer says
abbrev pub RecordReadsBack : Type 0
RecordReadsBack =
    (before after frame : List ℕ) (time port : ℕ) (whole : Bool) → time < 2 ^ 64 → 9 + length frame < 2 ^ 16
    → (next_in (before ++ record_of time port frame ++ after) (length before) whole
    ≡ Frame (frame_record time port (length before + 12) (length frame) (length before + 12 + length frame)))
    × (octets_at (length frame) (before ++ record_of time port frame ++ after) (length before + 12) ≡ frame)

-- what is no whole record: the log's end where no octet is left, `cut` for another tag and for a length under 9, and for a record
-- of which octets are missing where none follow
abbrev pub NoWholeRecord : Type 0
NoWholeRecord =
    (s : List ℕ) (at : ℕ)
    → (length s ≤ at → (next_in s at true ≡ End) × (next_in s at false ≡ More))
    × ((whole : Bool) → at < length s → (get_or s at 0 ≡ 16 → ⊥) → next_in s at whole ≡ Cut)
    × ((whole : Bool) → at + 3 ≤ length s → get_or s at 0 ≡ 16 → number_at 2 s (at + 1) < 9 → next_in s at whole ≡ Cut)
    × (at < length s → get_or s at 0 ≡ 16 → length s < at + 3 → (next_in s at true ≡ Cut) × (next_in s at false ≡ More))
    × (at + 3 ≤ length s → get_or s at 0 ≡ 16 → 9 ≤ number_at 2 s (at + 1) → length s < at + (3 + number_at 2 s (at + 1))
    → (next_in s at true ≡ Cut) × (next_in s at false ≡ More))
