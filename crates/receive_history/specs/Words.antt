-- The rule of the receiving end in words, over every history (document 02, Q-1); proved in proofs/Meeting.antt and Counts.antt.
use Rattle.std.specs.Prelude.{ℕ, ◌-◌, ◌≤◌, ◌<◌, Bool, true, false, ◌&&◌, ◌↔◌, ◌≡◌, length, Some, None}
use mathlib.Core.List.{List, ◌∷◌, ◌++◌, reverse, Memᴰ}
use Rattle.lists.specs.Lists.{only}
use Rattle.receive_answer.specs.declared.Arrival.{Arrival}
use Rattle.receive_answer.specs.declared.Network.{Network}
use Rattle.receive_answer.specs.declared.Reception.{Reception}
use Rattle.receive_answer.specs.declared.Reception.TheVariants.{Delivered, Copy, OutOfSequence, UnknownLink, Late}
use Rattle.receive_sequence.specs.Sequence.{number_count, passes}
use Rattle.receive.specs.Lent.{skew_in, row_found}
use Rattle.receive_answer.specs.Answer.{other}
use Rattle.receive.specs.Receive.{received}
use Rattle.receive_history.specs.History.{Answered, frame_answers, final_memory, Empty, Octets, on_link}
use Rattle.receive_history.specs.Rule.{of_link, newest_time, newest_number, numbered, rule_answer}

-- ---- the rule, for a frame f after the frames `before`. `past_of`: the frames before with their answers, the newest
-- first
abbrev pub past_of : List ℕ → List ℕ → List Arrival → List Answered
past_of rows r before = reverse (frame_answers rows r before)

abbrev pub next_answer : List ℕ → List ℕ → List Arrival → Arrival → Reception
next_answer rows r before f = (received rows (final_memory rows r before) f).says

abbrev pub RuleOfNext : Type 0
RuleOfNext =
    (rows r : List ℕ) → Empty rows r → (before : List Arrival) → Octets before → (f : Arrival) → f.number < number_count
    → next_answer rows r before f ≡ rule_answer rows (length r) (past_of rows r before) f

-- ---- the rule in words: a frame whose link has no row, a frame that is late, a frame that doesn't pass; the frames
-- that the link received settle these
pub record OtherAnswers (rows : List ℕ) (words : ℕ) (past : List Answered) (f : Arrival) (a : Reception) : Type 0 where
  pub unknown : row_found rows words f.link ≡ None → a ≡ UnknownLink
  pub late : (j : ℕ) → row_found rows words f.link ≡ Some j → f.time < newest_time (of_link f.link past) → a ≡ Late
  pub out : (j : ℕ) → row_found rows words f.link ≡ Some j → newest_time (of_link f.link past) ≤ f.time
      → passes (newest_number f.network (of_link f.link past)) f.number ≡ false → a ≡ OutOfSequence

abbrev pub OtherReceptionsInWords : Type 0
OtherReceptionsInWords =
    (rows r : List ℕ) → Empty rows r → (before : List Arrival) → Octets before → (f : Arrival) → f.number < number_count
    → OtherAnswers rows (length r) (past_of rows r before) f (next_answer rows r before f)

-- a delivery and a copy, of number n on a network
abbrev pub DeliveryOf : Network → ℕ → Answered → Type 0
DeliveryOf x n a = (a.says ≡ Delivered) × (a.frame.network ≡ x) × (a.frame.number ≡ n)

abbrev pub CopyOf : Network → ℕ → Answered → Type 0
CopyOf x n a = (a.says ≡ Copy) × (a.frame.network ≡ x) × (a.frame.number ≡ n)

-- the delivery that a frame f is the copy of, among the frames that the link received before f: of the same number, on
-- the other network, not timed after f, no more than SkewMax old; no later frame there is another such delivery or the
-- copy of this one
pub record MeetsDelivery (skew : ℕ) (past : List Answered) (f : Arrival) : Type 0 where
  pub later : List Answered
  pub delivery : Answered
  pub earlier : List Answered
  pub stands : past ≡ later ++ (delivery ∷ earlier)
  pub same : DeliveryOf (other f.network) f.number delivery
  pub not_after : delivery.frame.time ≤ f.time
  pub in_skew_lem : f.time - delivery.frame.time ≤ skew
  pub latest : (a : Answered) → Memᴰ a later → DeliveryOf (other f.network) f.number a → ⊥
  pub not_met : (a : Answered) → Memᴰ a later → CopyOf f.network f.number a → ⊥

-- a frame that is not late and passes is a copy exactly where it meets a delivery, else it is delivered
pub record CopyOrDelivered (skew : ℕ) (past : List Answered) (f : Arrival) (a : Reception) : Type 0 where
  pub copy : (a ≡ Copy) ↔ MeetsDelivery skew past f
  pub otherwise : (MeetsDelivery skew past f → ⊥) → a ≡ Delivered

abbrev pub CopiesInWords : Type 0
CopiesInWords =
    (rows r : List ℕ) → Empty rows r → (before : List Arrival) → Octets before → (f : Arrival) → f.number < number_count
    → (j : ℕ) → row_found rows (length r) f.link ≡ Some j
    → newest_time (of_link f.link (past_of rows r before)) ≤ f.time
    → passes (newest_number f.network (of_link f.link (past_of rows r before))) f.number ≡ true
    → CopyOrDelivered (skew_in rows j) (of_link f.link (past_of rows r before)) f (next_answer rows r before f)

-- every copy, whatever came before it, meets a delivery of its number on the other network
abbrev pub CopyMeetsDelivery : Type 0
CopyMeetsDelivery =
    (rows r : List ℕ) → Empty rows r → (before : List Arrival) → Octets before → (f : Arrival) → f.number < number_count
    → (j : ℕ) → row_found rows (length r) f.link ≡ Some j
    → next_answer rows r before f ≡ Copy → MeetsDelivery (skew_in rows j) (of_link f.link (past_of rows r before)) f

-- each delivery meets at most one copy: after a copy of a number there is no second one before that number is delivered
-- on the other network again
abbrev pub MetOnce : Type 0
MetOnce =
    (rows r : List ℕ) → Empty rows r → (before : List Arrival) → Octets before → (f : Arrival) → f.number < number_count
    → (j : ℕ) → row_found rows (length r) f.link ≡ Some j
    → (later : List Answered) (c : Answered) (earlier : List Answered) → of_link f.link (past_of rows r before) ≡ later ++ (c ∷ earlier)
    → CopyOf f.network f.number c
    → ((a : Answered) → Memᴰ a later → DeliveryOf (other f.network) f.number a → ⊥)
    → next_answer rows r before f ≡ Copy → ⊥

-- copies and deliveries counted over a history: on every link, of every number, one network has no more copies than the
-- other has deliveries
abbrev pub is_delivered : Reception → Bool
is_delivered Delivered = true
is_delivered Copy = false
is_delivered OutOfSequence = false
is_delivered UnknownLink = false
is_delivered Late = false

abbrev pub is_copy : Reception → Bool
is_copy Delivered = false
is_copy Copy = true
is_copy OutOfSequence = false
is_copy UnknownLink = false
is_copy Late = false

abbrev pub deliveries : ℕ → Network → ℕ → List Answered → ℕ
deliveries link x n past = length (only (λ a. on_link link a.frame && (numbered x n a.frame && is_delivered a.says)) past)

abbrev pub copies : ℕ → Network → ℕ → List Answered → ℕ
copies link x n past = length (only (λ a. on_link link a.frame && (numbered x n a.frame && is_copy a.says)) past)

abbrev pub OneCopyEach : Type 0
OneCopyEach =
    (rows r : List ℕ) → Empty rows r → (h : List Arrival) → Octets h → (link : ℕ) (x : Network) (n : ℕ)
    → copies link x n (frame_answers rows r h) ≤ deliveries link (other x) n (frame_answers rows r h)

-- a number that passes on one network alone is delivered: no delivery of that number was made on the other network
-- within SkewMax
abbrev pub AloneDelivered : Type 0
AloneDelivered =
    (rows r : List ℕ) → Empty rows r → (before : List Arrival) → Octets before → (f : Arrival) → f.number < number_count
    → (j : ℕ) → row_found rows (length r) f.link ≡ Some j
    → newest_time (of_link f.link (past_of rows r before)) ≤ f.time
    → passes (newest_number f.network (of_link f.link (past_of rows r before))) f.number ≡ true
    → ((a : Answered) → Memᴰ a (of_link f.link (past_of rows r before)) → DeliveryOf (other f.network) f.number a
    → f.time - a.frame.time ≤ skew_in rows j → ⊥)
    → next_answer rows r before f ≡ Delivered
