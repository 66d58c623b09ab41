-- What holds of one call, case by case of the row found and of the answer. Assumes nothing.
use Prim.Native.Nat.{ℕ, ◌+◌, ◌*◌, ◌≤◌, ◌<◌}
use mathlib.Core.Bool.{false}
use mathlib.Core.List.{List}
use mathlib.Core.Logic.{◌⊎◌, inl, inr}
use Rattle.std.specs.Prelude.{Option, Some, None}
use mathlib.Core.Path.{◌≡◌, refl, sym, ap, ◌∙◌, subst}
use native.Mathlib.Nat.{zero-add}
use native.Mathlib.Omega.{arith}
use lib.ListN.{length}
use lib.Dec.{eqb}
use borrow.Author.Tests.{eqb-true, eqb-false}
use Rattle.lists.proofs.Tests.{split}
use Rattle.octets.specs.Numbers.{number_at}
use Rattle.rows.specs.Rows.{table_of, row_number, found_in}
use Rattle.rows.proofs.Finding.{first_found, none_found, found_same}
use Rattle.receive_sequence.specs.Sequence.{number_count}
use Rattle.receive_answer.specs.declared.Arrival.{Arrival}
use Rattle.receive_answer.specs.declared.Reception.{Reception}
use Rattle.receive_answer.specs.declared.Reception.TheVariants.{Delivered, Copy, OutOfSequence, UnknownLink, Late}
use Rattle.receive.specs.Lent.{skew_row_octets, skew_in, memory_words, rows_in_use, row_found, time_word, number_word, awaiting_word, delivered_word, latest_time, last_number, awaiting, noted}
use Rattle.receive_answer.specs.Answer.{other, reception_code, taken, reception_by}
use Rattle.receive.specs.Receive.{memory_after, answer_by, received}
use Rattle.receive.specs.Claims.{PossibleAnswers, RefusedKeeps, UnknownExactly, RowIsFirst, RowIsNowhere, SkewRowsBeyondUnread, AnswersByMemory, LaterDeliveryIsNone, OnlyMemory, ChangesOwnMemory, TimeAndNumberStored, SameMemory, ByOwnMemory}
use Rattle.receive.proofs.Answering.{refused_leaves, call_at, call_nowhere, by_row}
use Rattle.receive_answer.proofs.Answer.{by_reception}
use Rattle.receive_answer.proofs.Claims.{possible, answers_exactly, later_counts_as_none}
use Rattle.receive.proofs.Stored.{stored_left, noted_time, noted_number, met_time, met_number, delivered_time, delivered_number}
use Rattle.receive.proofs.Words.{number_inside, awaiting_inside, delivered_inside, length_store, word_same, word_other, outside_before, outside_after}

pub possible_answers : PossibleAnswers
possible_answers rows r f = possible (received rows r f).says

-- a link that has a row is known
pub known : (skew : ℕ) (r : List ℕ) (j : ℕ) (f : Arrival) → answer_by skew r j f ≡ UnknownLink → ⊥
unfolding answer_by
known skew r j f =
    by_reception skew (latest_time r j) (last_number r j f.network) (awaiting r j (other f.network) f.number) f.number f.time
    (λ a. a ≡ UnknownLink → ⊥)
    (λ h e. let q : 8 ≡ 4 = ap reception_code e in omega arith)
    (λ h p e. let q : 31 ≡ 4 = ap reception_code e in omega arith)
    (λ h p s e. let q : 30 ≡ 4 = ap reception_code e in omega arith)
    (λ h p s e. let q : 0 ≡ 4 = ap reception_code e in omega arith)

-- ---- refusals
refusals : (a : Reception) → (reception_code a ≡ 4) ⊎ (reception_code a ≡ 8) → taken a ≡ false
refusals UnknownLink e = refl
refusals Late e = refl
refusals Delivered (inl e) = absurd (omega arith)
refusals Delivered (inr e) = absurd (omega arith)
refusals Copy (inl e) = absurd (omega arith)
refusals Copy (inr e) = absurd (omega arith)
refusals OutOfSequence (inl e) = absurd (omega arith)
refusals OutOfSequence (inr e) = absurd (omega arith)

pub refused_keeps : RefusedKeeps
refused_keeps rows r f =
    by_row rows r f (λ z. (reception_code z.says ≡ 4) ⊎ (reception_code z.says ≡ 8) → z.memory ≡ r)
    (λ e q. refl)
    (λ j e q. refused_leaves r j f (answer_by (skew_in rows j) r j f) (refusals (answer_by (skew_in rows j) r j f) q))

pub unknown_exactly : UnknownExactly
unknown_exactly rows r f = (
  by_row rows r f (λ z. z.says ≡ UnknownLink → row_found rows (length r) f.link ≡ None)
      (λ e q. e)
      (λ j e q. absurd (known (skew_in rows j) r j f q)),
  λ e. ap (λ z. z.says) (call_nowhere rows r f e),
)

-- ---- the row found
number_in : (rows : List ℕ) (j : ℕ) → row_number (table_of skew_row_octets rows) j ≡ number_at 2 rows (skew_row_octets * j)
number_in rows j = ap (number_at 2 rows) (zero-add (skew_row_octets * j))

pub row_is_first : RowIsFirst
unfolding row_found
row_is_first rows words link j e =
    let p = first_found (table_of skew_row_octets rows) (rows_in_use (length rows) words) link j e in
    (p.0, sym (number_in rows j) ∙ p.1, λ i h q. p.2 i h (number_in rows i ∙ q))

pub row_is_nowhere : RowIsNowhere
unfolding row_found
row_is_nowhere rows words link e j h q =
    none_found (table_of skew_row_octets rows) (rows_in_use (length rows) words) link e j h (number_in rows j ∙ q)

pub rows_beyond : SkewRowsBeyondUnread
unfolding row_found
rows_beyond rows words rows' words' link n same =
    found_same (table_of skew_row_octets rows) (table_of skew_row_octets rows') (rows_in_use (length rows) words) link
    (λ j h. number_in rows j ∙ same j h ∙ sym (number_in rows' j))
    ∙ ap (λ (m : ℕ). found_in (table_of skew_row_octets rows') m link) n

-- ---- the answer, from what the memory says
pub answers_by_memory : AnswersByMemory
unfolding answer_by
answers_by_memory rows r f j e =
    rw (call_at rows r f j e)
    (answers_exactly (skew_in rows j) (latest_time r j) (last_number r j f.network) (awaiting r j (other f.network) f.number) f.number f.time)

pub later_delivery_is_none : LaterDeliveryIsNone
unfolding answer_by
later_delivery_is_none rows r f j e h p d q l =
    ap (λ z. z.says) (call_at rows r f j e)
    ∙ ap (λ (o : Option ℕ). reception_by (skew_in rows j) (latest_time r j) (last_number r j f.network) o f.number f.time) q
    ∙ later_counts_as_none (skew_in rows j) (latest_time r j) (last_number r j f.network) d f.number f.time h p l

-- the memory of a row that is found is lent whole
pub memory_whole : (rows : List ℕ) (words link j : ℕ) → row_found rows words link ≡ Some j → memory_words * j + memory_words ≤ words
unfolding rows_in_use
memory_whole rows words link j e = omega (arith, (row_is_first rows words link j e).0)

-- ---- the memories after a call
pub only_memory : (r : List ℕ) (j : ℕ) (f : Arrival) (a : Reception) → f.number < number_count → OnlyMemory j r (memory_after r j f a)
only_memory r j f a h =
    stored_left (λ s t. OnlyMemory j r s) j j
    (λ s t k v l p.
    record {
      long = length_store s j k v ∙ p.long;
      before = λ i q. outside_before s j k i v q ∙ p.before i q;
      after = λ i q. outside_after s j k i v l q ∙ p.after i q;
    })
    r r f h a (record { long = refl; before = λ i q. refl; after = λ i q. refl })

pub changes_own_memory : ChangesOwnMemory
changes_own_memory rows r f h j e =
    subst (λ z. OnlyMemory j r z.memory) (sym (call_at rows r f j e)) (only_memory r j f (answer_by (skew_in rows j) r j f) h)

module _ (r : List ℕ) (j : ℕ) (f : Arrival) (h : memory_words * j + memory_words ≤ length r) where
  pub both_kept : (a : Reception) → (a ≡ Late → ⊥) → (a ≡ UnknownLink → ⊥)
      → (latest_time (memory_after r j f a) j ≡ f.time) × (last_number (memory_after r j f a) j f.network ≡ Some f.number)
  both_kept Late p q = absurd (p refl)
  both_kept UnknownLink p q = absurd (q refl)
  both_kept OutOfSequence p q = (noted_time r j h f, noted_number r j h f)
  both_kept Copy p q = (
    met_time (noted r j f) j (other f.network) f.number ∙ noted_time r j h f,
    met_number (noted r j f) j (other f.network) f.number f.network ∙ noted_number r j h f,
  )
  both_kept Delivered p q = (
    delivered_time (noted r j f) j f ∙ noted_time r j h f,
    delivered_number (noted r j f) j f f.network ∙ noted_number r j h f,
  )

pub time_and_number_stored : TimeAndNumberStored
time_and_number_stored rows r f j e =
    rw (call_at rows r f j e)
    (λ p. both_kept r j f (memory_whole rows (length r) f.link j e) (answer_by (skew_in rows j) r j f) p (known (skew_in rows j) r j f))

-- ---- two memories that are the same
module _ (r : List ℕ) (j : ℕ) (s : List ℕ) (i : ℕ) (f : Arrival) (h : f.number < number_count) (same : SameMemory r j s i) where
  pub same_answer : (skew : ℕ) → answer_by skew r j f ≡ answer_by skew s i f
  unfolding answer_by
  same_answer skew =
      let o = other f.network in
      let d = delivered_inside o f.number _ refl h in
      rw (
        same time_word (omega arith),
        same (number_word f.network) (number_inside f.network _ refl),
        same (awaiting_word o f.number) (awaiting_inside o f.number _ refl h),
        same (delivered_word o f.number) (omega arith),
      ) refl

  pub same_left : memory_words * j + memory_words ≤ length r → memory_words * i + memory_words ≤ length s → (a : Reception)
      → SameMemory (memory_after r j f a) j (memory_after s i f a) i
  same_left p q a =
      (stored_left
      (λ u v. (memory_words * j + memory_words ≤ length u) × (memory_words * i + memory_words ≤ length v) × SameMemory u j v i) j i
      (λ u v k x l z.
      let m = length_store u j k x in
      let n = length_store v i k x in (
        omega (arith, z.0),
        omega (arith, z.1),
        λ y w.
            split (eqb y k)
            (λ e.
            let c : y ≡ k = eqb-true _ _ e in
            rw c (word_same u j k x z.0 l ∙ sym (word_same v i k x z.1 l)))
            (λ e.
            word_other u j k y x (eqb-false _ _ e) ∙ z.2 y w ∙ sym (word_other v i k y x (eqb-false _ _ e))),
      ))
      r s f h a (p, q, same)).2

pub by_own_memory : ByOwnMemory
by_own_memory rows r j rows' r' i f h e e' skew same =
    let a : answer_by (skew_in rows j) r j f ≡ answer_by (skew_in rows' i) r' i f = same_answer r j r' i f h same (skew_in rows j) ∙ ap (λ x. answer_by x r' i f) skew in
    rw (call_at rows r f j e, call_at rows' r' f i e') (
      a,
      subst (λ b. SameMemory (memory_after r j f (answer_by (skew_in rows j) r j f)) j (memory_after r' i f b) i) a
          (same_left r j r' i f h same (memory_whole rows (length r) f.link j e) (memory_whole rows' (length r') f.link i e') (answer_by (skew_in rows j) r j f)),
    )
