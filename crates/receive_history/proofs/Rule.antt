-- The rule over a history: one call, then a list of them. Assumes nothing.
use Prim.Native.Nat.{ℕ, ◌+◌, ◌*◌, ◌≤◌, ◌<◌}
use mathlib.Core.Bool.{Bool, true, false, ◌&&◌, and-false}
use mathlib.Core.List.{List, [], ◌∷◌, reverse}
use mathlib.Core.Path.{◌≡◌, refl, sym, ap, ap₂, ◌∙◌, subst}
use native.Mathlib.Omega.{arith}
use lib.ListN.{length}
use borrow.Author.Tests.{eqb-true, eqb-false}
use Rattle.lists.proofs.History.{Simulates, simulated, same_answers, final_answers}
use Rattle.lists.proofs.Lists.{only_none, only_take, only_drop}
use Rattle.lists.proofs.Tests.{split}
use Rattle.octets.specs.Numbers.{number_at}
use Rattle.rows.specs.Rows.{Found}
use Rattle.std.specs.Prelude.{Some, None}
use Rattle.receive_answer.specs.declared.Arrival.{Arrival}
use Rattle.receive_answer.specs.declared.Reception.{Reception}
use Rattle.receive_answer.specs.declared.Reception.TheVariants.{UnknownLink}
use Rattle.receive.specs.Lent.{skew_row_octets, skew_in, memory_words, row_found}
use Rattle.receive.specs.Receive.{Received, received_of, memory_after, answer_by, on_memory, received}
use Rattle.receive_answer.specs.Answer.{taken}
use Rattle.receive_sequence.specs.Sequence.{number_count}
use Rattle.receive.proofs.Answering.{refused_leaves, call_at, call_nowhere}
use Rattle.receive.proofs.Stored.{left_beside}
use Rattle.receive.proofs.Claims.{row_is_first, memory_whole, only_memory}
use Rattle.receive_history.specs.History.{Answered, answered_of, receiving, final_memory, Empty, Octets, on_link}
use Rattle.receive_history.specs.Rule.{received_on, of_link, rule_by, rule_answer, rule_of_frames}
use Rattle.receive_history.specs.Claims.{RuleOfReceptions}
use Rattle.receive_history.specs.Words.{past_of, RuleOfNext}
use Rattle.receive_history.proofs.Memory.{Represents, empty_says, same_says, answer_says, left_says}

-- ---- rows of other numbers are other rows
pub rows_apart : (rows : List ℕ) (words l m i j : ℕ) → row_found rows words l ≡ Some i → row_found rows words m ≡ Some j → (l ≡ m → ⊥) → i ≡ j → ⊥
rows_apart rows words l m i j p q d e =
    let a = (row_is_first rows words l i p).1 in
    let b = (row_is_first rows words m j q).1 in
    d (sym a ∙ ap (λ (k : ℕ). number_at 2 rows (skew_row_octets * k)) e ∙ b)

abbrev at : Found → ℕ
at (Some j) = j
at None = 0

-- ---- one more frame among those that a link received
module _ (l : ℕ) (f : Arrival) (p : List Answered) where
  pub joins : (a : Reception) → on_link l f ≡ true → taken a ≡ true → of_link l (answered_of f a ∷ p) ≡ answered_of f a ∷ of_link l p
  joins a e t = only_take (received_on l) (answered_of f a) p (ap₂ ◌&&◌ e t)

  pub refused_stays : (a : Reception) → taken a ≡ false → of_link l (answered_of f a ∷ p) ≡ of_link l p
  refused_stays a t = only_drop (received_on l) (answered_of f a) p (ap (λ (b : Bool). on_link l f && b) t ∙ and-false (on_link l f))

  pub other_stays : (a : Reception) → on_link l f ≡ false → of_link l (answered_of f a ∷ p) ≡ of_link l p
  other_stays a e = only_drop (received_on l) (answered_of f a) p (ap (λ (b : Bool). b && taken a) e)

-- ---- the memories have so many words, and every memory says what the frames that its link received before say
pub record Stands (rows : List ℕ) (words : ℕ) (p : List Answered) (r : List ℕ) : Type 0 where
  pub long : length r ≡ words
  pub each : (l j : ℕ) → row_found rows words l ≡ Some j → Represents r j (of_link l p)

-- a call is answered by the rule, and the memories stand after the call
pub record Step (rows : List ℕ) (words : ℕ) (p : List Answered) (f : Arrival) (z : Received) : Type 0 where
  pub says : z.says ≡ rule_answer rows words p f
  pub stands : Stands rows words (answered_of f z.says ∷ p) z.memory

module _ (rows : List ℕ) (words : ℕ) (p : List Answered) (r : List ℕ) (st : Stands rows words p r) (f : Arrival) (h : f.number < number_count) where
  by_length : (d : Found) → row_found rows words f.link ≡ d → row_found rows (length r) f.link ≡ d
  by_length d e = ap (λ (n : ℕ). row_found rows n f.link) st.long ∙ e

  -- a frame on a link with no row
  unknown_step : row_found rows words f.link ≡ None → Step rows words p f (received_of UnknownLink r)
  unfolding rule_answer
  unknown_step e =
      record {
        says = ap (rule_by rows p f) (sym e);
        stands =
            record {
              long = st.long;
              each = λ l j q. subst (Represents r j) (sym (refused_stays l f p UnknownLink refl)) (st.each l j q);
            };
      }

  module _ (j : ℕ) (e : row_found rows words f.link ≡ Some j) where
    whole : memory_words * j + memory_words ≤ length r
    whole = let w = memory_whole rows words f.link j e in let q = st.long in omega arith

    -- the memory of the frame's own link
    own : (a : Reception) (l i : ℕ) → row_found rows words l ≡ Some i → on_link l f ≡ true → Represents (memory_after r j f a) i (of_link l (answered_of f a ∷ p))
    own a l i q on =
        let m : f.link ≡ l = eqb-true _ _ on in
        let k : j ≡ i = ap at (sym e ∙ ap (row_found rows words) m ∙ q) in
        subst (λ (x : ℕ). Represents (memory_after r j f a) x (of_link l (answered_of f a ∷ p))) k
        (split (taken a)
        (λ t.
        subst (Represents (memory_after r j f a) j) (sym (joins l f p a on t))
        (left_says r j whole (of_link l p) f h (subst (λ (x : ℕ). Represents r x (of_link l p)) (sym k) (st.each l i q)) a t))
        (λ t.
        subst (Represents (memory_after r j f a) j) (sym (refused_stays l f p a t))
        (subst (λ (s : List ℕ). Represents s j (of_link l p)) (sym (refused_leaves r j f a t))
        (subst (λ (x : ℕ). Represents r x (of_link l p)) (sym k) (st.each l i q)))))

    -- the memories of other links
    others : (a : Reception) (l i : ℕ) → row_found rows words l ≡ Some i → on_link l f ≡ false → Represents (memory_after r j f a) i (of_link l (answered_of f a ∷ p))
    others a l i q off =
        let d = rows_apart rows words l f.link i j q e (λ m. eqb-false _ _ off (sym m)) in
        subst (Represents (memory_after r j f a) i) (sym (other_stays l f p a off))
        (same_says r (memory_after r j f a) i (of_link l p) (left_beside r j f a h i d) (st.each l i q))

    known_step : Step rows words p f (on_memory (skew_in rows j) r j f)
    unfolding rule_answer
    known_step =
        record {
          says = answer_says (skew_in rows j) r j (of_link f.link p) f h (st.each f.link j e) ∙ ap (rule_by rows p f) (sym e);
          stands =
              record {
                long = (only_memory r j f (answer_by (skew_in rows j) r j f) h).long ∙ st.long;
                each = λ l i q.
                    split (on_link l f)
                    (own (answer_by (skew_in rows j) r j f) l i q)
                    (others (answer_by (skew_in rows j) r j f) l i q);
              };
        }

  pub one_step : Step rows words p f (received rows r f)
  one_step = cases (row_found rows words f.link) refl
    where
      cases : (d : Found) → row_found rows words f.link ≡ d → Step rows words p f (received rows r f)
      cases None e = subst (Step rows words p f) (sym (call_nowhere rows r f (by_length None e))) (unknown_step e)
      cases (Some j) e = subst (Step rows words p f) (sym (call_at rows r f j (by_length (Some j) e))) (known_step j e)

-- ---- a list of calls
each_frame : (rows : List ℕ) (words : ℕ) (h : List Arrival) → Octets h
    → Simulates (receiving rows) (rule_of_frames rows words) (λ a. a) (Stands rows words) h
each_frame rows words h o =
    record {
      each = λ f i p r st.
          let s = one_step rows words p r st f (o f i) in
          let a = ap (answered_of f) s.says in
          (a, subst (λ (b : Answered). Stands rows words (b ∷ p) (received rows r f).memory) a s.stands);
    }

-- ---- from empty memories
pub starts : (rows r : List ℕ) → Empty rows r → Stands rows (length r) [] r
starts rows r z =
    record {
      long = refl;
      each = λ l j e. subst (Represents r j) (sym (only_none (received_on l))) (empty_says r j (z j (row_is_first rows (length r) l j e).0));
    }

pub rule_of_receptions : RuleOfReceptions
rule_of_receptions rows r z h o = same_answers h (each_frame rows (length r) h o) [] r (starts rows r z)

-- the past of the rule is the past of the answers
stands_after : (rows r : List ℕ) → Empty rows r → (before : List Arrival) → Octets before
    → Stands rows (length r) (past_of rows r before) (final_memory rows r before)
stands_after rows r z before o =
    subst (λ (p : List Answered). Stands rows (length r) p (final_memory rows r before))
    (final_answers (λ past f. answered_of f (rule_answer rows (length r) past f)) before []
    ∙ ap reverse (sym (rule_of_receptions rows r z before o)))
    (simulated before (each_frame rows (length r) before o) [] r (starts rows r z)).1

pub rule_of_next : RuleOfNext
rule_of_next rows r z before o f h =
    (one_step rows (length r) (past_of rows r before) (final_memory rows r before) (stands_after rows r z before o) f h).says
