-- Isolation: a link's answers and its memory depend on the link's SkewMax, the memory at the start and the link's own
-- frames alone. Assumes nothing.
use Prim.Native.Nat.{ℕ, ◌+◌, ◌*◌, ◌≤◌, ◌<◌}
use mathlib.Core.Bool.{false}
use mathlib.Core.List.{List}
use mathlib.Core.Path.{◌≡◌, refl, sym, ap, ap₂, ◌∙◌}
use native.Mathlib.Omega.{arith}
use lib.ListN.{length, get_or, take, drop}
use borrow.Author.Tests.{eqb-true, eqb-false}
use Rattle.lists.specs.History.{Machine}
use Rattle.lists.specs.Lists.{only}
use Rattle.lists.proofs.History.{SimulatesPicked, alike}
use Rattle.octets.proofs.Parts.{get_d_within, part_same, part_take}
use Rattle.rows.specs.Rows.{Found}
use Rattle.std.specs.Prelude.{Some, None}
use Rattle.receive_sequence.specs.Sequence.{number_count}
use Rattle.receive_answer.specs.declared.Arrival.{Arrival}
use Rattle.receive_answer.specs.declared.Reception.TheVariants.{UnknownLink}
use Rattle.receive.specs.Lent.{skew_in, memory_words, row_found, word}
use Rattle.receive.specs.Receive.{Received, answer_by, received}
use Rattle.receive.specs.Claims.{SameMemory}
use Rattle.receive.proofs.Answering.{call_nowhere, by_row}
use Rattle.receive.proofs.Stored.{left_beside}
use Rattle.receive.proofs.Claims.{row_is_first, memory_whole, changes_own_memory, by_own_memory}
use Rattle.receive_history.specs.History.{Answered, answered_of, receiving, final_memory, Empty, Octets, on_link, skew_by, memory_by, memory_of}
use Rattle.receive_history.specs.Isolation.{SameOnLink, ReceptionsApartFromAny, ReceptionsApart}
use Rattle.receive_history.proofs.Rule.{rows_apart}

-- ---- a call keeps the number of words
length_call : (rows r : List ℕ) (f : Arrival) → f.number < number_count → length (received rows r f).memory ≡ length r
length_call rows r f h = cases (row_found rows (length r) f.link) refl
  where
    cases : (d : Found) → row_found rows (length r) f.link ≡ d → length (received rows r f).memory ≡ length r
    cases None e = ap (λ (z : Received). length z.memory) (call_nowhere rows r f e)
    cases (Some j) e = (changes_own_memory rows r f h j e).long

-- a call on another link leaves the memory of row i unchanged
beside : (rows r : List ℕ) (link i : ℕ) → row_found rows (length r) link ≡ Some i → (f : Arrival) → f.number < number_count → on_link link f ≡ false
    → SameMemory (received rows r f).memory i r i
beside rows r link i e f h off =
    by_row rows r f (λ z. SameMemory z.memory i r i)
    (λ q k l. refl)
    (λ j q. left_beside r j f (answer_by (skew_in rows j) r j f) h i (rows_apart rows (length r) link f.link i j e q (λ m. eqb-false _ _ off (sym m))))

-- ---- a history on memories r, and its frames of one link on memories s, in which that link's memory is the same
module _ (link : ℕ) (rows : List ℕ) (words j : ℕ) (e : row_found rows words link ≡ Some j)
    (rows' : List ℕ) (words' i : ℕ) (e' : row_found rows' words' link ≡ Some i) (skew : skew_in rows j ≡ skew_in rows' i) where
  abbrev Same : List ℕ → List ℕ → Type 0
  Same s r = (length r ≡ words) × (length s ≡ words') × SameMemory r j s i

  known : (h : List Arrival) → Octets h → SimulatesPicked (receiving rows) (receiving rows') (on_link link) Same h
  known h o =
      record {
        picked = λ f m on s r q.
            let l : f.link ≡ link = eqb-true _ _ on in
            let p : row_found rows (length r) f.link ≡ Some j = ap₂ (row_found rows) q.0 l ∙ e in
            let p' : row_found rows' (length s) f.link ≡ Some i = ap₂ (row_found rows') q.1 l ∙ e' in
            let b = by_own_memory rows r j rows' s i f (o f m) p p' skew q.2 in
            (ap (answered_of f) b.0, (length_call rows r f (o f m) ∙ q.0, length_call rows' s f (o f m) ∙ q.1, b.1));
        others = λ f m off s r q.
            let p : row_found rows (length r) link ≡ Some j = ap (λ (k : ℕ). row_found rows k link) q.0 ∙ e in
            (length_call rows r f (o f m) ∙ q.0, q.1, λ k l. beside rows r link j p f (o f m) off k l ∙ q.2 k l);
      }

-- ---- a link with no row: every frame on it is unknown
abbrev refusing : Machine Unit Arrival Answered
refusing = record { says = λ _ f. answered_of f UnknownLink; leaves = λ _ _. tt }

unknown : (link : ℕ) (rows : List ℕ) (words : ℕ) → row_found rows words link ≡ None → (h : List Arrival) → Octets h
    → SimulatesPicked (receiving rows) refusing (on_link link) (λ _ r. length r ≡ words) h
unknown link rows words e h o =
    record {
      picked = λ f m on _ r n.
          let p : row_found rows (length r) f.link ≡ None = ap₂ (row_found rows) n (eqb-true _ _ on) ∙ e in
          (ap (λ (z : Received). answered_of f z.says) (call_nowhere rows r f p), length_call rows r f (o f m) ∙ n);
      others = λ f m off _ r n. length_call rows r f (o f m) ∙ n;
    }

-- ---- memories as lists of words
same_words : (r s : List ℕ) (j i : ℕ) → memory_words * j + memory_words ≤ length r → memory_words * i + memory_words ≤ length s → SameMemory r j s i
    → take memory_words (drop (memory_words * j) r) ≡ take memory_words (drop (memory_words * i) s)
unfolding word
same_words r s j i h l same =
    sym (part_take memory_words r (memory_words * j) h)
    ∙ part_same memory_words r s (memory_words * j) (memory_words * i) same
    ∙ part_take memory_words s (memory_words * i) l

words_same : (r s : List ℕ) (j i : ℕ) → take memory_words (drop (memory_words * j) r) ≡ take memory_words (drop (memory_words * i) s)
    → SameMemory r j s i
unfolding word
words_same r s j i e k l =
    sym (get_d_within memory_words (memory_words * j) r k l)
    ∙ ap (λ (w : List ℕ). get_or w k 0) e
    ∙ get_d_within memory_words (memory_words * i) s k l

memory_at : (rows w : List ℕ) (words link : ℕ) (d : Found) → length w ≡ words → row_found rows words link ≡ d
    → memory_of rows w link ≡ memory_by w d
memory_at rows w words link d n e = ap (memory_by w) (ap (λ (k : ℕ). row_found rows k link) n ∙ e)

-- ---- two histories
module _ (link : ℕ) (rows r : List ℕ) (h : List Arrival) (o : Octets h)
    (rows' r' : List ℕ) (h' : List Arrival) (o' : Octets h') (g : only (on_link link) h ≡ only (on_link link) h') where
  both_unknown : row_found rows (length r) link ≡ None → row_found rows' (length r') link ≡ None → SameOnLink link rows r h rows' r' h'
  both_unknown e e' =
      let a = alike h h' (unknown link rows (length r) e h o) (unknown link rows' (length r') e' h' o') g tt r refl r' refl in
      record {
        says = a.0;
        leaves =
            memory_at rows (final_memory rows r h) (length r) link None a.1 e
            ∙ sym (memory_at rows' (final_memory rows' r' h') (length r') link None a.2 e');
      }

  both_known : (j i : ℕ) → row_found rows (length r) link ≡ Some j → row_found rows' (length r') link ≡ Some i → skew_in rows j ≡ skew_in rows' i
      → memory_by r (Some j) ≡ memory_by r' (Some i) → SameOnLink link rows r h rows' r' h'
  both_known j i e e' skew m =
      let a = alike h h'
      (known link rows (length r) j e rows' (length r') i e' skew h o)
      (known link rows' (length r') i e' rows' (length r') i e' refl h' o') g
      r' r (refl, refl, words_same r r' j i m) r' (refl, refl, λ k l. refl) in
      let n : length (final_memory rows r h) ≡ length r = a.1.0 in
      let n' : length (final_memory rows' r' h') ≡ length r' = a.2.0 in
      let w = memory_whole rows (length r) link j e in
      let v = memory_whole rows' (length r') link i e' in
      record {
        says = a.0;
        leaves =
            memory_at rows (final_memory rows r h) (length r) link (Some j) n e
            ∙ same_words (final_memory rows r h) (final_memory rows' r' h') j i (omega arith) (omega arith)
            (λ k l. a.1.2 k l ∙ sym (a.2.2 k l))
            ∙ sym (memory_at rows' (final_memory rows' r' h') (length r') link (Some i) n' e');
      }

  same_on_link : (d d' : Found) → row_found rows (length r) link ≡ d → row_found rows' (length r') link ≡ d' → skew_by rows d ≡ skew_by rows' d'
      → memory_by r d ≡ memory_by r' d' → SameOnLink link rows r h rows' r' h'
  same_on_link None None e e' s m = both_unknown e e'
  same_on_link (Some j) (Some i) e e' s m = both_known j i e e' (cc) m
  same_on_link None (Some i) e e' s m = cc
  same_on_link (Some j) None e e' s m = cc

pub receptions_apart_from_any : ReceptionsApartFromAny
receptions_apart_from_any link rows r h o rows' r' h' o' s m g =
    same_on_link link rows r h o rows' r' h' o' g (row_found rows (length r) link) (row_found rows' (length r') link) refl refl s m

-- ---- empty memories of a link are the same
module _ (link : ℕ) (rows r : List ℕ) (z : Empty rows r) (rows' r' : List ℕ) (z' : Empty rows' r') where
  both_empty : (d d' : Found) → row_found rows (length r) link ≡ d → row_found rows' (length r') link ≡ d' → skew_by rows d ≡ skew_by rows' d'
      → memory_by r d ≡ memory_by r' d'
  both_empty None None e e' s = refl
  both_empty (Some j) (Some i) e e' s =
      let u = (row_is_first rows (length r) link j e).0 in
      let u' = (row_is_first rows' (length r') link i e').0 in
      same_words r r' j i (memory_whole rows (length r) link j e) (memory_whole rows' (length r') link i e')
      (λ k l. z j u k l ∙ sym (z' i u' k l))
  both_empty None (Some i) e e' s = cc
  both_empty (Some j) None e e' s = cc

pub receptions_apart : ReceptionsApart
receptions_apart link rows r z h o rows' r' z' h' o' s g =
    receptions_apart_from_any link rows r h o rows' r' h' o' s
    (both_empty link rows r z rows' r' z' (row_found rows (length r) link) (row_found rows' (length r') link) refl refl s) g
