-- A memory lent as a part of all memories: what is received on the part, as memory 0, is received on the whole. Assumes nothing.
use Prim.Native.Nat.{ℕ, ◌+◌, ◌*◌, ◌≤◌, ◌<◌}
use mathlib.Core.List.{List, ◌++◌}
use mathlib.Core.Path.{◌≡◌, sym, ap, ◌∙◌}
use native.Mathlib.Nat.{zero-add, add-sub_cancel_left, le-add_right}
use native.Mathlib.Omega.{arith}
use lib.ListN.{length, take, drop, set, get_or, length-set, length-drop}
use Rattle.std.proofs.lemmas.List.{length-take-le}
use borrow.Rule.Slice.PartMut.{mid_of, put_mid, post_of, put_same}
use Rattle.std.proofs.lemmas.List.{set-append_left, set-append_right}
use Rattle.octets.proofs.Parts.{get_d_within}
use Rattle.receive_sequence.specs.Sequence.{number_count}
use Rattle.receive_answer.specs.declared.Arrival.{Arrival}
use Rattle.receive_answer.specs.declared.Reception.{Reception}
use Rattle.receive.specs.Lent.{memory_words, word, store}
use Rattle.receive.specs.Receive.{Received, received_of, answer_by, memory_after, on_memory}
use Rattle.receive.specs.Claims.{SameMemory}
use Rattle.receive.proofs.Stored.{stored_left}
use Rattle.receive.proofs.Claims.{same_answer}

-- a store in the part is one in the whole
stored_in_part : (r t : List ℕ) (a n k v : ℕ) → a ≤ length r → k < length t → put_mid a n r (set t k v) ≡ set (put_mid a n r t) (a + k) v
stored_in_part r t a n k v h l =
    ap (λ (z : List ℕ). take a r ++ z)
    (sym (set-append_left t (post_of a n r) k v l) ∙ ap (λ (i : ℕ). set (t ++ post_of a n r) i v) (sym (add-sub_cancel_left a k)))
    ∙ sym (set-append_right (take a r) (t ++ post_of a n r) a (a + k) v (length-take-le a r h) (le-add_right a k))

module _ (r : List ℕ) (j n : ℕ) (m : n ≡ memory_words) (h : memory_words * j + memory_words ≤ length r) where
  part : List ℕ
  part = mid_of (memory_words * j) n r

  part_long : length part ≡ memory_words
  unfolding part
  part_long = length-take-le n (drop (memory_words * j) r) (simp length-drop (omega arith)) ∙ m

  part_says : SameMemory part 0 r j
  unfolding part word
  part_says k l = ap (λ (i : ℕ). get_or part i 0) (zero-add k) ∙ get_d_within n (memory_words * j) r k (omega arith)

  part_left : (f : Arrival) → f.number < number_count → (a : Reception)
      → put_mid (memory_words * j) n r (memory_after part 0 f a) ≡ memory_after r j f a
  unfolding part store
  part_left f l a =
      (stored_left (λ s t. (put_mid (memory_words * j) n r s ≡ t) × (length s ≡ memory_words)) 0 j
      (λ s t k v q p. (
        ap (λ (i : ℕ). put_mid (memory_words * j) n r (set s i v)) (zero-add k)
            ∙ stored_in_part r s (memory_words * j) n k v (omega arith) (omega (arith, p.1))
            ∙ ap (λ (z : List ℕ). set z (memory_words * j + k) v) p.0,
        length-set s (0 + k) v ∙ p.1,
      ))
      part r f l a (put_same (memory_words * j) n r, part_long)).0

  pub received_in_part : (f : Arrival) → f.number < number_count → (x skew : ℕ) → x ≡ skew → (a : Reception) (s : List ℕ)
      → received_of a s ≡ on_memory x (mid_of (memory_words * j) n r) 0 f
      → received_of a (put_mid (memory_words * j) n r s) ≡ on_memory skew r j f
  unfolding part
  received_in_part f l x skew q a s e =
      ap (λ (z : Received). received_of z.says (put_mid (memory_words * j) n r z.memory)) (e ∙ ap (λ (y : ℕ). on_memory y part 0 f) q)
      ∙ ap (received_of (answer_by skew part 0 f)) (part_left f l (answer_by skew part 0 f))
      ∙ ap (λ (y : Reception). received_of y (memory_after r j f y)) (same_answer part 0 r j f l part_says skew)
