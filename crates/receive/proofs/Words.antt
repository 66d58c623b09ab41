-- Laws of memories: words read and stored. Assumes nothing.
use Prim.Native.Nat.{ℕ, ◌+◌, ◌*◌, ◌≤◌, ◌<◌}
use mathlib.Core.List.{List}
use mathlib.Core.Path.{◌≡◌}
use native.Mathlib.Omega.{arith}
use lib.ListN.{length, get_or, length-set}
use lib.Seq.{get_or-set_same, get_or-set_other}
use Rattle.receive_answer.specs.declared.Network.{Network}
use Rattle.receive_answer.specs.declared.Network.TheVariants.{A, B}
use Rattle.receive.specs.Lent.{index, memory_words, number_word, awaiting_word, word, store}

-- ---- offsets lie in a memory
pub index_low : (x : Network) → index x < 2
index_low A = omega arith
index_low B = omega arith

pub number_inside : (x : Network) (k : ℕ) → k ≡ number_word x → k < memory_words
number_inside x k e = let i = index_low x in omega arith

module _ (x : Network) (n k : ℕ) (e : k ≡ awaiting_word x n) (h : n < 256) where
  pub awaiting_inside : k < memory_words
  awaiting_inside = let i = index_low x in omega arith

  pub delivered_inside : k + 1 < memory_words
  delivered_inside = let i = index_low x in omega arith

-- ---- one word stored
pub length_store : (r : List ℕ) (j k v : ℕ) → length (store r j k v) ≡ length r
unfolding store
length_store r j k v = length-set r (memory_words * j + k) v

-- ---- a word read after another was stored
-- in the same memory
pub word_same : (r : List ℕ) (j k v : ℕ) → memory_words * j + memory_words ≤ length r → k < memory_words → word (store r j k v) j k ≡ v
unfolding word store
word_same r j k v h l = get_or-set_same r (memory_words * j + k) v 0 (omega arith)

pub word_other : (r : List ℕ) (j k m v : ℕ) → (m ≡ k → ⊥) → word (store r j k v) j m ≡ word r j m
unfolding word store
word_other r j k m v d = get_or-set_other r (memory_words * j + k) (memory_words * j + m) v 0 (λ e. d (omega arith))

-- in another memory
pub word_beside : (r : List ℕ) (j k i m v : ℕ) → (i ≡ j → ⊥) → k < memory_words → m < memory_words → word (store r j k v) i m ≡ word r i m
unfolding word store
word_beside r j k i m v d h l = get_or-set_other r (memory_words * j + k) (memory_words * i + m) v 0 (λ e. d (omega arith))

-- a word outside the memory
pub outside_before : (r : List ℕ) (j k i v : ℕ) → i < memory_words * j → get_or (store r j k v) i 0 ≡ get_or r i 0
unfolding store
outside_before r j k i v h = get_or-set_other r (memory_words * j + k) i v 0 (λ e. omega arith)

pub outside_after : (r : List ℕ) (j k i v : ℕ) → k < memory_words → memory_words * j + memory_words ≤ i → get_or (store r j k v) i 0 ≡ get_or r i 0
unfolding store
outside_after r j k i v l h = get_or-set_other r (memory_words * j + k) i v 0 (λ e. omega arith)
