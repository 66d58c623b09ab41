-- Laws of what a memory says after an answer was stored. Assumes nothing.
use Prim.Native.Nat.{ℕ, ◌+◌, ◌*◌, ◌≤◌, ◌<◌}
use mathlib.Core.List.{List}
use Rattle.std.specs.Prelude.{Some, None}
use mathlib.Core.Path.{◌≡◌, refl, ap, ap₂, ◌∙◌}
use native.Mathlib.Omega.{arith}
use lib.ListN.{length}
use Rattle.receive_answer.specs.declared.Arrival.{Arrival}
use Rattle.receive_answer.specs.declared.Network.{Network}
use Rattle.receive_answer.specs.declared.Reception.{Reception}
use Rattle.receive_answer.specs.declared.Reception.TheVariants.{Delivered, Copy, OutOfSequence, UnknownLink, Late}
use Rattle.receive.specs.Lent.{index, memory_words, time_word, number_word, awaiting_word, delivered_word, word, store, latest_time, last_number, awaiting, noted, met, delivered}
use Rattle.receive_answer.specs.Answer.{other, delivery_of}
use Rattle.receive.specs.Receive.{memory_after}
use Rattle.receive.specs.Claims.{SameMemory}
use Rattle.receive_sequence.specs.Sequence.{number_count, number_of}
use Rattle.receive_sequence.proofs.Passing.{number_some}
use Rattle.receive_answer.proofs.Answer.{delivery_none, delivery_some}
use Rattle.receive.proofs.Words.{index_low, number_inside, awaiting_inside, delivered_inside, length_store, word_same, word_other, word_beside}

-- ---- a property that every store inside a memory keeps is kept by an answer; of two memories at once
module _ (P : List ℕ → List ℕ → Type 0) (j i : ℕ)
    (step : (s t : List ℕ) (k v : ℕ) → k < memory_words → P s t → P (store s j k v) (store t i k v)) where
  kept_noted : (r s : List ℕ) (f : Arrival) → P r s → P (noted r j f) (noted s i f)
  unfolding noted
  kept_noted r s f p = step _ _ _ _ (number_inside f.network _ refl) (step _ _ _ _ (omega arith) p)

  kept_met : (r s : List ℕ) (x : Network) (n : ℕ) → n < number_count → P r s → P (met r j x n) (met s i x n)
  unfolding met
  kept_met r s x n h p = step _ _ _ _ (awaiting_inside x n _ refl h) p

  kept_delivered : (r s : List ℕ) (f : Arrival) → f.number < number_count → P r s → P (delivered r j f) (delivered s i f)
  unfolding delivered
  kept_delivered r s f h p =
      let l = delivered_inside f.network f.number _ refl h in
      step _ _ _ _ (omega arith) (step _ _ _ _ (awaiting_inside f.network f.number _ refl h) p)

  pub stored_left : (r s : List ℕ) (f : Arrival) → f.number < number_count → (a : Reception) → P r s → P (memory_after r j f a) (memory_after s i f a)
  stored_left r s f h UnknownLink p = p
  stored_left r s f h Late p = p
  stored_left r s f h OutOfSequence p = kept_noted r s f p
  stored_left r s f h Copy p = kept_met _ _ (other f.network) f.number h (kept_noted r s f p)
  stored_left r s f h Delivered p = kept_delivered _ _ f h (kept_noted r s f p)

-- ---- what the memory says once a frame's time and number are noted
length_noted : (r : List ℕ) (j : ℕ) (f : Arrival) → length (noted r j f) ≡ length r
unfolding noted
length_noted r j f = length_store (store r j time_word f.time) j _ _ ∙ length_store r j time_word f.time

module _ (r : List ℕ) (j : ℕ) (h : memory_words * j + memory_words ≤ length r) (f : Arrival) where
  pub noted_room : memory_words * j + memory_words ≤ length (noted r j f)
  noted_room = let e = length_noted r j f in omega arith

  pub noted_time : latest_time (noted r j f) j ≡ f.time
  unfolding noted
  noted_time =
      word_other (store r j time_word f.time) j (number_word f.network) time_word (f.number + 1) (λ e. omega arith)
      ∙ word_same r j time_word f.time h (omega arith)

  pub noted_number : last_number (noted r j f) j f.network ≡ Some f.number
  unfolding noted
  noted_number =
      let e = length_store r j time_word f.time in
      let w : word (store (store r j time_word f.time) j (number_word f.network) (f.number + 1)) j (number_word f.network) ≡ f.number + 1
      = word_same (store r j time_word f.time) j (number_word f.network) (f.number + 1) (omega arith) (number_inside f.network _ refl) in
      ap number_of w ∙ number_some (f.number + 1) (λ z. omega arith) ∙ ap Some (omega arith)

  pub noted_elsewhere : (k : ℕ) → (k ≡ time_word → ⊥) → (k ≡ number_word f.network → ⊥) → word (noted r j f) j k ≡ word r j k
  unfolding noted
  noted_elsewhere k p q =
      word_other (store r j time_word f.time) j (number_word f.network) k (f.number + 1) q
      ∙ word_other r j time_word k f.time p

  pub noted_other : (x : Network) → (index x ≡ index f.network → ⊥) → last_number (noted r j f) j x ≡ last_number r j x
  noted_other x d = ap number_of (noted_elsewhere (number_word x) (λ e. omega arith) (λ e. d (omega arith)))

  pub noted_awaiting : (x : Network) (n : ℕ) → awaiting (noted r j f) j x n ≡ awaiting r j x n
  noted_awaiting x n =
      let i = index_low f.network in
      ap₂ delivery_of
      (noted_elsewhere (awaiting_word x n) (λ e. omega arith) (λ e. omega arith))
      (noted_elsewhere (delivered_word x n) (λ e. omega arith) (λ e. omega arith))

-- ---- what the memory says once a delivery has met its copy
module _ (r : List ℕ) (j : ℕ) (x : Network) (n : ℕ) where
  pub met_elsewhere : (k : ℕ) → (k ≡ awaiting_word x n → ⊥) → word (met r j x n) j k ≡ word r j k
  unfolding met
  met_elsewhere k d = word_other r j (awaiting_word x n) k 0 d

  pub met_time : latest_time (met r j x n) j ≡ latest_time r j
  met_time = met_elsewhere time_word (λ e. omega arith)

  pub met_number : (y : Network) → last_number (met r j x n) j y ≡ last_number r j y
  met_number y = let i = index_low y in ap number_of (met_elsewhere (number_word y) (λ e. omega arith))

  pub met_same : memory_words * j + memory_words ≤ length r → n < number_count → awaiting (met r j x n) j x n ≡ None
  unfolding met
  met_same h l = delivery_none _ _ (word_same r j (awaiting_word x n) 0 h (awaiting_inside x n _ refl l))

  pub met_other : (y : Network) (m : ℕ) → (awaiting_word y m ≡ awaiting_word x n → ⊥) → awaiting (met r j x n) j y m ≡ awaiting r j y m
  met_other y m d = ap₂ delivery_of (met_elsewhere (awaiting_word y m) d) (met_elsewhere (delivered_word y m) (λ e. omega arith))

-- ---- what the memory says once a delivery awaits its copy
module _ (r : List ℕ) (j : ℕ) (f : Arrival) where
  pub delivered_elsewhere : (k : ℕ) → (k ≡ awaiting_word f.network f.number → ⊥) → (k ≡ delivered_word f.network f.number → ⊥)
      → word (delivered r j f) j k ≡ word r j k
  unfolding delivered
  delivered_elsewhere k d e =
      word_other (store r j (awaiting_word f.network f.number) 1) j (delivered_word f.network f.number) k f.time e
      ∙ word_other r j (awaiting_word f.network f.number) k 1 d

  pub delivered_time : latest_time (delivered r j f) j ≡ latest_time r j
  delivered_time = delivered_elsewhere time_word (λ e. omega arith) (λ e. omega arith)

  pub delivered_number : (y : Network) → last_number (delivered r j f) j y ≡ last_number r j y
  delivered_number y = let i = index_low y in ap number_of (delivered_elsewhere (number_word y) (λ e. omega arith) (λ e. omega arith))

  pub delivered_same : memory_words * j + memory_words ≤ length r → f.number < number_count
      → awaiting (delivered r j f) j f.network f.number ≡ Some f.time
  unfolding delivered
  delivered_same h l =
      let e = length_store r j (awaiting_word f.network f.number) 1 in
      let o : word (store (store r j (awaiting_word f.network f.number) 1) j (delivered_word f.network f.number) f.time) j (awaiting_word f.network f.number) ≡ 1
      = word_other (store r j (awaiting_word f.network f.number) 1) j (delivered_word f.network f.number) (awaiting_word f.network f.number) f.time (λ q. omega arith)
      ∙ word_same r j (awaiting_word f.network f.number) 1 h (awaiting_inside f.network f.number _ refl l) in
      let d : word (store (store r j (awaiting_word f.network f.number) 1) j (delivered_word f.network f.number) f.time) j (delivered_word f.network f.number) ≡ f.time
      = word_same (store r j (awaiting_word f.network f.number) 1) j (delivered_word f.network f.number) f.time (omega arith)
      (let m = delivered_inside f.network f.number _ refl l in omega arith) in
      delivery_some _ _ (λ z. let q : word (store (store r j (awaiting_word f.network f.number) 1) j (delivered_word f.network f.number) f.time) j (awaiting_word f.network f.number) ≡ 0 = z in omega arith)
      ∙ ap Some d

  pub delivered_other : (y : Network) (m : ℕ) → (awaiting_word y m ≡ awaiting_word f.network f.number → ⊥)
      → awaiting (delivered r j f) j y m ≡ awaiting r j y m
  delivered_other y m d =
      ap₂ delivery_of
      (delivered_elsewhere (awaiting_word y m) d (λ e. omega arith))
      (delivered_elsewhere (delivered_word y m) (λ e. omega arith) (λ e. d (omega arith)))

-- ---- the memories of other rows
pub left_beside : (r : List ℕ) (j : ℕ) (f : Arrival) (a : Reception) → f.number < number_count → (i : ℕ) → (i ≡ j → ⊥) → SameMemory (memory_after r j f a) i r i
left_beside r j f a h i d =
    stored_left (λ s t. SameMemory s i r i) j j
    (λ s t k v l p m q. word_beside s j k i m v d l q ∙ p m q)
    r r f h a (λ m q. refl)
