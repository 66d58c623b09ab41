-- What a memory holds: at every point of a history the memory says what the frames that its link received say. Assumes
-- nothing.
use Prim.Native.Nat.{ℕ, ◌+◌, ◌*◌, ◌≤◌, ◌<◌}
use mathlib.Core.Bool.{true, false, ◌&&◌, false≢true}
use mathlib.Core.List.{List, [], ◌∷◌}
use Rattle.std.specs.Prelude.{Some, None}
use mathlib.Core.Path.{◌≡◌, refl, sym, ap, ap₂, ◌∙◌, subst}
use native.Mathlib.Omega.{arith}
use lib.ListN.{length}
use lib.Dec.{eqb}
use borrow.Author.Tests.{eq-eqb, eqb-true}
use Rattle.lists.proofs.Tests.{split, both}
use Rattle.receive_answer.specs.declared.Arrival.{Arrival}
use Rattle.receive_answer.specs.declared.Network.{Network}
use Rattle.receive_answer.specs.declared.Network.TheVariants.{A, B}
use Rattle.receive_answer.specs.declared.Reception.{Reception}
use Rattle.receive_answer.specs.declared.Reception.TheVariants.{Delivered, Copy, OutOfSequence, UnknownLink, Late}
use Rattle.receive.specs.Lent.{index, memory_words, time_word, number_word, awaiting_word, delivered_word, word, latest_time, last_number, awaiting, noted, met, delivered}
use Rattle.receive_answer.specs.Answer.{other, delivery_of, taken}
use Rattle.receive.specs.Receive.{memory_after, answer_by}
use Rattle.receive.specs.Claims.{SameMemory}
use Rattle.receive_sequence.specs.Sequence.{number_count, number_of}
use Rattle.receive_sequence.proofs.Passing.{number_none}
use Rattle.receive_answer.proofs.Answer.{delivery_none}
use Rattle.receive.proofs.Words.{number_inside, awaiting_inside, delivered_inside}
use Rattle.receive.proofs.Stored.{noted_room, noted_time, noted_number, noted_other, noted_awaiting, met_time, met_number, met_same, met_other, delivered_time, delivered_number, delivered_same, delivered_other}
use Rattle.receive_history.specs.History.{Answered, answered_of}
use Rattle.receive_history.specs.Rule.{newest_time, same_network, newest_number, numbered, unmet, rule_on}

-- ---- networks and numbers by their tests
pub other_other : (x : Network) → other (other x) ≡ x
other_other A = refl
other_other B = refl

network_true : (x y : Network) → same_network x y ≡ true → x ≡ y
network_true A A e = refl
network_true B B e = refl
network_true A B e = cc
network_true B A e = cc

network_same : (x : Network) → same_network x x ≡ true
network_same A = refl
network_same B = refl

network_false : (x y : Network) → same_network x y ≡ false → index y ≡ index x → ⊥
network_false A A e q = cc
network_false B B e q = cc
network_false A B e q = omega arith
network_false B A e q = omega arith

pub numbered_true : (x : Network) (n : ℕ) (f : Arrival) → numbered x n f ≡ true → (f.network ≡ x) × (f.number ≡ n)
numbered_true x n f e =
    let b = both (same_network f.network x) (eqb f.number n) e in
    (network_true f.network x b.0, eqb-true _ _ b.1)

pub numbered_is : (x : Network) (n : ℕ) (f : Arrival) → f.network ≡ x → f.number ≡ n → numbered x n f ≡ true
numbered_is x n f p q = ap₂ ◌&&◌ (subst (λ (y : Network). same_network f.network y ≡ true) p (network_same f.network)) (eq-eqb _ _ q)

-- ---- deliveries of other networks or numbers have other indices
places : (x y : Network) (n m : ℕ) → n < number_count → m < number_count → awaiting_word x n ≡ awaiting_word y m → (x ≡ y) × (n ≡ m)
places A A n m h l e = (refl, omega arith)
places B B n m h l e = (refl, omega arith)
places A B n m h l e = absurd (omega arith)
places B A n m h l e = absurd (omega arith)

-- ---- one more frame before
module _ (f : Arrival) (a : Reception) (p : List Answered) where
  pub newest_time_lem : newest_time (answered_of f a ∷ p) ≡ f.time
  unfolding newest_time
  newest_time_lem = refl

  newest_same : (x : Network) → same_network f.network x ≡ true → newest_number x (answered_of f a ∷ p) ≡ Some f.number
  unfolding newest_number
  newest_same x e = simp e

  newest_other : (x : Network) → same_network f.network x ≡ false → newest_number x (answered_of f a ∷ p) ≡ newest_number x p
  unfolding newest_number
  newest_other x e = simp e

module _ (x : Network) (n : ℕ) (f : Arrival) (p : List Answered) where
  pub unmet_delivered : numbered x n f ≡ true → unmet x n (answered_of f Delivered ∷ p) ≡ Some f.time
  unfolding unmet
  unmet_delivered e = simp e

  pub unmet_other : numbered x n f ≡ false → unmet x n (answered_of f Delivered ∷ p) ≡ unmet x n p
  unfolding unmet
  unmet_other e = simp e

  pub unmet_met : numbered (other x) n f ≡ true → unmet x n (answered_of f Copy ∷ p) ≡ None
  unfolding unmet
  unmet_met e = simp e

  pub unmet_still : numbered (other x) n f ≡ false → unmet x n (answered_of f Copy ∷ p) ≡ unmet x n p
  unfolding unmet
  unmet_still e = simp e

  pub unmet_out : unmet x n (answered_of f OutOfSequence ∷ p) ≡ unmet x n p
  unfolding unmet
  unmet_out = refl

  pub unmet_unknown : unmet x n (answered_of f UnknownLink ∷ p) ≡ unmet x n p
  unfolding unmet
  unmet_unknown = refl

  pub unmet_late : unmet x n (answered_of f Late ∷ p) ≡ unmet x n p
  unfolding unmet
  unmet_late = refl

pub unmet_none : (x : Network) (n : ℕ) → unmet x n [] ≡ None
unfolding unmet
unmet_none x n = refl

-- ---- memory j says what the frames p say
pub record Represents (r : List ℕ) (j : ℕ) (p : List Answered) : Type 0 where
  pub time : latest_time r j ≡ newest_time p
  pub number : (x : Network) → last_number r j x ≡ newest_number x p
  pub delivery : (x : Network) (n : ℕ) → n < number_count → awaiting r j x n ≡ unmet x n p

-- an empty memory says what no frames say
pub empty_says : (r : List ℕ) (j : ℕ) → ((k : ℕ) → k < memory_words → word r j k ≡ 0) → Represents r j []
unfolding newest_time newest_number unmet
empty_says r j z =
    record {
      time = z time_word (omega arith);
      number = λ x. number_none _ (z (number_word x) (number_inside x _ refl));
      delivery = λ x n h. delivery_none _ _ (z (awaiting_word x n) (awaiting_inside x n _ refl h));
    }

-- the same words say the same
pub same_says : (r s : List ℕ) (j : ℕ) (p : List Answered) → SameMemory s j r j → Represents r j p → Represents s j p
same_says r s j p e q =
    record {
      time = e time_word (omega arith) ∙ q.time;
      number = λ x. ap number_of (e (number_word x) (number_inside x _ refl)) ∙ q.number x;
      delivery = λ x n h.
          let d = delivered_inside x n _ refl h in
          ap₂ delivery_of (e (awaiting_word x n) (awaiting_inside x n _ refl h)) (e (delivered_word x n) (omega arith)) ∙ q.delivery x n h;
    }

-- the answer by the memory is the rule's
pub answer_says : (skew : ℕ) (r : List ℕ) (j : ℕ) (p : List Answered) (f : Arrival) → f.number < number_count → Represents r j p
    → answer_by skew r j f ≡ rule_on skew p f
unfolding answer_by rule_on
answer_says skew r j p f h q =
    rw (q.time, q.number f.network, q.delivery (other f.network) f.number h) refl

-- ---- the memory after an answer says what the frames say with one more
module _ (r : List ℕ) (j : ℕ) (room : memory_words * j + memory_words ≤ length r) (p : List Answered) (f : Arrival) (h : f.number < number_count) (q : Represents r j p) where
  says_number : (a : Reception) (x : Network) → last_number (noted r j f) j x ≡ newest_number x (answered_of f a ∷ p)
  says_number a x =
      split (same_network f.network x)
      (λ e.
      let s = network_true f.network x e in
      subst (λ (y : Network). last_number (noted r j f) j y ≡ Some f.number) s (noted_number r j room f) ∙ sym (newest_same f a p x e))
      (λ e. noted_other r j room f x (network_false f.network x e) ∙ q.number x ∙ sym (newest_other f a p x e))

  says_delivery : (x : Network) (n : ℕ) → n < number_count → awaiting (noted r j f) j x n ≡ unmet x n p
  says_delivery x n l = noted_awaiting r j room f x n ∙ q.delivery x n l

  out_says : Represents (memory_after r j f OutOfSequence) j (answered_of f OutOfSequence ∷ p)
  out_says =
      record {
        time = noted_time r j room f ∙ sym (newest_time_lem f OutOfSequence p);
        number = says_number OutOfSequence;
        delivery = λ x n l. says_delivery x n l ∙ sym (unmet_out x n f p);
      }

  copy_says : Represents (memory_after r j f Copy) j (answered_of f Copy ∷ p)
  copy_says =
      record {
        time = met_time (noted r j f) j o f.number ∙ noted_time r j room f ∙ sym (newest_time_lem f Copy p);
        number = λ x. met_number (noted r j f) j o f.number x ∙ says_number Copy x;
        delivery = λ x n l.
            split (numbered (other x) n f)
            (λ e.
            let t = numbered_true (other x) n f e in
            let y : o ≡ x = ap other t.0 ∙ other_other x in
            ap₂ (λ (z : Network) (m : ℕ). awaiting (met (noted r j f) j o f.number) j z m) (sym y) (sym t.1)
            ∙ met_same (noted r j f) j o f.number (noted_room r j room f) h
            ∙ sym (unmet_met x n f p e))
            (λ e.
            met_other (noted r j f) j o f.number x n
            (λ w.
            let t = places x o n f.number l h w in
            false≢true (sym e ∙ numbered_is (other x) n f (sym (ap other t.0 ∙ other_other f.network)) (sym t.1)))
            ∙ says_delivery x n l
            ∙ sym (unmet_still x n f p e));
      }
    where
      o : Network
      o = other f.network

  delivered_says : Represents (memory_after r j f Delivered) j (answered_of f Delivered ∷ p)
  delivered_says =
      record {
        time = delivered_time (noted r j f) j f ∙ noted_time r j room f ∙ sym (newest_time_lem f Delivered p);
        number = λ x. delivered_number (noted r j f) j f x ∙ says_number Delivered x;
        delivery = λ x n l.
            split (numbered x n f)
            (λ e.
            let t = numbered_true x n f e in
            ap₂ (λ (z : Network) (m : ℕ). awaiting (delivered (noted r j f) j f) j z m) (sym t.0) (sym t.1)
            ∙ delivered_same (noted r j f) j f (noted_room r j room f) h
            ∙ sym (unmet_delivered x n f p e))
            (λ e.
            delivered_other (noted r j f) j f x n
            (λ w.
            let t = places x f.network n f.number l h w in
            false≢true (sym e ∙ numbered_is x n f (sym t.0) (sym t.1)))
            ∙ says_delivery x n l
            ∙ sym (unmet_other x n f p e));
      }

  pub left_says : (a : Reception) → taken a ≡ true → Represents (memory_after r j f a) j (answered_of f a ∷ p)
  left_says Delivered e = delivered_says
  left_says Copy e = copy_says
  left_says OutOfSequence e = out_says
  left_says UnknownLink e = cc
  left_says Late e = cc
