-- Copies and their deliveries, in words. Assumes nothing.
use Prim.Native.Nat.{ℕ, ◌-◌, ◌≤◌, ◌<◌}
use mathlib.Core.Bool.{true, false, false≢true}
use mathlib.Core.List.Memᴰ
use mathlib.Core.List.{List, [], ◌∷◌, ◌++◌, head-eq_of_cons-eq, tail-eq_of_cons-eq, Memᴰ}
use mathlib.Core.Logic.{◌⊎◌, inl, inr, ⊎_elim}
use Rattle.std.specs.Prelude.{Option, Some, None}
use mathlib.Core.Path.{◌≡◌, refl, sym, ap, ◌∙◌, subst}
use native.Mathlib.Omega.{arith}
use lib.ListN.{length}
use Rattle.lists.proofs.Tests.{split}
use Rattle.receive_answer.specs.declared.Arrival.{Arrival}
use Rattle.receive_answer.specs.declared.Network.{Network}
use Rattle.receive_answer.specs.declared.Reception.{Reception}
use Rattle.receive_answer.specs.declared.Reception.TheVariants.{Delivered, Copy, OutOfSequence, UnknownLink, Late}
use Rattle.receive_sequence.specs.Sequence.{passes, number_count}
use Rattle.receive.specs.Lent.{skew_in, row_found}
use Rattle.receive_answer.specs.Answer.{other, reception_code, in_skew}
use Rattle.receive_answer.proofs.Answer.{reception_late, reception_out, by_reception}
use Rattle.receive_answer.proofs.Claims.{awaits_copy, in_skew_at}
use Rattle.receive_history.specs.History.{Answered, answered_of, Empty, Octets}
use Rattle.receive_history.specs.Rule.{of_link, newest_time, newest_number, numbered, unmet, rule_on, rule_by, rule_answer}
use Rattle.receive_history.specs.Words.{past_of, next_answer, DeliveryOf, CopyOf, MeetsDelivery, CopyOrDelivered, OtherReceptionsInWords, CopiesInWords, CopyMeetsDelivery, MetOnce, AloneDelivered}
use Rattle.receive_history.proofs.Memory.{other_other, numbered_true, numbered_is, unmet_delivered, unmet_other, unmet_met, unmet_still, unmet_out, unmet_unknown, unmet_late, unmet_none}
use Rattle.receive_history.proofs.Rule.{rule_of_next}

-- ---- the delivery that `unmet` finds
pub record Unmet (x : Network) (n : ℕ) (p : List Answered) (d : ℕ) : Type 0 where
  pub later : List Answered
  pub delivery : Answered
  pub earlier : List Answered
  pub stands : p ≡ later ++ (delivery ∷ earlier)
  pub same : DeliveryOf x n delivery
  pub time : delivery.frame.time ≡ d
  pub latest : (a : Answered) → Memᴰ a later → DeliveryOf x n a → ⊥
  pub not_met : (a : Answered) → Memᴰ a later → CopyOf (other x) n a → ⊥

module _ (x : Network) (n : ℕ) where
  -- a frame that plays no part
  passed : (b : Answered) (p : List Answered) (d : ℕ) → (DeliveryOf x n b → ⊥) → (CopyOf (other x) n b → ⊥) → Unmet x n p d → Unmet x n (b ∷ p) d
  passed b p d u v q =
      record {
        later = b ∷ q.later;
        delivery = q.delivery;
        earlier = q.earlier;
        stands = ap (◌∷◌ b) q.stands;
        same = q.same;
        time = q.time;
        latest = λ a m.
            first (λ (c : Answered). DeliveryOf x n c → ⊥) a m u q.latest;
        not_met = λ a m.
            first (λ (c : Answered). CopyOf (other x) n c → ⊥) a m v q.not_met;
      }
    where
      first : (P : Answered → Type 0) (a : Answered) → Memᴰ a (b ∷ q.later) → P b → ((c : Answered) → Memᴰ c q.later → P c) → P a
      first P a (Memᴰ.head e) y z = subst P (sym e) y
      first P a (Memᴰ.tail m) y z = z a m

  unmet_more : (f : Arrival) (a : Reception) (p : List Answered) (d : ℕ) → (unmet x n p ≡ Some d → Unmet x n p d)
      → unmet x n (answered_of f a ∷ p) ≡ Some d → Unmet x n (answered_of f a ∷ p) d
  unmet_more f Delivered p d ih e =
      split (numbered x n f)
      (λ t.
      let b = numbered_true x n f t in
      record {
        later = [];
        delivery = answered_of f Delivered;
        earlier = p;
        stands = refl;
        same = (refl, b.0, b.1);
        time = cc (unmet_delivered x n f p t);
        latest = λ a m. absurd (Memᴰ.not-nil m);
        not_met = λ a m. absurd (Memᴰ.not-nil m);
      })
      (λ t.
      passed (answered_of f Delivered) p d
      (λ q. false≢true (sym t ∙ numbered_is x n f q.1 q.2))
      (λ q. let z : 0 ≡ 30 = ap reception_code q.0 in omega arith)
      (ih (sym (unmet_other x n f p t) ∙ e)))
  unmet_more f Copy p d ih e =
      split (numbered (other x) n f)
      (λ t. cc (unmet_met x n f p t))
      (λ t.
      passed (answered_of f Copy) p d
      (λ q. let z : 30 ≡ 0 = ap reception_code q.0 in omega arith)
      (λ q. false≢true (sym t ∙ numbered_is (other x) n f q.1 q.2))
      (ih (sym (unmet_still x n f p t) ∙ e)))
  unmet_more f OutOfSequence p d ih e =
      passed (answered_of f OutOfSequence) p d
      (λ q. let z : 31 ≡ 0 = ap reception_code q.0 in omega arith)
      (λ q. let z : 31 ≡ 30 = ap reception_code q.0 in omega arith)
      (ih (sym (unmet_out x n f p) ∙ e))
  unmet_more f UnknownLink p d ih e =
      passed (answered_of f UnknownLink) p d
      (λ q. let z : 4 ≡ 0 = ap reception_code q.0 in omega arith)
      (λ q. let z : 4 ≡ 30 = ap reception_code q.0 in omega arith)
      (ih (sym (unmet_unknown x n f p) ∙ e))
  unmet_more f Late p d ih e =
      passed (answered_of f Late) p d
      (λ q. let z : 8 ≡ 0 = ap reception_code q.0 in omega arith)
      (λ q. let z : 8 ≡ 30 = ap reception_code q.0 in omega arith)
      (ih (sym (unmet_late x n f p) ∙ e))

  pub unmet_found : (p : List Answered) (d : ℕ) → unmet x n p ≡ Some d → Unmet x n p d
  unmet_found [] d e = cc (unmet_none x n)
  unmet_found (a ∷ p) d e = unmet_more a.frame a.says p d (unmet_found p d) e

  -- a frame that is neither such a delivery nor its copy changes nothing
  unmet_past : (f : Arrival) (a : Reception) (p : List Answered) → (DeliveryOf x n (answered_of f a) → ⊥) → (CopyOf (other x) n (answered_of f a) → ⊥)
      → unmet x n (answered_of f a ∷ p) ≡ unmet x n p
  unmet_past f Delivered p u v = split (numbered x n f) (λ t. let b = numbered_true x n f t in absurd (u (refl, b.0, b.1))) (unmet_other x n f p)
  unmet_past f Copy p u v = split (numbered (other x) n f) (λ t. let b = numbered_true (other x) n f t in absurd (v (refl, b.0, b.1))) (unmet_still x n f p)
  unmet_past f OutOfSequence p u v = unmet_out x n f p
  unmet_past f UnknownLink p u v = unmet_unknown x n f p
  unmet_past f Late p u v = unmet_late x n f p

  -- the delivery is the one that `unmet` finds
  pub unmet_is : (later : List Answered) (b : Answered) (earlier : List Answered) → DeliveryOf x n b
      → ((a : Answered) → Memᴰ a later → DeliveryOf x n a → ⊥) → ((a : Answered) → Memᴰ a later → CopyOf (other x) n a → ⊥)
      → unmet x n (later ++ (b ∷ earlier)) ≡ Some b.frame.time
  unmet_is [] b earlier q u v =
      ap (λ (a : Reception). unmet x n (answered_of b.frame a ∷ earlier)) q.0
      ∙ unmet_delivered x n b.frame earlier (numbered_is x n b.frame q.1 q.2)
  unmet_is (a ∷ later) b earlier q u v =
      unmet_past a.frame a.says (later ++ (b ∷ earlier)) (u a (Memᴰ.head refl)) (v a (Memᴰ.head refl))
      ∙ unmet_is later b earlier q (λ c m. u c (Memᴰ.tail m)) (λ c m. v c (Memᴰ.tail m))

-- ---- a frame and the delivery that it meets
module _ (skew : ℕ) (p : List Answered) (f : Arrival) where
  meets : in_skew skew (unmet (other f.network) f.number p) f.time ≡ true → MeetsDelivery skew p f
  meets e =
      let w = awaits_copy skew (unmet (other f.network) f.number p) f.time e in
      let q = unmet_found (other f.network) f.number p w.time w.awaits in
      let z : q.delivery.frame.time ≡ w.time = q.time in
      let u : w.time ≤ f.time = w.not_after in
      let v : f.time - w.time ≤ skew = w.in_skew_lem in
      record {
        later = q.later;
        delivery = q.delivery;
        earlier = q.earlier;
        stands = q.stands;
        same = q.same;
        not_after = omega arith;
        in_skew_lem = omega arith;
        latest = q.latest;
        not_met = λ a m c. q.not_met a m (c.0, c.1 ∙ sym (other_other f.network), c.2);
      }

  meeting : MeetsDelivery skew p f → in_skew skew (unmet (other f.network) f.number p) f.time ≡ true
  meeting m =
      ap (λ (o : Option ℕ). in_skew skew o f.time)
      (ap (unmet (other f.network) f.number) m.stands
      ∙ unmet_is (other f.network) f.number m.later m.delivery m.earlier m.same m.latest
      (λ a n c. m.not_met a n (c.0, c.1 ∙ other_other f.network, c.2)))
      ∙ in_skew_at skew m.delivery.frame.time f.time m.not_after m.in_skew_lem

  -- the answer copy says that a delivery is within SkewMax
  pub copy_skew : rule_on skew p f ≡ Copy → in_skew skew (unmet (other f.network) f.number p) f.time ≡ true
  unfolding rule_on
  copy_skew =
      by_reception skew (newest_time p) (newest_number f.network p) (unmet (other f.network) f.number p) f.number f.time
      (λ a. a ≡ Copy → in_skew skew (unmet (other f.network) f.number p) f.time ≡ true)
      (λ h e. let z : 8 ≡ 30 = ap reception_code e in absurd (omega arith))
      (λ h q e. let z : 31 ≡ 30 = ap reception_code e in absurd (omega arith))
      (λ h q s e. s)
      (λ h q s e. let z : 0 ≡ 30 = ap reception_code e in absurd (omega arith))

  module _ (h : newest_time p ≤ f.time) (q : passes (newest_number f.network p) f.number ≡ true) where
    reception_either : (P : Reception → Type 0)
        → (in_skew skew (unmet (other f.network) f.number p) f.time ≡ true → P Copy)
        → (in_skew skew (unmet (other f.network) f.number p) f.time ≡ false → P Delivered)
        → P (rule_on skew p f)
    unfolding rule_on
    reception_either P c d =
        by_reception skew (newest_time p) (newest_number f.network p) (unmet (other f.network) f.number p) f.number f.time P
        (λ l. absurd (omega arith))
        (λ l z. absurd (false≢true (sym z ∙ q)))
        (λ l z. c)
        (λ l z. d)

    pub rule_judged : CopyOrDelivered skew p f (rule_on skew p f)
    rule_judged =
        reception_either (CopyOrDelivered skew p f)
        (λ s. record { copy = (λ e. meets s, λ m. refl); otherwise = λ n. absurd (n (meets s)) })
        (λ s.
        record {
          copy = (λ e. let z : 0 ≡ 30 = ap reception_code e in absurd (omega arith), λ m. absurd (false≢true (sym s ∙ meeting m)));
          otherwise = λ n. refl;
        })

-- ---- of every history
pub rule_at : (rows : List ℕ) (words : ℕ) (p : List Answered) (f : Arrival) (j : ℕ) → row_found rows words f.link ≡ Some j
    → rule_answer rows words p f ≡ rule_on (skew_in rows j) (of_link f.link p) f
unfolding rule_answer
rule_at rows words p f j e = ap (rule_by rows p f) e

pub rule_nowhere : (rows : List ℕ) (words : ℕ) (p : List Answered) (f : Arrival) → row_found rows words f.link ≡ None → rule_answer rows words p f ≡ UnknownLink
unfolding rule_answer
rule_nowhere rows words p f e = ap (rule_by rows p f) e

module _ (rows r : List ℕ) (z : Empty rows r) (before : List Arrival) (o : Octets before) (f : Arrival) (h : f.number < number_count)
    (j : ℕ) (e : row_found rows (length r) f.link ≡ Some j) where
  by_rule : next_answer rows r before f ≡ rule_on (skew_in rows j) (of_link f.link (past_of rows r before)) f
  by_rule = rule_of_next rows r z before o f h ∙ rule_at rows (length r) (past_of rows r before) f j e

pub copies_in_words : CopiesInWords
copies_in_words rows r z before o f h j e l q =
    subst (CopyOrDelivered (skew_in rows j) (of_link f.link (past_of rows r before)) f) (sym (by_rule rows r z before o f h j e))
    (rule_judged (skew_in rows j) (of_link f.link (past_of rows r before)) f l q)

pub copy_meets_delivery : CopyMeetsDelivery
copy_meets_delivery rows r z before o f h j e c =
    let p = of_link f.link (past_of rows r before) in
    meets (skew_in rows j) p f (copy_skew (skew_in rows j) p f (sym (by_rule rows r z before o f h j e) ∙ c))

pub alone_delivered : AloneDelivered
alone_delivered rows r z before o f h j e l q u =
    (copies_in_words rows r z before o f h j e l q).otherwise
    (λ m.
    u m.delivery (subst (Memᴰ m.delivery) (sym m.stands) (Memᴰ.append_right m.later (Memᴰ.head refl))) m.same m.in_skew_lem)

-- ---- two positions in one list: the first before the second, the same, or after it
places : {A : Type 0} (xs : List A) (x : A) (ys : List A) (vs : List A) (v : A) (ws : List A) → xs ++ (x ∷ ys) ≡ vs ++ (v ∷ ws)
    → Memᴰ v xs ⊎ ((x ≡ v) ⊎ Memᴰ x vs)
places [] x ys [] v ws e = inr (inl (head-eq_of_cons-eq e))
places [] x ys (b ∷ vs) v ws e = inr (inr (Memᴰ.head (head-eq_of_cons-eq e)))
places (a ∷ xs) x ys [] v ws e = inl (Memᴰ.head (sym (head-eq_of_cons-eq e)))
places (a ∷ xs) x ys (b ∷ vs) v ws e =
    ⊎_elim
    (λ m. inl (Memᴰ.tail m))
    (λ d. ⊎_elim (λ q. inr (inl q)) (λ m. inr (inr (Memᴰ.tail m))) d)
    (places xs x ys vs v ws (tail-eq_of_cons-eq e))

pub met_once : MetOnce
met_once rows r z before o f h j e later c earlier s copy none-later q =
    let m = copy_meets_delivery rows r z before o f h j e q in
    ⊎_elim
    (λ d. none-later m.delivery d m.same)
    (λ d.
    ⊎_elim
    (λ p. let y : ◌≡◌ {A = ℕ} 30 0 = ap reception_code (sym copy.0 ∙ ap (λ (a : Answered). a.says) p ∙ m.same.0) in omega arith)
    (λ n. m.not_met c n copy) d)
    (places later c earlier m.later m.delivery m.earlier (sym s ∙ m.stands))

-- ---- frames that are not received, or that don't pass
rule_late : (skew : ℕ) (p : List Answered) (f : Arrival) → f.time < newest_time p → rule_on skew p f ≡ Late
unfolding rule_on
rule_late skew p f h = sym (reception_late skew (newest_time p) (newest_number f.network p) (unmet (other f.network) f.number p) f.number f.time h)

rule_out : (skew : ℕ) (p : List Answered) (f : Arrival) → newest_time p ≤ f.time → passes (newest_number f.network p) f.number ≡ false → rule_on skew p f ≡ OutOfSequence
unfolding rule_on
rule_out skew p f h e =
    sym (reception_out skew (newest_time p) (newest_number f.network p) (unmet (other f.network) f.number p) f.number f.time h e)

pub others_in_words : OtherReceptionsInWords
others_in_words rows r z before o f h =
    let n = rule_of_next rows r z before o f h in
    record {
      unknown = λ e. n ∙ rule_nowhere rows (length r) (past_of rows r before) f e;
      late = λ j e l. by_rule rows r z before o f h j e ∙ rule_late (skew_in rows j) (of_link f.link (past_of rows r before)) f l;
      out = λ j e l q. by_rule rows r z before o f h j e ∙ rule_out (skew_in rows j) (of_link f.link (past_of rows r before)) f l q;
    }
