-- Each delivery meets at most one copy: copies and deliveries counted over a history. Assumes nothing.
use Prim.Native.Nat.{ℕ, ◌+◌, ◌≤◌}
use mathlib.Core.Bool.{Bool, true, false, ◌&&◌, and-false}
use mathlib.Core.List.{List, [], ◌∷◌}
use Rattle.std.specs.Prelude.{Option, Some, None}
use mathlib.Core.Path.{◌≡◌, refl, sym, ap, ap₂, ◌∙◌, subst}
use native.Mathlib.Omega.{arith}
use lib.ListN.{length}
use borrow.Author.Tests.{eqb-true}
use Rattle.lists.specs.History.{answers}
use Rattle.lists.specs.Lists.{only}
use Rattle.lists.proofs.Lists.{only_none, only_take, only_drop}
use Rattle.lists.proofs.Tests.{split}
use Rattle.rows.specs.Rows.{Found}
use Rattle.receive_answer.specs.declared.Arrival.{Arrival}
use Rattle.receive_answer.specs.declared.Network.{Network}
use Rattle.receive_answer.specs.declared.Reception.{Reception}
use Rattle.receive_answer.specs.declared.Reception.TheVariants.{Delivered, Copy, OutOfSequence, UnknownLink, Late}
use Rattle.receive.specs.Lent.{skew_in, row_found}
use Rattle.receive_answer.specs.Answer.{other, reception_code}
use Rattle.receive_answer.proofs.Claims.{awaits_copy}
use Rattle.receive_history.specs.History.{Answered, answered_of, on_link}
use Rattle.receive_history.specs.Rule.{received_on, of_link, numbered, unmet, rule_answer, rule_of_frames}
use Rattle.receive_history.specs.Words.{is_delivered, is_copy, deliveries, copies, OneCopyEach}
use Rattle.receive_history.proofs.Memory.{other_other, numbered_true, unmet_other, unmet_met, unmet_still, unmet_out, unmet_none}
use Rattle.receive_history.proofs.Rule.{joins, refused_stays, other_stays, rule_of_receptions}
use Rattle.receive_history.proofs.Meeting.{copy_skew, rule_at, rule_nowhere}

-- ---- counts
one : Bool → ℕ
one true = 1
one false = 0

one_true : (b : Bool) → b ≡ true → one b ≡ 1
unfolding one
one_true b e = ap one e

one_false : (b : Bool) → b ≡ false → one b ≡ 0
unfolding one
one_false b e = ap one e

count_more : (t : Answered → Bool) (a : Answered) (rest : List Answered) → length (only t (a ∷ rest)) ≡ one (t a) + length (only t rest)
count_more t a rest =
    split (t a)
    (λ e. let o = one_true (t a) e in ap length (only_take t a rest e) ∙ omega arith)
    (λ e. let o = one_false (t a) e in ap length (only_drop t a rest e) ∙ omega arith)

-- a delivery that awaits its copy
waits : Option ℕ → ℕ
waits None = 0
waits (Some d) = 1

waits_none : waits None ≡ 0
unfolding waits
waits_none = refl

waits_some : (d : ℕ) → waits (Some d) ≡ 1
unfolding waits
waits_some d = refl

waits_high : (o : Option ℕ) → waits o ≤ 1
unfolding waits
waits_high None = omega arith
waits_high (Some d) = omega arith

-- where a copy is answered, a delivery awaits it
copy_waits : (rows : List ℕ) (words : ℕ) (p : List Answered) (f : Arrival) → rule_answer rows words p f ≡ Copy
    → waits (unmet (other f.network) f.number (of_link f.link p)) ≡ 1
copy_waits rows words p f e = cases (row_found rows words f.link) refl
  where
    cases : (d : Found) → row_found rows words f.link ≡ d → waits (unmet (other f.network) f.number (of_link f.link p)) ≡ 1
    cases None q = let z : ◌≡◌ {A = ℕ} 4 30 = ap reception_code (sym (rule_nowhere rows words p f q) ∙ e) in absurd (omega arith)
    cases (Some j) q =
        let w = awaits_copy (skew_in rows j) (unmet (other f.network) f.number (of_link f.link p)) f.time (copy_skew (skew_in rows j) (of_link f.link p) f (sym (rule_at rows words p f j q) ∙ e)) in
        ap waits w.awaits ∙ waits_some w.time

-- ---- one frame more
module _ (link : ℕ) (x : Network) (n : ℕ) (f : Arrival) (p : List Answered) where
  abbrev due : List Answered → ℕ
  due q = waits (unmet (other x) n (of_link link q))

  abbrev copied : Reception → ℕ
  copied a = one (on_link link f && (numbered x n f && is_copy a))

  abbrev sent : Reception → ℕ
  sent a = one (on_link link f && (numbered (other x) n f && is_delivered a))

  -- the frame is neither a counted copy nor a counted delivery, and no delivery comes or goes
  idle : (a : Reception) → (on_link link f && (numbered x n f && is_copy a)) ≡ false → due (answered_of f a ∷ p) ≡ due p → copied a + due (answered_of f a ∷ p) ≤ sent a + due p
  idle a e q = let o : copied a ≡ 0 = one_false _ e in omega arith

  off : (a : Reception) → on_link link f ≡ false → copied a + due (answered_of f a ∷ p) ≤ sent a + due p
  off a e =
      idle a (ap (λ (b : Bool). b && (numbered x n f && is_copy a)) e)
      (ap (λ (q : List Answered). waits (unmet (other x) n q)) (other_stays link f p a e))

  silent : (a : Reception) → is_copy a ≡ false → (on_link link f && (numbered x n f && is_copy a)) ≡ false
  silent a e = ap (λ (b : Bool). on_link link f && (numbered x n f && b)) e ∙ ap (λ (b : Bool). on_link link f && b) (and-false (numbered x n f)) ∙ and-false (on_link link f)

  module _ (on : on_link link f ≡ true) where
    joined : (a : Reception) (o : Option ℕ) → of_link link (answered_of f a ∷ p) ≡ answered_of f a ∷ of_link link p → unmet (other x) n (answered_of f a ∷ of_link link p) ≡ o
        → due (answered_of f a ∷ p) ≡ waits o
    joined a o j e = ap (λ (q : List Answered). waits (unmet (other x) n q)) j ∙ ap waits e

    turn_delivered : copied Delivered + due (answered_of f Delivered ∷ p) ≤ sent Delivered + due p
    turn_delivered =
        split (numbered (other x) n f)
        (λ e.
        let s : sent Delivered ≡ 1 = one_true _ (ap₂ (λ (b c : Bool). b && (c && true)) on e) in
        let o : copied Delivered ≡ 0 = one_false _ (silent Delivered refl) in
        let h = waits_high (unmet (other x) n (of_link link (answered_of f Delivered ∷ p))) in omega arith)
        (λ e.
        idle Delivered (silent Delivered refl)
        (joined Delivered _ (joins link f p Delivered on refl) (unmet_other (other x) n f (of_link link p) e)))

    turn_copy : (numbered x n f ≡ true → due p ≡ 1) → copied Copy + due (answered_of f Copy ∷ p) ≤ sent Copy + due p
    turn_copy w =
        split (numbered x n f)
        (λ e.
        let u : numbered (other (other x)) n f ≡ true = subst (λ (z : Network). numbered z n f ≡ true) (sym (other_other x)) e in
        let d : due (answered_of f Copy ∷ p) ≡ 0 = joined Copy None (joins link f p Copy on refl) (unmet_met (other x) n f (of_link link p) u) ∙ waits_none in
        let c : copied Copy ≡ 1 = one_true _ (ap₂ (λ (b c : Bool). b && (c && true)) on e) in
        let q : due p ≡ 1 = w e in omega arith)
        (λ e.
        let u : numbered (other (other x)) n f ≡ false = subst (λ (z : Network). numbered z n f ≡ false) (sym (other_other x)) e in
        idle Copy (ap₂ (λ (b c : Bool). b && (c && true)) on e)
        (joined Copy _ (joins link f p Copy on refl) (unmet_still (other x) n f (of_link link p) u)))

    turn_on : (a : Reception) → (a ≡ Copy → numbered x n f ≡ true → due p ≡ 1) → copied a + due (answered_of f a ∷ p) ≤ sent a + due p
    turn_on Delivered w = turn_delivered
    turn_on Copy w = turn_copy (w refl)
    turn_on OutOfSequence w = idle OutOfSequence (silent OutOfSequence refl) (joined OutOfSequence _ (joins link f p OutOfSequence on refl) (unmet_out (other x) n f (of_link link p)))
    turn_on UnknownLink w = idle UnknownLink (silent UnknownLink refl) (ap (λ (q : List Answered). waits (unmet (other x) n q)) (refused_stays link f p UnknownLink refl))
    turn_on Late w = idle Late (silent Late refl) (ap (λ (q : List Answered). waits (unmet (other x) n q)) (refused_stays link f p Late refl))

  turn : (a : Reception) → (a ≡ Copy → on_link link f ≡ true → numbered x n f ≡ true → due p ≡ 1) → copied a + due (answered_of f a ∷ p) ≤ sent a + due p
  turn a w = split (on_link link f) (λ on. turn_on on a (λ e. w e on)) (off a)

-- ---- a list of frames
module _ (link : ℕ) (x : Network) (n : ℕ) (rows : List ℕ) (words : ℕ) where
  due_one : (p : List Answered) (f : Arrival) → rule_answer rows words p f ≡ Copy → on_link link f ≡ true → numbered x n f ≡ true
      → waits (unmet (other x) n (of_link link p)) ≡ 1
  due_one p f e on m =
      let b = numbered_true x n f m in
      let l : f.link ≡ link = eqb-true _ _ on in
      subst (λ (k : ℕ). waits (unmet (other x) n (of_link k p)) ≡ 1) l
      (subst (λ (k : ℕ). waits (unmet (other x) k (of_link f.link p)) ≡ 1) b.1
      (subst (λ (z : Network). waits (unmet (other z) f.number (of_link f.link p)) ≡ 1) b.0
      (copy_waits rows words p f e)))

  counted : (h : List Arrival) (p : List Answered)
      → copies link x n (answers (rule_of_frames rows words) p h)
      ≤ deliveries link (other x) n (answers (rule_of_frames rows words) p h) + waits (unmet (other x) n (of_link link p))
  unfolding answers
  counted [] p = rw (only_none (λ (a : Answered). on_link link a.frame && (numbered x n a.frame && is_copy a.says))) (omega arith)
  counted (f ∷ fs) p =
      let a : Answered = answered_of f (rule_answer rows words p f) in
      let after : List Answered = answers (rule_of_frames rows words) (a ∷ p) fs in
      let ih = counted fs (a ∷ p) in
      let t = turn link x n f p a.says (due_one p f) in
      let c = count_more (λ (b : Answered). on_link link b.frame && (numbered x n b.frame && is_copy b.says)) a after in
      let d = count_more (λ (b : Answered). on_link link b.frame && (numbered (other x) n b.frame && is_delivered b.says)) a after in
      omega (arith, ih, t, c, d)

pub one_copy_each : OneCopyEach
one_copy_each rows r z h o link x n =
    let c = counted link x n rows (length r) h [] in
    let w : waits (unmet (other x) n (of_link link [])) ≡ 0
    = ap (λ (q : List Answered). waits (unmet (other x) n q)) (only_none (received_on link)) ∙ ap waits (unmet_none (other x) n) ∙ waits_none in
    subst (λ (q : List Answered). copies link x n q ≤ deliveries link (other x) n q) (sym (rule_of_receptions rows r z h o)) (omega arith)
