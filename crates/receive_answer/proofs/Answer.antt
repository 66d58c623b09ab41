-- Laws of what is answered, case by case. Assumes nothing.
use Prim.Native.Nat.{ℕ, ◌-◌, ◌≤◌, ◌<◌}
use mathlib.Core.Bool.{Bool, true, false}
use Rattle.std.specs.Prelude.{Option, Some, None}
use mathlib.Core.Path.{◌≡◌, refl, sym, ap, ◌∙◌}
use lib.Dec.{leb, ltb}
use borrow.Author.Tests.{lt-ltb, le-ltb, le-leb, ltb-true, ltb-false, eq-eqb, ne_eqb}
use Rattle.lists.proofs.Tests.{split}
use Rattle.receive_sequence.specs.Sequence.{passes}
use Rattle.receive_answer.specs.Answer.{delivery_of, in_skew, reception_by}
use Rattle.receive_answer.specs.declared.Reception.{Reception}
use Rattle.receive_answer.specs.declared.Reception.TheVariants.{Delivered, Copy, OutOfSequence, Late}

-- ---- a delivery, from its two words
pub delivery_none : (w d : ℕ) → w ≡ 0 → delivery_of w d ≡ None
unfolding delivery_of
delivery_none w d e = simp (eq-eqb _ _ e)

pub delivery_some : (w d : ℕ) → (w ≡ 0 → ⊥) → delivery_of w d ≡ Some d
unfolding delivery_of
delivery_some w d h = simp (ne_eqb _ _ h)

-- ---- the answer
module _ (skew time : ℕ) (number delivery : Option ℕ) (n t : ℕ) where
  pub reception_late : t < time → Late ≡ reception_by skew time number delivery n t
  unfolding reception_by
  reception_late h = simp (lt-ltb _ _ h)

  pub reception_out : time ≤ t → passes number n ≡ false → OutOfSequence ≡ reception_by skew time number delivery n t
  unfolding reception_by
  reception_out h q = simp (le-ltb _ _ h, q)

-- case analysis of the answer
pub by_reception : (skew time : ℕ) (number delivery : Option ℕ) (n t : ℕ) (P : Reception → Type 0)
    → (t < time → P Late)
    → (time ≤ t → passes number n ≡ false → P OutOfSequence)
    → (time ≤ t → passes number n ≡ true → in_skew skew delivery t ≡ true → P Copy)
    → (time ≤ t → passes number n ≡ true → in_skew skew delivery t ≡ false → P Delivered)
    → P (reception_by skew time number delivery n t)
unfolding reception_by
by_reception skew time number delivery n t P late out copy new =
    split (ltb t time)
    (λ e. simp e (late (ltb-true _ _ e)))
    (λ e.
    let h : time ≤ t = ltb-false _ _ e in
    split (passes number n)
    (λ p.
    split (in_skew skew delivery t)
    (λ q. simp (e, p, q) (copy h p q))
    (λ q. simp (e, p, q) (new h p q)))
    (λ p. simp (e, p) (out h p)))
