-- The numbers of the answers, and the rule case by case. Assumes nothing.
use Prim.Native.Nat.{ℕ, ◌-◌, ◌≤◌}
use mathlib.Core.Bool.{true, ◌&&◌, false≢true}
use mathlib.Core.List.{[], ◌∷◌, Memᴰ}
use mathlib.Core.Logic.{◌↔◌}
use Rattle.std.specs.Prelude.{Option, Some, None, if◌then◌else◌}
use mathlib.Core.Path.{◌≡◌, refl, sym, ap, ap₂, ◌∙◌}
use native.Mathlib.Omega.{arith}
use lib.Dec.{eqb, leb}
use borrow.Author.Tests.{leb-true, le-leb}
use Rattle.lists.proofs.Tests.{both}
use Rattle.receive_sequence.specs.Sequence.{passes}
use Rattle.receive_answer.specs.Answer.{reception_code, in_skew, reception_by}
use Rattle.receive_answer.specs.Claims.{AnswersApart, ReceptionNumbers, AwaitsCopy, AnsweredBy, AnswersExactly, LaterCountsAsNone, AnswersInFigures}
use Rattle.receive_answer.specs.declared.Reception.{Reception}
use Rattle.receive_answer.specs.declared.Reception.TheVariants.{Delivered, Copy, OutOfSequence, UnknownLink, Late}
use Rattle.receive_answer.proofs.Answer.{by_reception}

pub reception_numbers : ReceptionNumbers
reception_numbers = refl

-- the answer with a number
heard : ℕ → Reception
heard n =
    if eqb n 0 then Delivered
    else if eqb n 4 then UnknownLink
    else if eqb n 8 then Late
    else if eqb n 30 then Copy
    else OutOfSequence

heard_reported : (a : Reception) → heard (reception_code a) ≡ a
unfolding heard
heard_reported Delivered = refl
heard_reported Copy = refl
heard_reported OutOfSequence = refl
heard_reported UnknownLink = refl
heard_reported Late = refl

pub answers_apart : AnswersApart
answers_apart a b e = sym (heard_reported a) ∙ ap heard e ∙ heard_reported b

-- the numbers that an answer can have
pub possible : (a : Reception) → Memᴰ (reception_code a) (0 ∷ 30 ∷ 31 ∷ 4 ∷ 8 ∷ [])
possible Delivered = Memᴰ.head refl
possible Copy = Memᴰ.tail (Memᴰ.head refl)
possible OutOfSequence = Memᴰ.tail (Memᴰ.tail (Memᴰ.head refl))
possible UnknownLink = Memᴰ.tail (Memᴰ.tail (Memᴰ.tail (Memᴰ.head refl)))
possible Late = Memᴰ.tail (Memᴰ.tail (Memᴰ.tail (Memᴰ.tail (Memᴰ.head refl))))

-- ---- the rule
pub answers_in_figures : AnswersInFigures
unfolding reception_by in_skew passes
answers_in_figures = refl

-- a delivery awaits the frame exactly where the test says so
pub awaits_copy : (skew : ℕ) (o : Option ℕ) (t : ℕ) → in_skew skew o t ≡ true → AwaitsCopy skew o t
unfolding in_skew
awaits_copy skew None t e = absurd (false≢true e)
awaits_copy skew (Some d) t e =
    let b = both (leb d t) (leb (t - d) skew) e in
    record { time = d; awaits = refl; not_after = leb-true _ _ b.0; in_skew_lem = leb-true _ _ b.1 }

pub in_skew_at : (skew d t : ℕ) → d ≤ t → t - d ≤ skew → in_skew skew (Some d) t ≡ true
unfolding in_skew
in_skew_at skew d t h l = ap₂ ◌&&◌ (le-leb _ _ h) (le-leb _ _ l)

pub copy_awaited : (skew : ℕ) (o : Option ℕ) (t : ℕ) → AwaitsCopy skew o t → in_skew skew o t ≡ true
copy_awaited skew o t w = ap (λ (x : Option ℕ). in_skew skew x t) w.awaits ∙ in_skew_at skew w.time t w.not_after w.in_skew_lem

both_hold : {A B : Type 0} → A → B → A ↔ B
both_hold a b = (λ _. b, λ _. a)

neither_holds : {A B : Type 0} → (A → ⊥) → (B → ⊥) → A ↔ B
neither_holds f g = (λ a. absurd (f a), λ b. absurd (g b))

pub answers_exactly : AnswersExactly
answers_exactly skew last number delivery n t =
    by_reception skew last number delivery n t (AnsweredBy skew last number delivery n t)
    (λ h.
    record {
      late = both_hold refl h;
      out = neither_holds (λ e. cc) (λ q. let l : last ≤ t = q.0 in omega arith);
      copy = neither_holds (λ e. cc) (λ q. let l : last ≤ t = q.0 in omega arith);
      delivered = neither_holds (λ e. cc) (λ q. let l : last ≤ t = q.0 in omega arith);
    })
    (λ h p.
    record {
      late = neither_holds (λ e. cc) (λ l. omega arith);
      out = both_hold refl (h, p);
      copy = neither_holds (λ e. cc) (λ q. false≢true (sym p ∙ q.1));
      delivered = neither_holds (λ e. cc) (λ q. false≢true (sym p ∙ q.1));
    })
    (λ h p s.
    record {
      late = neither_holds (λ e. cc) (λ l. omega arith);
      out = neither_holds (λ e. cc) (λ q. false≢true (sym q.1 ∙ p));
      copy = both_hold refl (h, p, awaits_copy skew delivery t s);
      delivered = neither_holds (λ e. cc) (λ q. q.2 (awaits_copy skew delivery t s));
    })
    (λ h p s.
    record {
      late = neither_holds (λ e. cc) (λ l. omega arith);
      out = neither_holds (λ e. cc) (λ q. false≢true (sym q.1 ∙ p));
      copy = neither_holds (λ e. cc) (λ q. false≢true (sym s ∙ copy_awaited skew delivery t q.2));
      delivered = both_hold refl (h, p, λ w. false≢true (sym s ∙ copy_awaited skew delivery t w));
    })

pub later_counts_as_none : LaterCountsAsNone
later_counts_as_none skew last number d n t h p l =
    (answers_exactly skew last number (Some d) n t).delivered.1
    (h, p, λ w. let e : d ≡ w.time = cc in let q : w.time ≤ t = w.not_after in omega arith)
