-- Which frames the rule's sums are about, by the answers to these frames, and that their times never fall. Assumes
-- nothing.
use Prim.Native.Nat.{ℕ, zero, suc, ◌≤◌, ◌<◌}
use mathlib.Core.Bool.{Bool, false}
use mathlib.Core.List.{List, [], ◌∷◌, reverse}
use mathlib.Core.Path.{◌≡◌, refl, sym, ap, ◌∙◌, subst}
use native.Mathlib.Nat.{le_trans}
use native.Mathlib.Omega.{arith}
use lib.ListN.{length, get_or}
use lib.Dec.{ltb, eqb}
use borrow.Author.Tests.{ltb-false, ne_eqb, eqb-true, eqb-false}
use Rattle.std.specs.Prelude.{if◌then◌else◌}
use Rattle.lists.specs.History.{left_by}
use Rattle.lists.proofs.History.{collected, left_by_lem}
use Rattle.lists.proofs.Tests.{split}
use Rattle.frame.specs.Frame.{length_code}
use Rattle.frame.proofs.Frame.{by_length}
use Rattle.terms.specs.Terms.{cost}
use Rattle.terms.specs.declared.Terms.{Terms}
use Rattle.account_rule.specs.Bucket.{Reached, reached, last_time, rule_holds}
use Rattle.account_rule.specs.Rule.{StepCall, allowance, rule_arrived, rule_step, rule_of_account}
use Rattle.account_rule.specs.Counted.{reaching, counted_for, NeverFall, steps_reached, StepsReached}
use Rattle.account_rule.proofs.Rule.{step_refused, step_arrived, rule_of_steps}

-- a code that is neither 0 nor 9
pub not_reaching : (c : ℕ) → (c ≡ 0 → ⊥) → (c ≡ 9 → ⊥) → reaching c ≡ false
not_reaching c f g = simp (ne_eqb c 0 f, ne_eqb c 9 g)

-- ---- one frame: added to the past according to its code
module _ (p : Terms) (past : List Reached) (n t : ℕ) where
  abbrev added : ℕ → List Reached
  added code = if reaching code then counted_for p n t code ∷ past else past

  pub arrived_counted : (rule_arrived p past n t).past ≡ added (rule_arrived p past n t).code
  unfolding rule_arrived
  arrived_counted =
      split (ltb t (last_time past))
      (λ e. simp e)
      (λ e. split (rule_holds (allowance p) t (cost p n) past) (λ d. simp (e, d)) (λ d. simp (e, d)))

  step_counted : (rule_step p past n t).past ≡ added (rule_step p past n t).code
  step_counted =
      by_length n
      (λ _ e. refused 1 e (λ q. omega arith) (λ q. omega arith))
      (λ _ _ e. refused 2 e (λ q. omega arith) (λ q. omega arith))
      (λ _ _ e. rw (step_arrived p past n t e) arrived_counted)
    where
      refused : (c : ℕ) → length_code n ≡ c → (c ≡ 0 → ⊥) → (c ≡ 9 → ⊥) → (rule_step p past n t).past ≡ added (rule_step p past n t).code
      refused c e f g =
          rw (step_refused p past n t (λ z. f (sym e ∙ z)), e)
          (sym (ap (λ (b : Bool). if b then counted_for p n t c ∷ past else past) (not_reaching c f g)))

-- ---- times never fall
-- the first frame of a past is the last in time
last_is : (past : List Reached) → 0 < length past → (get_or past 0 (reached 0 0)).at ≡ last_time past
unfolding last_time
last_is [] h = absurd (omega arith)
last_is (r ∷ past) h = refl

none_falls : NeverFall []
none_falls i j h l = absurd (omega arith)

one_more : (r : Reached) (past : List Reached) → last_time past ≤ r.at → NeverFall past → NeverFall (r ∷ past)
one_more r past h k zero zero l m = omega arith
one_more r past h k zero (suc j) l m =
    let b : j < length past = omega arith in
    le_trans (k 0 j (omega arith) b) (rw (last_is past (omega arith)) h)
one_more r past h k (suc i) zero l m = absurd (omega arith)
one_more r past h k (suc i) (suc j) l m = k i j (omega arith) (omega arith)

arrived_rises : (p : Terms) (past : List Reached) (n t : ℕ) → NeverFall past → NeverFall (rule_arrived p past n t).past
unfolding rule_arrived
arrived_rises p past n t k =
    split (ltb t (last_time past))
    (λ e. simp e k)
    (λ e.
    let h : last_time past ≤ t = ltb-false _ _ e in
    split (rule_holds (allowance p) t (cost p n) past)
    (λ d. simp (e, d) (one_more (reached t (cost p n)) past h k))
    (λ d. simp (e, d) (one_more (reached t 0) past h k)))

pub step_rises : (p : Terms) (past : List Reached) (n t : ℕ) → NeverFall past → NeverFall (rule_step p past n t).past
step_rises p past n t k =
    split (eqb (length_code n) 0)
    (λ e. rw (step_arrived p past n t (eqb-true _ _ e)) (arrived_rises p past n t k))
    (λ e. rw (step_refused p past n t (eqb-false _ _ e)) k)

-- times never fall in a past of steps
pub past_rises : (p : Terms) (steps : List StepCall) → NeverFall (left_by (rule_of_account p) [] steps)
unfolding left_by
past_rises p [] = none_falls
past_rises p (f ∷ steps) = step_rises p (left_by (rule_of_account p) [] steps) f.octets f.time (past_rises p steps)

pub steps_reached_lem : StepsReached
steps_reached_lem p ok steps = (
  collected (rule_of_account p) (λ z. z) (λ x. reaching x.1) (λ x. counted_for p x.0.octets x.0.time x.1)
      (λ past f. step_counted p past f.octets f.time) steps []
      ∙ ap (steps_reached p steps) (sym (rule_of_steps p ok steps)),
  subst NeverFall (left_by_lem (rule_of_account p) steps []) (past_rises p (reverse steps)),
)
