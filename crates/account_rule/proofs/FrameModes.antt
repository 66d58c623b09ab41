-- In frame mode both sides of the rule are multiples of the rate. So the rate plays no part in the codes: they are
-- those of an account whose rate is 1, and line octets change no code. Assumes nothing.
use Prim.Native.Nat.{ℕ, ◌+◌, ◌-◌, ◌*◌, ◌≤◌}
use mathlib.Core.Bool.{true, false, ◌&&◌}
use mathlib.Core.Path.{◌≡◌, refl, sym, ap, ap₂, ◌∙◌}
use mathlib.Core.List.{List, [], ◌∷◌, map}
use native.Mathlib.Nat.{mul-add, mul-zero, one-mul, mul-le-mul_left, le_of_mul-le-mul_left}
use lib.Dec.{ltb, leb, eqb, lit≤}
use Rattle.lists.proofs.Tests.{split, leb_same}
use Rattle.lists.proofs.History.{Simulates, same_answers}
use Rattle.frame.specs.Frame.{length_code}
use Rattle.terms.specs.Terms.{terms_with, frame_mode, line_frame_mode, terms_good, bag, added, charge, rate, by_octets, charged, cost}
use Rattle.terms.specs.declared.Terms.{Terms}
use Rattle.account.specs.Account.{loaded}
use Rattle.terms.proofs.Limits.{Limits, limits, are_good_by, rate_low}
use Rattle.account_rule.specs.Bucket.{Reached, reached, last_time, holds_from, rule_holds}
use Rattle.account_rule.specs.Rule.{StepCall, step_reports, step_codes, allowance, Ruled, ruled, rule_arrived, rule_step, rule_of_account, step_rule_codes, FrameModesAlike}
use Rattle.account_rule.proofs.Rule.{rule_of_steps}

-- ---- every cost times f
module _ (f : ℕ) (pos : 1 ≤ f) where
  grown : List Reached → List Reached
  grown = map (λ r. reached r.at (f * r.forwarded))

  leb_grown : (x y : ℕ) → leb (f * x) (f * y) ≡ leb x y
  leb_grown x y = leb_same (f * x) (f * y) x y (λ h. le_of_mul-le-mul_left h pos) (mul-le-mul_left f)

  grown_past : (t x : ℕ) (z : List Reached) → grown (reached t x ∷ z) ≡ reached t (f * x) ∷ grown z
  unfolding grown
  grown_past t x z = refl

  last_grown : (z : List Reached) → last_time (grown z) ≡ last_time z
  unfolding grown last_time
  last_grown [] = refl
  last_grown (r ∷ z) = refl

  -- the rule with every cost times f is the same rule, where the allowance is f times as much too
  module _ (allow w : ℕ → ℕ) (e : (d : ℕ) → allow d ≡ f * w d) (t : ℕ) where
    from_grown : (z : List Reached) (spent : ℕ) → holds_from allow t (f * spent) (grown z) ≡ holds_from w t spent z
    unfolding grown holds_from
    from_grown [] spent = refl
    from_grown (r ∷ z) spent =
        rw (← mul-add f spent r.forwarded, e (t - r.at))
        (ap₂ ◌&&◌ (leb_grown (spent + r.forwarded) (w (t - r.at))) (from_grown z (spent + r.forwarded)))

    holds_grown : (x : ℕ) (z : List Reached) → rule_holds allow t (f * x) (grown z) ≡ rule_holds w t x z
    unfolding rule_holds
    holds_grown x z = rw (e 0) (ap₂ ◌&&◌ (leb_grown x (w 0)) (from_grown z x))

-- ---- an account in frame mode, and the same account with rate 1
module _ (p : Terms) (frames : by_octets p.mode ≡ false) (pos : 1 ≤ rate p) where
  abbrev unit : Terms
  unit = terms_with 1 p.k p.jitter frame_mode

  cost_grown : (n : ℕ) → cost p n ≡ rate p * cost unit n
  unfolding added charge rate by_octets charged cost
  cost_grown n = simp (frames, one-mul (bag p.k))

  allowance_grown : (d : ℕ) → allowance p d ≡ rate p * allowance unit d
  unfolding added charge rate allowance
  allowance_grown d = simp (one-mul (bag p.k + p.jitter + d))

  grown_ruled : Ruled → Ruled
  grown_ruled r = ruled r.code (grown (rate p) pos r.past)

  arrived_grown : (z : List Reached) (n t : ℕ) → rule_arrived p (grown (rate p) pos z) n t ≡ grown_ruled (rule_arrived unit z n t)
  unfolding rule_arrived grown_ruled
  arrived_grown z n t =
      let c = cost_grown n in
      let l = last_grown (rate p) pos z in
      let holds = holds_grown (rate p) pos (allowance p) (allowance unit) allowance_grown t (cost unit n) z in
      split (ltb t (last_time z))
      (λ e. simp (l, e))
      (λ e.
      split (rule_holds (allowance unit) t (cost unit n) z)
      (λ h. simp (l, e, c, holds, h, grown_past (rate p) pos t (cost unit n) z))
      (λ h. simp (l, e, c, holds, h, grown_past (rate p) pos t 0 z, mul-zero (rate p))))

  step_grown : (z : List Reached) (n t : ℕ) → rule_step p (grown (rate p) pos z) n t ≡ grown_ruled (rule_step unit z n t)
  unfolding rule_step grown_ruled
  step_grown z n t =
      split (eqb (length_code n) 0)
      (λ e. simp (e, arrived_grown z n t))
      (λ e. simp e)

  each_grown : (steps : List StepCall)
      → Simulates (rule_of_account p) (rule_of_account unit) (λ c. c) (λ z y. y ≡ grown (rate p) pos z) steps
  unfolding grown_ruled
  each_grown steps =
      record {
        each = λ s _ z y r.
            let e = ap (λ (w : List Reached). rule_step p w s.octets s.time) r ∙ step_grown z s.octets s.time in
            (ap (λ (q : Ruled). q.code) e, ap (λ (q : Ruled). q.past) e);
      }

  -- the codes of steps from loading on
  codes_reported : terms_good p ≡ true → (steps : List StepCall) → step_codes (step_reports (loaded p) steps) ≡ step_rule_codes unit [] steps
  unfolding grown
  codes_reported ok steps = rule_of_steps p ok steps ∙ same_answers steps (each_grown steps) [] [] refl

-- modes that charge Smax, the other values being the same
module _ (s k j : ℕ) (ok : terms_good (terms_with s k j frame_mode) ≡ true) where
  codes_in : (m : ℕ) → by_octets m ≡ false → m ≤ line_frame_mode → (steps : List StepCall)
      → step_codes (step_reports (loaded (terms_with s k j m)) steps) ≡ step_rule_codes (terms_with 1 k j frame_mode) [] steps
  codes_in m frames high steps =
      let l = limits (terms_with s k j frame_mode) ok in
      let lm : Limits (terms_with s k j m) = record { smax_low = l.smax_low; smax_high = l.smax_high; k_high = l.k_high; jitter_high = l.jitter_high; mode_high = high } in
      codes_reported (terms_with s k j m) frames (rate_low (terms_with s k j m) lm) (are_good_by (terms_with s k j m) lm) steps

pub frame_modes_alike : FrameModesAlike
unfolding by_octets
frame_modes_alike s k j ok steps = codes_in s k j ok _ refl (lit≤ tt) steps ∙ sym (codes_in s k j ok _ refl (lit≤ tt) steps)
