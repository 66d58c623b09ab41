-- Laws of the frame call, case by case as the code goes through the call. Assumes nothing.
use Prim.Native.Nat.{ℕ, ◌≤◌}
use mathlib.Core.Bool.{true, false, ◌&&◌}
use mathlib.Core.List.{List}
use mathlib.Core.Path.{◌≡◌, refl, sym, ap, ◌∙◌}
use lib.ListN.{length, set}
use lib.Seq.{set-get_or}
use lib.Dec.{eqb}
use borrow.Author.Tests.{eq-eqb, ne_eqb, eqb-true, eqb-false}
use Rattle.codes.specs.Refused.{number_of}
use Rattle.codes.specs.declared.Refusal.{Refusal}
use Rattle.lists.proofs.Tests.{split}
use Rattle.frame.specs.Frame.{length_code, link_number}
use Rattle.terms.specs.Terms.{checked_cost}
use Rattle.account.specs.Account.{terms_of, holding, account_sound, sound_capacity}
use Rattle.account.specs.Step.{Stepped, stepped, step_reported, judged_at, policed}
use Rattle.account.specs.declared.Outcome.{Outcome}
use Rattle.account.specs.declared.Account.{Account}
use Rattle.account.proofs.Methods.{none_unsound, none_number, some_sound, some_capacity}
use Rattle.account.proofs.Step.{numbered_above, police_judged}
use Rattle.tables.specs.Rows.{Config, found}
use Rattle.tables_rules.specs.Rules.{link_sound}
use Rattle.rows.specs.Rows.{Found}
use Rattle.tables.specs.declared.Link.{Link}
use Rattle.tables_rules.proofs.Rules.{account_past}
use Rattle.std.specs.Prelude.{Ok, Err}
use Rattle.switch_verdict.specs.Verdict.{Report, with_mask}
use Rattle.filter.specs.Filter.{frame_code, port_code, Route, route_to, routed}
use Rattle.switch.specs.Call.{State, state_of, Call, After, after_of, accounts_in_use, account_held, Decided, kept, step_on, decided, stored, refused_with, by_link, settled, called}
use Rattle.filter.proofs.Filter.{frame_zero, route_stopped, route_row}

-- storing again what an account holds changes nothing
pub held_again : (accounts : List ℕ) (s : State) (i : ℕ)
    → state_of (set s.credits i (account_held accounts s i).credit) (set s.lasts i (account_held accounts s i).last) ≡ s
unfolding account_held
held_again accounts s i = λ k. state_of (set-get_or s.credits i 0 k) (set-get_or s.lasts i 0 k)

-- ---- what is decided
module _ (l : Link) (used : ℕ) (a : Account) (n port t : ℕ) (e : true ≡ link_sound l used a.terms.smax) where
  pub decided_account : (x : Refusal) → Err x ≡ sound_capacity a → kept (number_of x) a ≡ decided l used a n port t
  unfolding decided
  decided_account x f = simp (← e, none_unsound a x f, none_number a x f)

  module _ (c : ℕ) (f : Ok c ≡ sound_capacity a) where
    pub decided_port : (x : Refusal) → number_of x ≡ port_code l n port → kept (number_of x) a ≡ decided l used a n port t
    unfolding decided
    decided_port x p = simp (← e, some_sound a c f, p, ne_eqb (port_code l n port) 0 (rw p at (numbered_above x)))

    -- the decision with the cost y in hand
    pub decided_step : 0 ≡ port_code l n port → length_code n ≡ 0 → (y : ℕ) → y ≡ checked_cost (terms_of a) n → (s : Stepped) → s ≡ judged_at a c y t
        → step_on l s ≡ decided l used a n port t
    unfolding decided
    decided_step p k y g s u =
        let v = some_sound a c f in
        let q : s ≡ policed a n t = u ∙ police_judged a n t k v c y (some_capacity a c f) g in
        simp (q, ← e, v, eq-eqb (port_code l n port) 0 (sym p))

-- the decision for an unsound link or an unsound account
pub decided_unsound : (l : Link) (used : ℕ) (a : Account) (n port t : ℕ) → (link_sound l used a.terms.smax && account_sound a) ≡ false → decided l used a n port t ≡ kept 10 a
unfolding decided
decided_unsound l used a n port t e = simp e

-- the decision for a sound link and a sound account
module _ (l : Link) (used : ℕ) (a : Account) (n port t : ℕ) (e : link_sound l used a.terms.smax ≡ true) (v : account_sound a ≡ true) where
  pub decided_refused : (port_code l n port ≡ 0 → ⊥) → decided l used a n port t ≡ kept (port_code l n port) a
  unfolding decided
  decided_refused h = simp (e, v, ne_eqb _ _ h)

  pub decided_policed : port_code l n port ≡ 0 → decided l used a n port t ≡ step_on l (policed a n t)
  unfolding decided
  decided_policed h = simp (e, v, eq-eqb _ _ h)

-- ---- the call, by the code of the frame alone and the row found
abbrev pub on_row : Config → State → Call → Found → After
on_row g s f d = settled g s f (route_to g.links d)

module _ (g : Config) (s : State) (f : Call) where
  pub call_refused : (frame_code g.constant f.octets ≡ 0 → ⊥) → called g s f ≡ refused_with (frame_code g.constant f.octets) s
  unfolding called
  call_refused h = ap (settled g s f) (sym (route_stopped f.octets g.constant g.links g.count_of_links _ refl h))

  pub call_row : frame_code g.constant f.octets ≡ 0 → called g s f ≡ on_row g s f (found g.links g.count_of_links (link_number f.octets))
  unfolding called
  call_row z = ap (settled g s f) (sym (route_row f.octets g.constant g.links g.count_of_links _ refl z _ refl _ refl))

-- a frame that has a link is of a frame's size
pub link_sized : (f : List ℕ) (constant : ℕ) (links : List ℕ) (count : ℕ) (l : Link) → Ok l ≡ routed f constant links count → length_code (length f) ≡ 0
link_sized f constant links count l q =
    split (eqb (frame_code constant f) 0)
    (λ z. frame_zero constant f (eqb-true _ _ z))
    (λ z.
    let k : Err (frame_code constant f) ≡ Ok l = route_stopped f constant links count _ refl (eqb-false _ _ z) ∙ sym q in
    absurd (cc k))

-- ---- the call, by its route
module _ (g : Config) (s : State) (f : Call) where
  pub call_stopped : (n : ℕ) → Err n ≡ routed f.octets g.constant g.links g.count_of_links → refused_with n s ≡ called g s f
  unfolding called
  call_stopped n q = ap (settled g s f) q

  module _ (l : Link) (q : Ok l ≡ routed f.octets g.constant g.links g.count_of_links) (used : ℕ) (e : used ≡ accounts_in_use g s) where
    call_linked : by_link g s f l ≡ called g s f
    unfolding called
    call_linked = ap (settled g s f) q

    module _ (a : Account) (p : a ≡ account_held g.accounts s l.account) where
      call_decided : (d : Decided) → d ≡ decided l used a (length f.octets) f.port f.time → stored s l.account d ≡ called g s f
      call_decided d w = ap (stored s l.account) (w ∙ (λ k. decided l (e k) (p k) (length f.octets) f.port f.time)) ∙ call_linked

      -- a refusal stores again what the account holds
      pub call_kept : (n : ℕ) → kept n a ≡ decided l used a (length f.octets) f.port f.time → refused_with n s ≡ called g s f
      call_kept n w = ap (refused_with n) (sym (held_again g.accounts s l.account)) ∙ ap (λ (b : Account). stored s l.account (kept n b)) (sym p) ∙ call_decided (kept n a) w

      -- a ruling is stored; the report w has the link's mask
      pub call_ruled : (o : Outcome) (c t : ℕ) → step_on l (stepped o (holding a c t)) ≡ decided l used a (length f.octets) f.port f.time
          → (w : Report) → w ≡ with_mask l.mask (step_reported o)
          → after_of w (state_of (set s.credits l.account c) (set s.lasts l.account t)) ≡ called g s f
      call_ruled o c t d w v = rw v (call_decided _ d)

    pub call_unused : used ≤ l.account → refused_with 10 s ≡ called g s f
    unfolding decided
    call_unused h =
        let a : Account = account_held g.accounts s l.account in
        call_kept a refl 10 (simp (sym (account_past l used a.terms.smax h)))

-- ---- the decision on a link, stored; r is the call's route
module _ (g : Config) (s : State) (f : Call) (r : Route) (q : r ≡ routed f.octets g.constant g.links g.count_of_links) where
  module _ (l : Link) (h : r ≡ Ok l) (used : ℕ) (e : used ≡ accounts_in_use g s) where
    pub call_stored : (a : Account) (d : Decided) → a ≡ account_held g.accounts s l.account
        → d ≡ decided l used a (length f.octets) f.port f.time → stored s l.account d ≡ called g s f
    call_stored a d p w = call_decided g s f l (sym h ∙ q) used e a p d w
