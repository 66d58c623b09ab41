-- What holds of the frame call for any tables, case by case. Assumes nothing.
use Prim.Native.Nat.{ℕ, ◌-◌, ◌≤◌, ◌<◌}
use mathlib.Core.Bool.{Bool, true, false, not, ◌&&◌, false≢true}
use mathlib.Core.List.{List, [], ◌∷◌}
use mathlib.Core.Logic.{◌⊎◌, inl, inr}
use mathlib.Core.Option.{none}
use mathlib.Core.Path.{◌≡◌, refl, sym, ap, ◌∙◌, subst}
use native.Mathlib.Nat.{le_trans}
use native.Mathlib.Omega.{arith}
use lib.ListN.{length}
use lib.Dec.{ltb, eqb}
use borrow.Author.Tests.{lt-ltb, le-ltb, ltb-true, ltb-false, eqb-true, eqb-false}
use Rattle.lists.specs.Lines.{Line, line, first_fit}
use Rattle.lists.proofs.Lines.{takes, skips, none_left}
use Rattle.lists.proofs.Tests.{split, both, neither}
use Rattle.frame.specs.Frame.{length_code, constant_field, link_number}
use Rattle.frame.proofs.Frame.{by_length}
use Rattle.terms.specs.Terms.{capacity, cost}
use Rattle.account.specs.Account.{terms_of, holding, account_sound, credit_at}
use Rattle.account.specs.Step.{stepped, policed}
use Rattle.account.specs.declared.Account.{Account}
use Rattle.account.specs.declared.Outcome.TheVariants as outcome
use Rattle.account.proofs.Step.{by_step}
use Rattle.account.proofs.Claims.{step_below_capacity}
use Rattle.rows.specs.Rows.{found_in}
use Rattle.tables.specs.Rows.{Config, link_table, link_in, links_in_use, found}
use Rattle.tables_rules.specs.Rules.{port_count, link_sound}
use Rattle.rows.specs.Rows.{Found}
use Rattle.std.specs.Prelude.{Some, None}
use Rattle.tables.specs.declared.Link.{Link}
use Rattle.rows.proofs.Finding.{first_found}
use Rattle.tables.proofs.Claims.{links_same}
use Rattle.tables_rules.proofs.Rules.{account_past, sound_account, sound_port, sound_sizes}
use Rattle.switch_verdict.specs.Verdict.{Report, report}
use Rattle.filter.specs.Filter.{frame_code, port_code}
use Rattle.switch.specs.Call.{State, Call, After, in_use_by, accounts_in_use, account_held, Decided, kept, step_on, decided, stored, refused_with, by_link, called}
use Rattle.switch.specs.Claims.{CallAnswers, RefusedCallKeeps, LengthAlone, InUseExactly, AtTheCount, PortsBeyond, CallParts, SameInUse, RowsBeyondUnread}
use Rattle.switch.specs.Effects.{Effects, RowEffects, CallEffects, StoredBelowCapacity}
use Rattle.switch.specs.Table.{link_lines, row_lines, code_table, CodesInOrder}
use Rattle.filter.proofs.Filter.{frame_length, frame_constant, frame_passes, frame_code_high, frame_zero, port_other, port_small, port_large, port_passes, port_code_high, passed_largest}
use Rattle.switch.proofs.Call.{held_again, decided_unsound, decided_refused, decided_policed, on_row, call_refused, call_row}

-- ---- case analysis of the decision for a link and its account, for a frame of a frame's size
module _ (l : Link) (used : ℕ) (a : Account) (n port t : ℕ) (z : length_code n ≡ 0) where
  refused_port : (link_sound l used a.terms.smax && account_sound a) ≡ true → (port_code l n port ≡ 0 → ⊥) → decided l used a n port t ≡ kept (port_code l n port) a
  refused_port e h =
      let b = both (link_sound l used a.terms.smax) (account_sound a) e in decided_refused l used a n port t b.0 b.1 h

  on_step : (link_sound l used a.terms.smax && account_sound a) ≡ true → port_code l n port ≡ 0 → decided l used a n port t ≡ step_on l (policed a n t)
  on_step e h = let b = both (link_sound l used a.terms.smax) (account_sound a) e in decided_policed l used a n port t b.0 b.1 h

  pub by_decided : (P : Decided → Type 0)
      → ((link_sound l used a.terms.smax && account_sound a) ≡ false → P (kept 10 a))
      → ((link_sound l used a.terms.smax && account_sound a) ≡ true → (port_code l n port ≡ 0 → ⊥) → P (kept (port_code l n port) a))
      → ((link_sound l used a.terms.smax && account_sound a) ≡ true → port_code l n port ≡ 0 → t < a.last → P (step_on l (stepped (outcome.Late a.credit) a)))
      → ((link_sound l used a.terms.smax && account_sound a) ≡ true → port_code l n port ≡ 0 → a.last ≤ t → credit_at a t < cost (terms_of a) n
      → P (step_on l (stepped (outcome.Short (credit_at a t)) (holding a (credit_at a t) t))))
      → ((link_sound l used a.terms.smax && account_sound a) ≡ true → port_code l n port ≡ 0 → a.last ≤ t → cost (terms_of a) n ≤ credit_at a t
      → P (step_on l (stepped (outcome.Forwarded (credit_at a t - cost (terms_of a) n)) (holding a (credit_at a t - cost (terms_of a) n) t))))
      → P (decided l used a n port t)
  by_decided P f g h i j =
      split (link_sound l used a.terms.smax && account_sound a)
      (λ e.
      split (eqb (port_code l n port) 0)
      (λ m.
      let k = eqb-true _ _ m in
      subst P (sym (on_step e k))
      (by_step a n t (λ q. P (step_on l q))
      (λ d. absurd (d z))
      (λ _ v. absurd (and_not (link_sound l used a.terms.smax) (account_sound a) e v))
      (λ _ _. h e k)
      (λ _ _. i e k)
      (λ _ _. j e k)))
      (λ m. let k = eqb-false _ _ m in subst P (sym (refused_port e k)) (g e k)))
      (λ e. subst P (sym (decided_unsound l used a n port t e)) (f e))
    where
      and_not : (x y : Bool) → (x && y) ≡ true → y ≡ false → ⊥
      and_not x y e v = false≢true (sym v ∙ (both x y e).1)

-- ---- case analysis of the call
module _ (g : Config) (s : State) (f : Call) where
  abbrev n : ℕ
  n = length f.octets

  abbrev frame_code_lem : ℕ
  frame_code_lem = frame_code g.constant f.octets

  abbrev row : Found
  row = found g.links g.count_of_links (link_number f.octets)

  by_call : (P : Found → After → Type 0)
      → ((frame_code_lem ≡ 0 → ⊥) → P row (refused_with frame_code_lem s))
      → (frame_code_lem ≡ 0 → P None (refused_with 4 s))
      → (frame_code_lem ≡ 0 → (j : ℕ) → P (Some j) (by_link g s f (link_in (link_table g.links) j)))
      → P row (called g s f)
  by_call P stopped unknown over =
      split (eqb frame_code_lem 0)
      (λ e. let z = eqb-true _ _ e in subst (P row) (sym (call_row g s f z)) (at_row z row))
      (λ e. let z = eqb-false _ _ e in subst (P row) (sym (call_refused g s f z)) (stopped z))
    where
      at_row : frame_code_lem ≡ 0 → (d : Found) → P d (on_row g s f d)
      at_row z None = unknown z
      at_row z (Some j) = over z j

pub call_answers_lem : CallAnswers
call_answers_lem g s f =
    by_call g s f (λ _ r. r.says.code ≤ 10)
    (λ _. let k = frame_code_high g.constant f.octets in omega arith)
    (λ _. omega arith)
    (λ z j.
    let l : Link = link_in (link_table g.links) j in
    let a : Account = account_held g.accounts s l.account in
    by_decided l (accounts_in_use g s) a (length f.octets) f.port f.time (frame_zero g.constant f.octets z) (λ d. d.says.code ≤ 10)
    (λ _. omega arith)
    (λ _ _. let k = port_code_high l (length f.octets) f.port in omega arith)
    (λ _ _ _. omega arith)
    (λ _ _ _ _. omega arith)
    (λ _ _ _ _. omega arith))

pub length_alone : LengthAlone
length_alone g s f h =
    let e : length_code (length f.octets) ≡ frame_code g.constant f.octets = frame_length g.constant f.octets (length_code (length f.octets)) refl h in
    call_refused g s f (λ z. h (e ∙ z)) ∙ ap (λ (c : ℕ). refused_with c s) (sym e)

-- ---- the table of codes
-- the lines of the port and the sizes, with other lines after them
module _ (l : Link) (n port : ℕ) (rest : List Line) where
  abbrev port_lines : List Line
  port_lines = line 5 (not (eqb port l.port)) ∷ line 6 (ltb n l.smallest) ∷ line 7 (ltb l.largest n) ∷ rest

  port_fits : (port_code l n port ≡ 0 → ⊥) → port_code l n port ≡ first_fit port_lines
  port_fits h =
      split (eqb port l.port)
      (λ e. split (ltb n l.smallest)
      (λ d. sym (port_small l n port (eqb-true _ _ e) (ltb-true _ _ d)) ∙ skips 5 6 _ _ (ap not e) (takes 6 _ _ d))
      (λ d. split (ltb l.largest n)
      (λ c. sym (port_large l n port (eqb-true _ _ e) (ltb-false _ _ d) (ltb-true _ _ c)) ∙ skips 5 7 _ _ (ap not e) (skips 6 7 _ _ d (takes 7 _ _ c)))
      (λ c. absurd (h (sym (port_passes l n port (eqb-true _ _ e) (ltb-false _ _ d) (ltb-false _ _ c)))))))
      (λ e. sym (port_other l n port (eqb-false _ _ e)) ∙ takes 5 _ _ (ap not e))

  port_skips : port_code l n port ≡ 0 → (d : ℕ) → d ≡ first_fit rest → d ≡ first_fit port_lines
  port_skips z d q =
      split (eqb port l.port)
      (λ e. split (ltb n l.smallest)
      (λ b. let k = port_small l n port (eqb-true _ _ e) (ltb-true _ _ b) in absurd (omega arith))
      (λ b. split (ltb l.largest n)
      (λ c. let k = port_large l n port (eqb-true _ _ e) (ltb-false _ _ b) (ltb-true _ _ c) in absurd (omega arith))
      (λ c. skips 5 d _ _ (ap not e) (skips 6 d _ _ b (skips 7 d _ _ c q)))))
      (λ e. let k = port_other l n port (eqb-false _ _ e) in absurd (omega arith))

module _ (g : Config) (s : State) (f : Call) where
  abbrev size : ℕ
  size = length f.octets

  link_table_lem : (l : Link) (a : Account) → length_code size ≡ 0
      → (decided l (accounts_in_use g s) a size f.port f.time).says.code ≡ first_fit (link_lines g s f l a)
  link_table_lem l a z =
      by_decided l (accounts_in_use g s) a size f.port f.time z (λ d. d.says.code ≡ first_fit (link_lines g s f l a))
      (λ e. takes 10 _ _ (ap not e))
      (λ e h. skips 10 _ _ _ (ap not e) (port_fits l size f.port _ h))
      (λ e p h. skips 10 8 _ _ (ap not e) (port_skips l size f.port _ p 8 (takes 8 _ _ (lt-ltb _ _ h))))
      (λ e p h k. skips 10 9 _ _ (ap not e) (port_skips l size f.port _ p 9 (skips 8 9 _ _ (le-ltb _ _ h) (takes 9 _ _ (lt-ltb _ _ k)))))
      (λ e p h k. skips 10 0 _ _ (ap not e) (port_skips l size f.port _ p 0 (skips 8 0 _ _ (le-ltb _ _ h) (skips 9 0 _ _ (le-ltb _ _ k) none_left))))

  row_table : length_code size ≡ 0 → (d : Found) → (on_row g s f d).says.code ≡ first_fit (row_lines g s f d)
  row_table z None = takes 4 true [] refl
  row_table z (Some j) = link_table_lem (link_in (link_table g.links) j) (account_held g.accounts s (link_in (link_table g.links) j).account) z

  abbrev code : After → ℕ
  code r = r.says.code

  in_order_lem : code (called g s f) ≡ first_fit (code_table g s f)
  in_order_lem =
      by_length size
      (λ h e. ap code (length_alone g s f (λ z. omega arith)) ∙ e ∙ takes 1 _ _ (lt-ltb _ _ h))
      (λ h k e. ap code (length_alone g s f (λ z. omega arith)) ∙ e ∙ skips 1 2 _ _ (le-ltb _ _ h) (takes 2 _ _ (lt-ltb _ _ k)))
      (λ h k e.
      split (eqb (constant_field f.octets) g.constant)
      (λ d.
      let z : frame_code g.constant f.octets ≡ 0 = sym (frame_passes g.constant f.octets 0 (sym e) refl _ refl (eqb-true _ _ d)) in
      ap code (call_row g s f z)
      ∙ skips 1 _ _ _ (le-ltb _ _ h) (skips 2 _ _ _ (le-ltb _ _ k) (skips 3 _ _ _ (ap not d) (row_table e (found g.links g.count_of_links (link_number f.octets))))))
      (λ d.
      let z : frame_code g.constant f.octets ≡ 3 = sym (frame_constant g.constant f.octets 0 (sym e) refl _ refl (eqb-false _ _ d)) in
      ap code (call_refused g s f (λ y. omega arith)) ∙ z ∙ skips 1 3 _ _ (le-ltb _ _ h) (skips 2 3 _ _ (le-ltb _ _ k) (takes 3 _ _ (ap not d)))))

pub codes_in_order : CodesInOrder
codes_in_order g s f = in_order_lem g s f

-- ---- accounts in use, from their definition alone
pub in_use_exactly : InUseExactly
unfolding in_use_by
in_use_exactly g s i = (λ h. (omega arith, omega arith, omega arith, omega arith), λ h. omega (arith, h.0, h.1, h.2, h.3))

pub at_the_count : AtTheCount
at_the_count g s f j z q h =
    let l : Link = link_in (link_table g.links) j in
    let a : Account = account_held g.accounts s l.account in
    let n : accounts_in_use g s ≤ l.account =
    split (ltb l.account (accounts_in_use g s))
    (λ e. let b : l.account < g.count_of_accounts = ((in_use_exactly g s l.account).0 (ltb-true _ _ e)).0 in absurd (omega arith))
    (λ e. ltb-false _ _ e) in
    call_row g s f z
    ∙ ap (on_row g s f) q
    ∙ ap (stored s l.account) (decided_unsound l (accounts_in_use g s) a (length f.octets) f.port f.time (ap (λ (b : Bool). b && account_sound a) (sym (account_past l (accounts_in_use g s) a.terms.smax n))))
    ∙ ap (refused_with 10) (held_again g.accounts s l.account)

-- ---- what a call reports and leaves
module _ (used : ℕ) (s : State) (f : Call) (l : Link) (a : Account) where
  -- a refusal reports its code alone and leaves the state unchanged
  refused_effects : (c : ℕ) (r : After) → r.says ≡ report c none none → r.state ≡ s → (c ≡ 0 → ⊥) → (c ≡ 8 → ⊥) → (c ≡ 9 → ⊥) → Effects used s f l a r
  refused_effects c r w e p q u =
      let k : r.says.code ≡ c = ap (λ (x : Report). x.code) w in
      record {
        forwarded = λ z. absurd (p (sym k ∙ z));
        short = λ z. absurd (u (sym k ∙ z));
        late = λ z. absurd (q (sym k ∙ z));
        kept = λ _ _. e;
        bare = λ _ _ _. w ∙ ap (λ (x : ℕ). report x none none) (sym k);
      }

module _ (g : Config) (s : State) (f : Call) where
  stopped_effects : (c : ℕ) → (c ≡ 0 → ⊥) → c ≤ 4 → (d : Found) → RowEffects g s f d (refused_with c s)
  stopped_effects c z h None = (refl, refl, z, h)
  stopped_effects c z h (Some j) =
      refused_effects _ s f (link_in (link_table g.links) j) (account_held g.accounts s (link_in (link_table g.links) j).account) c (refused_with c s) refl refl z
      (λ e. omega arith) (λ e. omega arith)

  link_effects : (l : Link) → length_code (length f.octets) ≡ 0 → Effects (accounts_in_use g s) s f l (account_held g.accounts s l.account) (by_link g s f l)
  link_effects l z =
      let a : Account = account_held g.accounts s l.account in
      let same = held_again g.accounts s l.account in
      let below : ((link_sound l (accounts_in_use g s) a.terms.smax && account_sound a) ≡ true → l.account < accounts_in_use g s) =
      λ e. sound_account l (accounts_in_use g s) a.terms.smax (both (link_sound l (accounts_in_use g s) a.terms.smax) (account_sound a) e).0 in
      by_decided l (accounts_in_use g s) a (length f.octets) f.port f.time z (λ d. Effects (accounts_in_use g s) s f l a (stored s l.account d))
      (λ _. refused_effects (accounts_in_use g s) s f l a 10 _ refl same (λ e. omega arith) (λ e. omega arith) (λ e. omega arith))
      (λ _ h.
      let k = port_code_high l (length f.octets) f.port in
      refused_effects (accounts_in_use g s) s f l a (port_code l (length f.octets) f.port) _ refl same h (λ e. omega arith) (λ e. omega arith))
      (λ _ _ h. record {
        forwarded = λ e. absurd (omega arith);
        short = λ e. absurd (omega arith);
        late = λ _. (refl, h);
        kept = λ _ _. same;
        bare = λ _ n _. absurd (n refl);
      })
      (λ e _ h k. record {
        forwarded = λ e. absurd (omega arith);
        short = λ _. (below e, refl, refl, k);
        late = λ e. absurd (omega arith);
        kept = λ _ n. absurd (n refl);
        bare = λ _ _ n. absurd (n refl);
      })
      (λ e _ h k. record {
        forwarded = λ _. (below e, refl, refl, k);
        short = λ e. absurd (omega arith);
        late = λ e. absurd (omega arith);
        kept = λ n _. absurd (n refl);
        bare = λ n _ _. absurd (n refl);
      })

pub call_effects : CallEffects
call_effects g s f =
    by_call g s f (RowEffects g s f)
    (λ z. let k = frame_code_high g.constant f.octets in stopped_effects g s f (frame_code g.constant f.octets) z (omega arith) (found g.links g.count_of_links (link_number f.octets)))
    (λ _. stopped_effects g s f 4 (λ e. omega arith) (omega arith) None)
    (λ z j. link_effects g s f (link_in (link_table g.links) j) (frame_zero g.constant f.octets z))

-- the state is unchanged after any code but 0 and 9, by the row found
kept_by : (g : Config) (s : State) (f : Call) (d : Found) (r : After) → RowEffects g s f d r → (r.says.code ≡ 0 → ⊥) → (r.says.code ≡ 9 → ⊥) → r.state ≡ s
kept_by g s f None r e z n = e.0
kept_by g s f (Some j) r e z n = e.kept z n

pub refused_call_keeps : RefusedCallKeeps
refused_call_keeps g s f = kept_by g s f (found g.links g.count_of_links (link_number f.octets)) (called g s f) (call_effects g s f)

-- ---- what a call stores is less than the capacity
abbrev Below : Account → Decided → Type 0
Below a d = (d.says.code ≡ 0) ⊎ (d.says.code ≡ 9) → d.credit < capacity (terms_of a)

pub stored_below_capacity : StoredBelowCapacity
stored_below_capacity l used a n port t =
    split (link_sound l used a.terms.smax && account_sound a)
    (λ e.
    let b = both (link_sound l used a.terms.smax) (account_sound a) e in
    split (eqb (port_code l n port) 0)
    (λ m.
    let k = eqb-true _ _ m in
    subst (Below a) (sym (decided_policed l used a n port t b.0 b.1 k))
    (step_below_capacity a n t (le_trans (passed_largest l n port k) (sound_sizes l used a.terms.smax b.0).2)))
    (λ m.
    let k = eqb-false _ _ m in
    subst (Below a) (sym (decided_refused l used a n port t b.0 b.1 k)) (neither (port_code l n port) 0 9 k (λ q. omega (arith, port_code_high l n port)))))
    (λ e. subst (Below a) (sym (decided_unsound l used a n port t e)) (neither 10 0 9 (λ q. omega arith) (λ q. omega arith)))

-- ---- ports that no switch has
other_port_lem : (l : Link) (used smax n port : ℕ) → link_sound l used smax ≡ true → port_count ≤ port → port_code l n port ≡ 5
other_port_lem l used smax n port e h =
    let k : l.port < port_count = sound_port l used smax e in
    sym (port_other l n port (λ d. omega arith))

pub ports_beyond : PortsBeyond
ports_beyond g s f h =
    by_call g s f (λ _ r. (r.says.code ≡ 10) ⊎ ((1 ≤ r.says.code) × (r.says.code ≤ 5)))
    (λ z. let k = frame_code_high g.constant f.octets in inr (omega arith, omega arith))
    (λ _. inr (omega arith, omega arith))
    (λ z j.
    let l : Link = link_in (link_table g.links) j in
    let a : Account = account_held g.accounts s l.account in
    let five : ((link_sound l (accounts_in_use g s) a.terms.smax && account_sound a) ≡ true → port_code l (length f.octets) f.port ≡ 5) =
    λ e. other_port_lem l (accounts_in_use g s) a.terms.smax (length f.octets) f.port (both (link_sound l (accounts_in_use g s) a.terms.smax) (account_sound a) e).0 h in
    by_decided l (accounts_in_use g s) a (length f.octets) f.port f.time (frame_zero g.constant f.octets z)
    (λ d. (d.says.code ≡ 10) ⊎ ((1 ≤ d.says.code) × (d.says.code ≤ 5)))
    (λ _. inl refl)
    (λ e _. let k = five e in inr (omega arith, omega arith))
    (λ e p _. let k = five e in absurd (omega arith))
    (λ e p _ _. let k = five e in absurd (omega arith))
    (λ e p _ _. let k = five e in absurd (omega arith)))

-- ---- rows beyond those in use
decided_same : (l : Link) (used : ℕ) (a b : Account) (n port t : ℕ) → (l.account < used → a ≡ b)
    → (decided l used a n port t).says ≡ (decided l used b n port t).says
unfolding decided
decided_same l used a b n port t h =
    split (ltb l.account used)
    (λ e. ap (λ (x : Account). (decided l used x n port t).says) (h (ltb-true _ _ e)))
    (λ e.
    let k = ltb-false _ _ e in
    let p : link_sound l used a.terms.smax ≡ false = sym (account_past l used a.terms.smax k) in
    let q : link_sound l used b.terms.smax ≡ false = sym (account_past l used b.terms.smax k) in
    simp (p, q))

module _ (g : Config) (s : State) (g' : Config) (s' : State) (e : SameInUse g s g' s') (f : Call) where
  abbrev number : ℕ
  number = link_number f.octets

  link_same : (l l' : Link) → l ≡ l' → (by_link g s f l).says ≡ (by_link g' s' f l').says
  link_same l l' q =
      decided_same l (accounts_in_use g s) _ _ (length f.octets) f.port f.time (e.held l.account)
      ∙ (λ k. (decided (q k) (e.accounts k) (account_held g'.accounts s' (q k).account) (length f.octets) f.port f.time).says)

  row_same : (d : Found) → found g.links g.count_of_links number ≡ d → (on_row g s f d).says ≡ (on_row g' s' f d).says
  row_same None q = refl
  row_same (Some j) q =
      link_same (link_in (link_table g.links) j) (link_in (link_table g'.links) j)
      (e.rows j (first_found (link_table g.links) (links_in_use g.links g.count_of_links) number j q).0)

  found_alike : found g.links g.count_of_links number ≡ found g'.links g'.count_of_links number
  found_alike =
      links_same (link_table g.links) (link_table g'.links) (links_in_use g.links g.count_of_links) number e.rows
      ∙ ap (λ (n : ℕ). found_in (link_table g'.links) n number) e.links

  code_alike : frame_code g.constant f.octets ≡ frame_code g'.constant f.octets
  code_alike = ap (λ (c : ℕ). frame_code c f.octets) e.constant

  alike : (called g s f).says ≡ (called g' s' f).says
  alike =
      split (eqb (frame_code g.constant f.octets) 0)
      (λ b.
      let z = eqb-true _ _ b in
      ap (λ (r : After). r.says) (call_row g s f z)
      ∙ row_same (found g.links g.count_of_links number) refl
      ∙ ap (λ (d : Found). (on_row g' s' f d).says) found_alike
      ∙ ap (λ (r : After). r.says) (sym (call_row g' s' f (sym code_alike ∙ z))))
      (λ b.
      let z = eqb-false _ _ b in
      ap (λ (r : After). r.says) (call_refused g s f z)
      ∙ ap (λ (c : ℕ). (refused_with c s).says) code_alike
      ∙ ap (λ (r : After). r.says) (sym (call_refused g' s' f (λ k. z (code_alike ∙ k)))))

pub rows_beyond_unread : RowsBeyondUnread
rows_beyond_unread g s g' s' e f = alike g s g' s' e f

pub call_parts : CallParts
call_parts credits lasts octets port time says = (refl, refl, refl, refl, refl, refl, refl)
