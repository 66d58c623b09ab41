-- Demand 3's first half. Each account stays the one that the frames which reached it leave, so that every call answers with the code of
-- the rule, and with data that the image and those frames settle. Assumes nothing.
use Prim.Native.Nat.{ℕ, ◌≤◌, ◌<◌}
use mathlib.Core.Bool.{true, false, not}
use mathlib.Core.List.{List, [], ◌∷◌, reverse}
use mathlib.Core.Path.{◌≡◌, refl, sym, ap, ◌∙◌, subst}
use native.Mathlib.Omega.{arith}
use lib.ListN.{length, get_or, set, length-set}
use lib.Seq.{get_or-set_same, get_or-set_other}
use lib.Dec.{eqb}
use borrow.Author.Tests.{eq-eqb, ne_eqb, eqb-true, eqb-false}
use Rattle.std.specs.Prelude.{if◌then◌else◌}
use Rattle.lists.specs.History
use Rattle.lists.specs.History.{Machine, left_by, by_calls}
use Rattle.lists.specs.Lists.{only}
use Rattle.lists.proofs.History.{Simulates, simulated, same_answers, final_calls}
use Rattle.lists.proofs.Tests.{split}
use Rattle.frame.specs.Frame.{length_code}
use Rattle.terms.specs.declared.Terms.{Terms}
use Rattle.account.specs.Account.{account_of, account_sound}
use Rattle.account.specs.Step.{policed}
use Rattle.account_rule.specs.Bucket.{Reached}
use Rattle.account_rule.specs.Rule.{rule_arrived, rule_step}
use Rattle.account.specs.declared.Account.{Account}
use Rattle.account_rule.proofs.Rule.{Sound, state, Agree, step_arrived, state_sound, arrival, state_loaded}
use Rattle.account.proofs.Step.{policed_keeps}
use Rattle.tables.specs.Rows.{Config}
use Rattle.rows.specs.Rows.{Found}
use Rattle.std.specs.Prelude.{Some, None}
use Rattle.tables.specs.declared.Link.{Link}
use Rattle.tables_rules.proofs.Rules.{sound_account}
use Rattle.image_read.specs.Read.{read_image}
use Rattle.image_fill.specs.Filling.{Runs}
use Rattle.image_load.specs.Fresh.{Fresh}
use Rattle.filter.specs.Filter.{port_code}
use Rattle.switch_verdict.specs.Verdict.{Report, refused, with_mask}
use Rattle.switch.specs.Call.{State, state_of, Call, After, accounts_in_use, in_use_by, account_held, Decided, kept, decided, stored, refused_with, by_link, called}
use Rattle.filter.proofs.Filter.{frame_zero}
use Rattle.switch.proofs.Call.{held_again, decided_refused, decided_policed}
use Rattle.switch.specs.History.{calls_on, call_answers, final_state}
use Rattle.demands.specs.History.{config_in, state_in}
use Rattle.demands.specs.Rule.{image_terms, image_link, link_row, filter_code, passing, reached_in, rule_code, rule_of_calls}
use Rattle.demands.specs.Demand3.{RuleOfFreshTables}
use Rattle.demands.proofs.Tables.{Tables, tables, long, starts_loaded}
use Rattle.demands.proofs.Filter.{frame_code_lem, filter_frame, filter_unknown, filter_link, by_filter, passes_none, passes_link, call_frame, call_nowhere, call_link}

-- ---- the frames that reached an account, with one call more
module _ (s : List ℕ) (f : Call) (a : ℕ) where
  abbrev pub with_call_lem : List Reached → List Reached
  with_call_lem z = if passing s a f then (rule_step (image_terms s a) z (length f.octets) f.time).past else z

  pub reached_next : (past : List Call) → reached_in s (f ∷ past) a ≡ with_call_lem (reached_in s past a)
  unfolding reached_in only left_by
  reached_next past = split (passing s a f) (λ e. simp e) (λ e. simp e)

  pub reached_same : (past : List Call) → passing s a f ≡ false → reached_in s (f ∷ past) a ≡ reached_in s past a
  reached_same past e = reached_next past ∙ simp e

  pub reached_more : (past : List Call) → passing s a f ≡ true → length_code (length f.octets) ≡ 0
      → reached_in s (f ∷ past) a ≡ (rule_arrived (image_terms s a) (reached_in s past a) (length f.octets) f.time).past
  reached_more past e z =
      reached_next past ∙ simp (e, step_arrived (image_terms s a) (reached_in s past a) (length f.octets) f.time z)

-- ---- the answer to a frame after a past, with its data
abbrev pub account_of_lem : List ℕ → List Call → ℕ → Account
account_of_lem s past a = state (image_terms s a) (reached_in s past a)

abbrev pub link_verdict : List ℕ → List Call → Call → Found → Report
link_verdict s past f None = refused (filter_code s f)
link_verdict s past f (Some j) = with_mask (image_link s j).mask (policed (account_of_lem s past (image_link s j).account) (length f.octets) f.time).says

unfoldable pub verdict_for : List ℕ → List Call → Call → Report
verdict_for s past f =
    if not (eqb (filter_code s f) 0) then refused (filter_code s f) else link_verdict s past f (link_row s f)

-- ---- each account is the one that the frames which reached it leave
pub record Stands (s : List ℕ) (g : Config) (past : List Call) (q : State) : Type 0 where
  pub credit_room : (read_image s).settings.accounts ≤ length q.credits
  pub last_room : (read_image s).settings.accounts ≤ length q.lasts
  pub is : (i : ℕ) → i < (read_image s).settings.accounts → account_held g.accounts q i ≡ account_of_lem s past i
  pub sound : (i : ℕ) → i < (read_image s).settings.accounts → Sound (image_terms s i) (reached_in s past i)

-- what a call answers and leaves, by the rule
pub record Ruled (s : List ℕ) (g : Config) (past : List Call) (f : Call) (r : After) : Type 0 where
  pub code : r.says.code ≡ rule_code s past f
  pub verdict : r.says ≡ verdict_for s past f
  pub stands : Stands s g (f ∷ past) r.state

-- ---- one call
module _ (s : List ℕ) (g : Config) (t : Tables s g) (past : List Call) (q : State) (st : Stands s g past q) (f : Call) where
  -- a frame that passes to no account changes none
  stays : ((a : ℕ) → passing s a f ≡ false) → Stands s g (f ∷ past) q
  stays h =
      record {
        credit_room = st.credit_room;
        last_room = st.last_room;
        is = λ i b. st.is i b ∙ ap (state (image_terms s i)) (sym (reached_same s f i past (h i)));
        sound = λ i b. subst (Sound (image_terms s i)) (sym (reached_same s f i past (h i))) (st.sound i b);
      }

  refused_by : (c : ℕ) → filter_code s f ≡ c → (c ≡ 0 → ⊥) → Ruled s g past f (refused_with c q)
  unfolding rule_code verdict_for
  refused_by c e n =
      let z : eqb (filter_code s f) 0 ≡ false = ne_eqb (filter_code s f) 0 (λ d. n (sym e ∙ d)) in
      record {
        code = simp z (sym e);
        verdict = simp z (ap refused (sym e));
        stands = stays (λ a. passes_none s f a (eqb-false _ _ z));
      }

  -- an account that the frame goes over to
  module _ (j : ℕ) (h : j < (read_image s).settings.links) (z : frame_code_lem s f ≡ 0) (e : link_row s f ≡ Some j) where
    abbrev link : Link
    link = image_link s j

    abbrev a : ℕ
    a = link.account

    abbrev n : ℕ
    n = length f.octets

    known : a < (read_image s).settings.accounts
    known = sound_account link (read_image s).settings.accounts _ (t.rules j h)

    all_used : accounts_in_use g q ≡ (read_image s).settings.accounts
    unfolding in_use_by
    all_used =
        let b = t.account_count in
        let c = t.account_room in
        let d = st.credit_room in
        let k = st.last_room in
        omega arith

    -- the link and the account are sound: 10 does not arise
    abbrev account : Account
    account = account_of_lem s past a

    sound_here : account_sound account ≡ true
    sound_here = state_sound (image_terms s a) (reached_in s past a) (st.sound a known) (t.limits a known)

    decided_is : (d : Decided) → decided link (read_image s).settings.accounts account n f.port f.time ≡ d
        → by_link g q f link ≡ stored q a d
    decided_is d r =
        ap (stored q a) ((λ k. decided link (all_used k) (st.is a known k) n f.port f.time) ∙ r)

    over_refused : (port_code link n f.port ≡ 0 → ⊥) → Ruled s g past f (by_link g q f link)
    over_refused m =
        let c : filter_code s f ≡ port_code link n f.port = filter_link s f z j e in
        let d = decided_is (kept (port_code link n f.port) account) (decided_refused link (read_image s).settings.accounts account n f.port f.time (t.rules j h) sound_here m) in
        let p : account ≡ account_held g.accounts q a = sym (st.is a known) in
        let k : state_of (set q.credits a account.credit) (set q.lasts a account.last) ≡ q =
        (λ i. state_of (set q.credits a (p i).credit) (set q.lasts a (p i).last)) ∙ held_again g.accounts q a in
        subst (Ruled s g past f) (sym (d ∙ (λ i. record { says = refused (port_code link n f.port); state = k i })))
        (refused_by (port_code link n f.port) c m)

    -- the frame reaches the account, or is late
    module _ (m : port_code link n f.port ≡ 0) where
      zero_code : filter_code s f ≡ 0
      zero_code = filter_link s f z j e ∙ m

      right_size : length_code n ≡ 0
      right_size = frame_zero (read_image s).settings.constant f.octets z

      agree : Agree (image_terms s a) (policed account n f.time) (rule_arrived (image_terms s a) (reached_in s past a) n f.time)
      agree = arrival (image_terms s a) (reached_in s past a) (st.sound a known) (t.limits a known) n f.time right_size

      abbrev next : Account
      next = (policed account n f.time).account

      abbrev after : State
      after = state_of (set q.credits a next.credit) (set q.lasts a next.last)

      -- the row of account i with what the runs hold for it
      row_held : (w : State) (i : ℕ) → i < (read_image s).settings.accounts → account_held g.accounts w i ≡ account_of (image_terms s i) (get_or w.credits i 0) (get_or w.lasts i 0)
      unfolding account_held
      row_held w i b = ap (λ (p : Terms). account_of p (get_or w.credits i 0) (get_or w.lasts i 0)) (t.terms i b)

      held_same : account_held g.accounts after a ≡ next
      held_same =
          let b = st.credit_room in
          let c = st.last_room in
          let k = known in
          row_held after a k
          ∙ (λ i. account_of (image_terms s a) (get_or-set_same q.credits a next.credit 0 (omega arith) i) (get_or-set_same q.lasts a next.last 0 (omega arith) i))
          ∙ policed_keeps account n f.time

      held_other : (i : ℕ) → i < (read_image s).settings.accounts → (i ≡ a → ⊥) → account_held g.accounts after i ≡ account_held g.accounts q i
      held_other i b ne =
          row_held after i b
          ∙ (λ k. account_of (image_terms s i) (get_or-set_other q.credits a i next.credit 0 ne k) (get_or-set_other q.lasts a i next.last 0 ne k))
          ∙ sym (row_held q i b)

      -- which account the frame passes to
      passes : (i : ℕ) → passing s i f ≡ eqb a i
      passes i = passes_link s f i j z e zero_code

      past_same : reached_in s (f ∷ past) a ≡ (rule_arrived (image_terms s a) (reached_in s past a) n f.time).past
      past_same = reached_more s f a past (passes a ∙ eq-eqb a a refl) right_size

      past_other : (i : ℕ) → eqb a i ≡ false → reached_in s (f ∷ past) i ≡ reached_in s past i
      past_other i d = reached_same s f i past (passes i ∙ d)

      next_is : (i : ℕ) → i < (read_image s).settings.accounts → account_held g.accounts after i ≡ account_of_lem s (f ∷ past) i
      next_is i b =
          split (eqb a i)
          (λ d.
          subst (λ (k : ℕ). account_held g.accounts after k ≡ account_of_lem s (f ∷ past) k) (eqb-true a i d)
          (held_same ∙ agree.same_account ∙ ap (state (image_terms s a)) (sym past_same)))
          (λ d.
          held_other i b (λ k. eqb-false a i d (sym k)) ∙ st.is i b ∙ ap (state (image_terms s i)) (sym (past_other i d)))

      next_sound : (i : ℕ) → i < (read_image s).settings.accounts → Sound (image_terms s i) (reached_in s (f ∷ past) i)
      next_sound i b =
          split (eqb a i)
          (λ d.
          subst (λ (k : ℕ). Sound (image_terms s k) (reached_in s (f ∷ past) k)) (eqb-true a i d)
          (subst (Sound (image_terms s a)) (sym past_same) agree.sound))
          (λ d. subst (Sound (image_terms s i)) (sym (past_other i d)) (st.sound i b))

      next_stands : Stands s g (f ∷ past) after
      next_stands =
          record {
            credit_room = rw (length-set q.credits a next.credit) st.credit_room;
            last_room = rw (length-set q.lasts a next.last) st.last_room;
            is = next_is;
            sound = next_sound;
          }

      code_is : (policed account n f.time).says.code ≡ rule_code s past f
      unfolding rule_code
      code_is = rw e (simp (eq-eqb (filter_code s f) 0 zero_code) agree.same_code)

      verdict_is : with_mask link.mask (policed account n f.time).says ≡ verdict_for s past f
      unfolding verdict_for
      verdict_is = rw e (simp (eq-eqb (filter_code s f) 0 zero_code))

      over_policed : Ruled s g past f (by_link g q f link)
      over_policed =
          subst (Ruled s g past f)
          (sym (decided_is _ (decided_policed link (read_image s).settings.accounts account n f.port f.time (t.rules j h) sound_here m)))
          (record { code = code_is; verdict = verdict_is; stands = next_stands })

    over : Ruled s g past f (by_link g q f link)
    over = split (eqb (port_code link n f.port) 0) (λ m. over_policed (eqb-true _ _ m)) (λ m. over_refused (eqb-false _ _ m))

  pub one_call : Ruled s g past f (called g q f)
  one_call =
      by_filter s f
      (λ m. subst (Ruled s g past f) (sym (call_frame s g t q f m)) (refused_by (frame_code_lem s f) (filter_frame s f m) m))
      (λ z e.
      subst (Ruled s g past f) (sym (call_nowhere s g t q f z e)) (refused_by 4 (filter_unknown s f z e) (λ d. omega arith)))
      (λ z j e h. subst (Ruled s g past f) (sym (call_link s g t q f z j e h)) (over j h z e))

-- ---- from tables just loaded
pub reached_none : (s : List ℕ) (a : ℕ) → reached_in s [] a ≡ []
unfolding reached_in only left_by
reached_none s a = refl

pub starts : (s : List ℕ) (r : Runs) → Fresh s r → Stands s (config_in s r) [] (state_in r)
starts s r fresh =
    record {
      credit_room = (long s r fresh).credits_long;
      last_room = (long s r fresh).lasts_long;
      is = λ i b. starts_loaded s r fresh i b ∙ state_loaded (image_terms s i) ∙ ap (state (image_terms s i)) (sym (reached_none s i));
      sound = λ i b. subst (Sound (image_terms s i)) (sym (reached_none s i)) tt;
    }

-- ---- a list of calls on them
abbrev pub verdicts_by : List ℕ → Machine (List Call) Call Report
verdicts_by s = by_calls (verdict_for s)

module _ (s : List ℕ) (r : Runs) (fresh : Fresh s r) (h : List Call) where
  abbrev g : Config
  g = config_in s r

  each_code : Simulates (calls_on g) (rule_of_calls s) (λ w. w.code) (Stands s g) h
  each_code = record { each = λ f _ past q st. let o = one_call s g (tables s r fresh) past q st f in (o.code, o.stands) }

  each_verdict : Simulates (calls_on g) (verdicts_by s) (λ w. w) (Stands s g) h
  each_verdict = record { each = λ f _ past q st. let o = one_call s g (tables s r fresh) past q st f in (o.verdict, o.stands) }

  pub history_verdicts : call_answers g (state_in r) h ≡ History.answers (verdicts_by s) [] h
  history_verdicts = same_answers h each_verdict [] (state_in r) (starts s r fresh)

  pub history_stands : Stands s g (reverse h) (final_state g (state_in r) h)
  history_stands =
      subst (λ (past : List Call). Stands s g past (final_state g (state_in r) h)) (final_calls (rule_code s) h [])
      (simulated h each_code [] (state_in r) (starts s r fresh)).1

pub rule_of_fresh_tables : RuleOfFreshTables
rule_of_fresh_tables s r fresh h = (simulated h (each_code s r fresh h) [] (state_in r) (starts s r fresh)).0
