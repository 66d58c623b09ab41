-- Demand 3's second half: what a frame meant for an account is answered, and what the account then holds, go by the image and by the
-- frames meant for it. Assumes nothing.
use Prim.Native.Nat.{ℕ, ◌<◌}
use mathlib.Core.Bool.{Bool, true, not, ◌&&◌, false≢true}
use mathlib.Core.List.{List, [], ◌∷◌}
use mathlib.Core.Path.{◌≡◌, refl, sym, ap, ◌∙◌, subst}
use lib.ListN.{length, get_or}
use lib.Dec.{leb, eqb}
use borrow.Author.Tests.{eqb-true}
use Rattle.std.specs.Prelude.{if◌then◌else◌}
use Rattle.lists.proofs.History.{SimulatesPicked, alike}
use Rattle.lists.proofs.Tests.{both}
use Rattle.account.specs.Step.{policed}
use Rattle.account.specs.declared.Account.{Account}
use Rattle.account_rule.proofs.Rule.{state}
use Rattle.tables.specs.Rows.{Config}
use Rattle.rows.specs.Rows.{Found}
use Rattle.std.specs.Prelude.{Some, None}
use Rattle.image_read.specs.Read.{read_image}
use Rattle.image_load.specs.Loading.{loading}
use Rattle.image_fill.specs.Filling.{Runs}
use Rattle.image_load.specs.Fresh.{Fresh}
use Rattle.switch_verdict.specs.Verdict.{Report, refused, with_mask}
use Rattle.switch.specs.Call.{State, Call, account_held}
use Rattle.switch.specs.History.{calls_on, final_state}
use Rattle.demands.specs.History.{config_in, state_in}
use Rattle.demands.specs.Rule.{image_terms, image_link, link_row, filter_code, names, destination_octets, meant, reached_in}
use Rattle.demands.specs.Demand3.{Isolation, IsolationOfFreshTables}
use Rattle.demands.proofs.Tables.{Tables, tables}
use Rattle.demands.proofs.Rule.{with_call_lem, reached_next, reached_same, link_verdict, verdict_for, account_of_lem, Stands, one_call, starts, verdicts_by}
use Rattle.demands.proofs.Words.{loaded_fresh, loaded_config}

module _ (s : List ℕ) (a : ℕ) where
  -- the answer to a frame meant for the account goes by the frames that reached it
  abbrev verdict_by : ℕ → Call → Account → Report
  verdict_by j f x = with_mask (image_link s j).mask (policed x (length f.octets) f.time).says

  row_names : (before after : List Call) (f : Call) → reached_in s before a ≡ reached_in s after a → (d : Found) → names s a d ≡ true
      → link_verdict s before f d ≡ link_verdict s after f d
  row_names before after f e None n = absurd (false≢true n)
  row_names before after f e (Some j) n =
      let k : a ≡ (image_link s j).account = sym (eqb-true (image_link s j).account a n) in
      let q : account_of_lem s before a ≡ account_of_lem s after a = ap (state (image_terms s a)) e in
      ap (verdict_by j f) (subst (λ (i : ℕ). account_of_lem s before i ≡ account_of_lem s after i) k q)

  meant_verdict : (before after : List Call) (f : Call) → reached_in s before a ≡ reached_in s after a → meant s a f ≡ true
      → verdict_for s before f ≡ verdict_for s after f
  unfolding verdict_for meant
  meant_verdict before after f e m =
      ap (λ (w : Report). if not (eqb (filter_code s f) 0) then refused (filter_code s f) else w)
      (row_names before after f e (link_row s f) (both (leb destination_octets (length f.octets)) (names s a (link_row s f)) m).1)

  -- ---- tables after a past, in which the frames that reached the account are those of the calls `mine`
  abbrev Mine : Config → List Call → State → Type 0
  Mine g mine q = (past : List Call) × (reached_in s past a ≡ reached_in s mine a) × Stands s g past q

  mine_holds : (g : Config) (mine : List Call) (q : State) → Mine g mine q → a < (read_image s).settings.accounts
      → account_held g.accounts q a ≡ account_of_lem s mine a
  mine_holds g mine q m b = m.2.is a b ∙ ap (state (image_terms s a)) m.1

  -- the calls meant for the account are answered by these alone
  alone : (g : Config) → Tables s g → (h : List Call) → SimulatesPicked (calls_on g) (verdicts_by s) (meant s a) (Mine g) h
  alone g t h =
      record {
        picked = λ f _ e mine q m.
            let o = one_call s g t m.0 q m.2 f in
            let same = reached_next s f a m.0 ∙ ap (with_call_lem s f a) m.1 ∙ sym (reached_next s f a mine) in
            (o.verdict ∙ meant_verdict m.0 mine f m.1 e, (f ∷ m.0, same, o.stands));
        others = λ f _ e mine q m.
            let same = reached_same s f a m.0 (ap (λ (b : Bool). b && eqb (filter_code s f) 0) e) ∙ m.1 in
            (f ∷ m.0, same, (one_call s g t m.0 q m.2 f).stands);
      }

  mine_starts : (r : Runs) → Fresh s r → Mine (config_in s r) [] (state_in r)
  mine_starts r fresh = ([], refl, starts s r fresh)

-- what an account holds
holds : (accounts : List ℕ) (q : State) (a : ℕ) (x : Account) → account_held accounts q a ≡ x → (get_or q.credits a 0 ≡ x.credit) × (get_or q.lasts a 0 ≡ x.last)
unfolding account_held
holds accounts q a x e = (ap (λ (y : Account). y.credit) e, ap (λ (y : Account). y.last) e)

pub isolation_of_fresh_tables : IsolationOfFreshTables
isolation_of_fresh_tables s a b r fresh h r' fresh' h' e =
    let g : Config = config_in s r in
    let g' : Config = config_in s r' in
    let z = alike h h' (alone s a g (tables s r fresh) h) (alone s a g' (tables s r' fresh') h') e
    [] (state_in r) (mine_starts s a r fresh) (state_in r') (mine_starts s a r' fresh') in
    let x = holds r.accounts (final_state g (state_in r) h) a _ (mine_holds s a g _ _ z.1 b) in
    let y = holds r'.accounts (final_state g' (state_in r') h') a _ (mine_holds s a g' _ _ z.2 b) in
    record { verdicts = z.0; credit = x.0 ∙ sym y.0; last = x.1 ∙ sym y.1 }

pub isolation : Isolation
isolation s a b r z h r' z' h' e =
    rw (loaded_config s r z, loaded_config s r' z')
    (isolation_of_fresh_tables s a b (loading s r).runs (loaded_fresh s r z) h (loading s r').runs (loaded_fresh s r' z') h' e)
