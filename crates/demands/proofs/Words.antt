-- Demand 3's first half from loading itself, in words, and that 10 never arises. Assumes nothing.
use Prim.Native.Nat.{ℕ, ◌≤◌, ◌<◌}
use mathlib.Core.List.{List, [], reverse, Memᴰ}
use mathlib.Core.Path.{◌≡◌, ap, ◌∙◌, subst}
use native.Mathlib.Omega.{arith}
use lib.ListN.{length}
use lib.Dec.{ltb, eqb}
use borrow.Author.Tests.{lt-ltb, eq-eqb, ne_eqb}
use Rattle.lists.proofs.History.{answers_each}
use Rattle.lists.proofs.Tests.{split}
use Rattle.terms.specs.Terms.{cost}
use Rattle.terms.specs.declared.Terms.{Terms}
use Rattle.account_rule.specs.Bucket.{Reached, last_time, rule_holds}
use Rattle.account_rule.specs.Rule.{allowance, rule_arrived}
use Rattle.account_rule.proofs.Rule.{in_words}
use Rattle.tables.specs.Rows.{Config, config_for}
use Rattle.image_read.specs.declared.ImageAnswer.{ImageAnswer}
use Rattle.image_read.specs.Read.{read_image}
use Rattle.image_load.specs.Loading.{loading}
use Rattle.image_fill.specs.Filling.{Runs}
use Rattle.image_load.specs.Fresh.{Fresh}
use Rattle.image_load.proofs.Fresh.{load_fresh}
use Rattle.image_round_trip.specs.RoundTrips.{loaded_tables}
use Rattle.switch.specs.Call.{Call, called}
use Rattle.filter.proofs.Filter.{frame_code_high, port_code_high}
use Rattle.switch.specs.History.{call_answers, final_state}
use Rattle.demands.specs.History.{call_codes, config_in, state_in}
use Rattle.demands.specs.Rule.{image_terms, image_link, link_row, filter_code, reached_in, account_named, rule_code, rule_of_calls}
use Rattle.demands.specs.Demand3.{RuleOfHistory, RuleInWords, OthersInWords, TenNever}
use Rattle.demands.proofs.Tables.{tables}
use Rattle.demands.proofs.Filter.{filter_frame, filter_unknown, filter_link, by_filter}
use Rattle.demands.proofs.Rule.{Ruled, one_call, history_stands, rule_of_fresh_tables}

-- ---- from loading
module _ (s : List ℕ) (r : Runs) (z : (loading s r).answer.code ≡ 0) where
  pub loaded_fresh : Fresh s (loading s r).runs
  loaded_fresh = (load_fresh s r z).1

  -- what loading answered is what reading answers
  pub loaded_config : loaded_tables s r ≡ config_in s (loading s r).runs
  loaded_config =
      ap (λ (q : ImageAnswer). config_for q.settings (loading s r).runs.accounts (loading s r).runs.links) (load_fresh s r z).0

pub rule_of_history : RuleOfHistory
rule_of_history s r z h =
    ap (λ (g : Config). call_codes (call_answers g (state_in (loading s r).runs) h)) (loaded_config s r z)
    ∙ rule_of_fresh_tables s (loading s r).runs (loaded_fresh s r z) h

-- ---- in words
next_call : (s : List ℕ) (r : Runs) → Fresh s r → (before : List Call) (f : Call)
    → Ruled s (config_in s r) (reverse before) f (called (config_in s r) (final_state (config_in s r) (state_in r) before) f)
next_call s r fresh before f =
    one_call s (config_in s r) (tables s r fresh) (reverse before) (final_state (config_in s r) (state_in r) before)
    (history_stands s r fresh before) f

pub code_arrived : (s : List ℕ) (past : List Call) (f : Call) → filter_code s f ≡ 0
    → rule_code s past f ≡ (rule_arrived (image_terms s (account_named s (link_row s f))) (reached_in s past (account_named s (link_row s f))) (length f.octets) f.time).code
unfolding rule_code
code_arrived s past f z = simp (eq-eqb _ _ z)

pub rule_in_words : RuleInWords
rule_in_words s r fresh before f z h =
    let a : ℕ = account_named s (link_row s f) in
    let w = in_words (image_terms s a) (reached_in s (reverse before) a) (length f.octets) f.time h
    (called (config_in s r) (final_state (config_in s r) (state_in r) before) f).says.code
    ((next_call s r fresh before f).code ∙ code_arrived s (reverse before) f z) in
    record { exactly = w.0; otherwise = w.1 }

-- any other frame: the filter's code, or late
arrived_late : (p : Terms) (past : List Reached) (n t : ℕ) → t < last_time past → (rule_arrived p past n t).code ≡ 8
unfolding rule_arrived
arrived_late p past n t h = simp (lt-ltb _ _ h)

pub code_filtered : (s : List ℕ) (past : List Call) (f : Call) → (filter_code s f ≡ 0 → ⊥) → rule_code s past f ≡ filter_code s f
unfolding rule_code
code_filtered s past f h = simp (ne_eqb _ _ h)

pub others_in_words : OthersInWords
others_in_words s r fresh before f =
    let o = next_call s r fresh before f in (
      λ h. o.code ∙ code_filtered s (reverse before) f h,
      λ z h. o.code ∙ code_arrived s (reverse before) f z ∙ arrived_late _ _ _ _ h,
    )

-- ---- 10 never
pub filter_code_high : (s : List ℕ) (f : Call) → filter_code s f ≤ 7
filter_code_high s f =
    by_filter s f
    (λ m. let k = frame_code_high (read_image s).settings.constant f.octets in let e = filter_frame s f m in omega arith)
    (λ z e. let k = filter_unknown s f z e in omega arith)
    (λ z j e _. let k = filter_link s f z j e in let b = port_code_high (image_link s j) (length f.octets) f.port in omega arith)

arrived_high : (p : Terms) (past : List Reached) (n t : ℕ) → (rule_arrived p past n t).code ≤ 9
unfolding rule_arrived
arrived_high p past n t =
    split (ltb t (last_time past))
    (λ e. simp e (omega arith))
    (λ e. split (rule_holds (allowance p) t (cost p n) past) (λ d. simp (e, d) (omega arith)) (λ d. simp (e, d) (omega arith)))

rule_code_high : (s : List ℕ) (past : List Call) (f : Call) → rule_code s past f ≤ 9
unfolding rule_code
rule_code_high s past f =
    split (eqb (filter_code s f) 0)
    (λ e. simp e (arrived_high _ _ _ _))
    (λ e. let k = filter_code_high s f in simp e (omega arith))

pub ten_never : TenNever
ten_never s r fresh h c i =
    answers_each (rule_of_calls s) (λ (d : ℕ). d ≤ 9) (rule_code_high s) h [] c
    (subst (Memᴰ c) (rule_of_fresh_tables s r fresh h) i)
