-- The bench table: computed from one set of fresh tables, and the same from every load, since the image settles the answers. Assumes
-- nothing.
use Prim.Native.Nat.{ℕ, ◌-◌, ◌^◌, ◌<◌}
use mathlib.Core.Bool.{true}
use mathlib.Core.List.{List, [], ◌∷◌, map, head_d, map_congr_left}
use mathlib.Core.Option.{none}
use mathlib.Core.Path.{◌≡◌, refl, sym, ap, ◌∙◌}
use lib.ListN.{get_or, set}
use lib.Dec.{lit<}
use Rattle.lists.specs.History
use Rattle.octets.specs.Numbers.{number_at}
use Rattle.octets.specs.Runs.{octets_at, joined}
use Rattle.frame.specs.Frame.{length_code}
use Rattle.terms.specs.Terms.{byte_mode, frame_mode, terms_good, bag, added, charge, rate, capacity, by_octets, charged, cost}
use Rattle.account.specs.Account.{account_sound, credit_up_to}
use Rattle.account.specs.Step.{judged, judged_at, policed}
use Rattle.account_rule.specs.Bench.{Case, terms_p, byte_cases, frame_cases}
use Rattle.lists.specs.Leading.{leading}
use Rattle.rows.specs.Rows.{found_in}
use Rattle.tables.specs.Rows.{Config, terms_at, link_at, account_in, config_for}
use Rattle.tables_rules.specs.Rules.{ports_sound, sizes_sound, link_sound, account_good, number_rises, link_good}
use Rattle.image_layout.specs.Layout.{field_offset, constant_good}
use Rattle.image_read.specs.declared.ImageAnswer.{ImageAnswer}
use Rattle.image_read.specs.Read.{good_field, good_accounts, good_links, read_end, read_image}
use Rattle.image_field.specs.Checks.{account_fields, field_code, head_good, head_code, in_order, data_octets, is_full, values_good, next_code}
use Rattle.image_load.specs.Loading.{loading}
use Rattle.image_fill.specs.Filling.{Runs, runs_of, long_enough, account_rows, link_rows, capacities}
use Rattle.image_load.specs.Fresh.{Begins, Fresh}
use Rattle.image_read.specs.Bench.{account_p, link_p, image_p, answer_p}
use Rattle.image_load.proofs.Fresh.{load_accepts, fresh_holds, fresh_sound}
use Rattle.image_read.proofs.Bench.{image_p_reads}
use Rattle.image_round_trip.specs.RoundTrips.{loaded_tables}
use Rattle.filter.specs.Filter.{frame_code, port_code, routed}
use Rattle.switch_verdict.specs.Verdict.{Report, report}
use Rattle.switch.specs.Call.{State, state_of, Call, in_use_by, account_held, decided, called}
use Rattle.switch.specs.History.{call_answers, final_state}
use Rattle.demands.specs.History.{config_in, state_in}
use Rattle.demands.specs.Rule.{image_terms, meant}
use Rattle.demands.specs.Demand3.{MeantLimits}
use Rattle.demands.specs.Bench.{frame_image_p, sent, calls, byte_verdicts, frame_verdicts, state_after, CallBenchTable, CaseTwelve}
use Rattle.demands.proofs.Rule.{history_verdicts}
use Rattle.demands.proofs.Words.{loaded_fresh, loaded_config}
use Rattle.demands.proofs.Isolation.{isolation_of_fresh_tables}

-- ---- fresh tables of each image, written out
abbrev account_p1 : List ℕ
account_p1 = set account_p 5 1

abbrev pub runs_of_lem : List ℕ → Runs
runs_of_lem account = runs_of account (300000 ∷ []) (0 ∷ []) link_p

frame_p_reads : read_image frame_image_p ≡ answer_p
unfolding number_at terms_good leading terms_at link_at ports_sound sizes_sound link_sound account_good number_rises link_good field_offset constant_good field_code head_good head_code in_order data_octets is_full values_good next_code good_field good_accounts good_links read_end read_image
frame_p_reads = refl

-- an image that reads as image P does, by its rows
fresh_by : (s account : List ℕ) → read_image s ≡ answer_p → Begins (account_rows s 1) account → Begins (capacities (account_fields s) 1) (300000 ∷ [])
    → Begins (link_rows s 1 1) link_p → Fresh s (runs_of_lem account)
fresh_by s account e a c l =
    record {
      accepted = ap (λ (q : ImageAnswer). q.code) e;
      accounts = rw e a;
      credits = rw e c;
      lasts = rw e refl;
      links = rw e l;
    }

pub fresh_p : Fresh image_p (runs_of_lem account_p)
unfolding account_rows capacities link_rows joined octets_at field_offset terms_at number_at capacity rate added charge bag
fresh_p = fresh_by image_p account_p image_p_reads.0 refl refl refl

fresh_frame_p : Fresh frame_image_p (runs_of_lem account_p1)
unfolding account_rows capacities link_rows joined octets_at field_offset terms_at number_at capacity rate added charge bag
fresh_frame_p = fresh_by frame_image_p account_p1 frame_p_reads refl refl refl

-- ---- the answers from these, computed
abbrev pub config_by : List ℕ → ImageAnswer → Config
config_by account q = config_for q.settings account link_p

abbrev pub full : State
full = state_of (300000 ∷ []) (0 ∷ [])

computed : call_answers (config_by account_p answer_p) full (calls byte_cases) ≡ byte_verdicts
unfolding History.answers called routed frame_code length_code number_at found_in leading link_at account_held terms_at in_use_by decided ports_sound sizes_sound link_sound terms_good bag added charge rate capacity by_octets charged cost account_sound credit_up_to judged judged_at policed port_code
computed = refl

computed_frame : call_answers (config_by account_p1 answer_p) full (calls frame_cases) ≡ frame_verdicts
unfolding History.answers called routed frame_code length_code number_at found_in leading link_at account_held terms_at in_use_by decided ports_sound sizes_sound link_sound terms_good bag added charge rate capacity by_octets charged cost account_sound credit_up_to judged judged_at policed port_code
computed_frame = refl

-- ---- and from every load
module _ (s account : List ℕ) (e : read_image s ≡ answer_p) (fresh : Fresh s (runs_of_lem account)) (r : Runs) (long : long_enough 1 1 r ≡ true) where
  answer : (loading s r).answer ≡ read_image s
  answer = load_accepts s r (ap (λ (q : ImageAnswer). q.code) e) (rw e long)

  accepted : (loading s r).answer.code ≡ 0
  accepted = ap (λ (q : ImageAnswer). q.code) (answer ∙ e)

  -- two fresh starts of one image answer alike
  from_any : (h : List Call) → call_answers (loaded_tables s r) (state_in (loading s r).runs) h ≡ call_answers (config_by account answer_p) full h
  from_any h =
      let f = loaded_fresh s r accepted in
      ap (λ (g : Config). call_answers g (state_in (loading s r).runs) h) (loaded_config s r accepted)
      ∙ history_verdicts s _ f h
      ∙ sym (history_verdicts s (runs_of_lem account) fresh h)
      ∙ ap (λ (q : ImageAnswer). call_answers (config_by account q) full h) e

  -- and leave the same
  left_any : (cases : List Case)
      → (get_or (state_after s r cases).credits 0 0 ≡ get_or (final_state (config_by account answer_p) full (calls cases)).credits 0 0)
      × (get_or (state_after s r cases).lasts 0 0 ≡ get_or (final_state (config_by account answer_p) full (calls cases)).lasts 0 0)
  left_any cases =
      let f = loaded_fresh s r accepted in
      let one : 0 < (read_image s).settings.accounts = rw e (lit< tt) in
      let same = isolation_of_fresh_tables s 0 one (loading s r).runs f (calls cases) (runs_of_lem account) fresh (calls cases) refl in
      let g : loaded_tables s r ≡ config_in s (loading s r).runs = loaded_config s r accepted in (
        ap (λ (c : Config). get_or (final_state c (state_in (loading s r).runs) (calls cases)).credits 0 0) g ∙ same.credit
            ∙ ap (λ (q : ImageAnswer). get_or (final_state (config_by account q) full (calls cases)).credits 0 0) e,
        ap (λ (c : Config). get_or (final_state c (state_in (loading s r).runs) (calls cases)).lasts 0 0) g ∙ same.last
            ∙ ap (λ (q : ImageAnswer). get_or (final_state (config_by account q) full (calls cases)).lasts 0 0) e,
      )

computed_left : final_state (config_by account_p answer_p) full (calls byte_cases) ≡ state_of (100000 ∷ []) ((2 ^ 64 - 1) ∷ [])
unfolding History.final called routed frame_code length_code number_at found_in leading link_at account_held terms_at in_use_by decided ports_sound sizes_sound link_sound terms_good bag added charge rate capacity by_octets charged cost account_sound credit_up_to judged judged_at policed port_code
computed_left = refl

terms_p_lem : (image_terms image_p 0 ≡ terms_p byte_mode) × (image_terms frame_image_p 0 ≡ terms_p frame_mode)
unfolding terms_at number_at field_offset
terms_p_lem = (refl, refl)

capacity_p : capacity (account_in (account_fields image_p) 0) ≡ 300000
unfolding capacity rate added charge bag terms_at number_at field_offset
capacity_p = refl

pub call_bench_table : CallBenchTable
call_bench_table r long =
    let e = image_p_reads.0 in
    let z = accepted image_p account_p e fresh_p r long in
    let f = loaded_fresh image_p r z in
    let one : 0 < (read_image image_p).settings.accounts = rw e (lit< tt) in (
      answer image_p account_p e fresh_p r long ∙ e,
      terms_p_lem.0,
      terms_p_lem.1,
      (fresh_sound image_p (loading image_p r).runs f).full 0 one ∙ ap capacity ((fresh_holds image_p (loading image_p r).runs f).accounts 0 one) ∙ capacity_p,
      from_any image_p account_p e fresh_p r long (calls byte_cases) ∙ computed,
      (left_any image_p account_p e fresh_p r long byte_cases).0 ∙ ap (λ (q : State). get_or q.credits 0 0) computed_left,
      (left_any image_p account_p e fresh_p r long byte_cases).1 ∙ ap (λ (q : State). get_or q.lasts 0 0) computed_left,
      from_any frame_image_p account_p1 frame_p_reads fresh_frame_p r long (calls frame_cases) ∙ computed_frame,
    )

pub meant_limits : MeantLimits
unfolding meant found_in number_at terms_good leading terms_at link_at ports_sound sizes_sound link_sound account_good number_rises link_good field_offset constant_good field_code head_good head_code in_order data_octets is_full values_good next_code good_field good_accounts good_links read_end read_image
meant_limits = (refl, refl, refl, refl)

-- case 12: the one call of a list, from any load as from these tables
abbrev code_of : Config → State → ℕ → ℕ
code_of g t n = (called g t (sent n 0)).says.code

sizes_computed : map (code_of (config_by account_p answer_p) full) (63 ∷ 64 ∷ 200 ∷ 201 ∷ 1518 ∷ 1519 ∷ []) ≡ 1 ∷ 0 ∷ 0 ∷ 7 ∷ 7 ∷ 2 ∷ []
unfolding called routed frame_code length_code number_at found_in leading link_at account_held terms_at in_use_by decided ports_sound sizes_sound link_sound terms_good bag added charge rate capacity by_octets charged cost account_sound credit_up_to judged judged_at policed port_code
sizes_computed = refl

pub case_twelve : CaseTwelve
unfolding History.answers head_d
case_twelve r long =
    let any : (n : ℕ) → code_of (loaded_tables image_p r) (state_in (loading image_p r).runs) n ≡ code_of (config_by account_p answer_p) full n =
    λ n. ap (λ (ws : List Report). (head_d ws (report 0 none none)).code) (from_any image_p account_p image_p_reads.0 fresh_p r long (sent n 0 ∷ [])) in
    map_congr_left {l = 63 ∷ 64 ∷ 200 ∷ 201 ∷ 1518 ∷ 1519 ∷ []} (λ n _. any n) ∙ sizes_computed
