-- What a replay prints: the text that the turns print is that of the image's own tables, and case 14. Assumes nothing.
use Prim.Native.Nat.{ℕ, ◌+◌, ◌^◌, ◌<◌}
use mathlib.Core.Bool.{Bool, true, false}
use mathlib.Core.List.Memᴰ
use mathlib.Core.List.{List, [], ◌∷◌, ◌++◌, append-nil, append_assoc, head_d, Memᴰ}
use mathlib.Core.Logic.{⊎_elim}
use mathlib.Core.Option.{none, some}
use mathlib.Core.Path.{◌≡◌, refl, sym, ap, ap₂, ◌∙◌, subst}
use native.Mathlib.Omega.{arith}
use lib.Dec.{lit<}
use lib.ListN.{length}
use borrow.Author.Tests.{eq-eqb, ne_eqb}
use Rattle.std.specs.Prelude.{if◌then◌else◌}
use Rattle.lists.specs.History
use Rattle.lists.specs.Leading.{leading}
use Rattle.octets.specs.Numbers.{number_at}
use Rattle.frame.specs.Frame.{length_code}
use Rattle.terms.specs.Terms.{terms_good, bag, added, charge, rate, capacity, by_octets, charged, cost}
use Rattle.account.specs.Account.{account_sound, credit_up_to}
use Rattle.account.specs.Step.{judged, judged_at, policed}
use Rattle.rows.specs.Rows.{found_in}
use Rattle.tables_rules.specs.Rules.{ports_sound, sizes_sound, link_sound}
use Rattle.filter.specs.Filter.{frame_code, port_code, routed}
use Rattle.tables.specs.Rows.{Config, terms_at, link_at}
use Rattle.switch_verdict.specs.Verdict.{Report, report}
use Rattle.switch.specs.Call.{State, Call, in_use_by, account_held, decided, called}
use Rattle.switch.specs.History.{call_answers}
use Rattle.image_read.specs.declared.ImageAnswer.{ImageAnswer}
use Rattle.image_read.specs.Read.{read_image}
use Rattle.image_read.specs.Bench.{account_p, image_p, answer_p, answered}
use Rattle.image_read.proofs.Bench.{image_p_reads, case_thirteen}
use Rattle.image_fill.specs.Filling.{Runs}
use Rattle.image_load.specs.Loading.{loading}
use Rattle.image_load.specs.Fresh.{Fresh}
use Rattle.image_round_trip.specs.RoundTrips.{tables_in, loaded_tables}
use Rattle.image_round_trip.proofs.RoundTrips.{own_runs, own_fresh}
use Rattle.replay_words.specs.Digits.{digits_of, width_of}
use Rattle.replay_words.specs.Words.{word_of}
use Rattle.replay_text.specs.Text.{frame_line, refused_line, header_line, cut_line}
use Rattle.replay_log.specs.Records.{unsettled, next_in}
use Rattle.replay_log.specs.declared.Entry.TheVariants.{Cut, End}
use Rattle.replay_turn.specs.Claims.{records_of}
use Rattle.replay_turn.specs.Log.{Logged, logged_of, logged_from}
use Rattle.replay_turn.specs.Text.{lines_from, read_by, text_after, text_of}
use Rattle.replay_turn.proofs.Log.{log_reads_back}
use Rattle.replay_turn.proofs.Text.{text_of_pieces}
use Rattle.demands.specs.History.{state_in}
use Rattle.demands.specs.Replayed.{image_state, replay_text, ReplayOfRig, RefusedRig, sheet_calls, sheet_text, CaseFourteen}
use Rattle.demands.proofs.Bench.{runs_of_lem, fresh_p, config_by, full}
use Rattle.demands.proofs.Rule.{history_verdicts}
use Rattle.demands.proofs.Words.{loaded_fresh, loaded_config}

-- what the calls of a log are answered does not depend on the runs
own_answers : (s : List ℕ) (r : Runs) → (loading s r).answer.code ≡ 0 → (h : List Call)
    → call_answers (loaded_tables s r) (state_in (loading s r).runs) h ≡ call_answers (tables_in s) (image_state s) h
own_answers s r e h =
    let f : Fresh s (loading s r).runs = loaded_fresh s r e in
    ap (λ (g : Config). call_answers g (state_in (loading s r).runs) h) (loaded_config s r e)
    ∙ history_verdicts s (loading s r).runs f h
    ∙ sym (history_verdicts s (own_runs s) (own_fresh s f.accepted) h)

-- the text by the answers
abbrev text_by : Logged → List Report → List ℕ
text_by l ws = lines_from 1 ws ++ (if l.cut then cut_line else [])

accepted_text : (s log : List ℕ) → (read_image s).code ≡ 0 → replay_text s log ≡ header_line ++ text_of (tables_in s) (image_state s) log
accepted_text s log e = simp (eq-eqb (read_image s).code 0 e)

pub replay_of_rig : ReplayOfRig
replay_of_rig s r e cs ds reading ended small ends =
    let g : Config = loaded_tables s r in
    let t : State = state_in (loading s r).runs in
    let z = text_of_pieces g t cs ds reading ended small ends in
    let l : Logged = logged_from (read_by cs) 0 in
    let same : text_of g t (read_by cs) ≡ text_of (tables_in s) (image_state s) (read_by cs) = ap (text_by l) (own_answers s r e l.calls) in
    ap (λ (xs : List ℕ). header_line ++ xs) (z.text_is ∙ same) ∙ sym (accepted_text s (read_by cs) (loaded_fresh s r e).accepted)

pub refused_rig : RefusedRig
refused_rig s log n = simp (ne_eqb (read_image s).code 0 n) (append-nil (refused_line (read_image s).code (read_image s).offset))

-- ---- case 14
abbrev sheet_reports : List Report
sheet_reports =
    report 0 (some 8) (some 100000)
    ∷ report 9 none (some 199800)
    ∷ report 0 (some 8) (some 0)
    ∷ report 8 none (some 0)
    ∷ report 4 none none
    ∷ []

sheet_computed : call_answers (config_by account_p answer_p) full sheet_calls ≡ sheet_reports
unfolding History.answers called routed frame_code length_code number_at found_in leading link_at account_held terms_at in_use_by decided ports_sound sizes_sound link_sound terms_good bag added charge rate capacity by_octets charged cost account_sound credit_up_to judged judged_at policed port_code
sheet_computed = refl

sheet_answers : call_answers (tables_in image_p) (image_state image_p) sheet_calls ≡ sheet_reports
sheet_answers =
    let e = image_p_reads.0 in
    history_verdicts image_p (own_runs image_p) (own_fresh image_p (ap (λ (q : ImageAnswer). q.code) e)) sheet_calls
    ∙ sym (history_verdicts image_p (runs_of_lem account_p) fresh_p sheet_calls)
    ∙ ap (λ (q : ImageAnswer). call_answers (config_by account_p q) full sheet_calls) e
    ∙ sheet_computed

abbrev Fits : Call → Type 0
Fits f = (f.time < 2 ^ 64) × (9 + length f.octets < 2 ^ 16)

sheet_recordable : (f : Call) → Memᴰ f sheet_calls → Fits f
sheet_recordable f i =
    let two : (g : Call) → Fits g → f ≡ g → Fits f = λ g k e. subst Fits (sym e) k in
    ⊎_elim (two _ (lit< tt, lit< tt))
    (λ i. ⊎_elim (two _ (lit< tt, lit< tt))
    (λ i. ⊎_elim (two _ (lit< tt, lit< tt))
    (λ i. ⊎_elim (two _ (lit< tt, lit< tt))
    (λ i. ⊎_elim (two _ (lit< tt, lit< tt))
    (λ i. absurd (Memᴰ.not-nil i))
    (Memᴰ.cases_cons i)) (Memᴰ.cases_cons i)) (Memᴰ.cases_cons i)) (Memᴰ.cases_cons i)) (Memᴰ.cases_cons i)

-- the text of a log that holds these calls, cut or not
sheet_lines : header_line ++ lines_from 1 sheet_reports ≡ sheet_text
unfolding lines_from frame_line word_of digits_of width_of leading
sheet_lines = refl

sheet_text_lem : (log : List ℕ) (cut : Bool) → logged_from log 0 ≡ logged_of sheet_calls cut
    → replay_text image_p log ≡ sheet_text ++ (if cut then cut_line else [])
sheet_text_lem log cut e =
    accepted_text image_p log (ap (λ (q : ImageAnswer). q.code) image_p_reads.0)
    ∙ ap (λ (l : Logged). header_line ++ text_after (tables_in image_p) (image_state image_p) 0 l) e
    ∙ ap (λ (ws : List Report). header_line ++ (lines_from 1 ws ++ (if cut then cut_line else []))) sheet_answers
    ∙ sym (append_assoc header_line (lines_from 1 sheet_reports) (if cut then cut_line else []))
    ∙ ap (λ (xs : List ℕ). xs ++ (if cut then cut_line else [])) sheet_lines

ends_there : (next_in [] 0 true ≡ End) × (next_in (16 ∷ []) 0 true ≡ Cut)
unfolding next_in unsettled number_at
ends_there = (refl, refl)

-- no image at all
no_image_line : refused_line 20 0 ≡ 105 ∷ 109 ∷ 97 ∷ 103 ∷ 101 ∷ 32 ∷ 50 ∷ 48 ∷ 32 ∷ 48 ∷ 10 ∷ []
unfolding refused_line word_of digits_of width_of leading
no_image_line = refl

no_image_text : (log : List ℕ) → replay_text [] log ≡ 105 ∷ 109 ∷ 97 ∷ 103 ∷ 101 ∷ 32 ∷ 50 ∷ 48 ∷ 32 ∷ 48 ∷ 10 ∷ []
unfolding head_d
no_image_text log =
    let e : answered [] ≡ (20, 0) = ap (λ (xs : List (ℕ × ℕ)). head_d xs (0, 0)) case_thirteen in
    let c : (read_image []).code ≡ 20 = ap (λ (q : ℕ × ℕ). q.0) e in
    let o : (read_image []).offset ≡ 0 = ap (λ (q : ℕ × ℕ). q.1) e in
    refused_rig [] log (λ z. omega arith) ∙ ap₂ refused_line c o ∙ no_image_line

pub case_fourteen : CaseFourteen
case_fourteen = (
  sheet_text_lem (records_of sheet_calls) false
      (ap (λ (xs : List ℕ). logged_from xs 0) (sym (append-nil (records_of sheet_calls)))
      ∙ (log_reads_back sheet_calls [] sheet_recordable).0 ends_there.0)
      ∙ append-nil sheet_text,
  sheet_text_lem (records_of sheet_calls ++ (16 ∷ [])) true ((log_reads_back sheet_calls (16 ∷ []) sheet_recordable).1 ends_there.1),
  (λ log. no_image_text log),
)
