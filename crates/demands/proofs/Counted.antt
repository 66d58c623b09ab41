-- Which frames of a history the rule's sums are about, by the answers that they got. Assumes nothing.
use Prim.Native.Nat.{ℕ, ◌≤◌}
use mathlib.Core.Bool.{Bool, true, false, ◌&&◌, and-false, false≢true}
use mathlib.Core.List.{List, [], ◌∷◌, map, zip, reverse, reverse_aux}
use mathlib.Core.Path.{◌≡◌, sym, ap, ◌∙◌}
use native.Mathlib.Omega.{arith}
use lib.ListN.{length}
use lib.Dec.{leb, eqb}
use borrow.Author.Tests.{eqb-true, eqb-false}
use Rattle.std.specs.Prelude.{if◌then◌else◌}
use Rattle.lists.specs.History.{answers}
use Rattle.lists.specs.Lists.{only}
use Rattle.lists.proofs.History.{collected, final_calls}
use Rattle.lists.proofs.Tests.{split, both}
use Rattle.frame.specs.Frame.{length_code}
use Rattle.account_rule.specs.Bucket.{Reached}
use Rattle.account_rule.specs.Rule.{rule_arrived}
use Rattle.account_rule.specs.Counted.{reaching}
use Rattle.account_rule.proofs.Counted.{not_reaching, arrived_counted, past_rises}
use Rattle.rows.specs.Rows.{Found}
use Rattle.std.specs.Prelude.{Some, None}
use Rattle.image_read.specs.Read.{read_image}
use Rattle.filter.proofs.Filter.{frame_zero}
use Rattle.switch.specs.Call.{Call}
use Rattle.demands.specs.Rule.{image_terms, link_row, filter_code, names, destination_octets, meant, reached_in, account_named, rule_code, rule_of_calls}
use Rattle.demands.specs.Counted.{reached_with, counted_in, ReachedByAnswers, TimesNeverFall}
use Rattle.demands.proofs.Filter.{frame_code_lem, filter_frame, passes_none}
use Rattle.demands.proofs.Rule.{reached_none, reached_same, reached_more, rule_of_fresh_tables}
use Rattle.demands.proofs.Words.{code_arrived, code_filtered, filter_code_high}

-- the account that a frame is meant for is the one that its link names
named_by : (s : List ℕ) (a : ℕ) (d : Found) → names s a d ≡ true → account_named s d ≡ a
named_by s a None e = absurd (false≢true e)
named_by s a (Some j) e = eqb-true _ _ e

-- a frame that the filter lets through has a frame's size
let_through : (s : List ℕ) (f : Call) → filter_code s f ≡ 0 → length_code (length f.octets) ≡ 0
let_through s f z =
    split (eqb (frame_code_lem s f) 0)
    (λ e. frame_zero (read_image s).settings.constant f.octets (eqb-true _ _ e))
    (λ e. let m = eqb-false _ _ e in absurd (m (sym (filter_frame s f m) ∙ z)))

module _ (s : List ℕ) (a : ℕ) (past : List Call) (f : Call) where
  named : meant s a f ≡ true → account_named s (link_row s f) ≡ a
  unfolding meant
  named e = named_by s a (link_row s f) (both (leb destination_octets (length f.octets)) (names s a (link_row s f)) e).1

  abbrev code : ℕ
  code = rule_code s past f

  -- a frame is added by its code
  abbrev added : Bool → List Reached
  added b = if b then counted_in s a (f, code) ∷ reached_in s past a else reached_in s past a

  counted : reached_in s (f ∷ past) a ≡ added (reached_with s a (f, code))
  counted =
      split (eqb (filter_code s f) 0)
      (λ e.
      let z : filter_code s f ≡ 0 = eqb-true _ _ e in
      split (meant s a f)
      (λ m.
      let c : code ≡ (rule_arrived (image_terms s a) (reached_in s past a) (length f.octets) f.time).code =
      code_arrived s past f z
      ∙ ap (λ (i : ℕ). (rule_arrived (image_terms s i) (reached_in s past i) (length f.octets) f.time).code) (named m) in
      reached_more s f a past (ap (λ (b : Bool). b && eqb (filter_code s f) 0) m ∙ e) (let_through s f z)
      ∙ arrived_counted (image_terms s a) (reached_in s past a) (length f.octets) f.time
      ∙ ap (λ (k : ℕ). if reaching k then counted_in s a (f, k) ∷ reached_in s past a else reached_in s past a) (sym c)
      ∙ ap added (sym (ap (λ (b : Bool). b && reaching code) m)))
      (λ m.
      reached_same s f a past (ap (λ (b : Bool). b && eqb (filter_code s f) 0) m)
      ∙ ap added (sym (ap (λ (b : Bool). b && reaching code) m))))
      (λ e.
      let d : (filter_code s f ≡ 0 → ⊥) = eqb-false _ _ e in
      let k : filter_code s f ≤ 7 = filter_code_high s f in
      let c : code ≡ filter_code s f = code_filtered s past f d in
      let n : reaching code ≡ false = not_reaching code (λ q. d (sym c ∙ q)) (λ q. omega arith) in
      reached_same s f a past (passes_none s f a d)
      ∙ ap added (sym (ap (λ (b : Bool). meant s a f && b) n ∙ and-false (meant s a f))))

pub reached_by_answers : ReachedByAnswers
reached_by_answers s r fresh h a =
    ap (λ (past : List Call). reached_in s past a) (sym (final_calls (rule_code s) h []))
    ∙ collected (rule_of_calls s) (λ past. reached_in s past a) (reached_with s a) (counted_in s a) (counted s a) h []
    ∙ ap (λ (z : List Reached). reverse_aux (map (counted_in s a) (only (reached_with s a) (zip h (answers (rule_of_calls s) [] h)))) z) (reached_none s a)
    ∙ ap (λ (codes : List ℕ). reverse (map (counted_in s a) (only (reached_with s a) (zip h codes)))) (sym (rule_of_fresh_tables s r fresh h))

pub times_never_fall : TimesNeverFall
unfolding reached_in
times_never_fall s past a = past_rises (image_terms s a) _
