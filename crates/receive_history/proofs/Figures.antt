-- A history in figures, computed by the rule. Assumes nothing.
use Prim.Native.Nat.{ℕ, zero, suc, ◌<◌}
use mathlib.Core.Bool.{Bool, true, ◌&&◌}
use mathlib.Core.List.Memᴰ
use mathlib.Core.List.{List, [], ◌∷◌, map}
use mathlib.Core.Logic.{⊎_elim}
use mathlib.Core.Path.{◌≡◌, refl, sym, ap, ◌∙◌, subst}
use lib.ListN.{get_or, replicate}
use lib.Dec.{ltb}
use borrow.Author.Tests.{ltb-true}
use Rattle.lists.specs.History.{answers}
use Rattle.lists.specs.Leading.{leading}
use Rattle.lists.specs.Lists.{only}
use Rattle.lists.proofs.Tests.{both}
use Rattle.octets.specs.Numbers.{number_at}
use Rattle.rows.specs.Rows.{found_in}
use Rattle.receive_sequence.specs.Sequence.{number_count, next, passes}
use Rattle.receive_answer.specs.Answer.{reception_code, in_skew, reception_by}
use Rattle.receive_answer.specs.declared.Arrival.{Arrival}
use Rattle.receive.specs.Lent.{word, skew_in, rows_in_use, row_found}
use Rattle.receive_history.specs.History.{Answered, Octets}
use Rattle.receive_history.specs.Rule.{newest_time, newest_number, unmet, rule_on, rule_answer, rule_answers}
use Rattle.receive_history.specs.Figures.{skew_ten, frames_in_figures, HistoryInFigures, ZerosAreEmpty}
use Rattle.receive_history.proofs.Rule.{rule_of_receptions}

-- whether all numbers are octets, by tests
abbrev low : List Arrival → Bool
low [] = true
low (f ∷ h) = ltb f.number number_count && low h

low_octets : (h : List Arrival) → low h ≡ true → Octets h
low_octets [] e f i = absurd (Memᴰ.not-nil i)
low_octets (g ∷ h) e f i =
    let b = both (ltb g.number number_count) (low h) e in
    ⊎_elim (λ q. subst (λ (x : Arrival). x.number < number_count) (sym q) (ltb-true _ _ b.0)) (low_octets h b.1 f) (Memᴰ.cases_cons i)

by_rule : map (λ a. reception_code a.says) (rule_answers skew_ten 2054 frames_in_figures) ≡ 0 ∷ 8 ∷ 30 ∷ 31 ∷ 31 ∷ 0 ∷ 4 ∷ 31 ∷ 0 ∷ 0 ∷ 0 ∷ 30 ∷ []
unfolding answers rule_answer rule_on newest_time newest_number unmet only reception_by in_skew passes next skew_in row_found rows_in_use found_in leading number_at
by_rule = refl

pub history_in_figures : HistoryInFigures
history_in_figures r n z =
    ap (map (λ (a : Answered). reception_code a.says))
    (rule_of_receptions skew_ten r z frames_in_figures (low_octets frames_in_figures refl)
    ∙ ap (λ (k : ℕ). rule_answers skew_ten k frames_in_figures) n)
    ∙ by_rule

zeros : (n i : ℕ) → ◌≡◌ {A = ℕ} (get_or (replicate n 0) i 0) 0
zeros zero i = refl
zeros (suc n) zero = refl
zeros (suc n) (suc i) = zeros n i

pub zeros_are_empty : ZerosAreEmpty
unfolding word
zeros_are_empty rows n j h k l = zeros n _
