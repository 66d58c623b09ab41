-- The line of a frame, by the frames before it. Assumes nothing.
use Prim.Native.Nat.{ℕ, suc, ◌+◌}
use mathlib.Core.List.{List, [], ◌∷◌, ◌++◌, append_assoc, append-nil}
use mathlib.Core.Path.{◌≡◌, refl, sym, ap, ap₂, ◌∙◌}
use native.Mathlib.Omega.{arith}
use lib.ListN.{length}
use Rattle.lists.specs.History.{answers}
use Rattle.lists.proofs.History.{answers_append}
use Rattle.tables.specs.Rows.{Config}
use Rattle.switch_verdict.specs.Verdict.{Report}
use Rattle.switch.specs.Call.{State, Call, called}
use Rattle.switch.specs.History.{calls_on, call_answers, final_state}
use Rattle.replay_text.specs.Text.{line_of, cut_line}
use Rattle.replay_turn.specs.Text.{lines_from}
use Rattle.replay_turn.specs.Joins.{TextByFrames}

lines_append : (k : ℕ) (xs ys : List Report) → lines_from k (xs ++ ys) ≡ lines_from k xs ++ lines_from (length xs + k) ys
unfolding lines_from
lines_append k [] ys = let z : k ≡ 0 + k = omega arith in ap (λ (m : ℕ). lines_from m ys) z
lines_append k (x ∷ xs) ys =
    let z : length xs + suc k ≡ length (x ∷ xs) + k = omega arith in
    ap (λ (r : List ℕ). line_of k x ++ r) (lines_append (suc k) xs ys ∙ ap (λ (m : ℕ). lines_from (suc k) xs ++ lines_from m ys) z)
    ∙ sym (append_assoc (line_of k x) (lines_from (suc k) xs) (lines_from (length (x ∷ xs) + k) ys))

length_answers : (g : Config) (h : List Call) (t : State) → length (call_answers g t h) ≡ length h
unfolding answers
length_answers g [] t = refl
length_answers g (f ∷ h) t = ap suc (length_answers g h (called g t f).state)

one_line : (g : Config) (t : State) (f : Call) (k : ℕ) → lines_from k (call_answers g t (f ∷ [])) ≡ line_of k (called g t f).says
unfolding lines_from answers
one_line g t f k = append-nil (line_of k (called g t f).says)

no_text : (g : Config) (t : State) → lines_from 1 (call_answers g t []) ++ [] ≡ []
unfolding lines_from answers
no_text g t = refl

pub text_by_frames : TextByFrames
text_by_frames g t h f =
    let ws : List Report = call_answers g t h in
    let last : List Report = call_answers g (final_state g t h) (f ∷ []) in
    let z : length ws + 1 ≡ length h + 1 = ap (λ (m : ℕ). m + 1) (length_answers g h t) in (
      no_text g t,
      append-nil (lines_from 1 (call_answers g t (h ++ (f ∷ []))))
          ∙ ap (lines_from 1) (answers_append (calls_on g) h (f ∷ []) t)
          ∙ lines_append 1 ws last
          ∙ ap₂ ◌++◌ (sym (append-nil (lines_from 1 ws)))
          (one_line g (final_state g t h) f (length ws + 1) ∙ ap (λ (m : ℕ). line_of m (called g (final_state g t h) f).says) z),
      ap (λ (xs : List ℕ). xs ++ cut_line) (sym (append-nil (lines_from 1 ws))),
    )
