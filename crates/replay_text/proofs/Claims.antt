-- What holds of lines whatever they are. Assumes nothing.
use mathlib.Core.Path.{refl}
use native.Mathlib.Omega.{arith}
use lib.ListN.{length-append}
use Rattle.lists.specs.Leading.{leading}
use Rattle.replay_words.specs.Digits.{digits_of, width_of}
use Rattle.replay_text.specs.Text.{space, line_end, frame_line, refused_line}
use Rattle.replay_words.specs.Words.{word_of}
use Rattle.replay_text.specs.Claims.{LinesFit, LinesByVerdict, SheetLines, OtherLines}
use Rattle.replay_words.proofs.Words.{word_most, word_code, word_credit}

pub lines_fit : LinesFit
unfolding frame_line refused_line
lines_fit number code credit offset h k =
    let a = word_most number space in
    let b = word_code code space h in
    let c = word_credit credit line_end k in
    let d = word_most offset line_end in (
      simp length-append (omega arith),
      simp length-append (omega arith),
      simp length-append (omega arith),
      omega arith,
      omega arith,
    )

pub lines_by_verdict : LinesByVerdict
unfolding frame_line refused_line
lines_by_verdict = ((λ _ _ _ _ _. (refl, refl, refl, refl, refl)), (λ _ _. refl))

pub sheet_lines : SheetLines
unfolding frame_line word_of digits_of width_of leading
sheet_lines = (refl, refl, refl, refl, refl, refl)

pub other_lines : OtherLines
unfolding frame_line refused_line word_of digits_of width_of leading
other_lines = (refl, refl, refl, refl, refl)
