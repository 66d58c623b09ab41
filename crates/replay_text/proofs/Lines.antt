-- Laws of a frame's line, by the code and the credit of a verdict. Assumes nothing.
use Prim.Native.Nat.{ℕ, ◌^◌, ◌≤◌, ◌<◌}
use mathlib.Core.Path.{◌≡◌, refl}
use native.Mathlib.Omega.{arith}
use lib.ListN.{length, length-append}
use Rattle.std.specs.Prelude.{Option, Some}
use Rattle.switch_verdict.specs.Verdict.{reported, verdict_credit}
use Rattle.switch_verdict.specs.declared.Verdict.{Verdict}
use Rattle.switch_verdict.specs.declared.Verdict.TheVariants.{Forwarded, Short, Late, Refused}
use Rattle.replay_words.proofs.Words.{word_most, word_code, word_credit}
use Rattle.replay_text.specs.Text.{space, line_end, credit_of, credit_word, frame_line, line_of, longest_line}

pub credit_fits : (o : Option ℕ) (c : ℕ) → o ≡ Some c → c < 2 ^ 32 → length (credit_word (credit_of o)) ≤ 11
credit_fits o c e h = rw e (word_credit c line_end h)

-- the credit that a verdict carries is the one that it reports
pub credit_named : (v : Verdict) → credit_of (verdict_credit v) ≡ (reported v).credit
credit_named (Forwarded m c) = refl
credit_named (Short c) = refl
credit_named (Late c) = refl
credit_named (Refused n) = refl

module _ (v : Verdict) (number code : ℕ) (o : Option ℕ) (e : code ≡ (reported v).code) (f : o ≡ verdict_credit v) where
  pub line_named : frame_line number code (credit_of o) ≡ line_of number (reported v)
  line_named = rw (e, f, credit_named v) refl

  pub line_fits : code < 2 ^ 8 → length (credit_word (credit_of o)) ≤ 11 → length (line_of number (reported v)) ≤ longest_line
  unfolding frame_line
  line_fits h k =
      rw (← line_named) (simp length-append (omega (arith, word_most number space, word_code code space h)))
