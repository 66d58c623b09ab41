-- `put_line`: three words, and then the line. Assumes nothing.
use mathlib.Core.Path.{◌∙◌}
use native.Mathlib.Omega.{arith}
use Rattle.replay_text.specs.Text.{space, frame_line}
use Rattle.replay_words.proofs.Words.{three, line_appended, word_most, word_code}
use Rattle.replay_text.proofs.Lines.{line_named, line_fits}
use Rattle.replay_text.proofs.put_line.Goals as goal

pub returns : goal.returns
unfolding frame_line
returns c =
    let a = c.args in
    let w = c.put_credit-c.ensures in
    let k = c.code.ensures in
    let o = c.credit.ensures in record {
      line_put = line_appended _ _ _ _ _ _
          (three _ _ _ _ _ _ _ _ _ _ c.put_word-a.ensures c.put_word-b.ensures w.word_put
          (omega (arith, word_most a.number space, word_code c.code.result space c.code.type_inv, w.fits))
          ∙ line_named a.verdict a.number c.code.result c.credit.result k o)
          c.put_text.ensures;
      fits = line_fits a.verdict a.number c.code.result c.credit.result k o c.code.type_inv w.fits;
    }
