-- `put_refused_image`: its characters and two words, and then the line. Assumes nothing.
use native.Mathlib.Omega.{arith}
use Rattle.octets.proofs.Parts.{part_whole}
use Rattle.replay_text.specs.Text.{space, line_end, image_word, refused_line}
use Rattle.replay_words.proofs.Words.{three, line_appended, word_most, word_code}
use Rattle.replay_text.proofs.put_refused_image.Goals as goal

pub returns : goal.returns
unfolding refused_line
returns c =
    let a = c.args in
    line_appended _ _ _ _ _ _
    (three _ image_word _ _ _ _ _ _ _ _ (line_appended _ _ _ _ _ _ (part_whole image_word) c.put_text-a.ensures) c.put_word-b.ensures c.put_word-c.ensures
    (omega (arith, word_code a.code space c.ranges.code.fits, word_most a.offset line_end)))
    c.put_text.ensures
