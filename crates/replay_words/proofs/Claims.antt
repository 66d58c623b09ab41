-- What holds of the digits of any number of 64 bits. Assumes nothing.
use mathlib.Core.Path.{refl}
use Rattle.lists.specs.Leading.{leading}
use Rattle.octets.specs.Runs.{put}
use Rattle.replay_words.specs.Digits.{digits_of, width_of}
use Rattle.replay_words.specs.Words.{word_of, next_offset}
use Rattle.replay_words.specs.Claims.{DigitsReadBack, NoLeadingZero, DigitFigures, WordFigures}
use Rattle.replay_words.proofs.Decimal.{digits_read_lem, width_holds, first_digit, one_digit}

pub digits_read_back : DigitsReadBack
digits_read_back x h = digits_read_lem (width_of x) x (width_holds x h)

pub no_leading_zero : NoLeadingZero
no_leading_zero x h = (one_digit x, first_digit x h)

pub digit_figures : DigitFigures
unfolding digits_of width_of leading
digit_figures = (refl, refl)

pub word_figures : WordFigures
unfolding word_of digits_of width_of leading next_offset put
word_figures = (refl, (λ _ _. (refl, refl)), refl, refl, refl)
