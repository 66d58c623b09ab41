-- The lines of a replay, as characters (document 01, "The replay program" and case 14 of its bench sheet).
use Rattle.std.specs.Prelude
use Rattle.std.specs.Prelude.{ℕ, List, [], ◌∷◌, ◌++◌, Some, None}
use Rattle.std.proofs.Math.Option.{Option, none, some}
use Rattle.switch_verdict.specs.Verdict.{Report}
use Rattle.replay_words.specs.Words.{word_of}

-- a space, the end of a line, and the dash that stands for no credit
abbrev pub space : ℕ
space = 32

abbrev pub line_end : ℕ
line_end = 10

abbrev pub dash : ℕ
dash = 45

-- a credit that the code has or lacks
abbrev pub credit_of : Prelude.Option ℕ → Option ℕ
credit_of None = none
credit_of (Some c) = some c

-- the credit reported, which codes 0, 8 and 9 have, and the line's end
abbrev pub credit_word : Option ℕ → List ℕ
credit_word none = dash ∷ line_end ∷ []
credit_word (some c) = word_of c line_end

-- the line of a frame: its number, its code, its credit; and by what its answer reports
unfoldable pub frame_line : ℕ → ℕ → Option ℕ → List ℕ
frame_line number code credit = word_of number space ++ word_of code space ++ credit_word credit

abbrev pub line_of : ℕ → Report → List ℕ
line_of number w = frame_line number w.code w.credit

-- `image `, then the code and the offset of a refused image
abbrev pub image_word : List ℕ
image_word = 105 ∷ 109 ∷ 97 ∷ 103 ∷ 101 ∷ 32 ∷ []

unfoldable pub refused_line : ℕ → ℕ → List ℕ
refused_line code offset = image_word ++ word_of code space ++ word_of offset line_end

-- `# frame code credit`
abbrev pub header_line : List ℕ
header_line = 35 ∷ 32 ∷ 102 ∷ 114 ∷ 97 ∷ 109 ∷ 101 ∷ 32 ∷ 99 ∷ 111 ∷ 100 ∷ 101 ∷ 32 ∷ 99 ∷ 114 ∷ 101 ∷ 100 ∷ 105 ∷ 116 ∷ 10 ∷ []

-- `cut`
abbrev pub cut_line : List ℕ
cut_line = 99 ∷ 117 ∷ 116 ∷ 10 ∷ []

-- no line is longer: 20 digits, 3 digits and 10 digits, each with a character after it
abbrev pub longest_line : ℕ
longest_line = 36
