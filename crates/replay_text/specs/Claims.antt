-- What holds of lines whatever they are (document 01, "The replay program"); proved in proofs/Claims.antt.
use Rattle.std.specs.Prelude.{ℕ, ◌^◌, ◌≤◌, ◌<◌, [], ◌∷◌, ◌++◌, ◌≡◌, length}
use Rattle.std.proofs.Math.Option.{none, some}
use Rattle.codes.specs.Refused.{number_of}
use Rattle.codes.specs.declared.Refusal.{Refusal}
use Rattle.switch_verdict.specs.Verdict.{reported}
use Rattle.switch_verdict.specs.declared.Verdict.TheVariants.{Forwarded, Short, Late, Refused}
use Rattle.replay_words.specs.Words.{word_of}
use Rattle.replay_text.specs.Text.{frame_line, line_of, refused_line, header_line, cut_line, longest_line}

-- no line is longer than the longest
abbrev pub LinesFit : Type 0
LinesFit =
    (number code credit offset : ℕ) → code < 2 ^ 8 → credit < 2 ^ 32
    → (length (frame_line number code none) ≤ longest_line) × (length (frame_line number code (some credit)) ≤ longest_line)
    × (length (refused_line code offset) ≤ longest_line) × (length header_line ≤ longest_line) × (length cut_line ≤ longest_line)

-- the line of every verdict in words: number, code, and the credit of 0, 9 and 8, else a dash (45), with a space (32) between
-- them and the line's end (10) after them; a dash after every code that is reported as refused, and after every refusal's; and the
-- line of every refused image: `image`, its code, its offset
abbrev pub LinesByVerdict : Type 0
LinesByVerdict =
    ((number mask credit code offset : ℕ)
    → (line_of number (reported (Forwarded mask credit)) ≡ word_of number 32 ++ word_of 0 32 ++ word_of credit 10)
    × (line_of number (reported (Short credit)) ≡ word_of number 32 ++ word_of 9 32 ++ word_of credit 10)
    × (line_of number (reported (Late credit)) ≡ word_of number 32 ++ word_of 8 32 ++ word_of credit 10)
    × (line_of number (reported (Refused code)) ≡ word_of number 32 ++ word_of code 32 ++ (45 ∷ 10 ∷ []))
    × (refused_line code offset ≡ (105 ∷ 109 ∷ 97 ∷ 103 ∷ 101 ∷ 32 ∷ []) ++ word_of code 32 ++ word_of offset 10))
    × ((number : ℕ) (r : Refusal)
    → line_of number (reported (Refused (number_of r))) ≡ word_of number 32 ++ word_of (number_of r) 32 ++ (45 ∷ 10 ∷ []))

-- case 14 of the bench sheet, from its verdicts, character by character: `# frame code credit`, `1 0 100000`, `2 9 199800`,
-- `3 0 0`, `4 8 0`, `5 4 -`
abbrev pub SheetLines : Type 0
SheetLines =
    (header_line
    ≡ 35 ∷ 32 ∷ 102 ∷ 114 ∷ 97 ∷ 109 ∷ 101 ∷ 32 ∷ 99 ∷ 111 ∷ 100 ∷ 101 ∷ 32 ∷ 99 ∷ 114 ∷ 101 ∷ 100 ∷ 105 ∷ 116 ∷ 10 ∷ [])
    × (line_of 1 (reported (Forwarded 8 100000)) ≡ 49 ∷ 32 ∷ 48 ∷ 32 ∷ 49 ∷ 48 ∷ 48 ∷ 48 ∷ 48 ∷ 48 ∷ 10 ∷ [])
    × (line_of 2 (reported (Short 199800)) ≡ 50 ∷ 32 ∷ 57 ∷ 32 ∷ 49 ∷ 57 ∷ 57 ∷ 56 ∷ 48 ∷ 48 ∷ 10 ∷ [])
    × (line_of 3 (reported (Forwarded 8 0)) ≡ 51 ∷ 32 ∷ 48 ∷ 32 ∷ 48 ∷ 10 ∷ [])
    × (line_of 4 (reported (Late 0)) ≡ 52 ∷ 32 ∷ 56 ∷ 32 ∷ 48 ∷ 10 ∷ [])
    × (line_of 5 (reported (Refused 4)) ≡ 53 ∷ 32 ∷ 52 ∷ 32 ∷ 45 ∷ 10 ∷ [])

-- lines that case 14 doesn't have: `26 8 1975`, `37 10 -`, `cut`, and `image 20 33` and `image 25 36` of case 13
abbrev pub OtherLines : Type 0
OtherLines =
    (line_of 26 (reported (Late 1975)) ≡ 50 ∷ 54 ∷ 32 ∷ 56 ∷ 32 ∷ 49 ∷ 57 ∷ 55 ∷ 53 ∷ 10 ∷ [])
    × (line_of 37 (reported (Refused 10)) ≡ 51 ∷ 55 ∷ 32 ∷ 49 ∷ 48 ∷ 32 ∷ 45 ∷ 10 ∷ [])
    × (cut_line ≡ 99 ∷ 117 ∷ 116 ∷ 10 ∷ [])
    × (refused_line 20 33 ≡ 105 ∷ 109 ∷ 97 ∷ 103 ∷ 101 ∷ 32 ∷ 50 ∷ 48 ∷ 32 ∷ 51 ∷ 51 ∷ 10 ∷ [])
    × (refused_line 25 36 ≡ 105 ∷ 109 ∷ 97 ∷ 103 ∷ 101 ∷ 32 ∷ 50 ∷ 53 ∷ 32 ∷ 51 ∷ 54 ∷ 10 ∷ [])
