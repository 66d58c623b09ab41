-- Rows and memories in figures, computed; a spelled row read back; rows in use. Assumes nothing.
use Prim.Native.Nat.{ℕ}
use mathlib.Core.List.{List, ◌++◌}
use mathlib.Core.Path.{refl}
use native.Mathlib.Omega.{arith}
use Rattle.lists.specs.Leading.{leading}
use Rattle.octets.specs.Numbers.{number_at}
use Rattle.octets.specs.Spelled.{spelled}
use Rattle.octets.proofs.Spelled.{spelled_reads, read_at}
use Rattle.rows.specs.Rows.{found_in}
use Rattle.receive_sequence.specs.Sequence.{number_of}
use Rattle.receive_answer.specs.Answer.{delivery_of}
use Rattle.receive.specs.Lent.{skew_in, rows_in_use, row_found}
use Rattle.receive.specs.Figures.{SkewRowFigures, skew_parts, SkewRowReads, RowsInUseExactly, MemoryFigures}

pub skew_row_figures : SkewRowFigures
unfolding skew_in row_found rows_in_use found_in leading number_at
skew_row_figures = (refl, refl)

pub memory_figures : MemoryFigures
unfolding number_of delivery_of
memory_figures = (refl, refl, refl, refl, refl, refl, refl, refl, refl, refl, refl)

pub rows_in_use_exactly : RowsInUseExactly
unfolding rows_in_use
rows_in_use_exactly =
    record {
      row = λ octets words j. (λ h. (omega arith, omega arith), λ h. omega (arith, h.0, h.1));
      whole = λ n. omega arith;
      word_short = λ n. omega arith;
      octet_short = λ n. omega arith;
    }

pub skew_row_reads : SkewRowReads
unfolding skew_in
skew_row_reads number skew j before after fit e =
    let s : List ℕ = before ++ spelled (skew_parts number skew) ++ after in
    let r = spelled_reads (skew_parts number skew) before after fit in
    (read_at 2 s r.0 e, read_at 4 s r.1.0 (omega arith))
