-- A field spelled and read, both ways. Assumes nothing.
use Prim.Native.Nat.{ℕ, ◌+◌, ◌≤◌}
use mathlib.Core.List.{List, ◌++◌}
use mathlib.Core.Bool.{true}
use mathlib.Core.Path.{◌≡◌, refl, sym, ap, ◌∙◌}
use native.Mathlib.Nat.{add-zero}
use native.Mathlib.Omega.{arith}
use lib.ListN.{length, length-append}
use borrow.Author.Tests.{le-leb}
use Rattle.octets.specs.Numbers.{number_at}
use Rattle.octets.specs.Runs.{octets_at}
use Rattle.octets.proofs.Parts.{part_front, part_after, part_whole}
use Rattle.fields.specs.Fields.{field_of, tag_and_length, length_at, stands_at}
use Rattle.fields.specs.Claims.{FieldReadsBack, FieldSpelled, FieldFigures}
use Rattle.fields.proofs.Fields.{length_field, field_is, tag_read, length_read, data_read, field_spelled, stands_tag, stands_length}

-- a spelled field stands whole between other octets
module _ (before after bytes : List ℕ) (tag : ℕ) where
  abbrev run : List ℕ
  run = before ++ field_of tag bytes ++ after

  found : octets_at (tag_and_length + length bytes) run (length before) ≡ field_of tag bytes
  found =
      let n = length_field tag bytes in
      let l = length-append before (field_of tag bytes) in
      ap (λ (w : ℕ). octets_at w run (length before)) (sym n)
      ∙ part_front (length (field_of tag bytes)) (before ++ field_of tag bytes) after (length before) (omega arith)
      ∙ ap (octets_at (length (field_of tag bytes)) (before ++ field_of tag bytes)) (sym (add-zero (length before)))
      ∙ part_after (length (field_of tag bytes)) before (field_of tag bytes) (length before) 0 refl
      ∙ part_whole (field_of tag bytes)

  long : length before + (tag_and_length + length bytes) ≤ length run
  long =
      let n = length_field tag bytes in
      let l = length-append before (field_of tag bytes) in
      let m = length-append (before ++ field_of tag bytes) after in
      omega arith

pub field_reads_back : FieldReadsBack
field_reads_back before after bytes tag h =
    let s : List ℕ = before ++ field_of tag bytes ++ after in
    let f = found before after bytes tag in
    let l = long before after bytes tag in
    let n : length_at s (length before) ≡ length bytes = length_read s (length before) (length bytes) tag bytes refl f h in (
      sym (field_is s (length before) true true tag (length bytes)
          (sym (le-leb (length before + tag_and_length) (length s) (omega arith)))
          (sym (tag_read s (length before) (length bytes) tag bytes refl f))
          (sym n)
          (sym (le-leb (length before + (tag_and_length + length bytes)) (length s) l))),
      data_read s (length before) (length bytes) tag bytes refl f,
    )

pub field_is_spelled : FieldSpelled
field_is_spelled s at tag size o e =
    field_spelled s at size tag o (stands_tag s at tag size e) (stands_length s at tag size e)

pub field_figures : FieldFigures
unfolding number_at stands_at
field_figures = (refl, refl, refl, refl)
