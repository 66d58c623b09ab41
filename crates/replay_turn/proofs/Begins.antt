-- How a replay begins. Assumes nothing.
use Prim.Native.Nat.{ℕ, ◌+◌, ◌≤◌}
use mathlib.Core.List.{List}
use mathlib.Core.Path.{◌≡◌, refl, ap, ap₂, ◌∙◌}
use native.Mathlib.Omega.{arith}
use lib.ListN.{length, take, drop}
use lib.Seq.{take_at}
use lib.Dec.{lit<}
use borrow.Author.Tests.{eq-eqb, ne_eqb}
use Rattle.octets.specs.Runs.{put}
use Rattle.octets.proofs.Runs.{put_fits}
use Rattle.replay_words.specs.Words.{next_offset}
use Rattle.replay_words.proofs.Words.{appended_next}
use Rattle.replay_text.specs.Text.{refused_line, header_line, longest_line}
use Rattle.replay_text.proofs.Claims.{lines_fit}
use Rattle.replay_turn.specs.declared.Stop.{Stop}
use Rattle.replay_turn.specs.declared.Stop.TheVariants.{Octets, Finished}
use Rattle.replay_turn.specs.Parts.{opening_text, opening_stop}
use Rattle.replay_turn.specs.Joins.{BeginsWith, Beginnings}

begins : (code offset : ℕ) (d text : List ℕ) (stop : Stop) → opening_text code offset ≡ text → opening_stop code ≡ stop
    → length text ≤ length d → BeginsWith code offset d text stop
begins code offset d text stop p q l =
    let n : next_offset d 0 text ≡ 0 + length text = appended_next d 0 text _ (put d 0 text) refl (omega arith) in (
      ap (λ (xs : List ℕ). take (next_offset d 0 xs) (put d 0 xs)) p
          ∙ ap₂ take n (put_fits d 0 text (omega arith))
          ∙ take_at text (drop (0 + length text) d) (0 + length text) (omega arith),
      q,
    )

pub beginnings : Beginnings
beginnings code offset d h l =
    let f = lines_fit 0 code 0 offset h (lit< tt) in
    let a : length (refused_line code offset) ≤ longest_line = f.2 in
    let b : length header_line ≤ longest_line = f.3 in (
      (λ z. begins code offset d header_line Octets (simp (eq-eqb code 0 z)) (simp (eq-eqb code 0 z)) (omega arith)),
      (λ z. begins code offset d (refused_line code offset) Finished (simp (ne_eqb code 0 z)) (simp (ne_eqb code 0 z)) (omega arith)),
    )
