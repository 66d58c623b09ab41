-- Laws of what is kept between turns. Assumes nothing.
use Prim.Native.Nat.{ℕ, ◌+◌, ◌-◌, ◌≤◌}
use mathlib.Core.List.{List, ◌++◌}
use mathlib.Core.Path.{◌≡◌, sym, ap, ◌∙◌}
use native.Mathlib.Omega.{arith}
use lib.ListN.{length, take, drop}
use lib.Seq.{take_at, take-add, length-take-le, drop-append_seam}
use Rattle.octets.specs.Runs.{octets_at, put}
use Rattle.octets.proofs.Parts.{length_part, part_take}
use Rattle.octets.proofs.Runs.{put_fits}
use Rattle.replay_turn.specs.Parts.{rest_octets}
use Rattle.replay_turn.specs.Claims.{RestKept}

drop_take : (n at : ℕ) (s : List ℕ) → at ≤ length s → drop at (take (at + n) s) ≡ take n (drop at s)
drop_take n at s h =
    ap (drop at) (take-add at n s)
    ∙ ap (λ (m : ℕ). drop m (take at s ++ take n (drop at s))) (sym (length-take-le at s h))
    ∙ drop-append_seam (take at s) (take n (drop at s))

pub rest_kept : RestKept
rest_kept s at filled h k =
    let n : ℕ = filled - at in
    let r : rest_octets s at filled ≡ n = omega arith in
    let xs : List ℕ = octets_at n s at in
    let l : length xs ≡ n = length_part n s at in
    let f : at + n ≡ filled = omega arith in
    ap (λ (m : ℕ). take m (put s 0 (octets_at m s at))) r
    ∙ ap (take n) (put_fits s 0 xs (omega arith))
    ∙ take_at xs (drop (0 + length xs) s) n l
    ∙ part_take n s at (omega arith)
    ∙ sym (drop_take n at s (omega arith))
    ∙ ap (λ (m : ℕ). drop at (take m s)) f
