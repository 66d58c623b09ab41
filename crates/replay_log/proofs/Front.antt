-- A part of a run moved to its front, with zeros for what lies past the end. Assumes nothing.
use Prim.Native.Nat.{ℕ, ◌+◌, ◌-◌, ◌≤◌, ◌<◌, min}
use mathlib.Core.Path.{◌≡◌, refl, sym, ap, ap₂, ◌∙◌}
use mathlib.Core.List.{List, ◌++◌, append_assoc}
use native.Mathlib.Nat.{zero-add}
use native.Mathlib.Omega.{arith}
use lib.ListN.{length, take, drop, replicate, length-append, length-drop}
use lib.Seq.{paste, length-take-le, take_at, drop-drop, drop_at}
use borrow.Rule.Slice.PartMut.{put_mid}
use Rattle.std.proofs.lemmas.List.{take_rest}
use Rattle.octets.specs.Runs.{octets_at, put}
use Rattle.octets.proofs.Runs.{put_fits, put_no_room}
use Rattle.octets.proofs.Parts.{length_part, part_padded}

pub front_none : (d : List ℕ) (at size : ℕ) → length d < size → d ≡ put d 0 (octets_at size d at)
front_none d at size h = sym (put_no_room d 0 _ (omega (arith, length_part size d at)))

module _ (d : List ℕ) (at size start n : ℕ) (h : size ≤ length d) (e : start ≡ min at (length d)) (f : n ≡ min size (length d - start)) where
  part : octets_at size d at ≡ take n (drop start d) ++ replicate (size - n) 0
  part =
      let r : take (length d - start) (drop start d) ≡ drop start d = take_rest d start in
      let l : length (take (length d - start) (drop start d)) ≡ length d - start = ap length r ∙ length-drop start d in
      sym (part_padded size d at e n (size - n) (omega arith) (omega arith) (ap (take n) (sym r)) refl)

  pub front_moved : (r z : List ℕ) → r ≡ paste d 0 (drop start d) (start + n - start) → z ≡ replicate (length (take (size - n) (drop n r))) 0
      → put_mid n (size - n) r z ≡ put d 0 (octets_at size d at)
  front_moved r z g k =
      let o : start + n - start ≡ n = omega arith in
      let s : List ℕ = take n (drop start d) in
      let l : length s ≡ n = length-take-le n (drop start d) (simp length-drop (omega arith)) in
      let p : r ≡ s ++ drop n d =
      g ∙ ap (paste d 0 (drop start d)) o ∙ ap (λ (i : ℕ). s ++ drop i d) (zero-add n) in
      let t : take n r ≡ s = ap (take n) p ∙ take_at s _ _ l in
      let u : drop (size - n) (drop n r) ≡ drop size d =
      ap (λ (x : List ℕ). drop (size - n) (drop n x)) p ∙ ap (drop (size - n)) (drop_at s _ _ l) ∙ drop-drop (size - n) n d
      ∙ ap (λ (i : ℕ). drop i d) (omega arith) in
      let y : length r ≡ length d = ap length p ∙ length-append s (drop n d) ∙ simp length-drop (omega arith) in
      let v : length (take (size - n) (drop n r)) ≡ size - n =
      length-take-le (size - n) (drop n r) (simp length-drop (omega arith)) in
      let w : length (octets_at size d at) ≡ size = length_part size d at in
      rw (t, u, k, v)
      (sym (append_assoc s (replicate (size - n) 0) (drop size d))
      ∙ ap₂ (λ (x : List ℕ) (i : ℕ). x ++ drop i d) (sym part) (sym (zero-add _ ∙ w))
      ∙ sym (put_fits d 0 (octets_at size d at) (omega arith)))
