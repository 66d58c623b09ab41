-- Laws of runs written into a longer run. Assumes nothing.
use Prim.Native.Nat.{ℕ, ◌+◌, ◌-◌, ◌/◌, ◌%◌, ◌^◌, ◌≤◌, ◌<◌}
use mathlib.Core.Path.{◌≡◌, sym, ap, ◌∙◌}
use mathlib.Core.Bool.{Bool, false}
use mathlib.Core.List.{List, [], ◌∷◌, ◌++◌, append_assoc, append-nil}
use native.Mathlib.Omega.{arith}
use native.Mathlib.Nat.{add-zero, zero-add, add_assoc, mod-eq_of_lt, div-lt_iff_lt-mul}
use native.Mathlib.Numerals.{add-one}
use lib.Dec.{leb}
use lib.ListN.{length, get_or, take, drop, set, length-append, length-drop, take-append-drop, get_or-append}
use lib.Seq.{length-take-le, take_at, drop-append-add, drop-drop, get_or-append-add, get_or-drop, sets-eq, take-add}
use borrow.Rule.Slice.PartMut.{put_mid}
use borrow.Author.Tests.{leb-true, leb-false, le-leb, lt-leb}
use Rattle.std.proofs.lemmas.List.{drop_all}
use Rattle.octets.specs.Numbers.{octets_of}
use Rattle.octets.specs.Runs.{octets_at, put}
use Rattle.octets.proofs.Numbers.{length_octets, octets_join, octets_low}
use Rattle.octets.proofs.Parts.{length_part, part_take}
use Rattle.lists.proofs.Tests.{split}
use Rattle.octets.proofs.Tests.{fits_not}

-- writing with room, and without room
pub put_fits : (d : List ℕ) (at : ℕ) (xs : List ℕ) → at + length xs ≤ length d → put d at xs ≡ take at d ++ xs ++ drop (at + length xs) d
unfolding put
put_fits d at xs h = simp (le-leb _ _ h)

-- writing at the front
pub put_start : (d xs : List ℕ) → length xs ≤ length d → xs ++ drop (length xs) d ≡ put d 0 xs
put_start d xs h = sym (put_fits d 0 xs (omega (arith, h)) ∙ ap (λ (n : ℕ). xs ++ drop n d) (zero-add (length xs)))

-- writing a whole run over
pub put_all : (d xs : List ℕ) → length xs ≡ length d → put d 0 xs ≡ xs
put_all d xs e =
    sym (put_start d xs (omega (arith, e)))
    ∙ ap (λ (ys : List ℕ). xs ++ ys) (drop_all (length xs) d (omega (arith, e)))
    ∙ append-nil xs

module _ (d : List ℕ) (at : ℕ) (xs : List ℕ) where
  pub put_no_room : length d < at + length xs → put d at xs ≡ d
  unfolding put
  put_no_room h = simp (lt-leb _ _ h)

  length_front : at + length xs ≤ length d → length (take at d ++ xs) ≡ at + length xs
  length_front h = simp (length-append, length-take-le at d (omega arith))

  pub length_put : length (put d at xs) ≡ length d
  length_put =
      split (leb (at + length xs) (length d))
      (λ e. let h = leb-true _ _ e in
      ap length (put_fits d at xs h) ∙ length-append (take at d ++ xs) (drop (at + length xs) d)
      ∙ omega (arith, length_front h, length-drop (at + length xs) d))
      (λ e. ap length (put_no_room (leb-false _ _ e)))

  -- the elements that were written are read back
  pub get_d_put : at + length xs ≤ length d → (k : ℕ) → k < length xs → get_or (put d at xs) (at + k) 0 ≡ get_or xs k 0
  get_d_put h k l =
      let e : length (take at d) ≡ at = length-take-le at d (omega arith) in
      ap (λ (r : List ℕ). get_or r (at + k) 0) (put_fits d at xs h)
      ∙ get_or-append (take at d ++ xs) (drop (at + length xs) d) 0 (at + k) (omega (arith, length_front h))
      ∙ ap (λ (a : ℕ). get_or (take at d ++ xs) (a + k) 0) (sym e)
      ∙ get_or-append-add (take at d) xs k 0

  -- the elements after a written run are unchanged
  pub get_d_put_after : (k : ℕ) → at + length xs ≤ k → get_or (put d at xs) k 0 ≡ get_or d k 0
  get_d_put_after k l =
      split (leb (at + length xs) (length d))
      (λ e.
      let h = leb-true _ _ e in
      let j : ℕ = k - (at + length xs) in
      let f : length (take at d ++ xs) + j ≡ k = omega (arith, length_front h) in
      let b : at + length xs + j ≡ k = omega arith in
      ap (λ (r : List ℕ). get_or r k 0) (put_fits d at xs h)
      ∙ ap (λ (i : ℕ). get_or (take at d ++ xs ++ drop (at + length xs) d) i 0) (sym f)
      ∙ get_or-append-add (take at d ++ xs) (drop (at + length xs) d) j 0
      ∙ get_or-drop (at + length xs) d j 0
      ∙ ap (λ (i : ℕ). get_or d i 0) b)
      (λ e. ap (λ (r : List ℕ). get_or r k 0) (put_no_room (leb-false _ _ e)))

  -- a run written right after another
  pub put_beside : (ys : List ℕ) → at + length xs + length ys ≤ length d → put (put d at xs) (at + length xs) ys ≡ put d at (xs ++ ys)
  put_beside ys h =
      let k : at + length xs ≤ length d = omega arith in
      let m : at + length (xs ++ ys) ≤ length d = simp length-append (omega arith) in
      let f : put d at xs ≡ take at d ++ xs ++ drop (at + length xs) d = put_fits d at xs k in
      let a : take (at + length xs) (put d at xs) ≡ take at d ++ xs = rw f (take_at _ _ _ (length_front k)) in
      let b : drop (at + length xs + length ys) (put d at xs) ≡ drop (at + length xs + length ys) d =
      rw f (rw (length_front k) at (drop-append-add (take at d ++ xs) (drop (at + length xs) d) (length ys)) ∙ drop-drop (length ys) (at + length xs) d) in
      put_fits (put d at xs) (at + length xs) ys (rw length_put h)
      ∙ rw (a, b) (sym (put_fits d at (xs ++ ys) m ∙ simp (length-append, append_assoc, add_assoc)))

-- a number of two octets stored
pub put_two : (d : List ℕ) (at x : ℕ) → x < 2 ^ 16 → at + 2 ≤ length d → set (set d at (x / 256)) (at + 1) (x % 256) ≡ put d at (octets_of 2 x)
unfolding octets_of
put_two d at x f h =
    let q : x / 256 % 256 ≡ x / 256 = mod-eq_of_lt ((div-lt_iff_lt-mul {k = 256} {x = x} {y = 256} (omega arith)).1 f) in
    ap (λ (high : ℕ). set (set d at high) (at + 1) (x % 256)) (sym q)
    ∙ rw (add-one at) (sets-eq (x / 256 % 256 ∷ x % 256 ∷ []) d at h ∙ sym (put_fits d at (x / 256 % 256 ∷ x % 256 ∷ []) h))

-- a number's two halves written side by side
pub put_halves : (w : ℕ) (d : List ℕ) (at x : ℕ) → at + (w + w) ≤ length d
    → put (put d at (octets_of w (x / 256 ^ w))) (at + w) (octets_of w (x % 256 ^ w)) ≡ put d at (octets_of (w + w) x)
put_halves w d at x h =
    let l = length_octets w (x / 256 ^ w) in
    let m = length_octets w x in
    ap (λ (xs : List ℕ). put (put d at (octets_of w (x / 256 ^ w))) (at + w) xs) (octets_low w x)
    ∙ (rw l at (put_beside d at (octets_of w (x / 256 ^ w)) (octets_of w x) (omega arith)))
    ∙ ap (put d at) (sym (octets_join w w x))

pub put_both : (w : ℕ) (d : List ℕ) (at x : ℕ) (e f : List ℕ) → at + (w + w) ≤ length d
    → e ≡ put d at (octets_of w (x / 256 ^ w)) → f ≡ put e (at + w) (octets_of w (x % 256 ^ w)) → f ≡ put d at (octets_of (w + w) x)
put_both w d at x e f h p q = q ∙ ap (λ (r : List ℕ). put r (at + w) (octets_of w (x % 256 ^ w))) p ∙ put_halves w d at x h

-- where the test finds no room, nothing is written
pub put_refused : (d : List ℕ) (at : ℕ) (xs : List ℕ) (r : Bool) (size : ℕ) → r ≡ leb (at + size) (length d) → length xs ≡ size → r ≡ false → d ≡ put d at xs
put_refused d at xs r size e l h =
    let k : length d < at + size = fits_not (length d) at size r e h in
    sym (put_no_room d at xs (omega arith))

-- one element stored
pub put_one : (d : List ℕ) (at x : ℕ) → at < length d → set d at x ≡ put d at (x ∷ [])
put_one d at x h = sets-eq (x ∷ []) d at (omega arith) ∙ sym (put_fits d at (x ∷ []) (omega arith))

-- one element stored right after a run
pub put_next : (d : List ℕ) (at : ℕ) (xs : List ℕ) (x : ℕ) → at + length xs < length d → set (put d at xs) (at + length xs) x ≡ put d at (xs ++ (x ∷ []))
put_next d at xs x h =
    put_one (put d at xs) (at + length xs) x (rw (length_put d at xs) h)
    ∙ put_beside d at xs (x ∷ []) (omega arith)

-- a run of no octets written
pub put_none : (d : List ℕ) (at : ℕ) → put d at [] ≡ d
put_none d at =
    split (leb (at + 0) (length d))
    (λ e. put_fits d at [] (leb-true _ _ e) ∙ ap (λ (i : ℕ). take at d ++ [] ++ drop i d) (add-zero at) ∙ ap (λ (xs : List ℕ). xs ++ drop at d) (append-nil (take at d)) ∙ take-append-drop at d)
    (λ e. put_no_room d at [] (leb-false _ _ e))

-- a part written again at its own offset
pub put_own : (w : ℕ) (d : List ℕ) (at : ℕ) → put d at (octets_at w d at) ≡ d
put_own w d at =
    let xs : List ℕ = octets_at w d at in
    let l : length xs ≡ w = length_part w d at in
    split (leb (at + w) (length d))
    (λ e.
    let h : at + w ≤ length d = leb-true _ _ e in
    put_fits d at xs (omega arith)
    ∙ ap (λ (n : ℕ). take at d ++ xs ++ drop (at + n) d) l
    ∙ ap (λ (ys : List ℕ). take at d ++ ys ++ drop (at + w) d) (part_take w d at h)
    ∙ ap (λ (ys : List ℕ). ys ++ drop (at + w) d) (sym (take-add at w d))
    ∙ take-append-drop (at + w) d)
    (λ e. let h : length d < at + w = leb-false _ _ e in put_no_room d at xs (omega arith))

-- a run keeps its length when another run is written into it
pub length_written : (d : List ℕ) (at : ℕ) (xs e : List ℕ) → e ≡ put d at xs → length e ≡ length d
length_written d at xs e v = ap length v ∙ length_put d at xs

-- ---- a run written after another, at an offset that is given
pub put_after : (d : List ℕ) (at : ℕ) (xs ys : List ℕ) (p : ℕ) → p ≡ at + length xs → p + length ys ≤ length d → put (put d at xs) p ys ≡ put d at (xs ++ ys)
put_after d at xs ys p e h =
    ap (λ (q : ℕ). put (put d at xs) q ys) e ∙ put_beside d at xs ys (rw e at h)

-- ---- a part of `size` octets that is lent, and what a write to it leaves
module _ (d : List ℕ) (at size : ℕ) (h : at + size ≤ length d) where
  pub length_lent : length (take (at + size - at) (drop at d)) ≡ size
  length_lent =
      let e : at + size - at ≡ size = omega arith in
      rw e (length-take-le size (drop at d) (simp length-drop (omega arith)))

  pub put_lent : {xs ys : List ℕ} → ys ≡ xs → length xs ≡ size → put_mid at (at + size - at) d ys ≡ put d at xs
  put_lent {xs} {ys} e l =
      let k : at + size - at ≡ length xs = omega arith in
      rw (k, e) (sym (append_assoc (take at d) xs (drop (length xs) (drop at d))))
      ∙ ap (λ (r : List ℕ). take at d ++ xs ++ r) (drop-drop (length xs) at d)
      ∙ sym (put_fits d at xs (omega arith))
