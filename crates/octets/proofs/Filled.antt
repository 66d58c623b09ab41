-- Filling a run piece by piece: the invariant of every loop that copies, clears or writes rows, and its laws. Assumes nothing.
use Prim.Native.Nat.{ℕ, zero, suc, ◌+◌, ◌*◌, ◌≤◌, ◌<◌}
use mathlib.Core.Path.{◌≡◌, refl, sym, ap, ◌∙◌}
use mathlib.Core.Bool.{Bool, false}
use mathlib.Core.List.{List, [], ◌∷◌, ◌++◌}
use native.Mathlib.Omega.{arith}
use native.Mathlib.Nat.{le_antisymm}
use native.Mathlib.Numerals.{add-one}
use lib.Dec.{leb}
use lib.ListN.{length, get_or, set, replicate, replicate-append-replicate}
use Rattle.octets.specs.Runs.{octets_at, joined, put}
use Rattle.octets.proofs.Parts.{length_joined, row_below}
use Rattle.octets.proofs.Runs.{put_none, put_one, put_after, put_refused, get_d_put_after, length_written}

-- e is d with the first i of the n pieces f 0, f 1, .. written from `at` on; each piece has w elements and d has room for all
pub record Filled (d : List ℕ) (at w : ℕ) (f : ℕ → List ℕ) (n i : ℕ) (e : List ℕ) : Type 0 where
  pub each : (k : ℕ) → length (f k) ≡ w
  pub room : at + w * n ≤ length d
  pub below : i ≤ n
  pub is : e ≡ put d at (joined f i)
  pub long : length e ≡ length d

module _ {d : List ℕ} {at w : ℕ} {f : ℕ → List ℕ} {n : ℕ} where
  -- before the first piece
  pub fill_start : ((k : ℕ) → length (f k) ≡ w) → at + w * n ≤ length d → Filled d at w f n 0 d
  unfolding joined
  fill_start each room = record { each = each; room = room; below = omega arith; is = sym (put_none d at); long = refl }

  module _ {i : ℕ} {e : List ℕ} (b : Filled d at w f n i e) where
    -- all pieces written, after the last one
    pub fill_end : n ≤ i → {xs : List ℕ} → joined f n ≡ xs → e ≡ put d at xs
    fill_end l x = rw (← le_antisymm l b.below) at b.is ∙ ap (put d at) x

    -- elements not yet reached are unchanged
    pub fill_beyond : (k : ℕ) → at + w * i ≤ k → get_or e k 0 ≡ get_or d k 0
    fill_beyond k l =
        let j = length_joined f w b.each i in
        ap (λ (r : List ℕ). get_or r k 0) b.is ∙ get_d_put_after d at (joined f i) k (omega arith)

    module _ (l : i < n) where
      -- the next piece has room
      pub fill_room : at + w * i + w ≤ length e
      fill_room = omega (arith, row_below w i n l)

      -- the next piece written
      pub fill_next : {p : ℕ} {xs r : List ℕ} → p ≡ at + w * i → xs ≡ f i → r ≡ put e p xs → Filled d at w f n (i + 1) r
      unfolding joined
      fill_next {p} {xs} {r} q x v =
          let j : length (joined f i) ≡ w * i = length_joined f w b.each i in
          let k : length (f i) ≡ w = b.each i in
          let h : at + w * i + w ≤ length e = fill_room in
          record {
            each = b.each;
            room = b.room;
            below = omega arith;
            is = rw (add-one i) (v ∙ rw (b.is, x) (put_after d at (joined f i) (f i) p (omega arith) (omega arith)));
            long = length_written e p xs r v ∙ b.long;
          }

-- where the test finds no room for all pieces, nothing is written
pub fill_refused : (d : List ℕ) (at w : ℕ) (f : ℕ → List ℕ) (n : ℕ) → ((k : ℕ) → length (f k) ≡ w)
    → {r : Bool} {size : ℕ} → size ≡ w * n → r ≡ leb (at + size) (length d) → r ≡ false → d ≡ put d at (joined f n)
fill_refused d at w f n each s e = put_refused d at (joined f n) _ _ e (length_joined f w each n ∙ sym s)

-- ---- pieces of one element: the next element stored
pub fill_one : {d : List ℕ} {at : ℕ} {g : ℕ → ℕ} {n i : ℕ} {e : List ℕ} → Filled d at 1 (λ k. g k ∷ []) n i e → i < n
    → {p x : ℕ} → p ≡ at + i → x ≡ g i → Filled d at 1 (λ k. g k ∷ []) n (i + 1) (set e p x)
fill_one {i = i} {e} b l {p} {x} q v =
    let h = fill_room b l in
    fill_next b l {p = p} {xs = x ∷ []} (omega arith) (ap (λ (y : ℕ). y ∷ []) v) (put_one e p x (omega arith))

-- pieces that are the octets of a part, and pieces that are equal elements
abbrev pub octet_from : List ℕ → ℕ → ℕ → List ℕ
octet_from s at k = get_or s (at + k) 0 ∷ []

pub part_ones : (n : ℕ) (s : List ℕ) (at : ℕ) → joined (octet_from s at) n ≡ octets_at n s at
unfolding joined octets_at
part_ones zero s at = refl
part_ones (suc n) s at = ap (λ (xs : List ℕ). xs ++ octet_from s at n) (part_ones n s at)

pub same_ones : (n x : ℕ) → joined (λ k. x ∷ []) n ≡ replicate n x
unfolding joined
same_ones zero x = refl
same_ones (suc n) x =
    ap (λ (xs : List ℕ). xs ++ (x ∷ [])) (same_ones n x)
    ∙ replicate-append-replicate n 1 x ∙ ap (λ (m : ℕ). replicate m x) (add-one n)
