-- Laws of parts of a run, and of runs one after the other. Assumes nothing.
use Prim.Native.Nat.{ℕ, zero, suc, ◌+◌, ◌-◌, ◌*◌, ◌/◌, ◌%◌, ◌≤◌, ◌<◌, min}
use mathlib.Core.Path.{◌≡◌, refl, sym, ap, ap₂, ◌∙◌}
use mathlib.Core.List.{List, [], ◌∷◌, ◌++◌, append_assoc, append-nil}
use native.Mathlib.Omega.{arith}
use native.Mathlib.Nat.{add-zero, zero-add, add-suc, add_assoc, le_refl, mul-zero, mul-suc, mul-le-mul_left, min-eq_left, min-eq_right, min-le_right, mul-add-div_right, mul-add-mod_self_right, div-eq_of_lt, mod-eq_of_lt}
use lib.Dec.{leb}
use lib.ListN.{length, get_or, take, drop, replicate, length-append, length-drop, length-replicate, get_or-append, get_or-eq_default}
use lib.Seq.{length-take-le, get_or_at, get_or-append-add, get_or-take, get_or-drop, ext_get_or}
use borrow.Author.Tests.{leb-true, leb-false}
use Rattle.std.proofs.lemmas.List.{get_or-replicate, take_rest}
use Rattle.octets.specs.Numbers.{number_at, octets_of}
use Rattle.octets.specs.Runs.{octets_at, joined}
use Rattle.octets.proofs.Numbers.{number_shift}
use Rattle.lists.proofs.Tests.{split}

-- an offset past the end may be cut to the end: all octets from there on are 0
pub get_d_clamped : (s : List ℕ) (at k : ℕ) → get_or s (min at (length s) + k) 0 ≡ get_or s (at + k) 0
get_d_clamped s at k =
    split (leb at (length s))
    (λ e. ap (λ (i : ℕ). get_or s (i + k) 0) (min-eq_left (leb-true _ _ e)))
    (λ e.
    let h : length s < at = leb-false _ _ e in
    ap (λ (i : ℕ). get_or s (i + k) 0) (min-eq_right {n = length s} {m = at} (omega arith))
    ∙ get_or-eq_default s 0 {n = length s + k} (omega arith) ∙ sym (get_or-eq_default s 0 {n = at + k} (omega arith)))

-- an octet read from an offset that is cut to the end
pub get_d_from : (s : List ℕ) (at k : ℕ) {start x : ℕ} → start ≡ min at (length s)
    → x ≡ get_or s (start + k) 0 → x ≡ get_or s (at + k) 0
get_d_from s at k e v = v ∙ ap (λ (i : ℕ). get_or s (i + k) 0) e ∙ get_d_clamped s at k

-- ---- a part of n octets that is lent, and a number that it begins with
pub get_d_within : (n at : ℕ) (s : List ℕ) (k : ℕ) → k < n → get_or (take n (drop at s)) k 0 ≡ get_or s (at + k) 0
get_d_within n at s k l = get_or-take n (drop at s) k 0 l ∙ get_or-drop at s k 0

pub number_within : (w n at : ℕ) (s : List ℕ) → w ≤ n → number_at w (take n (drop at s)) 0 ≡ number_at w s at
number_within w n at s h =
    number_shift w (take n (drop at s)) s 0 at
    (λ k l. ap (λ (i : ℕ). get_or (take n (drop at s)) i 0) (zero-add k) ∙ get_d_within n at s k (omega arith))

-- a number in the octets from an offset on, which is cut to the end
pub number_from : (w : ℕ) (s : List ℕ) (at : ℕ) {start : ℕ} → start ≡ min at (length s) → number_at w (drop start s) 0 ≡ number_at w s at
number_from w s at {start} e =
    number_shift w (drop start s) s 0 at
    (λ k l. get_d_from s at k e (ap (λ (i : ℕ). get_or (drop start s) i 0) (zero-add k) ∙ get_or-drop start s k 0))

-- ---- zeros after the last octets of a run
pub zeros : (n m i : ℕ) → get_or (drop m (replicate {A = ℕ} n 0)) i 0 ≡ 0
zeros n m i =
    get_or-drop m (replicate {A = ℕ} n 0) i 0
    ∙ split (leb n (m + i))
    (λ e. let h = leb-true _ _ e in get_or-eq_default (replicate {A = ℕ} n 0) 0 (simp length-replicate h))
    (λ e. get_or-replicate n (m + i) 0 0 (leb-false _ _ e))

-- octets from an offset on that is cut to the end, with zeros zs after them: n octets or all that are there
module _ (s : List ℕ) (at : ℕ) {start : ℕ} (e : start ≡ min at (length s)) (zs : List ℕ) (z : (i : ℕ) → get_or zs i 0 ≡ 0) where
  pub get_d_padded : (n k : ℕ) → start + n ≤ length s → (n ≤ k → length s ≤ start + k)
      → get_or (take n (drop start s) ++ zs) k 0 ≡ get_or s (at + k) 0
  get_d_padded n k h p =
      let xs : List ℕ = take n (drop start s) in
      let l : length xs ≡ n = length-take-le n (drop start s) (simp length-drop (omega arith)) in
      get_d_from s at k e
      (split (leb n k)
      (λ t.
      let q : n ≤ k = leb-true _ _ t in
      let j : length xs + (k - n) ≡ k = omega arith in
      ap (λ (i : ℕ). get_or (xs ++ zs) i 0) (sym j) ∙ get_or-append-add xs zs (k - n) 0 ∙ z (k - n)
      ∙ sym (get_or-eq_default s 0 {n = start + k} (p q)))
      (λ t.
      let q : k < n = leb-false _ _ t in
      get_or-append xs zs 0 k (omega arith) ∙ get_d_within n start s k q))

  -- a number of which at least an octet is past the end
  pub number_padded : (w : ℕ) → length s < at + w → {v : ℕ} → v ≡ w → {xs : List ℕ} → xs ≡ take (length s - start) (drop start s)
      → number_at w (take v (xs ++ zs)) 0 ≡ number_at w s at
  number_padded w l {v} p {xs} q =
      let ys : List ℕ = take (length s - start) (drop start s) ++ zs in
      let m : start ≤ length s = rw e (min-le_right at (length s)) in
      rw (p, q) (number_within w w 0 ys (le_refl w))
      ∙ number_shift w ys s 0 at
      (λ k b. ap (λ (i : ℕ). get_or ys i 0) (zero-add k) ∙ get_d_padded (length s - start) k (omega arith) (λ h. omega arith))

-- ---- parts of a run
pub length_part : (w : ℕ) (s : List ℕ) (at : ℕ) → length (octets_at w s at) ≡ w
unfolding octets_at
length_part zero s at = refl
length_part (suc w) s at = simp length-append (omega (arith, length_part w s at))

pub get_d_part : (w : ℕ) (s : List ℕ) (at k : ℕ) → k < w → get_or (octets_at w s at) k 0 ≡ get_or s (at + k) 0
unfolding octets_at
get_d_part zero s at k h = absurd (omega arith)
get_d_part (suc w) s at k h =
    let l = length_part w s at in
    split (leb w k)
    (λ e.
    let q : w ≤ k = leb-true _ _ e in
    let n : w ≡ k = omega arith in
    get_or_at (octets_at w s at) (get_or s (at + w) 0) [] 0 k (omega arith) ∙ ap (λ (j : ℕ). get_or s (at + j) 0) n)
    (λ e.
    let m : k < w = leb-false _ _ e in
    get_or-append (octets_at w s at) (get_or s (at + w) 0 ∷ []) 0 k (omega arith) ∙ get_d_part w s at k m)

-- a part, octet by octet
pub part_is : (w : ℕ) (s : List ℕ) (at : ℕ) (xs : List ℕ) → length xs ≡ w → ((k : ℕ) → k < w → get_or s (at + k) 0 ≡ get_or xs k 0) → octets_at w s at ≡ xs
part_is w s at xs l h =
    let p = length_part w s at in
    ext_get_or 0 (octets_at w s at) xs (omega arith) (λ k b. get_d_part w s at k (omega arith) ∙ h k (omega arith))

-- the same octets at two offsets are equal parts
pub part_same : (w : ℕ) (s t : List ℕ) (a b : ℕ) → ((k : ℕ) → k < w → get_or s (a + k) 0 ≡ get_or t (b + k) 0) → octets_at w s a ≡ octets_at w t b
part_same w s t a b h = part_is w s a (octets_at w t b) (length_part w t b) (λ k l. h k l ∙ sym (get_d_part w t b k l))

-- equal parts, octet by octet
pub part_octet : (w : ℕ) (s t : List ℕ) (a b : ℕ) → octets_at w s a ≡ octets_at w t b → (k : ℕ) → k < w → get_or s (a + k) 0 ≡ get_or t (b + k) 0
part_octet w s t a b e k l = sym (get_d_part w s a k l) ∙ ap (λ (xs : List ℕ). get_or xs k 0) e ∙ get_d_part w t b k l

-- a part that lies inside the run
pub part_take : (w : ℕ) (s : List ℕ) (at : ℕ) → at + w ≤ length s → octets_at w s at ≡ take w (drop at s)
part_take w s at h =
    part_is w s at (take w (drop at s)) (length-take-le w (drop at s) (simp length-drop (omega arith)))
    (λ k l. sym (get_or-take w (drop at s) k 0 l ∙ get_or-drop at s k 0))

-- a part of no octets
pub part_none : (s : List ℕ) (at : ℕ) → octets_at 0 s at ≡ []
unfolding octets_at
part_none s at = refl

-- the part that is the whole run
pub part_whole : (s : List ℕ) → octets_at (length s) s 0 ≡ s
part_whole s = part_is (length s) s 0 s refl (λ k l. ap (λ (i : ℕ). get_or s i 0) (zero-add k))

-- a part of v + w octets
pub part_join : (v w : ℕ) (s : List ℕ) (at : ℕ) → octets_at (v + w) s at ≡ octets_at v s at ++ octets_at w s (at + v)
unfolding octets_at
part_join v zero s at = rw (add-zero v) (sym (append-nil _))
part_join v (suc w) s at =
    rw (add-suc v w)
    (rw (part_join v w s at, add_assoc at v w) (append_assoc (octets_at v s at) (octets_at w s (at + v)) (get_or s (at + (v + w)) 0 ∷ [])))

-- a part of the first of two runs, and a part of the second
pub part_front : (w : ℕ) (xs ys : List ℕ) (at : ℕ) → at + w ≤ length xs → octets_at w (xs ++ ys) at ≡ octets_at w xs at
part_front w xs ys at h = part_same w (xs ++ ys) xs at at (λ k l. get_or-append xs ys 0 (at + k) (omega arith))

pub part_after : (w : ℕ) (xs ys : List ℕ) (at k : ℕ) → length xs ≡ at → octets_at w (xs ++ ys) (at + k) ≡ octets_at w ys k
part_after w xs ys at k e =
    part_same w (xs ++ ys) ys (at + k) k
    (λ j l. ap (λ (i : ℕ). get_or (xs ++ ys) i 0) (add_assoc at k j ∙ ap (λ (i : ℕ). i + (k + j)) (sym e)) ∙ get_or-append-add xs ys (k + j) 0)

-- the octets of a number that was read are the octets that it was read from
pub octets_number : (w : ℕ) (s : List ℕ) (at : ℕ) → ((i : ℕ) → get_or s i 0 < 256) → octets_of w (number_at w s at) ≡ octets_at w s at
unfolding number_at octets_of octets_at
octets_number zero s at h = refl
octets_number (suc w) s at h =
    let n : ℕ = number_at w s at in
    let d : ℕ = get_or s (at + w) 0 in
    let q : (n * 256 + d) / 256 ≡ n = mul-add-div_right {m = 256} (omega arith) n d ∙ ap (λ (z : ℕ). n + z) (div-eq_of_lt (h (at + w))) ∙ add-zero n in
    let r : (n * 256 + d) % 256 ≡ d = mul-add-mod_self_right n 256 d ∙ mod-eq_of_lt (h (at + w)) in
    ap₂ (λ (a b : ℕ). octets_of w a ++ (b ∷ [])) q r ∙ ap (λ (xs : List ℕ). xs ++ (d ∷ [])) (octets_number w s at h)

-- row i of n rows of w octets ends inside them
pub row_below : (w i n : ℕ) → i < n → w * i + w ≤ w * n
row_below w i n l = rw (← mul-suc w i) (mul-le-mul_left w l)

-- a part of which some octets may be past the end: the f octets that are there, then zeros
pub part_padded : (w : ℕ) (s : List ℕ) (at : ℕ) {start : ℕ} → start ≡ min at (length s)
    → (f a : ℕ) → f ≡ min (length (take (length s - start) (drop start s))) w → a + f ≡ w
    → {xs : List ℕ} → xs ≡ take f (take (length s - start) (drop start s)) → {zs : List ℕ} → zs ≡ replicate a 0
    → xs ++ zs ≡ octets_at w s at
part_padded w s at {start} e f a q v {xs} x {zs} z =
    let d : length (drop start s) ≡ length s - start = length-drop start s in
    let r : take (length s - start) (drop start s) ≡ drop start s = take_rest s start in
    let g : f ≡ min (length s - start) w = q ∙ ap (λ (l : List ℕ). min (length l) w) r ∙ ap (λ (n : ℕ). min n w) d in
    let m : start ≤ length s = rw e (min-le_right at (length s)) in
    let o : start + f ≤ length s = omega arith in
    let t : length (take f (drop start s)) ≡ f = length-take-le f (drop start s) (omega arith) in
    let k : length (replicate {A = ℕ} a 0) ≡ a = length-replicate a 0 in
    rw (x, z, r)
    (sym (part_is w s at (take f (drop start s) ++ replicate a 0)
    (length-append (take f (drop start s)) (replicate a 0) ∙ omega arith)
    (λ j b. sym (get_d_padded s at e (replicate a 0) (zeros a 0) f j o (λ h. omega arith)))))

-- ---- runs one after the other, each of w octets
module _ (f : ℕ → List ℕ) (w : ℕ) (each : (i : ℕ) → length (f i) ≡ w) where
  pub length_joined : (n : ℕ) → length (joined f n) ≡ w * n
  unfolding joined
  length_joined zero = sym (mul-zero w)
  length_joined (suc n) = length-append (joined f n) (f n) ∙ ap₂ ◌+◌ (length_joined n) (each n) ∙ sym (mul-suc w n)

  -- each run is found at its offset
  pub joined_at : (n i : ℕ) → i < n → octets_at w (joined f n) (w * i) ≡ f i
  unfolding joined
  joined_at zero i h = absurd (omega arith)
  joined_at (suc n) i h =
      split (leb n i)
      (λ e.
      let q : n ≤ i = leb-true _ _ e in
      let m : n ≡ i = omega arith in
      ap (λ (j : ℕ). octets_at w (joined f n ++ f n) (w * j)) (sym m)
      ∙ ap (octets_at w (joined f n ++ f n)) (sym (add-zero (w * n)))
      ∙ part_after w (joined f n) (f n) (w * n) 0 (length_joined n)
      ∙ part_is w (f n) 0 (f n) (each n) (λ k l. ap (λ (j : ℕ). get_or (f n) j 0) (zero-add k))
      ∙ ap f m)
      (λ e.
      let m : i < n = leb-false _ _ e in
      let b = row_below w i n m in
      part_front w (joined f n) (f n) (w * i) (omega (arith, length_joined n)) ∙ joined_at n i m)

pub joined_same : (f g : ℕ → List ℕ) (n : ℕ) → ((i : ℕ) → i < n → f i ≡ g i) → joined f n ≡ joined g n
unfolding joined
joined_same f g zero h = refl
joined_same f g (suc n) h = ap₂ ◌++◌ (joined_same f g n (λ i l. h i (omega arith))) (h n (omega arith))

-- a part of w * n octets, as n parts
pub part_joined : (w n : ℕ) (s : List ℕ) (at : ℕ) → octets_at (w * n) s at ≡ joined (λ i. octets_at w s (at + w * i)) n
unfolding joined
part_joined w zero s at = ap (λ (v : ℕ). octets_at v s at) (mul-zero w) ∙ part_none s at
part_joined w (suc n) s at =
    ap (λ (v : ℕ). octets_at v s at) (mul-suc w n)
    ∙ part_join (w * n) w s at
    ∙ ap (λ (xs : List ℕ). xs ++ octets_at w s (at + w * n)) (part_joined w n s at)
