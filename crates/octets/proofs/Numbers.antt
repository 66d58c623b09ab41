-- Laws of numbers spelled in octets, over the width. Assumes nothing.
use Prim.Native.Nat.{ℕ, zero, suc, ◌+◌, ◌*◌, ◌/◌, ◌%◌, ◌^◌, ◌≤◌, ◌<◌}
use mathlib.Core.Path.{◌≡◌, refl, sym, ap, ap₂, ◌∙◌}
use mathlib.Core.List.{List, [], ◌∷◌, ◌++◌, append_assoc, append-nil}
use native.Mathlib.Omega.{arith}
use native.Mathlib.Nat.{add-zero, zero-add, add-suc, add_assoc, add-mul, mul_assoc, mul-one, pow-zero, pow-suc, pow-succ', mul-le-mul_right, div-add-mod', div-lt_iff_lt-mul, mul-add-div_right, mul-add-mod_self_right, div-one, div-div-eq-div-mul}
use lib.ListN.{length, get_or, length-append, get_or-eq_default, get_or-append}
use lib.Seq.{get_or_at}
use Rattle.std.specs.Int.{byte_at, bytes_high_first}
use Rattle.octets.specs.Numbers.{number_at, octets_of}

-- a number of one octet
pub number_one : (s : List ℕ) (at : ℕ) → number_at 1 s at ≡ get_or s at 0
unfolding number_at
number_one s at = zero-add (get_or s (at + 0) 0) ∙ ap (λ (i : ℕ). get_or s i 0) (add-zero at)

-- past the end every octet counts as 0
pub number_past : (w : ℕ) (s : List ℕ) (at : ℕ) → length s ≤ at → number_at w s at ≡ 0
unfolding number_at
number_past zero s at h = refl
number_past (suc w) s at h =
    let k : length s ≤ at + w = omega arith in
    rw (number_past w s at h, get_or-eq_default s 0 k)

-- a number of v + w octets is its high v octets and its low w octets
pub number_join : (v w : ℕ) (s : List ℕ) (at : ℕ) → number_at (v + w) s at ≡ number_at v s at * 256 ^ w + number_at w s (at + v)
unfolding number_at
number_join v zero s at = rw (add-zero v, pow-zero 256, mul-one) (sym (add-zero _))
number_join v (suc w) s at =
    rw (add-suc v w)
    (rw (number_join v w s at, pow-suc 256 w, add-mul, mul_assoc, add_assoc at v w) (add_assoc _ _ _))

-- the two halves of a number, each read by itself
pub number_halves : (w : ℕ) (s : List ℕ) (at high low : ℕ) → high ≡ number_at w s at → low ≡ number_at w s (at + w)
    → high * 256 ^ w + low ≡ number_at (w + w) s at
number_halves w s at high low e f = rw (e, f) (sym (number_join w w s at))

-- the same octets at two offsets spell the same number
pub number_shift : (w : ℕ) (s t : List ℕ) (a b : ℕ) → ((k : ℕ) → k < w → get_or s (a + k) 0 ≡ get_or t (b + k) 0) → number_at w s a ≡ number_at w t b
unfolding number_at
number_shift zero s t a b h = refl
number_shift (suc w) s t a b h =
    ap₂ (λ (x y : ℕ). x * 256 + y) (number_shift w s t a b (λ k l. h k (omega arith))) (h w (omega arith))

-- a number of w octets is below 256 ^ w
pub number_below : (w : ℕ) (s : List ℕ) (at : ℕ) → ((i : ℕ) → get_or s i 0 < 256) → number_at w s at < 256 ^ w
unfolding number_at
number_below zero s at h = rw (pow-zero 256) (omega arith)
number_below (suc w) s at h =
    let l : number_at w s at < 256 ^ w = number_below w s at h in
    let m : get_or s (at + w) 0 < 256 = h (at + w) in
    rw (pow-suc 256 w) (omega (arith, mul-le-mul_right 256 l))

-- ---- the octets that spell a number
pub length_octets : (w x : ℕ) → length (octets_of w x) ≡ w
unfolding octets_of
length_octets zero x = refl
length_octets (suc w) x = simp length-append (omega (arith, length_octets w (x / 256)))

-- the octets of a number spell that number
pub number_octets_lem : (w x : ℕ) → x < 256 ^ w → number_at w (octets_of w x) 0 ≡ x
unfolding number_at octets_of
number_octets_lem zero x h = let k : x < 1 = rw (pow-zero 256) at h in omega arith
number_octets_lem (suc w) x h =
    let l = length_octets w (x / 256) in
    let q : x / 256 < 256 ^ w = (div-lt_iff_lt-mul {k = 256} {x = x} {y = 256 ^ w} (omega arith)).1 (rw (pow-suc 256 w) at h) in
    let high : number_at w (octets_of w (x / 256) ++ (x % 256 ∷ [])) 0 ≡ x / 256 =
    number_shift w _ (octets_of w (x / 256)) 0 0 (λ k b. get_or-append (octets_of w (x / 256)) (x % 256 ∷ []) 0 (0 + k) (omega arith))
    ∙ number_octets_lem w (x / 256) q in
    let low : get_or (octets_of w (x / 256) ++ (x % 256 ∷ [])) (0 + w) 0 ≡ x % 256 = get_or_at (octets_of w (x / 256)) (x % 256) [] 0 (0 + w) (omega arith) in
    ap₂ (λ (a b : ℕ). a * 256 + b) high low ∙ div-add-mod' x 256

-- the octets of a number of width v + w are those of its high part and those of its low part
pub octets_join : (v w x : ℕ) → octets_of (v + w) x ≡ octets_of v (x / 256 ^ w) ++ octets_of w x
unfolding octets_of
octets_join v zero x = rw (add-zero v, pow-zero 256) (ap (octets_of v) (sym (div-one x)) ∙ sym (append-nil _))
octets_join v (suc w) x =
    rw (add-suc v w)
    (rw (octets_join v w (x / 256), div-div-eq-div-mul x 256 (256 ^ w), pow-succ' 256 w) (append_assoc (octets_of v (x / (256 * 256 ^ w))) (octets_of w (x / 256)) (x % 256 ∷ [])))

-- only the low w octets of a number are spelled
octets_over : (w q r : ℕ) → octets_of w (q * 256 ^ w + r) ≡ octets_of w r
unfolding octets_of
octets_over zero q r = refl
octets_over (suc w) q r =
    let e : q * 256 ^ suc w + r ≡ q * 256 ^ w * 256 + r = ap (λ (m : ℕ). m + r) (ap (λ (m : ℕ). q * m) (pow-suc 256 w) ∙ sym (mul_assoc q (256 ^ w) 256)) in
    ap₂ (λ (a b : ℕ). octets_of w a ++ (b ∷ []))
    (ap (λ (m : ℕ). m / 256) e ∙ mul-add-div_right {m = 256} (omega arith) (q * 256 ^ w) r)
    (ap (λ (m : ℕ). m % 256) e ∙ mul-add-mod_self_right (q * 256 ^ w) 256 r)
    ∙ ap (λ (xs : List ℕ). xs ++ (r % 256 ∷ [])) (octets_over w q (r / 256))

pub octets_low : (w x : ℕ) → octets_of w (x % 256 ^ w) ≡ octets_of w x
octets_low w x = sym (octets_over w (x / 256 ^ w) (x % 256 ^ w)) ∙ ap (octets_of w) (div-add-mod' x (256 ^ w))

-- ---- the octets as `to_be_bytes` has them
octet_high : (w x : ℕ) → x / 256 ^ w % 256 ≡ byte_at w x
octet_high zero x = rw (pow-zero 256, div-one) refl
octet_high (suc w) x = refl

pub octets_high : (w x : ℕ) → octets_of w x ≡ bytes_high_first w x
unfolding octets_of
octets_high zero x = refl
octets_high (suc w) x =
    let s : suc w ≡ 1 + w = omega arith in
    ap (λ (v : ℕ). octets_of v x) s ∙ octets_join 1 w x ∙ ap₂ ◌∷◌ (octet_high w x) (octets_high w x)
