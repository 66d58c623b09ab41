-- Laws of decimal digits. Assumes nothing.
use Prim.Native.Nat.{ℕ, zero, suc, ◌+◌, ◌*◌, ◌-◌, ◌/◌, ◌%◌, ◌^◌, ◌≤◌, ◌<◌}
use mathlib.Core.Path.{◌≡◌, refl, sym, ap, ap₂, ◌∙◌}
use mathlib.Core.Bool.{Bool}
use mathlib.Core.List.{List, [], ◌∷◌, ◌++◌, append_assoc}
use native.Mathlib.Omega.{arith}
use native.Mathlib.Nat.{div-div-eq-div-mul, pow-succ', pow-suc, pow-zero, pow-le-pow_right, div-one, le-div_iff_mul-le, div-lt_iff_lt-mul, div-add-mod', mod-eq_of_lt}
use lib.Dec.{leb}
use lib.ListN.{length, get_or, take, drop, set, length-append, get_or-append}
use lib.Seq.{take-suc, set_at, length-take-le, get_or_at}
use borrow.Author.Tests.{le-leb, lt-leb, leb-true, leb-false}
use Rattle.std.specs.Prelude.{Option, Some, None, IfNone, IfSome}
use Rattle.std.specs.Option.{unwrap_or}
use Rattle.octets.specs.Runs.{put}
use Rattle.octets.proofs.Runs.{put_fits, put_none}
use Rattle.lists.proofs.Tests.{split}
use Rattle.lists.specs.Leading.{leading}
use Rattle.lists.proofs.Leading.{leading_high, leading_before, leading_fails, leading_is}
use Rattle.replay_words.specs.Digits.{zero_char, digits_of, tens_left, more_digits, width_of, digits_read}

pub length_digits : (w x : ℕ) → length (digits_of w x) ≡ w
unfolding digits_of
length_digits zero x = refl
length_digits (suc w) x = simp length-append (omega (arith, length_digits w (x / 10)))

-- a digit more, before it
pub digits_front : (k x : ℕ) → digits_of (suc k) x ≡ (zero_char + tens_left x k % 10) ∷ digits_of k x
unfolding digits_of
digits_front zero x = ap (λ (y : ℕ). (zero_char + y % 10) ∷ []) (sym (div-one x) ∙ ap (λ (y : ℕ). x / y) (sym (pow-zero 10)))
digits_front (suc k) x =
    ap (λ (xs : List ℕ). xs ++ ((zero_char + x % 10) ∷ [])) (digits_front k (x / 10))
    ∙ ap (λ (y : ℕ). (zero_char + y % 10) ∷ (digits_of k (x / 10) ++ ((zero_char + x % 10) ∷ [])))
    (div-div-eq-div-mul x 10 (10 ^ k) ∙ ap (λ (y : ℕ). x / y) (sym (pow-succ' 10 k)))

-- what is left of a number after one digit more
pub tens_next : (x k r : ℕ) → r ≡ tens_left x k → r / 10 ≡ tens_left x (suc k)
tens_next x k r e =
    ap (λ (y : ℕ). y / 10) e ∙ div-div-eq-div-mul x (10 ^ k) 10 ∙ ap (λ (y : ℕ). x / y) (sym (pow-suc 10 k))

pub tens_positive : (k : ℕ) → 0 < 10 ^ k
tens_positive zero = rw (pow-zero 10) (omega arith)
tens_positive (suc k) = rw (pow-suc 10 k) (omega (arith, tens_positive k))

pub tens_none : (x : ℕ) → x ≡ tens_left x 0
tens_none x = sym (div-one x) ∙ ap (λ (y : ℕ). x / y) (sym (pow-zero 10))

-- an element stored right before a run
pub put_front : (d : List ℕ) (p x : ℕ) (ys : List ℕ) → suc p + length ys ≤ length d → set (put d (suc p) ys) p x ≡ put d p (x ∷ ys)
put_front d p x ys h =
    let r : List ℕ = drop (suc p + length ys) d in
    let t : take (suc p) d ≡ take p d ++ (get_or d p 0 ∷ []) = take-suc d p 0 (omega arith) in
    let n : suc p + length ys ≡ p + length (x ∷ ys) = omega arith in
    let f : put d (suc p) ys ≡ take p d ++ (get_or d p 0 ∷ (ys ++ r)) =
    put_fits d (suc p) ys h ∙ ap (λ (e : List ℕ). e ++ ys ++ r) t ∙ simp append_assoc in
    ap (λ (e : List ℕ). set e p x) f
    ∙ set_at (take p d) (get_or d p 0) (ys ++ r) x p (length-take-le p d (omega arith))
    ∙ sym (put_fits d p (x ∷ ys) (omega arith) ∙ ap (λ (m : ℕ). take p d ++ (x ∷ ys) ++ drop m d) (sym n) ∙ simp append_assoc)

-- a number has at most 20 digits, and k + 1 where it is below 10 ^ (k + 1)
pub width_most : (x : ℕ) → width_of x ≤ suc more_digits
unfolding width_of
width_most x = omega (arith, leading_high (λ k. leb 10 (tens_left x k)) more_digits)

pub width_below : (x j : ℕ) → x < 10 ^ suc j → width_of x ≤ suc j
unfolding width_of
width_below x j h =
    let f : ℕ → Bool = λ k. leb 10 (tens_left x k) in
    split (leb (leading f more_digits) j)
    (λ e. let l : leading f more_digits ≤ j = leb-true _ _ e in omega arith)
    (λ e.
    let l : j < leading f more_digits = leb-false _ _ e in
    let t : 10 ≤ x / 10 ^ j = leb-true 10 (tens_left x j) (leading_before f more_digits j l) in
    let m : 10 * 10 ^ j ≤ x = (le-div_iff_mul-le {k = 10 ^ j} {x = 10} {y = x} (tens_positive j)).0 t in
    let n : 10 ^ suc j ≡ 10 * 10 ^ j = pow-succ' 10 j in
    absurd (omega arith))

-- ---- digits written from the last to the first: those from i on are written, and so much of the number is left
module _ (w x i r : ℕ) (p : 0 < i) (q : i ≤ w) (e : r ≡ tens_left x (w - i)) where
  more : w - (i - 1) ≡ suc (w - i)
  more = omega arith

  pub digits_rest : r / 10 ≡ tens_left x (w - (i - 1))
  digits_rest = tens_next x (w - i) r e ∙ ap (tens_left x) (sym more)

  pub digits_digit : (d : List ℕ) (at : ℕ) (t : List ℕ) → at + w ≤ length d → t ≡ put d (at + i) (digits_of (w - i) x)
      → set t (at + (i - 1)) (zero_char + r % 10) ≡ put d (at + (i - 1)) (digits_of (w - (i - 1)) x)
  digits_digit d at t h f =
      let l = length_digits (w - i) x in
      let n : at + i ≡ suc (at + (i - 1)) = omega arith in
      ap (λ (s : List ℕ). set s (at + (i - 1)) (zero_char + r % 10)) (f ∙ ap (λ (m : ℕ). put d m (digits_of (w - i) x)) n)
      ∙ put_front d (at + (i - 1)) (zero_char + r % 10) (digits_of (w - i) x) (omega arith)
      ∙ ap (put d (at + (i - 1)))
      (ap (λ (y : ℕ). (zero_char + y % 10) ∷ digits_of (w - i) x) e
      ∙ sym (digits_front (w - i) x) ∙ ap (λ (m : ℕ). digits_of m x) (sym more))

pub digits_start : (d : List ℕ) (at w x : ℕ) → d ≡ put d (at + w) (digits_of (w - w) x)
unfolding digits_of
digits_start d at w x =
    let z : w - w ≡ 0 = omega arith in
    sym (put_none d (at + w)) ∙ ap (λ (m : ℕ). put d (at + w) (digits_of m x)) (sym z)

pub digits_all : (d : List ℕ) (at w x i : ℕ) (t : List ℕ) → t ≡ put d (at + i) (digits_of (w - i) x) → i ≤ 0 → t ≡ put d at (digits_of w x)
digits_all d at w x i t e h =
    let a : at + i ≡ at = omega arith in
    let b : w - i ≡ w = omega arith in
    e ∙ ap₂ (λ (m n : ℕ). put d m (digits_of n x)) a b

-- ---- what the digits spell
read_front : (w : ℕ) (s t : List ℕ) → w ≤ length s → digits_read w (s ++ t) ≡ digits_read w s
unfolding digits_read
read_front zero s t h = refl
read_front (suc w) s t h =
    ap₂ (λ (a b : ℕ). a * 10 + (b - zero_char)) (read_front w s t (omega arith)) (get_or-append s t 0 w (omega arith))

pub digits_read_lem : (w x : ℕ) → x < 10 ^ w → digits_read w (digits_of w x) ≡ x
unfolding digits_read digits_of
digits_read_lem zero x h = let k : x < 1 = rw (pow-zero 10) at h in omega arith
digits_read_lem (suc w) x h =
    let l = length_digits w (x / 10) in
    let q : x / 10 < 10 ^ w = (div-lt_iff_lt-mul {k = 10} {x = x} {y = 10 ^ w} (omega arith)).1 (rw (pow-suc 10 w) at h) in
    let high : digits_read w (digits_of w (x / 10) ++ ((zero_char + x % 10) ∷ [])) ≡ x / 10 = read_front w (digits_of w (x / 10)) _ (omega arith) ∙ digits_read_lem w (x / 10) q in
    let low : get_or (digits_of w (x / 10) ++ ((zero_char + x % 10) ∷ [])) w 0 - zero_char ≡ x % 10 =
    ap (λ (y : ℕ). y - zero_char) (get_or_at (digits_of w (x / 10)) (zero_char + x % 10) [] 0 w (omega arith)) ∙ omega arith in
    ap₂ (λ (a b : ℕ). a * 10 + b) high low ∙ div-add-mod' x 10

-- a number of 64 bits is below the power of ten that its width names
pub width_holds : (x : ℕ) → x < 2 ^ 64 → x < 10 ^ width_of x
unfolding width_of
width_holds x h =
    let f : ℕ → Bool = λ k. leb 10 (tens_left x k) in
    let k : ℕ = leading f more_digits in
    split (leb more_digits k)
    (λ e.
    let m : more_digits ≤ k = leb-true _ _ e in
    let n : k ≡ more_digits = omega (arith, leading_high f more_digits) in
    rw n (omega arith))
    (λ e.
    let m : k < more_digits = leb-false _ _ e in
    let t : x / 10 ^ k < 10 = leb-false 10 (tens_left x k) (leading_fails f more_digits m) in
    rw (pow-succ' 10 k) ((div-lt_iff_lt-mul {k = 10 ^ k} {x = x} {y = 10} (tens_positive k)).0 t))

-- and the first of several digits is not 0
tens_held : (x k : ℕ) → ((j : ℕ) → j < k → 10 ≤ tens_left x j) → 10 ≤ x → 10 ^ k ≤ x
tens_held x zero g h = rw (pow-zero 10) (omega arith)
tens_held x (suc j) g h =
    rw (pow-succ' 10 j) ((le-div_iff_mul-le {k = 10 ^ j} {x = 10} {y = x} (tens_positive j)).0 (g j (omega arith)))

pub first_digit : (x : ℕ) → x < 2 ^ 64 → 10 ≤ x → get_or (digits_of (width_of x) x) 0 0 ≡ zero_char → ⊥
unfolding width_of
first_digit x b h e =
    let f : ℕ → Bool = λ k. leb 10 (tens_left x k) in
    let k : ℕ = leading f more_digits in
    let top : x < 10 * 10 ^ k = rw (pow-succ' 10 k) at (width_holds x b) in
    let high : tens_left x k < 10 = (div-lt_iff_lt-mul {k = 10 ^ k} {x = x} {y = 10} (tens_positive k)).1 top in
    let held : 10 ^ k ≤ x = tens_held x k (λ j l. leb-true 10 (tens_left x j) (leading_before f more_digits j l)) h in
    let low : 1 ≤ tens_left x k = (le-div_iff_mul-le {k = 10 ^ k} {x = 1} {y = x} (tens_positive k)).1 (omega arith) in
    let d : get_or (digits_of (suc k) x) 0 0 ≡ zero_char + tens_left x k % 10 = ap (λ (xs : List ℕ). get_or xs 0 0) (digits_front k x) in
    let m : tens_left x k % 10 ≡ tens_left x k = mod-eq_of_lt high in
    omega arith

pub width_some : (x : ℕ) → 1 ≤ width_of x
unfolding width_of
width_some x = omega arith

pub one_digit : (x : ℕ) → x < 10 → width_of x ≡ 1
one_digit x h = omega (arith, width_below x 0 (omega arith), width_some x)

-- ---- the width, by the greatest power of ten in the number
width_log : (x k : ℕ) → 10 ^ k ≤ x → x < 10 * 10 ^ k → k < 20 → k + 1 ≡ width_of x
unfolding width_of
width_log x k low high most =
    let few : leading (λ j. leb 10 (tens_left x j)) more_digits ≡ k =
    leading_is (λ j. leb 10 (tens_left x j)) k more_digits (omega arith)
    (λ j l.
    let m : 10 ^ suc j ≤ 10 ^ k = pow-le-pow_right {n = 10} (omega arith) l in
    let n : 10 ^ suc j ≡ 10 * 10 ^ j = pow-succ' 10 j in
    le-leb 10 (tens_left x j) ((le-div_iff_mul-le {k = 10 ^ j} {x = 10} {y = x} (tens_positive j)).1 (omega arith)))
    (λ _. lt-leb 10 (tens_left x k) ((div-lt_iff_lt-mul {k = 10 ^ k} {x = x} {y = 10} (tens_positive k)).1 high)) in
    omega arith

pub width_found : (x : ℕ) (o : Option ℕ) → IfNone o (x ≡ 0) → IfSome o (λ k. 10 ^ k ≤ x) → IfSome o (λ k. x < 10 * 10 ^ k) → IfSome o (λ k. k < 20)
    → (w : ℕ) → w ≡ unwrap_or o 0 → w + 1 ≡ width_of x
width_found x None none _ _ _ w e = rw e (sym (one_digit x (omega (arith, none))))
width_found x (Some k) _ low high most w e = rw e (width_log x k low high most)
