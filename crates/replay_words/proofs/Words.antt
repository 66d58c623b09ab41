-- Laws of words and lines written one after the other. Assumes nothing.
use Prim.Native.Nat.{ℕ, ◌+◌, ◌^◌, ◌≤◌, ◌<◌}
use mathlib.Core.Path.{◌≡◌, sym, ap, ap₂, ◌∙◌}
use mathlib.Core.Bool.{Bool, true, false}
use mathlib.Core.List.{List, [], ◌∷◌, ◌++◌}
use native.Mathlib.Omega.{arith}
use Rattle.lists.proofs.Tests.{split}
use lib.Dec.{leb}
use lib.ListN.{length, get_or, take, set, length-append}
use lib.Seq.{length-take-le}
use borrow.Author.Tests.{le-leb, lt-leb, leb-true}
use Rattle.octets.specs.Runs.{octets_at, put}
use Rattle.octets.proofs.Runs.{put_no_room, put_after, put_next, length_put, get_d_put}
use Rattle.octets.proofs.Parts.{length_part, part_is}
use Rattle.octets.proofs.Tests.{fits, fits_not}
use Rattle.replay_words.specs.Digits.{digits_of, width_of}
use Rattle.replay_words.specs.Words.{word_of, Appended, appended_of, appended, next_offset}
use Rattle.replay_words.proofs.Decimal.{length_digits, width_most, width_below}

-- ---- a run written, by the test of its room
module _ (d : List ℕ) (at : ℕ) (xs : List ℕ) where
  pub appended_there : (e : List ℕ) → at + length xs ≤ length d → e ≡ put d at xs → appended_of (at + length xs) e ≡ appended d at xs
  unfolding next_offset
  appended_there e h f = simp (f, le-leb (at + length xs) (length d) h)

  pub appended_not : (e : List ℕ) → length d < at + length xs → e ≡ put d at xs → appended_of at e ≡ appended d at xs
  unfolding next_offset
  appended_not e h f = simp (f, lt-leb (at + length xs) (length d) h)

-- the first n octets of a text written, by the test of room for them
module _ (d : List ℕ) (at : ℕ) (s : List ℕ) (n : ℕ) (b : Bool) (f : b ≡ leb (at + n) (length d)) where
  size : length (octets_at n s 0) ≡ n
  size = length_part n s 0

  pub text_not : b ≡ false → appended_of at d ≡ appended d at (octets_at n s 0)
  text_not h =
      let r : length d < at + n = fits_not _ _ _ _ f h in
      let z = size in
      let l : length d < at + length (octets_at n s 0) = omega arith in
      appended_not d at (octets_at n s 0) d l (sym (put_no_room d at (octets_at n s 0) l))

  pub text_appended : b ≡ true → (e : List ℕ) → e ≡ put d at (octets_at n s 0) → appended_of (at + n) e ≡ appended d at (octets_at n s 0)
  text_appended h e p =
      let r : at + n ≤ length d = fits _ _ _ _ f h in
      let z = size in
      ap (λ (i : ℕ). appended_of (at + i) e) (sym z) ∙ appended_there d at (octets_at n s 0) e (omega arith) p

-- ---- a number and the character after it
pub length_word : (x m : ℕ) → length (word_of x m) ≡ width_of x + 1
unfolding word_of
length_word x m = simp length-append (omega (arith, length_digits (width_of x) x))

pub width_fits : (x w : ℕ) → w ≡ width_of x → w ≤ 20
width_fits x w e = omega (arith, e, width_most x)

module _ (d : List ℕ) (at x m w : ℕ) (e : w ≡ width_of x) (b : Bool) (r : b ≡ leb (at + (w + 1)) (length d)) where
  pub word_not : b ≡ false → appended_of at d ≡ appended d at (word_of x m)
  word_not g =
      let h = fits_not _ _ _ _ r g in
      let l = length_word x m in
      let k : length d < at + length (word_of x m) = omega arith in
      appended_not d at (word_of x m) d k (sym (put_no_room d at (word_of x m) k))

  pub word_appended : b ≡ true → (t : List ℕ) → t ≡ put d at (digits_of w x)
      → appended_of (at + w + 1) (set t (at + w) m) ≡ appended d at (word_of x m)
  unfolding word_of
  word_appended o t f =
      let h = fits _ _ _ _ r o in
      let l = length_digits w x in
      let n = length_word x m in
      let g : set t (at + w) m ≡ put d at (digits_of w x ++ (m ∷ [])) =
      ap₂ (λ (s : List ℕ) (i : ℕ). set s (at + i) m) f (sym l) ∙ put_next d at (digits_of w x) m (omega arith) in
      let k : at + w + 1 ≡ at + length (word_of x m) = omega arith in
      ap (λ (i : ℕ). appended_of i (set t (at + w) m)) k
      ∙ appended_there d at (word_of x m) (set t (at + w) m) (omega arith) (g ∙ ap (λ (i : ℕ). put d at (digits_of i x ++ (m ∷ []))) e)

-- ---- what a run written with room says
module _ (d : List ℕ) (at : ℕ) (xs : List ℕ) (p : ℕ) (e : List ℕ) (l : appended_of p e ≡ appended d at xs) where
  pub appended_room : e ≡ put d at xs
  appended_room = ap (λ (z : Appended). z.room) l

  pub appended_next : at + length xs ≤ length d → p ≡ at + length xs
  unfolding next_offset
  appended_next h = ap (λ (z : Appended). z.next) l ∙ simp (le-leb (at + length xs) (length d) h)

  pub appended_length : length e ≡ length d
  appended_length = ap length appended_room ∙ length_put d at xs

-- a run written after another is the two written as one
pub appended_after : (d : List ℕ) (at : ℕ) (xs ys : List ℕ) (a b : ℕ) (e f : List ℕ) → at + (length xs + length ys) ≤ length d
    → appended_of a e ≡ appended d at xs → appended_of b f ≡ appended e a ys → appended_of b f ≡ appended d at (xs ++ ys)
appended_after d at xs ys a b e f h p q =
    let m : length (xs ++ ys) ≡ length xs + length ys = length-append xs ys in
    let i : a ≡ at + length xs = appended_next d at xs a e p (omega arith) in
    let n : length e ≡ length d = appended_length d at xs a e p in
    let j : b ≡ a + length ys = appended_next e a ys b f q (omega arith) in
    let k : b ≡ at + length (xs ++ ys) = omega arith in
    let g : f ≡ put d at (xs ++ ys) =
    appended_room e a ys b f q ∙ ap (λ (s : List ℕ). put s a ys) (appended_room d at xs a e p) ∙ put_after d at xs ys a i (omega arith) in
    ap (λ (c : ℕ). appended_of c f) k ∙ appended_there d at (xs ++ ys) f (omega arith) g

-- what was written from the start of a room is the part up to the offset after it
pub appended_part : (d xs : List ℕ) (c : ℕ) (g : List ℕ) → length xs ≤ length d → appended_of c g ≡ appended d 0 xs → octets_at c g 0 ≡ xs
appended_part d xs c g h p =
    let n : c ≡ 0 + length xs = appended_next d 0 xs c g p (omega arith) in
    let k : length xs ≡ c = omega arith in
    part_is c g 0 xs k (λ i l. ap (λ (s : List ℕ). get_or s (0 + i) 0) (appended_room d 0 xs c g p) ∙ get_d_put d 0 xs (omega arith) i (omega arith))

-- three runs, one after the other, from the start of a room
pub three : (d xs ys zs : List ℕ) (a b c : ℕ) (e f g : List ℕ)
    → appended_of a e ≡ appended d 0 xs → appended_of b f ≡ appended e a ys → appended_of c g ≡ appended f b zs
    → length xs + length ys + length zs ≤ length d → octets_at c g 0 ≡ xs ++ ys ++ zs
three d xs ys zs a b c e f g p q r h =
    let m : length (xs ++ ys) ≡ length xs + length ys = length-append xs ys in
    let n : length (xs ++ ys ++ zs) ≡ length (xs ++ ys) + length zs = length-append (xs ++ ys) zs in
    let o : appended_of b f ≡ appended d 0 (xs ++ ys) = appended_after d 0 xs ys a b e f (omega arith) p q in
    appended_part d (xs ++ ys ++ zs) c g (omega arith) (appended_after d 0 (xs ++ ys) zs b c f g (omega arith) o r)

-- the offset after a run stays inside the room, whether the run fits or not
appended_inside : (d : List ℕ) (at : ℕ) (xs : List ℕ) (p : ℕ) (e : List ℕ) → at ≤ length d → appended_of p e ≡ appended d at xs → p ≤ length e
unfolding next_offset
appended_inside d at xs p e h l =
    let n : p ≡ next_offset d at xs = ap (λ (z : Appended). z.next) l in
    let m : length e ≡ length d = appended_length d at xs p e l in
    split (leb (at + length xs) (length d))
    (λ q. let t : at + length xs ≤ length d = leb-true _ _ q in let k : p ≡ at + length xs = simp q at n in omega arith)
    (λ q. let k : p ≡ at = simp q at n in omega arith)

-- and so does the offset after three runs
module _ (d xs ys zs : List ℕ) (a b c : ℕ) (e f g : List ℕ)
    (p : appended_of a e ≡ appended d 0 xs) (q : appended_of b f ≡ appended e a ys) (r : appended_of c g ≡ appended f b zs) where
  pub three_inside : c ≤ length g
  three_inside =
      let i = appended_inside d 0 xs a e (omega arith) p in
      let j = appended_inside e a ys b f i q in
      appended_inside f b zs c g j r

  pub three_part : c ≡ length (take c g)
  three_part = sym (length-take-le c g three_inside)

-- ---- the lengths of words: a number of 64 bits, a code, a credit
pub word_most : (x m : ℕ) → length (word_of x m) ≤ 21
word_most x m = omega (arith, length_word x m, width_most x)

pub word_code : (x m : ℕ) → x < 2 ^ 8 → length (word_of x m) ≤ 4
word_code x m h = omega (arith, length_word x m, width_below x 2 (omega arith))

pub word_credit : (x m : ℕ) → x < 2 ^ 32 → length (word_of x m) ≤ 11
word_credit x m h = omega (arith, length_word x m, width_below x 9 (omega arith))

-- ---- a line written from a room of its own
pub line_appended : (d xs ys : List ℕ) (at r : ℕ) (e : List ℕ) → ys ≡ xs → appended_of r e ≡ appended d at ys → appended_of r e ≡ appended d at xs
line_appended d xs ys at r e p q = q ∙ ap (appended d at) p

-- a word by the test of its room
pub ruleset word_cases = (width_fits, word_not, word_appended)
