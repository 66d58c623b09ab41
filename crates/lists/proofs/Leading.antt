-- Laws of the count of consecutive items, from the first, that pass a test. Clients use these laws and leave the
-- definition shut. Assumes nothing.
use Prim.Native.Nat.{ℕ, zero, suc, ◌≤◌, ◌<◌}
use mathlib.Core.Bool.{Bool, true, false, ◌&&◌, false≢true}
use mathlib.Core.Path.{◌≡◌, refl, sym, ap, ap₂, ◌∙◌}
use native.Mathlib.Omega.{arith}
use lib.Dec.{leb, eqb}
use borrow.Author.Tests.{leb-true, leb-false, eq-eqb, ne_eqb, eqb-true}
use Rattle.lists.proofs.Tests.{split, both}
use Rattle.lists.specs.Leading.{leading}

module _ (f : ℕ → Bool) where
  pub leading_zero : leading f 0 ≡ 0
  unfolding leading
  leading_zero = refl

  -- one more item that passes
  pub leading_on : (n : ℕ) → leading f n ≡ n → f n ≡ true → leading f (suc n) ≡ suc n
  unfolding leading
  leading_on n e t = simp (eq-eqb _ _ e, t)

  halt : (n : ℕ) → (eqb (leading f n) n && f n) ≡ false → leading f (suc n) ≡ leading f n
  unfolding leading
  halt n e = simp e

  stay : (n : ℕ) → (leading f n ≡ n → ⊥) → leading f (suc n) ≡ leading f n
  stay n h = halt n (ap (λ (b : Bool). b && f n) (ne_eqb _ _ h))

  fail : (n : ℕ) → leading f n ≡ n → f n ≡ false → leading f (suc n) ≡ n
  fail n e t = halt n (ap₂ ◌&&◌ (eq-eqb _ _ e) t) ∙ e

  pub leading_high : (n : ℕ) → leading f n ≤ n
  leading_high zero = rw leading_zero (omega arith)
  leading_high (suc n) =
      let h = leading_high n in
      split (eqb (leading f n) n && f n)
      (λ e.
      let b = both (eqb (leading f n) n) (f n) e in
      let q = leading_on n (eqb-true _ _ b.0) b.1 in omega arith)
      (λ e. let q = halt n e in omega arith)

  -- a test that fails at i, and passes before i, stops every longer count at i
  pub leading_stop : (i n : ℕ) → leading f i ≡ i → f i ≡ false → i < n → leading f n ≡ i
  leading_stop i zero e t h = absurd (omega arith)
  leading_stop i (suc n) e t h =
      split (leb n i)
      (λ q.
      let p : n ≤ i = leb-true _ _ q in
      let m : n ≡ i = omega arith in
      rw m (fail i e t))
      (λ q.
      let p : i < n = leb-false _ _ q in
      let r : leading f n ≡ i = leading_stop i n e t p in
      stay n (λ z. omega arith) ∙ r)

  -- every item before the count passes
  pub leading_before : (n k : ℕ) → k < leading f n → f k ≡ true
  leading_before zero k h = let z = leading_zero in absurd (omega arith)
  leading_before (suc n) k h =
      split (eqb (leading f n) n && f n)
      (λ e.
      let b = both (eqb (leading f n) n) (f n) e in
      let l : leading f n ≡ n = eqb-true _ _ b.0 in
      let q : leading f (suc n) ≡ suc n = leading_on n l b.1 in
      split (leb n k)
      (λ w. let p : n ≤ k = leb-true _ _ w in let m : n ≡ k = omega arith in rw m at b.1)
      (λ w. let p : k < n = leb-false _ _ w in leading_before n k (omega arith)))
      (λ e. let q = halt n e in leading_before n k (omega arith))

  -- the item at the count fails
  pub leading_fails : (n : ℕ) → leading f n < n → f (leading f n) ≡ false
  leading_fails zero h = absurd (omega arith)
  leading_fails (suc n) h =
      split (eqb (leading f n) n && f n)
      (λ e.
      let b = both (eqb (leading f n) n) (f n) e in
      let l : leading f n ≡ n = eqb-true _ _ b.0 in
      let q : leading f (suc n) ≡ suc n = leading_on n l b.1 in absurd (omega arith))
      (λ e.
      let q : leading f (suc n) ≡ leading f n = halt n e in
      rw q
      (split (eqb (leading f n) n)
      (λ z.
      let l : leading f n ≡ n = eqb-true _ _ z in
      rw l (ap (λ (b : Bool). b && f n) (sym z) ∙ e))
      (λ z.
      let p = leading_high n in
      let d : (leading f n ≡ n → ⊥) = λ y. false≢true (sym z ∙ eq-eqb _ _ y) in
      leading_fails n (omega arith))))

  -- the count is i where all items before i pass and item i fails, or i is all items
  pub leading_is : (i n : ℕ) → i ≤ n → ((k : ℕ) → k < i → f k ≡ true) → (i < n → f i ≡ false) → leading f n ≡ i
  leading_is i n h all end =
      let r = reach i all in
      split (leb n i)
      (λ q. let p : n ≤ i = leb-true _ _ q in let m : n ≡ i = omega arith in rw m r)
      (λ q. let p : i < n = leb-false _ _ q in leading_stop i n r (end p) p)
    where
      reach : (j : ℕ) → ((k : ℕ) → k < j → f k ≡ true) → leading f j ≡ j
      reach zero a = leading_zero
      reach (suc j) a = leading_on j (reach j (λ k l. a k (omega arith))) (a j (omega arith))

  -- a number up to which all pass, and at which one fails unless it is all items, is the count
  pub leading_found : (n i : ℕ) → i ≤ n → ((k : ℕ) → k < i → f k ≡ true) → (i < n → f i ≡ false) → i ≡ leading f n
  leading_found n i h all end = sym (leading_is i n h all end)

-- tests that agree below n have the same count
pub leading_same : (f g : ℕ → Bool) (n : ℕ) → ((k : ℕ) → k < n → f k ≡ g k) → leading f n ≡ leading g n
unfolding leading
leading_same f g zero h = refl
leading_same f g (suc n) h = rw (leading_same f g n (λ k l. h k (omega arith)), h n (omega arith))

-- ---- a counting loop: i items seen, the test of item i in hand
module _ (f : ℕ → Bool) (i : ℕ) (s : leading f i ≡ i) (r : Bool) (e : r ≡ f i) where
  pub count_stops : (n : ℕ) → i < n → r ≡ false → i ≡ leading f n
  count_stops n h q = sym (leading_stop f i n s (sym e ∙ q) h)

  pub count_goes_on : r ≡ true → leading f (suc i) ≡ suc i
  count_goes_on q = leading_on f i s (sym e ∙ q)

pub count_full : (f : ℕ → Bool) (i n : ℕ) → leading f i ≡ i → n ≤ i → i ≤ n → i ≡ leading f n
count_full f i n s h k = let e : i ≡ n = omega arith in sym s ∙ ap (leading f) e
