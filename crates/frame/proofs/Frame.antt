-- Laws of the frame's definitions, case by case. Assumes nothing.
use Prim.Native.Nat.{ℕ, ◌+◌, ◌-◌, ◌≤◌, ◌<◌}
use mathlib.Core.Bool.{true}
use mathlib.Core.Path.{◌≡◌, sym, ◌∙◌}
use mathlib.Core.List.{List, []}
use native.Mathlib.Nat.{zero-add}
use native.Mathlib.Omega.{arith}
use lib.Dec.{ltb, eqb}
use lib.ListN.{length, take, drop}
use borrow.Author.Tests.{ltb-true, ltb-false, lt-ltb, le-ltb, eq-eqb, ne_eqb, eqb-true}
use Rattle.lists.proofs.Tests.{split}
use Rattle.frame.specs.Limits.{smallest_frame, largest_frame}
use Rattle.frame.specs.Frame.{Reading, length_code, link_number, sequence_number, sequence_offset, header_of, payload_start, payload_of, payload_place}

-- ---- the code of a length
module _ (n : ℕ) where
  pub length_short : n < smallest_frame → length_code n ≡ 1
  unfolding length_code
  length_short h = simp (lt-ltb _ _ h)

  pub length_long : smallest_frame ≤ n → largest_frame < n → length_code n ≡ 2
  unfolding length_code
  length_long h k = simp (le-ltb _ _ h, lt-ltb _ _ k)

  pub length_good : smallest_frame ≤ n → n ≤ largest_frame → length_code n ≡ 0
  unfolding length_code
  length_good h k = simp (le-ltb _ _ h, le-ltb _ _ k)

  -- case analysis of a length
  pub by_length : {P : Type 0} → (n < smallest_frame → length_code n ≡ 1 → P)
      → (smallest_frame ≤ n → largest_frame < n → length_code n ≡ 2 → P)
      → (smallest_frame ≤ n → n ≤ largest_frame → length_code n ≡ 0 → P) → P
  by_length f g h =
      split (ltb n smallest_frame)
      (λ e. let a = ltb-true _ _ e in f a (length_short a))
      (λ e. let a = ltb-false _ _ e in
      split (ltb largest_frame n)
      (λ d. let b = ltb-true _ _ d in g a b (length_long a b))
      (λ d. let b = ltb-false _ _ d in h a b (length_good a b)))

  -- a length of code 0 is within the limits
  pub within : length_code n ≡ 0 → (smallest_frame ≤ n) × (n ≤ largest_frame)
  within z =
      by_length
      (λ _ e. absurd (omega arith))
      (λ _ _ e. absurd (omega arith))
      (λ h k _. (h, k))

  -- a length that passes the test of the code
  pub fits : eqb (length_code n) 0 ≡ true → (smallest_frame ≤ n) × (n ≤ largest_frame)
  fits e = within (eqb-true _ _ e)

-- a frame that is read has the smallest size or more
pub long_enough_lem : (n r : ℕ) → r ≡ length_code n → r ≡ 0 → smallest_frame ≤ n
long_enough_lem n r e z = (within n (sym e ∙ z)).0

-- ---- frame reading, by the code r of the length
module _ (f : List ℕ) (r : ℕ) (e : r ≡ length_code (length f)) where
  pub header_refused : (r ≡ 0 → ⊥) → ◌≡◌ {A = Reading} (record { code = r; link = 0; sequence = 0 }) (header_of f)
  unfolding header_of
  header_refused h = simp (e, ne_eqb (length_code (length f)) 0 (rw e at h))

  pub header_read : (l s : ℕ) → r ≡ 0 → l ≡ link_number f → s ≡ sequence_number f
      → ◌≡◌ {A = Reading} (record { code = 0; link = l; sequence = s }) (header_of f)
  unfolding header_of
  header_read l s z p q = simp (p, q, eq-eqb (length_code (length f)) 0 (sym e ∙ z))

  pub payload_refused : (p : ℕ × ℕ) → (r ≡ 0 → ⊥) → ([] ≡ payload_of f) × ((p.0, 0 + p.1) ≡ payload_place p f)
  unfolding payload_of payload_place
  payload_refused p h =
      let k = ne_eqb (length_code (length f)) 0 (rw e at h) in
      (simp k, simp (k, zero-add))

  pub payload_read : (p : ℕ × ℕ) → r ≡ 0
      → (take (sequence_offset f - payload_start) (drop payload_start f) ≡ payload_of f) × ((p.0, payload_start + p.1) ≡ payload_place p f)
  unfolding payload_of payload_place
  payload_read p z =
      let k = eq-eqb (length_code (length f)) 0 (sym e ∙ z) in
      (simp k, simp k)

-- the code that reading reports is that of the length
pub header_code : (f : List ℕ) → (header_of f).code ≡ length_code (length f)
unfolding header_of
header_code f =
    split (eqb (length_code (length f)) 0)
    (λ e. simp e (sym (eqb-true _ _ e)))
    (λ e. simp e)
