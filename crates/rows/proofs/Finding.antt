-- Laws of the first row that has a number. Assumes nothing.
use Prim.Native.Nat.{ℕ, ◌+◌, ◌*◌, ◌≤◌, ◌<◌}
use mathlib.Core.Bool.{Bool, true, false, not, false≢true}
use mathlib.Core.List.{List}
use mathlib.Core.Path.{◌≡◌, sym, ap, ◌∙◌}
use native.Mathlib.Nat.{zero-add}
use native.Mathlib.Numerals.{add-one}
use native.Mathlib.Omega.{arith}
use lib.Dec.{ltb, eqb}
use borrow.Author.Tests.{lt-ltb, le-ltb, ltb-true, ltb-false, eq-eqb, ne_eqb, eqb-true, not-false}
use Rattle.std.specs.Prelude.{if◌then◌else◌}
use Rattle.lists.specs.Leading.{leading}
use Rattle.octets.specs.Numbers.{number_at}
use Rattle.lists.proofs.Leading.{leading_on, leading_stop, leading_before, leading_fails, leading_same}
use Rattle.lists.proofs.Tests.{split}
use Rattle.rows.specs.Rows.{Rows, table_of, number_octets, row_number, other_number, row_of, found_in}
use Rattle.rows.specs.Rows.{Found}
use Rattle.std.specs.Prelude.{Some, None}

-- ---- the search as a loop: none of the first i of `used` rows of w octets has number x
module _ (w : ℕ) (octets : List ℕ) (x used i : ℕ) (s : leading (other_number (table_of w octets) x) i ≡ i) where
  -- row i is in use, and its number is r
  module _ (h : i < used) (r : ℕ) (v : r ≡ number_at number_octets octets (w * i)) where
    number_is : row_number (table_of w octets) i ≡ r
    number_is = ap (number_at number_octets octets) (zero-add (w * i)) ∙ sym v

    pub search_on : (r ≡ x → ⊥) → leading (other_number (table_of w octets) x) (i + 1) ≡ i + 1
    search_on d =
        rw (add-one i)
        (leading_on (other_number (table_of w octets) x) i s (ap not (ne_eqb _ _ (λ q. d (sym number_is ∙ q)))))

    pub search_hit : r ≡ x → Some i ≡ found_in (table_of w octets) used x
    unfolding found_in
    search_hit q =
        let f : leading (other_number (table_of w octets) x) used ≡ i =
        leading_stop (other_number (table_of w octets) x) i used s (ap not (eq-eqb _ _ (number_is ∙ q))) h in
        rw f (simp (lt-ltb _ _ h))

  -- all rows were seen, and none has the number
  pub search_miss : i ≡ used → None ≡ found_in (table_of w octets) used x
  unfolding found_in
  search_miss m =
      let f : leading (other_number (table_of w octets) x) used ≡ used = rw m at s in
      rw f (simp (le-ltb used used (omega arith)))

-- ---- which row an answer names
abbrev at_row : Found → ℕ
at_row (Some i) = i
at_row None = 0

abbrev is_at : Found → Bool
is_at (Some i) = true
is_at None = false

-- ---- the search among n rows
module _ (l : Rows) (n x : ℕ) where
  -- case analysis of the row found
  by_found : (P : Found → Type 0) → (row_of l n x < n → P (Some (row_of l n x))) → (n ≤ row_of l n x → P None) → P (found_in l n x)
  unfolding found_in
  by_found P f g =
      split (ltb (row_of l n x) n)
      (λ e. simp e (f (ltb-true _ _ e)))
      (λ e. simp e (g (ltb-false _ _ e)))

  -- rows before the row found have other numbers
  others : (j : ℕ) → j < row_of l n x → row_number l j ≡ x → ⊥
  others j h q =
      let e : other_number l x j ≡ true = leading_before (other_number l x) n j h in
      false≢true (sym (ap not (eq-eqb _ _ q)) ∙ e)

  -- a row that is found is one of the n rows, has the number, and is the first that has the number
  pub first_found : (i : ℕ) → found_in l n x ≡ Some i → (i < n) × (row_number l i ≡ x) × ((j : ℕ) → j < i → row_number l j ≡ x → ⊥)
  first_found i =
      by_found (λ f. f ≡ Some i → (i < n) × (row_number l i ≡ x) × ((j : ℕ) → j < i → row_number l j ≡ x → ⊥))
      (λ h e.
      let q : row_of l n x ≡ i = ap at_row e in
      let t : other_number l x i ≡ false = rw q at (leading_fails (other_number l x) n h) in
      (omega arith, eqb-true _ _ (not-false (eqb (row_number l i) x) t), λ j k. others j (omega arith)))
      (λ h e. absurd (false≢true (ap is_at e)))

  -- where no row is found, none of the n rows has the number
  pub none_found : found_in l n x ≡ None → (j : ℕ) → j < n → row_number l j ≡ x → ⊥
  none_found =
      by_found (λ f. f ≡ None → (j : ℕ) → j < n → row_number l j ≡ x → ⊥)
      (λ h e. absurd (false≢true (sym (ap is_at e))))
      (λ h e j k. others j (omega arith))

-- rows with the same numbers give the same answer
pub found_same : (l m : Rows) (n x : ℕ) → ((j : ℕ) → j < n → row_number l j ≡ row_number m j) → found_in l n x ≡ found_in m n x
unfolding found_in
found_same l m n x h =
    let e : row_of l n x ≡ row_of m n x =
    leading_same (other_number l x) (other_number m x) n (λ j k. ap (λ (r : ℕ). not (eqb r x)) (h j k)) in
    ap (λ (i : ℕ). if ltb i n then Some i else None) e
