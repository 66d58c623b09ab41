-- Laws of sequence numbers; the last number is held in a word. Assumes nothing.
use Prim.Native.Nat.{ℕ, ◌+◌, ◌-◌, ◌≤◌, ◌<◌}
use mathlib.Core.Bool.{false, ◌||◌}
use Rattle.std.specs.Prelude.{Some, None}
use mathlib.Core.Path.{◌≡◌, refl}
use native.Mathlib.Omega.{arith}
use lib.Dec.{eqb}
use borrow.Author.Tests.{eq-eqb, ne_eqb}
use Rattle.receive_sequence.specs.Sequence.{greatest_number, next, passes, number_of}

pub next_adds : (n : ℕ) → (n ≡ greatest_number → ⊥) → n + 1 ≡ next n
unfolding next
next_adds n d = simp (ne_eqb _ _ d)

pub number_none : (w : ℕ) → w ≡ 0 → number_of w ≡ None
unfolding number_of
number_none w e = simp (eq-eqb _ _ e)

pub number_some : (w : ℕ) → (w ≡ 0 → ⊥) → number_of w ≡ Some (w - 1)
unfolding number_of
number_some w d = simp (ne_eqb _ _ d)

pub some_before : (p n : ℕ) → passes (Some p) n ≡ (eqb n 0 || eqb n (next p) || eqb n (next (next p)))
unfolding passes
some_before p n = refl

-- after a number that is no octet only 0 passes
pub passes_forged : (p n : ℕ) → 256 ≤ p → n < 256 → (n ≡ 0 → ⊥) → false ≡ passes (Some p) n
unfolding passes
passes_forged p n h l z =
    let a : p + 1 ≡ next p = next_adds p (λ e. omega arith) in
    let b : next p + 1 ≡ next (next p) = next_adds (next p) (λ e. omega arith) in
    simp (ne_eqb n 0 z, ne_eqb n (next p) (λ e. omega arith), ne_eqb n (next (next p)) (λ e. omega arith))
