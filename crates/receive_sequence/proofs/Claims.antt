-- What passes: the table, and every number after every last number. Assumes nothing.
use Prim.Native.Nat.{ℕ, ◌+◌}
use mathlib.Core.Bool.{Bool, true, ◌||◌, or-true}
use mathlib.Core.Logic.{◌⊎◌, inl, inr, ◌↔◌}
use Rattle.std.specs.Prelude.{Some}
use mathlib.Core.Path.{◌≡◌, refl, sym, ap, ◌∙◌, subst}
use native.Mathlib.Omega.{arith}
use lib.Dec.{eqb}
use borrow.Author.Tests.{eqb-true, eq-eqb}
use Rattle.lists.proofs.Tests.{split}
use Rattle.receive_sequence.specs.Sequence.{next, passes}
use Rattle.receive_sequence.specs.Claims.{NumbersAreOctets, PassTable, PassesExactly}
use Rattle.receive_sequence.proofs.Passing.{next_adds, some_before}

pub numbers_are_octets : NumbersAreOctets
numbers_are_octets = (refl, refl)

pub pass_table : PassTable
unfolding passes next
pass_table = refl

-- a number is one of three exactly where one of three tests holds
one_of : (n a b c : ℕ) → ((eqb n a || eqb n b || eqb n c) ≡ true) ↔ ((n ≡ a) ⊎ (n ≡ b) ⊎ (n ≡ c))
one_of n a b c = (there, back)
  where
    there : (eqb n a || eqb n b || eqb n c) ≡ true → (n ≡ a) ⊎ (n ≡ b) ⊎ (n ≡ c)
    there e =
        split (eqb n a)
        (λ p. inl (eqb-true _ _ p))
        (λ p.
        split (eqb n b)
        (λ q. inr (inl (eqb-true _ _ q)))
        (λ q. let r : eqb n c ≡ true = simp (p, q) at e in inr (inr (eqb-true _ _ r))))

    back : (n ≡ a) ⊎ (n ≡ b) ⊎ (n ≡ c) → (eqb n a || eqb n b || eqb n c) ≡ true
    back (inl p) = simp (eq-eqb _ _ p)
    back (inr (inl p)) = ap (λ (x : Bool). eqb n a || x || eqb n c) (eq-eqb _ _ p) ∙ ap (λ (x : Bool). x || eqb n c) (or-true (eqb n a))
    back (inr (inr p)) = ap (λ (x : Bool). eqb n a || eqb n b || x) (eq-eqb _ _ p) ∙ or-true (eqb n a || eqb n b)

-- what passes after p, whose next numbers are a and b
steps : (p a b n : ℕ) → next p ≡ a → next a ≡ b → (passes (Some p) n ≡ true) ↔ ((n ≡ 0) ⊎ (n ≡ a) ⊎ (n ≡ b))
steps p a b n e f =
    subst (λ (x : Bool). (x ≡ true) ↔ ((n ≡ 0) ⊎ (n ≡ a) ⊎ (n ≡ b)))
    (sym (some_before p n ∙ rw (e, f) refl))
    (one_of n 0 a b)

pub passes_exactly : PassesExactly
unfolding next passes
passes_exactly =
    record {
      first = λ n. refl;
      below_254 = λ p n h.
          steps p (p + 1) (p + 2) n (sym (next_adds p (λ e. omega arith)))
          (let e : p + 1 + 1 ≡ next (p + 1) = next_adds (p + 1) (λ e. omega arith) in omega arith);
      after_254 = λ n. steps 254 255 1 n refl refl;
      after_255 = λ n. steps 255 1 2 n refl refl;
    }
