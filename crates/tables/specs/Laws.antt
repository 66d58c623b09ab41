-- The proofs of the laws of the trait `Row`: what a row says is settled by its own octets. Rattle takes the proof of a trait's law
-- from `specs`; nothing here has to be believed.
use Rattle.std.specs.Prelude.{ℕ, ◌+◌, ◌<◌, ◌≤◌, ◌≡◌, List, get_or}
use native.Mathlib.Nat.{add_assoc}
use native.Mathlib.Omega.{arith}
use Rattle.octets.specs.Numbers.{number_at}
use Rattle.octets.proofs.Numbers.{number_shift}
use Rattle.tables.specs.Rows.{account_octets, link_octets, terms_at, link_at}

module _ (s t : List ℕ) (a b : ℕ) where
  -- a number inside a row of w octets
  inside : (w : ℕ) → ((k : ℕ) → k < w → get_or s (a + k) 0 ≡ get_or t (b + k) 0) → (v x : ℕ) → x + v ≤ w → number_at v s (a + x) ≡ number_at v t (b + x)
  inside w h v x q = number_shift v s t (a + x) (b + x) (λ k l. simp add_assoc (h (x + k) (omega arith)))

  start : (w : ℕ) → ((k : ℕ) → k < w → get_or s (a + k) 0 ≡ get_or t (b + k) 0) → (v : ℕ) → v ≤ w → number_at v s a ≡ number_at v t b
  start w h v q = number_shift v s t a b (λ k l. h k (omega arith))

  pub terms_same : ((k : ℕ) → k < account_octets → get_or s (a + k) 0 ≡ get_or t (b + k) 0) → terms_at s a ≡ terms_at t b
  unfolding terms_at
  terms_same h =
      rw (start 6 h 2 (omega arith), h 2 (omega arith), inside 6 h 2 3 (omega arith), h 5 (omega arith))

  pub link_same : ((k : ℕ) → k < link_octets → get_or s (a + k) 0 ≡ get_or t (b + k) 0) → link_at s a ≡ link_at t b
  unfolding link_at
  link_same h =
      rw (start 13 h 2 (omega arith), h 2 (omega arith), inside 13 h 4 3 (omega arith), inside 13 h 2 7 (omega arith), inside 13 h 2 9 (omega arith), inside 13 h 2 11 (omega arith))
