-- Laws of answers in numbers. Assumes nothing.
use Prim.Native.Nat.{ℕ}
use mathlib.Core.Bool.{◌&&◌}
use mathlib.Core.Path.{◌≡◌}
use lib.Dec.{leb}
use borrow.Author.Tests.{ne_eqb}
use Rattle.lists.proofs.Tests.{split}
use Rattle.account.specs.Account.{holding, account_sound, topped_up}
use Rattle.account.specs.declared.Account.{Account}
use Rattle.exports.specs.Numbers.{network_of}
use Rattle.receive_answer.specs.declared.Network.TheVariants.{B}

-- a top-up changes the credit and the last time alone
pub topped_keeps : (a : Account) (t : ℕ) → holding a (topped_up a t).credit (topped_up a t).last ≡ topped_up a t
unfolding topped_up
topped_keeps a t = split (account_sound a && leb a.last t) (λ e. simp e) (λ e. simp e)

-- any number but 0 is network B
pub network_b : (n : ℕ) → (n ≡ 0 → ⊥) → network_of n ≡ B
network_b n d = simp (ne_eqb _ _ d)
