-- `receive_at`: what was received on the part was received on the whole. Assumes nothing.
use native.Mathlib.Omega.{arith}
use borrow.Author.Rules.{rules}
use Rattle.receive.specs.Lent.{skew_in, rows_in_use}
use Rattle.receive.proofs.Part.{received_in_part}
use Rattle.receive.proofs.receive_at.Goals as goal

pub returns : goal.returns
unfolding skew_in rows_in_use
returns c = received_in_part _ _ _ (omega arith) (omega arith) _ (search rules) _ _ c.number_at-skew.ensures _ _ c.receive_on.ensures
