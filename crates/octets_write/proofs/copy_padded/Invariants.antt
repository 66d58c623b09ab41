-- `copy_padded`: the part octet by octet. The loop's invariant: the first i octets are written. Assumes nothing.
use lib.ListN.{length}
use Rattle.octets.proofs.Filled.{Filled, octet_from}
use Rattle.octets_write.proofs.copy_padded.Given as goal

abbrev pub invariant-loop-i : goal.invariant-loop-i
invariant-loop-i l = Filled l.initial.to 0 1 (octet_from l.from l.at) (length l.initial.to) l.i l.to
