-- `answer`: by the room in the buffer. Assumes nothing.
use native.Mathlib.Omega.{arith}
use Rattle.replay_answer.proofs.Answering.{replied_long, replied_copied}
use Rattle.replay_answer.proofs.answer.Goals as goal

pub returns-in_default : goal.returns-in_default
returns-in_default c = rw c.into.ensures (replied_long _ _ _ _ _ c.args.logged c.copy.ensures (omega arith) (omega (arith, c.in_default.ensures.lookup)))

pub returns : goal.returns
returns c =
    let l = c.in-Some.ensures.lookup.0 in
    replied_copied _ _ _ _ _ c.args.logged c.copy.ensures _ l.2 (omega arith) _ c.frame_call.ensures
