-- `turn`: record by record. The loop's invariant is `Along`: the lines so far stand in the room, and what the turn still has to do
-- is the rest of what it has to do in all. Assumes nothing.
use native.Mathlib.Omega.{arith}
use Rattle.replay_turn.proofs.Turning.{along_start, along_full, along_stop, along_many, along_frame}
use Rattle.replay_turn.proofs.turn.Goals as goal

pub loop-init : goal.loop-init
loop-init c = along_start _ _ _ _ _ _ _ _ _ (omega arith) (omega arith)

pub returns-in_default : goal.returns-in_default
returns-in_default c =
    let e = along_stop _ _ _ _ _ _ _ _ c.loop.invariant (omega arith) _ _ _ c.next-entry.ensures c.in_default.not-Frame c.end_turn.ensures in
    record { turned = e.0; written_inside = e.1 }

pub returns-in_default-checked_add-clause-turned : goal.returns-in_default-checked_add-clause-turned
returns-in_default-checked_add-clause-turned c =
    let e = along_many _ _ _ _ _ _ _ _ c.loop.invariant (omega arith) _ _ _ _ c.next-entry.ensures c.in-Frame.is (omega (arith, c.in_default-checked_add.ensures))
    c.end_turn-in_default-checked_add.ensures in
    e.0

pub loop-preserved : goal.loop-preserved
loop-preserved c =
    along_frame _ _ _ _ _ _ _ _ c.loop.invariant (omega arith) _ _ c.next-entry.ensures c.in-Frame.is _ _ (omega (arith, c.in-Some.ensures)) (omega (arith, c.in-Some.ensures)) (omega arith) _ _ _
    c.put_answer.ensures.line_put c.put_answer.ensures.fits

pub returns-clause-turned : goal.returns-clause-turned
returns-clause-turned c =
    let e = along_full _ _ _ _ _ _ _ _ c.loop.invariant (omega arith) in
    e.0
