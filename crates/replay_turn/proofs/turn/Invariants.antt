-- `turn`: record by record. The loop's invariant is `Along`: the lines so far stand in the room, and what the turn still has to do
-- is the rest of what it has to do in all. Assumes nothing.
use Prim.Native.Nat.{◌-◌}
use Rattle.tables.specs.Lent.{config_in}
use Rattle.switch.specs.Call.{state_of}
use Rattle.replay_turn.proofs.Turning.{Along}
use Rattle.replay_turn.proofs.turn.Given as goal

abbrev pub invariant-loop : goal.invariant-loop
invariant-loop l = Along (config_in l.tables) l.log l.whole l.initial.out l.initial.here.at l.initial.here.frames (state_of l.initial.credits l.initial.lasts) l.initial.end l.out l.here.at l.here.frames (state_of l.credits l.lasts) l.here.written (l.end - l.counter)
