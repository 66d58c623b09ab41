-- `decide`: the step with capacity and cost in hand; the refusals need no answer. Assumes nothing.
use Rattle.switch.proofs.Call.{decided_step}
use Rattle.switch.proofs.decide.Goals as goal

pub returns : goal.returns
returns c =
    decided_step _ _ _ _ _ _ c.if-not-link_sound.ensures _ c.in_ok-capacity.ensures c.in_ok-check_port.ensures c.requires _ c.cost.ensures _ c.judge.ensures
