-- `put_digits`: the digits from i on are written, and so much of the number is left. Assumes nothing.
use Rattle.std.proofs.Common.{◌≡◌, ◌+◌, ◌-◌}
use Rattle.octets.specs.Runs.{put}
use Rattle.replay_words.specs.Digits.{digits_of, tens_left}
use Rattle.replay_words.proofs.digits.put_digits.Given as goal

abbrev pub invariant-loop-i : goal.invariant-loop-i
invariant-loop-i l = (l.to ≡ put l.initial.to (l.at + l.i) (digits_of (l.w - l.i) l.x)) × (l.rest ≡ tens_left l.x (l.w - l.i))
