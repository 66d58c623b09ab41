-- `put_digits`: nothing without room, else digit by digit from the last. Assumes nothing.
use Rattle.std.proofs.Common.{rules, ◌≡◌, ◌+◌, ◌-◌, ◌≤◌, length}
use native.Mathlib.Omega.{arith}
use Rattle.octets.proofs.Runs.{put_refused}
use Rattle.octets.proofs.Tests.{fits}
use Rattle.replay_words.proofs.Decimal.{length_digits, tens_none, digits_start, digits_rest, digits_digit, digits_all}
use Rattle.replay_words.proofs.digits.put_digits.Goals as goal
use Rattle.replay_words.proofs.digits.put_digits.Goals.{Else-not-has_room}

-- past the test there is room
room : (c : Else-not-has_room) → c.args.at + c.args.w ≤ length c.args.to.now
room c = fits _ _ _ _ c.has_room.ensures c.if-not-has_room.false

pub returns-then-not-has_room : goal.returns-then-not-has_room
returns-then-not-has_room c = search (put_refused, length_digits)

pub loop-i-init : goal.loop-i-init
loop-i-init c =
    let a = c.args in
    let z : a.w - a.w ≡ 0 = omega arith in
    (digits_start a.to.now a.at a.w a.x, rw z (tens_none a.x))

pub loop-i-preserved : goal.loop-i-preserved
loop-i-preserved c = search (room, digits_digit, digits_rest, rules)

pub returns : goal.returns
returns c = search digits_all
