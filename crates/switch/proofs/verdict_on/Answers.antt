-- `verdict_on`: by the frame's route; the account is in use where its credit and last time are stored. Assumes nothing.
use native.Mathlib.Omega.{arith}
use Rattle.std.proofs.lemmas.Result.{err_from_is_err_and}
use Rattle.switch.proofs.Call.{call_stopped, call_unused, call_kept, call_ruled}
use Rattle.switch.proofs.verdict_on.Goals as goal

pub returns-in_err-link : goal.returns-in_err-link
returns-in_err-link c =
    let p = err_from_is_err_and c.from_residual.result c.from_residual.ensures.1 in rw (p.1, p.2) (call_stopped _ _ _ _ c.in_err-link.ensures)

pub returns-then-used-a : goal.returns-then-used-a
returns-then-used-a c = call_unused _ _ _ _ c.in_ok-link.ensures _ c.accounts_in_use-used.ensures (omega arith)

pub returns-in_err-ruling : goal.returns-in_err-ruling
returns-in_err-ruling c =
    let p = err_from_is_err_and c.from_residual-in_err-ruling.result c.from_residual-in_err-ruling.ensures.1 in
    rw (p.1, p.2) (call_kept _ _ _ _ c.in_ok-link.ensures _ c.accounts_in_use-used.ensures _ c.account_held-account.ensures _ c.in_err-ruling.ensures)

pub returns : goal.returns
returns c =
    call_ruled _ _ _ _ c.in_ok-link.ensures _ c.accounts_in_use-used.ensures _ c.account_held-account.ensures _ _ _ c.in_ok-ruling.ensures _ c.of_outcome.ensures
