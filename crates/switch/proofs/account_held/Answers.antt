-- `account_held`: the account's row, read from a part of just its length. Assumes nothing.
use Prim.Native.Nat.{◌*◌}
use mathlib.Core.Path.{sym, ap, ◌∙◌}
use native.Mathlib.Nat.{zero-add}
use native.Mathlib.Omega.{arith}
use lib.ListN.{get_or}
use Rattle.terms.specs.declared.Terms.{Terms}
use Rattle.account.specs.Account.{account_of}
use Rattle.tables.specs.Rows.{account_octets, terms_at}
use Rattle.tables.proofs.Rows.{terms_within}
use Rattle.switch.specs.Call.{account_held}
use Rattle.switch.proofs.account_held.Goals as goal

pub returns : goal.returns
unfolding account_held
returns c =
    let a = c.args in
    ap (λ (t : Terms). account_of t (get_or a.credits.now a.a 0) (get_or a.lasts.now a.a 0))
    (c.of_octets.ensures ∙ terms_within _ _ _ (omega arith) ∙ ap (terms_at a.accounts.now) (sym (zero-add (account_octets * a.a))))
