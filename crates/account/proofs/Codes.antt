-- The policing step's table of codes, from its definition alone. Assumes nothing.
use lib.Dec.{ltb, leb}
use Rattle.lists.specs.Lines.{first_fit}
use Rattle.lists.proofs.Tests.{split, not_above, above}
use Rattle.frame.specs.Frame.{length_code}
use Rattle.terms.specs.Terms.{cost}
use Rattle.account.specs.Account.{terms_of, account_sound, credit_at}
use Rattle.account.specs.Step.{judged, judged_at, policed}
use Rattle.account.specs.Claims.{StepCodesInOrder}

pub step_codes_in_order : StepCodesInOrder
unfolding first_fit length_code judged judged_at policed
step_codes_in_order a n t =
    split (ltb n 64)
    (λ e. simp e)
    (λ e. split (ltb 1518 n)
    (λ d. simp (e, d))
    (λ d. split (account_sound a)
    (λ v. split (ltb t a.last)
    (λ l. simp (e, d, v, l))
    (λ l. split (leb (cost (terms_of a) n) (credit_at a t))
    (λ c. simp (e, d, v, l, c, not_above (cost (terms_of a) n) (credit_at a t) c))
    (λ c. simp (e, d, v, l, c, above (cost (terms_of a) n) (credit_at a t) c))))
    (λ v. simp (e, d, v))))
