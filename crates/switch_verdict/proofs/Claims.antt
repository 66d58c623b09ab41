-- Different verdicts report different values. Assumes nothing.
use Prim.Native.Nat.{ℕ}
use mathlib.Core.Bool.{cond}
use mathlib.Core.Option.{Option, none, some}
use mathlib.Core.Path.{◌≡◌, refl, sym, ap, ◌∙◌}
use lib.Dec.{eqb}
use Rattle.switch_verdict.specs.declared.Verdict.{Verdict}
use Rattle.switch_verdict.specs.declared.Verdict.TheVariants.{Forwarded, Short, Late, Refused}
use Rattle.switch_verdict.specs.Verdict.{Report, reported}
use Rattle.switch_verdict.specs.Claims.{VerdictsApart}

-- ---- a verdict, from what it reports
heard : Report → Verdict
heard w = from w.mask w.credit
  where
    from : Option ℕ → Option ℕ → Verdict
    from (some m) (some c) = Forwarded m c
    from (some m) none = Refused w.code
    from none (some c) = cond (eqb w.code 9) (Short c) (Late c)
    from none none = Refused w.code

heard_reported : (v : Verdict) → heard (reported v) ≡ v
unfolding heard
heard_reported (Forwarded m c) = refl
heard_reported (Short c) = refl
heard_reported (Late c) = refl
heard_reported (Refused n) = refl

pub verdicts_apart : VerdictsApart
verdicts_apart v w e = sym (heard_reported v) ∙ ap heard e ∙ heard_reported w
