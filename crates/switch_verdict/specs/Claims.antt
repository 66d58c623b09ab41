-- What holds of every verdict (document 01, "Codes, in order of checking"); proved in proofs/Claims.antt.
use Rattle.std.specs.Prelude.{◌≡◌}
use Rattle.switch_verdict.specs.declared.Verdict.{Verdict}
use Rattle.switch_verdict.specs.Verdict.{reported}

-- two verdicts that report the same are the same
abbrev pub VerdictsApart : Type 0
VerdictsApart = (v w : Verdict) → reported v ≡ reported w → v ≡ w
