-- Numbers written and read, both ways, at every width. Assumes nothing.
use Prim.Native.Nat.{ℕ, ◌+◌, ◌≤◌}
use mathlib.Core.Path.{sym, ap, ◌∙◌}
use native.Mathlib.Nat.{zero-add}
use native.Mathlib.Omega.{arith}
use lib.ListN.{length, get_or}
use Rattle.octets.specs.Numbers.{octets_of}
use Rattle.octets.specs.Runs.{put}
use Rattle.octets.specs.Claims.{ReadsBack, WritesBack}
use Rattle.octets.proofs.Numbers.{number_shift, number_octets_lem, length_octets}
use Rattle.octets.proofs.Parts.{octets_number}
use Rattle.octets.proofs.Runs.{get_d_put, put_own}

pub reads_back : ReadsBack
reads_back w d at x h k =
    let l = length_octets w x in
    let r : at + length (octets_of w x) ≤ length d = omega arith in
    number_shift w (put d at (octets_of w x)) (octets_of w x) at 0
    (λ i b. get_d_put d at (octets_of w x) r i (omega arith) ∙ ap (λ (j : ℕ). get_or (octets_of w x) j 0) (sym (zero-add i)))
    ∙ number_octets_lem w x k

pub writes_back : WritesBack
writes_back w d at o = ap (put d at) (octets_number w d at o) ∙ put_own w d at
