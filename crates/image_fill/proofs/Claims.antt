-- The runs that loading is lent, each by its name, and when they are long enough. Assumes nothing.
use Prim.Native.Nat.{◌*◌}
use mathlib.Core.Bool.{◌&&◌}
use mathlib.Core.Path.{refl}
use lib.Dec.{leb}
use lib.ListN.{length}
use borrow.Author.Tests.{leb-true, le-leb}
use Rattle.lists.proofs.Tests.{both}
use Rattle.image_fill.specs.Filling.{runs_hold}
use Rattle.image_fill.specs.Claims.{RunParts, LongEnoughExactly}

pub run_parts : RunParts
run_parts a c t l = (refl, refl, refl, refl)

-- ---- the lengths of runs, from the definition alone
pub long_enough_exactly : LongEnoughExactly
unfolding runs_hold
long_enough_exactly n m r = (
  λ e.
      let a = both (leb (6 * n) (length r.accounts) && leb n (length r.credits) && leb n (length r.lasts)) (leb (13 * m) (length r.links)) e in
      let b = both (leb (6 * n) (length r.accounts) && leb n (length r.credits)) (leb n (length r.lasts)) a.0 in
      let c = both (leb (6 * n) (length r.accounts)) (leb n (length r.credits)) b.0 in
      (leb-true _ _ c.0, leb-true _ _ c.1, leb-true _ _ b.1, leb-true _ _ a.1),
  λ h. simp (le-leb _ _ h.0, le-leb _ _ h.1, le-leb _ _ h.2, le-leb _ _ h.3),
)
