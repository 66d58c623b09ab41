-- The runs that loading is lent, from the struct that the code passes.
use Rattle.std.specs.Prelude.{◌≡◌}
use Rattle.image_fill.specs.declared.LentRuns.{LentRuns}
use Rattle.image_fill.specs.Filling.{Runs, runs_of}

abbrev pub runs_in : LentRuns → Runs
runs_in r = runs_of r.accounts.now r.credits.now r.lasts.now r.links.now

-- each run is still the one that was lent
pub record SameRuns (old new : LentRuns) : Type 0 where
  pub accounts : new.accounts.ghost_name ≡ old.accounts.ghost_name
  pub credits : new.credits.ghost_name ≡ old.credits.ghost_name
  pub lasts : new.lasts.ghost_name ≡ old.lasts.ghost_name
  pub links : new.links.ghost_name ≡ old.links.ghost_name
