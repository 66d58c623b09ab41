-- `load`: the image first, then the runs. Assumes nothing.
use native.Mathlib.Omega.{arith}
use Rattle.image_read.proofs.Reading.{few_accounts_read, few_links_read}
use Rattle.image_load.proofs.Loading.{load_short, load_filled}
use Rattle.image_load.proofs.load.Goals as goal

pub overflow_cast-accounts : goal.overflow_cast-accounts
overflow_cast-accounts c = omega (arith, few_accounts_read _ _ c.in_ok-settings.ensures)

pub overflow_cast-links : goal.overflow_cast-links
overflow_cast-links c = omega (arith, few_links_read _ _ c.in_ok-settings.ensures)

pub returns-then-not-holds-clause-loaded : goal.returns-then-not-holds-clause-loaded
returns-then-not-holds-clause-loaded c = load_short _ _ _ c.in_ok-settings.ensures _ c.holds.ensures c.if-not-holds.true

pub returns-clause-loaded : goal.returns-clause-loaded
returns-clause-loaded c =
    load_filled _ _ _ c.in_ok-settings.ensures _ c.holds.ensures c.if-not-holds.false _ c.fill_runs.ensures.filled
