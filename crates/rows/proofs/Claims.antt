-- Rows in use and rows found, computed. Assumes nothing.
use mathlib.Core.Path.{refl}
use Rattle.lists.specs.Leading.{leading}
use Rattle.octets.specs.Numbers.{number_at}
use Rattle.rows.specs.Rows.{found_in}
use Rattle.rows.specs.Claims.{RowsInUse, FirstRowCounts}

pub rows_in_use_lem : RowsInUse
rows_in_use_lem = (refl, refl)

pub first_row_counts : FirstRowCounts
unfolding found_in leading number_at
first_row_counts = refl
