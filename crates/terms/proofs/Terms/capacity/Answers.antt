-- `capacity`: 0 where a limit is broken; within the limits the sum and the product fit. Assumes nothing.
use Rattle.terms.proofs.Methods.{limits_tested, none_full, window_fits, full_fits, full_given}
use Rattle.terms.proofs.Terms.capacity.Goals as goal

pub returns-then-not-are_good : goal.returns-then-not-are_good
returns-then-not-are_good c = none_full _ _ c.are_good.ensures c.if-not-are_good.true

pub bag_of-requires : goal.bag_of-requires
bag_of-requires c = (limits_tested _ _ c.are_good.ensures c.if-not-are_good.false).k_high

pub overflow_add-result : goal.overflow_add-result
overflow_add-result c = record { fits = search window_fits }

pub overflow_mul-result : goal.overflow_mul-result
overflow_mul-result c = record { fits = search full_fits }

pub returns : goal.returns
returns c = search full_given
