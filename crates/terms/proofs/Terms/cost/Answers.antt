-- `cost`: 0 where a limit is broken or no frame has the octets; otherwise the product fits. Assumes nothing.
use native.Mathlib.Omega.{arith}
use Rattle.terms.proofs.Methods.{none_charged, limits_tested, no_frame, frame_high, product_fits, product_given}
use Rattle.terms.proofs.Terms.cost.Goals as goal

pub returns-then-not-are_good : goal.returns-then-not-are_good
returns-then-not-are_good c = search none_charged

pub returns-then-not-is_frame_size : goal.returns-then-not-is_frame_size
returns-then-not-is_frame_size c = search no_frame

pub overflow_cast-octets : goal.overflow_cast-octets
overflow_cast-octets c =
    let h = frame_high _ _ c.are_good.ensures c.if-not-are_good.false _ _ c.is_frame_size.ensures c.if-not-is_frame_size.false in
    omega (arith, h)

pub bag_of-requires : goal.bag_of-requires
bag_of-requires c = (limits_tested _ _ c.are_good.ensures c.if-not-are_good.false).k_high

pub overflow_mul-result : goal.overflow_mul-result
overflow_mul-result c = record { fits = search product_fits }

pub returns : goal.returns
returns c = search product_given
