-- `field_offset`: the sum of the definition. Assumes nothing.
use Rattle.image_layout.specs.Layout.{field_offset}
use mathlib.Core.Path.{refl}
use Rattle.image_layout.proofs.field_offset.Goals as goal

pub returns : goal.returns
unfolding field_offset
returns c = refl
