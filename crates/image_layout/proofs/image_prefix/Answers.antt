-- `image_prefix`: the figure is the one that the layout gives. Assumes nothing.
use mathlib.Core.Path.{refl}
use Rattle.image_layout.specs.Layout.{field_offset}
use Rattle.image_layout.proofs.image_prefix.Goals as goal

pub returns : goal.returns
unfolding field_offset
returns c = refl
