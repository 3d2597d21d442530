-- The bar of an allocation stands over its minislots, and over no other.
use Rattle.frame_picture.proofs.Under.{under_its_bar}
use Rattle.frame_picture.proofs.bar.every_bar.Goals as goal

pub returns : goal.returns
returns c = under_its_bar
