-- States computed from the definition.
--   from_2463534242, from_1   == the first three states from each
-- Assumes nothing.
use Rattle.std.specs.Prelude.{◌≡◌, refl}
use Rattle.shuffling.specs.Shuffle.{moved_on}

pub from_2463534242 : (moved_on 2463534242 ≡ 723471715) × (moved_on 723471715 ≡ 2497366906) × (moved_on 2497366906 ≡ 2064144800)
unfolding moved_on
from_2463534242 = (refl, refl, refl)

pub from_1 : (moved_on 1 ≡ 270369) × (moved_on 270369 ≡ 67634689) × (moved_on 67634689 ≡ 2647435461)
unfolding moved_on
from_1 = (refl, refl, refl)
