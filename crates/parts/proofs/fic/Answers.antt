use Rattle.frame.proofs.Tiling.{fic_part_inside}
use Rattle.parts.proofs.fic.Goals as goal

pub part-requires : goal.part-requires
part-requires c = rw c.fic_place.ensures (fic_part_inside _)
