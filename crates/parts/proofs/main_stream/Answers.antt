use Rattle.frame.proofs.Tiling.{main_part_inside}
use Rattle.parts.proofs.main_stream.Goals as goal

pub part-requires : goal.part-requires
part-requires c = rw c.main_place.ensures (main_part_inside _)
