use Rattle.frame.proofs.Tiling.{stream_part_inside}
use Rattle.parts.proofs.stream.Goals as goal

pub part-requires : goal.part-requires
part-requires c = rw c.stream_place.ensures (stream_part_inside _ _)
