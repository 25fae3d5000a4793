use Rattle.example_lines.proofs.Words.{space_count}
use Rattle.example_lines.proofs.Image.{image_by}
use Rattle.example_lines.proofs.image_in.Goals as goal

pub slice_bounds-image_of-end : goal.slice_bounds-image_of-end
slice_bounds-image_of-end c = search space_count

pub returns : goal.returns
returns c = search image_by
