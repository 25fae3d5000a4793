use Rattle.example_lines.proofs.Image.{reading_first, reading_stands, reading_again, reading_done}
use Rattle.example_lines.proofs.image_of.Goals as goal

pub loop-b-init : goal.loop-b-init
loop-b-init c = search reading_first

pub with_byte-p-requires : goal.with_byte-p-requires
with_byte-p-requires c = search reading_stands

pub loop-b-preserved : goal.loop-b-preserved
loop-b-preserved c = search reading_again

pub repeat-requires : goal.repeat-requires
repeat-requires c = search reading_stands

pub returns : goal.returns
returns c = search reading_done
