use Rattle.example_lines.proofs.Image.{digit_first, digit_second, digit_copies}
use Rattle.example_lines.proofs.with_digit.Goals as goal

pub returns-then-p-gt15 : goal.returns-then-p-gt15
returns-then-p-gt15 c = search digit_first

pub returns-then-p-eq0 : goal.returns-then-p-eq0
returns-then-p-eq0 c = search digit_second

pub returns : goal.returns
returns c = search digit_copies
