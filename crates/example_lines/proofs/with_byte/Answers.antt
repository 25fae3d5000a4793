use Rattle.example_lines.proofs.Image.{byte_plus, byte_sign, byte_none, byte_digit}
use Rattle.example_lines.proofs.with_byte.Goals as goal

pub returns-then-b-eq43 : goal.returns-then-b-eq43
returns-then-b-eq43 c = search byte_plus

pub returns-then-b : goal.returns-then-b
returns-then-b c = search byte_sign

pub returns-then-b-eq45 : goal.returns-then-b-eq45
returns-then-b-eq45 c = search byte_none

pub returns : goal.returns
returns c = search byte_digit
