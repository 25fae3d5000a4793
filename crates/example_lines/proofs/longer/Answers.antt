use Rattle.example_lines.proofs.Words.{mul_by, add_by, longer_by, longer_over}
use Rattle.example_lines.proofs.longer.Goals as goal

pub overflow_mul-result : goal.overflow_mul-result
overflow_mul-result c = search mul_by

pub overflow_add-result : goal.overflow_add-result
overflow_add-result c = search add_by

pub returns-then-n-most : goal.returns-then-n-most
returns-then-n-most c = search (longer_by, add_by)

pub returns-else-n-most : goal.returns-else-n-most
returns-else-n-most c = search longer_over
