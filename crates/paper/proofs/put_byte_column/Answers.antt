use Rattle.paper.proofs.Put.{byte_column_by, no_byte_column_by}
use Rattle.paper.proofs.put_byte_column.Goals as goal

pub returns-then-has : goal.returns-then-has
returns-then-has c = search byte_column_by

pub returns-else-has : goal.returns-else-has
returns-else-has c = search no_byte_column_by
