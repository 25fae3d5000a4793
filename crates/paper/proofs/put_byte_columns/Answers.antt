use Rattle.paper.proofs.Put.{byte_columns_by, four_length}
use Rattle.paper.proofs.put_byte_columns.Goals as goal

pub returns : goal.returns
returns c = search (byte_columns_by, four_length)
