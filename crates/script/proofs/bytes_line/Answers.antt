use Rattle.script.proofs.Bytes.{bytes_by}
use Rattle.script.proofs.bytes_line.Goals as goal

pub returns : goal.returns
returns c = search bytes_by
