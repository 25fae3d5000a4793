use Rattle.std.proofs.Common.{rules}
use Rattle.words.specs.Word.{quad_bytes}
use Rattle.words.proofs.put_quad.Goals as goal

pub returns : goal.returns
unfolding quad_bytes
returns c = search rules
