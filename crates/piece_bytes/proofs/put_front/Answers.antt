use Rattle.words.proofs.Laws.{mapped}
use Rattle.piece_bytes.proofs.Writing.{front_put}
use Rattle.piece_bytes.proofs.put_front.Goals as goal

pub returns : goal.returns
returns c = (search (front_put, mapped), search mapped)
