use Rattle.words.proofs.Laws.{mapped}
use Rattle.context_bytes.proofs.Writing.{context_size}
use Rattle.piece_bytes.proofs.Writing.{rest_put}
use Rattle.piece_bytes.proofs.put_rest.Goals as goal

pub returns : goal.returns
returns c =
    (search (rest_put, context_size, mapped), search (context_size, mapped))
