use Rattle.words.proofs.Laws.{mapped}
use Rattle.piece_bytes.proofs.Writing.{state_put, state_narrow}
use borrow.Author.Rules.{rules}
use Rattle.piece_bytes.proofs.put_state.Goals as goal

pub returns-then-s-ge495 : goal.returns-then-s-ge495
returns-then-s-ge495 c =
    state_put c.args.s.now (search rules) c.args.k c.put_front.ensures c.put_rest.ensures

pub returns-else-s-ge495 : goal.returns-else-s-ge495
returns-else-s-ge495 c = search (state_narrow, mapped)
