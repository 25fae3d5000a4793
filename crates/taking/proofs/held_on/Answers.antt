use Prim.Native.Nat.{◌+◌, ◌≤◌}
use lib.ListN.{length}
use Rattle.taking.proofs.Steps.{held_few, held_went}
use borrow.Author.Rules.{rules}
use Rattle.taking.proofs.held_on.Goals as goal

pub overflow_cast-n-2 : goal.overflow_cast-n-2
overflow_cast-n-2 c =
    let l : c.args.held + length c.args.piece.now ≤ 11 =
    held_few c.args.piece.now c.args.state.now c.args.cut c.args.held c.args.taken c.requires.0 c.requires.1 c.requires.3 c.requires.2 in
    search rules

pub overflow_add-held : goal.overflow_add-held
overflow_add-held c =
    let l : c.args.held + length c.args.piece.now ≤ 11 =
    held_few c.args.piece.now c.args.state.now c.args.cut c.args.held c.args.taken c.requires.0 c.requires.1 c.requires.3 c.requires.2 in
    search rules

pub returns : goal.returns
returns c =
    held_went _ _ _ _ _ c.requires.0 c.requires.1 c.requires.3 c.requires.2 c.wide.ensures c.put_bytes.ensures c.put_progress.ensures
