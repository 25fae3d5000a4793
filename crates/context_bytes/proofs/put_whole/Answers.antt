use Rattle.context_bytes.proofs.Writing.{context_put}
use Rattle.context_bytes.proofs.put_whole.Goals as goal

pub returns : goal.returns
returns c =
    context_put c.args.s.now c.requires c.args.c c.flag_of-flag.ensures c.put_bytes.ensures c.put_events.ensures c.put_modules.ensures
    c.put_supervisors.ensures
