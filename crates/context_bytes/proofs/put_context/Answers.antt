use Rattle.words.proofs.Laws.{mapped}
use Rattle.context_bytes.proofs.Writing.{put_whole, context_narrow}
use Rattle.context_bytes.proofs.put_context.Goals as goal

pub returns-then-s-ge-SIZE : goal.returns-then-s-ge-SIZE
returns-then-s-ge-SIZE c = search put_whole

pub returns-else-s-ge-SIZE : goal.returns-else-s-ge-SIZE
returns-else-s-ge-SIZE c = search (context_narrow, mapped)
