use mathlib.Core.Path.{◌≡◌}
use lib.ListN.{length}
use Rattle.words.proofs.Laws.{mapped}
use Rattle.wire.proofs.Laws.{nth_uncounted, nth_beyond, nth_found}
use Rattle.wire.proofs.message_at.Goals as goal

pub returns-then-w-k : goal.returns-then-w-k
returns-then-w-k c = search nth_uncounted

pub returns-then-k-lt96 : goal.returns-then-k-lt96
returns-then-k-lt96 c =
    let h : length c.args.w.messages ≡ 96 = search mapped in
    search nth_found

pub returns-else-k-lt96 : goal.returns-else-k-lt96
returns-else-k-lt96 c =
    let h : length c.args.w.messages ≡ 96 = search mapped in
    search nth_beyond
