use mathlib.Core.Path.{◌≡◌, refl}
use lib.ListN.{length}
use Rattle.words.proofs.Laws.{mapped}
use Rattle.wire.proofs.Laws.{copy_again, copy_done, copy_full}
use Rattle.wire.proofs.copied.Goals as goal

pub loop-i-init : goal.loop-i-init
loop-i-init c = refl

pub returns-then-i-ge96 : goal.returns-then-i-ge96
returns-then-i-ge96 c =
    let h : length c.args.w.messages ≡ 96 = search mapped in
    search copy_full

pub loop-i-preserved : goal.loop-i-preserved
loop-i-preserved c =
    let h : length c.args.w.messages ≡ 96 = search mapped in
    search copy_again

pub returns : goal.returns
returns c =
    let h : length c.args.w.messages ≡ 96 = search mapped in
    search copy_done
