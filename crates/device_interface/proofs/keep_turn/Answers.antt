use mathlib.Core.Path.{◌≡◌}
use lib.ListN.{length}
use Rattle.roundtrip.specs.Fits.{Bytes}
use Rattle.modules.proofs.Queue.{eight}
use Rattle.device_interface.proofs.Laws.{after_none, after_event}
use borrow.Author.Rules.{rules}
use Rattle.device_interface.proofs.keep_turn.Goals as goal

pub returns-in_default : goal.returns-in_default
returns-in_default c =
    let g : Bytes c.args.state.now = λ j. (c.slice_known-1.given j).fits in
    search (after_none, g)

-- that an event fired is looked for among the facts before the own part is written: with all of them `search` has too much to look at
pub returns : goal.returns
returns c =
    let g : Bytes c.args.state.now = λ j. (c.slice_known-1.given j).fits in
    let cells : length c.args.t.own.queue ≡ 8 = search eight in
    after_event c.args.state.now c.args.m g c.requires.0 _ c.args.t cells c.put_own-2.ensures (search rules) c.requires.1 c.states_after-moved.ensures c.put_bytes.ensures
