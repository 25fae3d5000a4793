use Rattle.roundtrip.specs.Fits.{Bytes}
use Rattle.device_interface.proofs.Laws.{keep_yes, keep_no}
use Rattle.device_interface.proofs.keep.Goals as goal

pub returns-then-is_accepted : goal.returns-then-is_accepted
returns-then-is_accepted c =
    let g : Bytes c.args.state.now = λ j. (c.slice_known-1.given j).fits in
    search (keep_yes, g)

pub returns : goal.returns
returns c =
    let g : Bytes c.args.state.now = λ j. (c.slice_known-1.given j).fits in
    search (keep_no, g)
