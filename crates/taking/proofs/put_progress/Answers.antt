use Rattle.roundtrip.specs.Fits.{Bytes}
use Rattle.taking.proofs.States.{progress_stands}
use Rattle.taking.proofs.put_progress.Goals as goal

pub returns : goal.returns
returns c =
    let g : Bytes c.args.state.now = λ j. (c.slice_known-1.given j).fits in
    let f : Bytes c.put_bytes-2.new.s = λ j. (c.slice_known-4-1.given j).fits in
    search (progress_stands, g, f)
