use Rattle.simulation.proofs.Playing.{wire_taken, wire_kept}
use Rattle.simulation.proofs.wire_after.Goals as goal

pub returns-in-Ok : goal.returns-in-Ok
returns-in-Ok c = search wire_taken

pub returns-in-Err : goal.returns-in-Err
returns-in-Err c = search wire_kept
