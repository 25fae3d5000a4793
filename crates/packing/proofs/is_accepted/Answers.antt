use Rattle.packing.proofs.Accepted.{accepted_by, refused_by}
use Rattle.packing.proofs.is_accepted.Goals as goal

pub returns-in-Ok : goal.returns-in-Ok
returns-in-Ok g c = search accepted_by

pub returns-in-Err : goal.returns-in-Err
returns-in-Err g c = search refused_by
