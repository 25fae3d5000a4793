-- What a refused call leaves as it was, of every party.
use Rattle.refusals.specs.Refusals.{Refusals}
use Rattle.refusals.proofs.Table.{listed}
use Rattle.refusals.proofs.Checked.{checker}
use Rattle.refusals.proofs.Writers.{writers}
use Rattle.refusals.proofs.Device.{own_part, one_device}
use Rattle.refusals.proofs.Modules.{modules}
use Rattle.refusals.proofs.Supervisors.{supervisors}
use Rattle.refusals.proofs.Analyses.{analyses}

pub refusals : Refusals
refusals = record { table = listed; checker = checker; writers = writers; own = own_part; device = one_device; modules = modules; supervisors = supervisors; analyses = analyses }
