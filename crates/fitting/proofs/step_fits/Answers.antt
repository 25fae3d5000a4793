use Rattle.fitting.proofs.Parts.{step_by_lem}
use Rattle.fitting.proofs.step_fits.Goals as goal

pub returns : goal.returns
returns c = search step_by_lem
