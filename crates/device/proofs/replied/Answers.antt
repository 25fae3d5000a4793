use Rattle.device.specs.Device.{reply_in}
use Rattle.device.proofs.replied.Goals as goal

pub returns : goal.returns
unfolding reply_in
returns c = simp (c.with_own.ensures, c.answer.ensures)
