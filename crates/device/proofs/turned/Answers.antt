use Rattle.device.specs.Device.{turned}
use Rattle.device.proofs.turned.Goals as goal

pub returns : goal.returns
unfolding turned
returns c = simp (c.turn_by.ensures, c.own_of-own.ensures)
