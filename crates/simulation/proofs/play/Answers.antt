use Rattle.simulation.proofs.Playing.{play_module, play_supervisor, play_delivery, play_response, play_tick, play_unfitted, play_misshapen, played_as}
use Rattle.simulation.proofs.play.Goals as goal

pub returns-in-Module : goal.returns-in-Module
returns-in-Module c = played_as _ _ _ (search play_module)

pub returns-in-Supervisor : goal.returns-in-Supervisor
returns-in-Supervisor c = played_as _ _ _ (search play_supervisor)

pub returns-in-Delivery : goal.returns-in-Delivery
returns-in-Delivery c = played_as _ _ _ (search play_delivery)

pub returns-in-Response : goal.returns-in-Response
returns-in-Response c = played_as _ _ _ (search play_response)

pub returns-in-Tick : goal.returns-in-Tick
returns-in-Tick c = played_as _ _ _ (search play_tick)

pub returns-in-Unfitted : goal.returns-in-Unfitted
returns-in-Unfitted c = played_as _ _ _ (search play_unfitted)

pub returns-in-Misshapen : goal.returns-in-Misshapen
returns-in-Misshapen c = played_as _ _ _ (search play_misshapen)
