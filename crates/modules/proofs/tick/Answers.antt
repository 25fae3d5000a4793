use Rattle.modules.proofs.Ticks.{litres_ok_lem, litres_taken, litres_refused, no_sensor_ok, no_sensor_taken}
use Rattle.modules.proofs.tick.Goals as goal

pub ticked-next-requires : goal.ticked-next-requires
ticked-next-requires c = search litres_ok_lem

pub ticked-next-requires-in-NoSensor : goal.ticked-next-requires-in-NoSensor
ticked-next-requires-in-NoSensor c = search no_sensor_ok

pub returns-then-litres_ok : goal.returns-then-litres_ok
returns-then-litres_ok c = search litres_taken

pub returns-else-litres_ok : goal.returns-else-litres_ok
returns-else-litres_ok c = search litres_refused

pub returns-in-NoSensor : goal.returns-in-NoSensor
returns-in-NoSensor c = search no_sensor_taken
