use Rattle.water.proofs.Laws.{summed_litres, summed_none}
use Rattle.water.proofs.add_reading.Goals as goal

pub returns-in-Litres : goal.returns-in-Litres
returns-in-Litres c = search summed_litres

pub returns-in-NoSensor : goal.returns-in-NoSensor
returns-in-NoSensor c = search summed_none
