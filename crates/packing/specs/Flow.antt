-- include/pewterslug.h: "A tick with its flow reading: no sensor is fitted if sensor is 0, and litres is not looked at; else litres."
use Rattle.std.specs.Prelude.{ℕ, cond, eqb, Float}
use Rattle.water.specs.declared.Flow.{Flow}
use Rattle.water.specs.declared.Flow.TheVariants.{Litres, NoSensor}

unfoldable pub flow_of : ℕ → Float → Flow
flow_of sensor litres = cond (eqb sensor 0) NoSensor (Litres litres)
