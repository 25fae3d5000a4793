-- What the code is told of a step: whether there is one, its operation and its operand.
use Rattle.std.specs.Prelude.{ℕ, List}
use Rattle.records.specs.declared.Record.{Record}
use Rattle.reader.specs.Find.{found}
use Rattle.plan.specs.Plan.{procedure_step, operation_of, operand_of}
use Rattle.modules.specs.declared.StepFields.{StepFields}

abbrev pub step_fields_of : List Record → ℕ → ℕ → StepFields
step_fields_of rs e i = record { present = found (procedure_step rs e i); operation = operation_of rs e i; operand = operand_of rs e i }
