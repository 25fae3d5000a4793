-- The plan that records give, as the rules of permits use it.
use Rattle.std.specs.Prelude.{List}
use Rattle.records.specs.declared.Record.{Record}
use Rattle.rules.specs.LookUp.{modules_of, supervisors_of, events_of, owner_of, controllable, supervisor_state}
use Rattle.plan.specs.Plan.{module_move, module_initial, supervisor_move, supervisor_initial, in_alphabet, shown}
use Rattle.modules.specs.Procedure.{tick_of, respond_of}
use Rattle.modules.specs.Turn.{turn_of, wish, start_own}
use Rattle.modules.specs.Fits.{own_fits}
use Rattle.protocol.specs.Plan.{Plan}

unfoldable pub plan_of : List Record → Plan
plan_of rs = record {
  modules = modules_of rs;
  supervisors = supervisors_of rs;
  events = events_of rs;
  owner = owner_of rs;
  controllable = controllable rs;
  initial = module_initial rs;
  move = module_move rs;
  supervisor_initial = supervisor_initial rs;
  supervisor_move = supervisor_move rs;
  alphabet = in_alphabet rs;
  shown = shown rs;
  turn = turn_of rs;
  wish = wish rs;
  start = start_own rs;
  respond = λ m own e. respond_of rs m e own;
  tick = λ m own f. tick_of rs f own;
  fits = own_fits rs;
  supervisor_fits = supervisor_state rs;
}
