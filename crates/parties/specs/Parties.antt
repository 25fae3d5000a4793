-- Document 01, "What demand 3 compares": "Each call gets the state that the last call on its module or supervisor left, at first the starting
-- state"; "The one-device controller, from its start, is fed" the same turns, responses and ticks.
use Rattle.std.specs.Prelude.{ℕ, List, get_or, set}
use Rattle.device_states.specs.declared.Device.{Device}
use Rattle.words.specs.Lists.{list_from}
use Rattle.device.specs.Device.{start_call}
use Rattle.permits.specs.declared.Module.{Module}
use Rattle.permits.specs.declared.Supervisor.{Supervisor}
use Rattle.permits.specs.Module as M
use Rattle.permits.specs.Supervisor as S
use Rattle.wire.specs.declared.Wire.{Wire}
use Rattle.wire.specs.Wire.{empty}
use Rattle.parties.specs.declared.Parties.{Parties}

abbrev pub module_at : Parties → ℕ → Module
module_at p m = get_or p.modules m M.empty_module

abbrev pub supervisor_at : Parties → ℕ → Supervisor
supervisor_at p v = get_or p.supervisors v S.empty_supervisor

abbrev pub with_module : Parties → ℕ → Module → Parties
with_module p m x = record { modules = set p.modules m x; supervisors = p.supervisors; wire = p.wire; device = p.device }

abbrev pub with_supervisor : Parties → ℕ → Supervisor → Parties
with_supervisor p v y = record { modules = p.modules; supervisors = set p.supervisors v y; wire = p.wire; device = p.device }

abbrev pub with_wire : Parties → Wire → Parties
with_wire p w = record { modules = p.modules; supervisors = p.supervisors; wire = w; device = p.device }

abbrev pub with_device : Parties → Device → Parties
with_device p d = record { modules = p.modules; supervisors = p.supervisors; wire = p.wire; device = d }

-- "begun at the starting state"
abbrev pub start_modules : List ℕ → List Module
start_modules image = list_from (λ m. (M.module_start image m).state) 0 16

abbrev pub start_supervisors : List ℕ → List Supervisor
start_supervisors image = list_from (λ v. (S.supervisor_start image v).state) 0 32

abbrev pub start : List ℕ → Parties
start image = record { modules = start_modules image; supervisors = start_supervisors image; wire = empty; device = (start_call image).device }

-- the states of all parties, in the shape of one device's, so that both are printed alike
abbrev pub states_seen : Parties → Device
states_seen p = record { modules = list_from (λ m. (module_at p m).own) 0 16; supervisors = list_from (λ v. (supervisor_at p v).state) 0 32 }
