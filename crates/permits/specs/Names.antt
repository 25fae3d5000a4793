-- What a message names. Document 01, "Numbers for what is turned down", 11.
use Rattle.std.specs.Prelude.{ℕ, List, Bool, ◌&&◌, ◌||◌, eqb, ltb}
use Rattle.records.specs.declared.Record.{Record}
use Rattle.rules.specs.LookUp.{modules_of, supervisors_of}
use Rattle.plan.specs.Plan.{in_alphabet, own_event, neighbour}
use Rattle.messages.specs.Message.{no_event}
use Rattle.messages.specs.declared.Message.{Message}
use Rattle.messages.specs.declared.Message.TheVariants.{Bid, Permit, Release}

-- a module and a supervisor of the plan that are neighbours
abbrev pub neighbours? : List Record → ℕ → ℕ → Bool
neighbours? rs m v = ltb m (modules_of rs) && ltb v (supervisors_of rs) && neighbour rs m v

-- "an event outside the alphabet or of another module is 11"
abbrev pub event_named : List Record → ℕ → ℕ → ℕ → Bool
event_named rs m v e = own_event rs m e && in_alphabet rs v e

-- 11: "number not in the plan; supervisor not the module's neighbour", judged on what the message itself names
unfoldable pub named : List Record → Message → Bool
named rs (Bid m v) = neighbours? rs m v
named rs (Permit v m k) = neighbours? rs m v
named rs (Release m v e) = neighbours? rs m v && (eqb e no_event || event_named rs m v e)
