-- Document 01, "Turns on one device", with document 02, 2.5: a turn of a module over a mask of disabled events.
use Rattle.std.specs.Prelude.{ℕ, List, Bool, cond, not, ◌&&◌, ◌||◌, length, replicate, ltb, Option, Some, None, is_some}
use Rattle.bits.specs.Bit.{bit, least, some_below}
use Rattle.records.specs.declared.Record.{Record}
use Rattle.plan.specs.Plan.{module_move, module_initial, has_command}
use Rattle.modules.specs.declared.Own.{Own}
use Rattle.modules.specs.declared.Procedure.{Procedure}
use Rattle.modules.specs.declared.Turned.{Turned}
use Rattle.modules.specs.Own.{with_state, with_procedure}
use Rattle.modules.specs.Queue.{queue_of, response_at, with_queue, without}
use Rattle.modules.specs.Procedure.{idle, arrive_at}

abbrev pub moved : Own → ℕ → Procedure → Own
moved own st p = with_procedure (with_state own st) p

-- the module "has a move" here by a response; no event is numbered 64 or above
unfoldable pub has_move : List Record → ℕ → ℕ → ℕ → Bool
has_move rs m st e = ltb e 64 && is_some (module_move rs m st e)

-- "the first queued response by which the module has a move", a usable one: its index in the queue
unfoldable pub first_usable : List Record → ℕ → Own → Option ℕ
first_usable rs m own = least (λ i. has_move rs m own.state (response_at own i)) (length (queue_of own))

-- the response at index i fires, "and the others remain in their order"
unfoldable pub by_response : Own → ℕ → Option ℕ → Turned
by_response own i (Some t) =
    record { turn = Some (response_at own i); own = moved (with_queue own (without i (queue_of own))) t own.procedure }
by_response own i None = record { turn = None; own = own }

-- document 01's term "command": "A controllable firing is a command and starts the event's procedure at index 0"
unfoldable pub by_command : List Record → Own → ℕ → Option ℕ → Turned
by_command rs own e (Some t) = record { turn = Some e; own = moved own t (arrive_at rs e 0) }
by_command rs own e None = record { turn = None; own = own }

-- a "controllable event .. that has a move here and stands in no shown mask", k being the union of the masks
unfoldable pub enabled : List Record → ℕ → ℕ → ℕ → ℕ → Bool
enabled rs m k st e = has_command rs m st e && not (bit k e)

-- the choice of the command: "the lowest-numbered controllable event fires that has a move here and stands in no shown mask". No event is numbered 64
-- or above.
unfoldable pub chosen : List Record → ℕ → ℕ → Own → Option ℕ
chosen rs m k own = least (enabled rs m k own.state) 64

-- the event chosen fires, if there is one
unfoldable pub by_choice : List Record → ℕ → Own → Option ℕ → Turned
by_choice rs m own (Some e) = by_command rs own e (module_move rs m own.state e)
by_choice rs m own None = record { turn = None; own = own }

-- document 01's term "turn", rule 1 by document 02: "a turn takes the first queued response by which the module has a move .. If none has one, the
-- turn goes on to rule 2": "2. Otherwise, if its procedure is idle, the lowest-numbered controllable event fires that has a move here and stands in
-- no shown mask. 3. Otherwise none."
unfoldable pub turn_on : List Record → ℕ → ℕ → Own → Option ℕ → Turned
turn_on rs m k own (Some i) = by_response own i (module_move rs m own.state (response_at own i))
turn_on rs m k own None = cond own.procedure.running (record { turn = None; own = own }) (by_choice rs m own (chosen rs m k own))

unfoldable pub turn_of : List Record → ℕ → ℕ → Own → Turned
turn_of rs m k own = turn_on rs m k own (first_usable rs m own)

-- document 01's term "wish", by document 02: "a wish means such a response or a controllable move with an idle procedure"
unfoldable pub wish : List Record → ℕ → Own → Bool
wish rs m own =
    is_some (first_usable rs m own) || (not own.procedure.running && some_below (has_command rs m own.state) 64)

-- the own part with every number 0
abbrev pub empty_own : Own
empty_own = record { state = 0; queue = replicate 8 0; length = 0; procedure = idle; outputs = 0 }

-- "At the start all are in their initial states, .. nothing is .. queued .., procedures are idle and outputs off."
unfoldable pub start_own : List Record → ℕ → Own
start_own rs m = with_state empty_own (module_initial rs m)
