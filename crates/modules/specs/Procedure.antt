-- Document 01, "Procedures and water", and the responses: what a response and a tick do to a module's own part.
use Rattle.refusal.specs.Refusal.{refusal}
use Rattle.refusal.specs.declared.Refusal.{Refusal}
use Rattle.std.specs.Prelude.{ℕ, suc, ◌-◌, ◌^◌, List, true, false, cond, ◌&&◌, eqb, ltb, Result, Ok, Err, ⊤}
use Rattle.std.specs.Int.Bits.{bit_or, bit_and}
use Rattle.records.specs.declared.Record.{Record}
use Rattle.reader.specs.Find.{found}
use Rattle.plan.specs.Plan.{procedure_step, operation_of, operand_of, own_uncontrollable}
use Rattle.water.specs.Water.{flow_ok, no_water, water_of, added, reached, running}
use Rattle.water.specs.declared.Water.{Water}
use Rattle.water.specs.declared.Flow.{Flow}
use Rattle.modules.specs.declared.Procedure.{Procedure}
use Rattle.modules.specs.declared.Own.{Own}
use Rattle.modules.specs.declared.Replied.{Replied}
use Rattle.modules.specs.Own.{with_procedure, with_outputs}
use Rattle.modules.specs.Queue.{full, queued}

-- document 01's term "idle", of a procedure: "After the last step the procedure is idle."; "fields not used there 0"
abbrev pub idle : Procedure
idle = record { running = false; event = 0; index = 0; count = 0; water = no_water }

-- Arriving at a step: a count begins at 0, and a litres step has the plan's target and a total of 0. Where there is no such step the
-- procedure is idle: "without steps it stays idle", "After the last step the procedure is idle."
unfoldable pub arrive_at : List Record → ℕ → ℕ → Procedure
arrive_at rs e i =
    cond (found (procedure_step rs e i))
    (record { running = true; event = e; index = i; count = 0; water = cond (eqb (operation_of rs e i) 4) (water_of (operand_of rs e i)) no_water })
    idle

-- on to the next step of the event
abbrev pub advanced : List Record → Own → Own
advanced rs own = with_procedure own (arrive_at rs own.procedure.event (suc own.procedure.index))

-- one tick more of a wait, and a litres step's water
abbrev pub counted : Own → Own
counted own =
    with_procedure own
    (record { running = true; event = own.procedure.event; index = own.procedure.index; count = suc own.procedure.count; water = own.procedure.water })

abbrev pub with_water : Own → Water → Own
with_water own w =
    with_procedure own
    (record { running = true; event = own.procedure.event; index = own.procedure.index; count = own.procedure.count; water = w })

-- "1 output on and 2 output off"; "Each module has 32 outputs of its own."
abbrev pub output_on : ℕ → ℕ → ℕ
output_on o i = bit_or o (2 ^ i)

abbrev pub output_off : ℕ → ℕ → ℕ
output_off o i = bit_and o (2 ^ 32 - 1 - 2 ^ i)

-- the reading added, or the step ended
abbrev pub metered : List Record → Flow → Own → Own
metered rs f own = cond (reached (added own.procedure.water f)) (advanced rs own) (with_water own (added own.procedure.water f))

-- "A tick .. performs one step, or one tick of a wait." The step has operation o and operand x.
-- 3: "A wait of n ends at its nth tick." 4: the reading is added to the water of the running step, and "the step ends when it reaches the
-- target". 5: "Respond stays put while the queue is full."
unfoldable pub performed : List Record → ℕ → ℕ → Flow → Own → Own
performed rs o x f own =
    cond (eqb o 1) (advanced rs (with_outputs own (output_on own.outputs x)))
    (cond (eqb o 2) (advanced rs (with_outputs own (output_off own.outputs x)))
    (cond (eqb o 3) (cond (ltb (suc own.procedure.count) x) (counted own) (advanced rs own))
    (cond (eqb o 4) (cond (running x own.procedure.water) (metered rs f own) own)
    (cond (full own) own (advanced rs (queued own x))))))

abbrev pub ticked : List Record → Flow → Own → Own
ticked rs f own =
    cond (own.procedure.running && found (procedure_step rs own.procedure.event own.procedure.index))
    (performed rs (operation_of rs own.procedure.event own.procedure.index) (operand_of rs own.procedure.event own.procedure.index) f own)
    own

abbrev pub taken : Own → Replied
taken own = record { reply = Ok tt; own = own }

abbrev pub refused : ℕ → Own → Replied
refused n own = record { reply = Err n; own = own }

-- a reply as a call's answer: the number stands at offset 0
unfoldable pub called_by : Result ⊤ ℕ → Result ⊤ Refusal
called_by (Ok u) = Ok tt
called_by (Err n) = Err (refusal n 0)

-- document 01's term "tick": "A tick is one module's"; 14 "bad flow reading", "checked even when idle"
unfoldable pub tick_of : List Record → Flow → Own → Replied
tick_of rs f own = cond (flow_ok f) (taken (ticked rs f own)) (refused 14 own)

-- a response: 11 "response not an uncontrollable event of the module", 13 "response queue holds 8"
unfoldable pub respond_of : List Record → ℕ → ℕ → Own → Replied
respond_of rs m e own = cond (own_uncontrollable rs m e) (cond (full own) (refused 13 own) (taken (queued own e))) (refused 11 own)
