-- Document 01's term fits, "A state fits when ..": the clauses of a module's own part.
use Rattle.std.specs.Prelude.{ℕ, List, [], ◌∷◌, Bool, true, cond, not, ◌&&◌, drop, eqb, leb, ltb}
use Rattle.records.specs.declared.Record.{Record}
use Rattle.reader.specs.Find.{found}
use Rattle.rules.specs.LookUp.{module_state}
use Rattle.plan.specs.Plan.{procedure_step, operation_of, operand_of, own_event, own_uncontrollable}
use Rattle.water.specs.Water.{water_zero, running}
use Rattle.modules.specs.declared.Own.{Own}
use Rattle.modules.specs.declared.Procedure.{Procedure}
use Rattle.modules.specs.Queue.{queue_of}

-- the test p holds of every member
unfoldable pub every : (ℕ → Bool) → List ℕ → Bool
every p [] = true
every p (x ∷ xs) = p x && every p xs

-- "the queue holds at most 8, all the module's uncontrollable events"; the cells past its length hold 0
unfoldable pub queue_fits : List Record → ℕ → Own → Bool
queue_fits rs m own = leb own.length 8 && every (own_uncontrollable rs m) (queue_of own) && every (λ x. eqb x 0) (drop own.length own.queue)

-- idle: every field 0
unfoldable pub idle_fits : Procedure → Bool
idle_fits p = eqb p.event 0 && eqb p.index 0 && eqb p.count 0 && water_zero p.water

-- "at an existing step of an event of that module, fields not used there 0, the target being the plan's and the count or total from 0 to
-- below it"
unfoldable pub step_fits : List Record → ℕ → Procedure → Bool
step_fits rs m p =
    found (procedure_step rs p.event p.index) && own_event rs m p.event
    && cond (eqb (operation_of rs p.event p.index) 3) (ltb p.count (operand_of rs p.event p.index)) (eqb p.count 0)
    && cond (eqb (operation_of rs p.event p.index) 4) (running (operand_of rs p.event p.index) p.water) (water_zero p.water)

unfoldable pub procedure_fits : List Record → ℕ → Procedure → Bool
procedure_fits rs m p = cond p.running (step_fits rs m p) (idle_fits p)

-- "numbers are the plan's"
unfoldable pub own_fits : List Record → ℕ → Own → Bool
own_fits rs m own = module_state rs m own.state && queue_fits rs m own && procedure_fits rs m own.procedure

-- the slot of a module that the plan lacks holds 0
unfoldable pub own_empty : Own → Bool
own_empty own =
    eqb own.state 0 && eqb own.length 0 && every (λ x. eqb x 0) own.queue && not own.procedure.running && idle_fits own.procedure
    && eqb own.outputs 0
