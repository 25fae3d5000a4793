-- A module's own part with a field set and the others as they are. Every own part is made by these, but for `empty_own` and one that is read field by
-- field, so that a further field is named here and not wherever another one is set.
use Rattle.std.specs.Prelude.{ℕ, List}
use Rattle.modules.specs.declared.Own.{Own}
use Rattle.modules.specs.declared.Procedure.{Procedure}

abbrev pub with_state : Own → ℕ → Own
with_state own st = record { state = st; queue = own.queue; length = own.length; procedure = own.procedure; outputs = own.outputs }

-- the queue by its cells and its length
abbrev pub with_cells : Own → List ℕ → ℕ → Own
with_cells own q n = record { state = own.state; queue = q; length = n; procedure = own.procedure; outputs = own.outputs }

abbrev pub with_procedure : Own → Procedure → Own
with_procedure own p = record { state = own.state; queue = own.queue; length = own.length; procedure = p; outputs = own.outputs }

abbrev pub with_outputs : Own → ℕ → Own
with_outputs own o = record { state = own.state; queue = own.queue; length = own.length; procedure = own.procedure; outputs = o }
