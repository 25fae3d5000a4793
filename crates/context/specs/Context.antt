-- What the check remembers of the records before, and how each record changes it. No rule of the paper stands here: that this tells as much as
-- those records do, over records of which none is faulty, is `JudgesAsRules` of the crate judge.
use Rattle.std.specs.Prelude.{ℕ, ◌+◌, ◌%◌, Bool, true, false, cond, List, [], ◌∷◌, replicate, ◌==◌, nat_lt, slice_index, slice_set}
use Rattle.bits.specs.Bit.{put_bit}
use Rattle.records.specs.Key.{key_by, key_of}
use Rattle.records.specs.declared.Record.{Record}
use Rattle.records.specs.declared.Record.TheVariants.{Head, Event, Module, ModuleMove, Supervisor, SupervisorMove, Disabling, Step, Marking, End}
use Rattle.context.specs.declared.Counts.{Counts}
use Rattle.context.specs.declared.Events.{Events}
use Rattle.context.specs.declared.Modules.{Modules}
use Rattle.context.specs.declared.Supervisors.{Supervisors}
use Rattle.context.specs.declared.Context.{Context}

-- a table of k entries with x at i, and a mask with bit i on or off, where i is below k
unfoldable pub with_entry : ℕ → List ℕ → ℕ → ℕ → List ℕ
with_entry k t i x = cond (nat_lt i k) (slice_set t i x) t

unfoldable pub with_bit : ℕ → ℕ → ℕ → Bool → ℕ
with_bit k m i on = cond (nat_lt i k) (put_bit m i on) m

abbrev pub with_event : Events → ℕ → ℕ → ℕ → Events
with_event ev n o c =
    record { known = with_bit 64 ev.known n true; controllable = with_bit 64 ev.controllable n (c == 1); owner = with_entry 64 ev.owner n o; steps = ev.steps }

abbrev pub with_step : Events → ℕ → ℕ → Events
with_step ev e i = record { known = ev.known; controllable = ev.controllable; owner = ev.owner; steps = with_entry 64 ev.steps e ((i + 1) % 256) }

abbrev pub with_module : Modules → ℕ → ℕ → Modules
with_module ms n st = record { known = with_bit 16 ms.known n true; states = with_entry 16 ms.states n st }

abbrev pub with_supervisor : Supervisors → ℕ → ℕ → ℕ → Supervisors
with_supervisor vs n st a = record { known = with_bit 32 vs.known n true; states = with_entry 32 vs.states n st; alphabet = with_entry 32 vs.alphabet n a }

-- the parts of the context after a record
unfoldable pub counts_after : Counts → Record → Counts
counts_after k (Head m v e) = record { modules = m; supervisors = v; events = e }
counts_after k (Event n o c) = k
counts_after k (Module n st i) = k
counts_after k (ModuleMove m f e t) = k
counts_after k (Supervisor n st i a) = k
counts_after k (SupervisorMove v f e t) = k
counts_after k (Disabling v st m) = k
counts_after k (Step e i o x) = k
counts_after k (Marking m st) = k
counts_after k End = k

unfoldable pub events_after : Events → Record → Events
events_after ev (Head m v e) = ev
events_after ev (Event n o c) = with_event ev n o c
events_after ev (Module n st i) = ev
events_after ev (ModuleMove m f e t) = ev
events_after ev (Supervisor n st i a) = ev
events_after ev (SupervisorMove v f e t) = ev
events_after ev (Disabling v st m) = ev
events_after ev (Step e i o x) = with_step ev e i
events_after ev (Marking m st) = ev
events_after ev End = ev

unfoldable pub modules_after : Modules → Record → Modules
modules_after ms (Head m v e) = ms
modules_after ms (Event n o c) = ms
modules_after ms (Module n st i) = with_module ms n st
modules_after ms (ModuleMove m f e t) = ms
modules_after ms (Supervisor n st i a) = ms
modules_after ms (SupervisorMove v f e t) = ms
modules_after ms (Disabling v st m) = ms
modules_after ms (Step e i o x) = ms
modules_after ms (Marking m st) = ms
modules_after ms End = ms

unfoldable pub supervisors_after : Supervisors → Record → Supervisors
supervisors_after vs (Head m v e) = vs
supervisors_after vs (Event n o c) = vs
supervisors_after vs (Module n st i) = vs
supervisors_after vs (ModuleMove m f e t) = vs
supervisors_after vs (Supervisor n st i a) = with_supervisor vs n st a
supervisors_after vs (SupervisorMove v f e t) = vs
supervisors_after vs (Disabling v st m) = vs
supervisors_after vs (Step e i o x) = vs
supervisors_after vs (Marking m st) = vs
supervisors_after vs End = vs

abbrev pub with_record : Context → Record → Context
with_record c r =
    record {
      begun = true;
      last = key_of r;
      counts = counts_after c.counts r;
      events = events_after c.events r;
      modules = modules_after c.modules r;
      supervisors = supervisors_after c.supervisors r;
    }

-- before the first record
abbrev pub start : Context
start =
    record {
      begun = false;
      last = key_by 0 0 0 0;
      counts = record { modules = 0; supervisors = 0; events = 0 };
      events = record { known = 0; controllable = 0; owner = replicate 64 0; steps = replicate 64 0 };
      modules = record { known = 0; states = replicate 16 0 };
      supervisors = record { known = 0; states = replicate 32 0; alphabet = replicate 32 0 };
    }

-- the context after records, the latest first
unfoldable pub context_of : List Record → Context
context_of [] = start
context_of (r ∷ rs) = with_record (context_of rs) r

-- an entry of a table, and 0 past its end
abbrev pub owner_at : Events → ℕ → ℕ
owner_at ev e = slice_index ev.owner e

abbrev pub steps_at : Events → ℕ → ℕ
steps_at ev e = slice_index ev.steps e

abbrev pub module_states_at : Modules → ℕ → ℕ
module_states_at ms m = slice_index ms.states m

abbrev pub supervisor_states_at : Supervisors → ℕ → ℕ
supervisor_states_at vs v = slice_index vs.states v

abbrev pub alphabet_at : Supervisors → ℕ → ℕ
alphabet_at vs v = slice_index vs.alphabet v
