-- The rules of the check by what it remembers of the records before. That this gives the same as those records do, over records of which
-- none is faulty, is `JudgesAsRules` of `Represents.antt`.
use Rattle.std.specs.Prelude.{ℕ, Bool, true, false, cond, not, ◌&&◌, ◌||◌, eqb, ltb}
use Rattle.std.specs.Int.Bits.{bit_and}
use Rattle.bits.specs.Bit.{bit, all_below, every_event}
use Rattle.records.specs.Kinds.{kind_of}
use Rattle.records.specs.Range.{in_range}
use Rattle.records.specs.Key.{key_of, precedes}
use Rattle.records.specs.declared.Record.{Record}
use Rattle.records.specs.declared.Record.TheVariants.{Head, Event, Module, ModuleMove, Supervisor, SupervisorMove, Disabling, Step, Marking, End}
use Rattle.context.specs.Context.{owner_at, steps_at, module_states_at, supervisor_states_at, alphabet_at}
use Rattle.context.specs.declared.Context.{Context}

abbrev pub event_known : Context → ℕ → Bool
event_known c e = ltb e c.counts.events && bit c.events.known e

abbrev pub module_known : Context → ℕ → Bool
module_known c m = ltb m c.counts.modules && bit c.modules.known m

abbrev pub supervisor_known : Context → ℕ → Bool
supervisor_known c v = ltb v c.counts.supervisors && bit c.supervisors.known v

unfoldable pub index_by : Context → Record → Bool
index_by c (Head m v e) = true
index_by c (Event n o k) = true
index_by c (Module n st i) = true
index_by c (ModuleMove m f e t) = true
index_by c (Supervisor n st i a) = true
index_by c (SupervisorMove v f e t) = true
index_by c (Disabling v st m) = true
index_by c (Step e i o x) = eqb i (steps_at c.events e)
index_by c (Marking m st) = true
index_by c End = true

unfoldable pub order_by : Context → Record → Bool
order_by c r = cond c.begun (precedes c.last (key_of r) && index_by c r) (eqb (kind_of r) 0x10)

-- a state below a module's, or a supervisor's, states
abbrev pub module_state_by : Context → ℕ → ℕ → Bool
module_state_by c m st = ltb st (module_states_at c.modules m)

abbrev pub supervisor_state_by : Context → ℕ → ℕ → Bool
supervisor_state_by c v st = ltb st (supervisor_states_at c.supervisors v)

-- an event named by a number of eight bytes
abbrev pub operand_known : Context → ℕ → Bool
operand_known c x = cond (ltb x 64) (event_known c x) false

unfoldable pub names_by : Context → Record → Bool
names_by c (Head m v e) = true
names_by c (Event n o k) = ltb n c.counts.events && ltb o c.counts.modules
names_by c (Module n st i) = ltb n c.counts.modules && ltb i st
names_by c (ModuleMove m f e t) = module_known c m && module_state_by c m f && event_known c e && module_state_by c m t
names_by c (Supervisor n st i a) = ltb n c.counts.supervisors && ltb i st && every_event a (bit c.events.known)
names_by c (SupervisorMove v f e t) = supervisor_known c v && supervisor_state_by c v f && event_known c e && supervisor_state_by c v t
names_by c (Disabling v st m) = supervisor_known c v && supervisor_state_by c v st && every_event m (bit c.events.known)
names_by c (Step e i o x) = event_known c e && (not (eqb o 5) || operand_known c x)
names_by c (Marking m st) = module_known c m && module_state_by c m st
names_by c End = true

-- an uncontrollable event of the module of the event e
abbrev pub respond_by : Context → ℕ → ℕ → Bool
respond_by c e x = cond (ltb x 64) (not (bit c.events.controllable x) && eqb (owner_at c.events x) (owner_at c.events e)) false

unfoldable pub rules_by : Context → Record → Bool
rules_by c (Head m v e) = true
rules_by c (Event n o k) = true
rules_by c (Module n st i) = true
rules_by c (ModuleMove m f e t) = eqb (owner_at c.events e) m
rules_by c (Supervisor n st i a) = true
rules_by c (SupervisorMove v f e t) = bit (alphabet_at c.supervisors v) e
rules_by c (Disabling v st m) = every_event m (bit (bit_and c.events.controllable (alphabet_at c.supervisors v)))
rules_by c (Step e i o x) = bit c.events.controllable e && (not (eqb o 5) || respond_by c e x)
rules_by c (Marking m st) = true
rules_by c End = true

unfoldable pub all_by : Context → Record → Bool
all_by c (Head m v e) = true
all_by c (Event n o k) = true
all_by c (Module n st i) = true
all_by c (ModuleMove m f e t) = true
all_by c (Supervisor n st i a) = true
all_by c (SupervisorMove v f e t) = true
all_by c (Disabling v st m) = true
all_by c (Step e i o x) = true
all_by c (Marking m st) = true
all_by c End =
    all_below (bit c.modules.known) c.counts.modules
    && all_below (bit c.supervisors.known) c.counts.supervisors
    && all_below (bit c.events.known) c.counts.events

-- the smallest number that applies, and 0 where none does
unfoldable pub judge_by : Context → Record → ℕ
judge_by c r =
    cond (order_by c r)
    (cond (in_range r)
    (cond (names_by c r)
    (cond (rules_by c r)
    (cond (all_by c r) 0 8) 7) 6) 5) 4
