-- What the check remembers can be encoded: before the first record, and after one record more whose fields are bytes and words.
use mathlib.Core.Path.{◌≡◌, refl}
use mathlib.Core.Bool.{true}
use Prim.Native.Nat.{ℕ, ◌+◌, ◌%◌}
use native.Mathlib.Omega.{arith}
use lib.ListN.{length, replicate}
use lib.Dec.{eqb, lit<}
use Rattle.roundtrip.specs.Fits.{Byte, Word, Bytes, Fits}
use Rattle.records.specs.Key.{key_of}
use Rattle.records.specs.declared.Record.{Record}
use Rattle.records.specs.declared.Record.TheVariants.{Head, Event, Module, ModuleMove, Supervisor, SupervisorMove, Disabling, Step, Marking, End}
use Rattle.records.specs.declared.RecordKey.{RecordKey}
use Rattle.context.specs.Context.{with_event, with_step, with_module, with_supervisor, counts_after, events_after, modules_after, supervisors_after, with_record, start}
use Rattle.context.specs.declared.Counts.{Counts}
use Rattle.context.specs.declared.Events.{Events}
use Rattle.context.specs.declared.Modules.{Modules}
use Rattle.context.specs.declared.Supervisors.{Supervisors}
use Rattle.context.specs.declared.Context.{Context}
use Rattle.context.proofs.Tables.{with_entry_length, with_bit_fits}
use Rattle.context_bytes.specs.Encoding.{Words, ContextEncodable}
use Rattle.context_bytes.proofs.Lists.{every_zero, every_entry}

abbrev KeySmall : RecordKey → Type 0
KeySmall q = Byte q.kind × Byte q.first × Byte q.second × Byte q.third

abbrev CountsSmall : Counts → Type 0
CountsSmall n = Byte n.modules × Byte n.supervisors × Byte n.events

record EventsEncodable (ev : Events) : Type 0 where
  known : Word ev.known
  controllable : Word ev.controllable
  owners : length ev.owner ≡ 64
  owner : Bytes ev.owner
  all_steps : length ev.steps ≡ 64
  steps : Bytes ev.steps

record ModulesEncodable (ms : Modules) : Type 0 where
  known : Word ms.known
  all : length ms.states ≡ 16
  states : Bytes ms.states

record SupervisorsEncodable (vs : Supervisors) : Type 0 where
  known : Word vs.known
  all : length vs.states ≡ 32
  states : Bytes vs.states
  alphabets : length vs.alphabet ≡ 32
  alphabet : Words vs.alphabet

-- the whole by its parts
whole : {c : Context} → KeySmall c.last → CountsSmall c.counts → EventsEncodable c.events → ModulesEncodable c.modules
    → SupervisorsEncodable c.supervisors → ContextEncodable c
whole q n ev ms vs =
    record {
      kind = q.0;
      first = q.1;
      second = q.2;
      third = q.3;
      modules = n.0;
      supervisors = n.1;
      events = n.2;
      events_known = ev.known;
      controllable = ev.controllable;
      owners = ev.owners;
      owner = ev.owner;
      all_steps = ev.all_steps;
      steps = ev.steps;
      modules_known = ms.known;
      all_modules = ms.all;
      module_states = ms.states;
      supervisors_known = vs.known;
      all_supervisors = vs.all;
      supervisor_states = vs.states;
      all_alphabets = vs.alphabets;
      alphabet = vs.alphabet;
    }

-- ---- before the first record

pub start_encodable : ContextEncodable start
start_encodable =
    whole (lit< tt, lit< tt, lit< tt, lit< tt) (lit< tt, lit< tt, lit< tt)
    (record { known = lit< tt; controllable = lit< tt; owners = refl; owner = zeros 64; all_steps = refl; steps = zeros 64 })
    (record { known = lit< tt; all = refl; states = zeros 16 })
    (record { known = lit< tt; all = refl; states = zeros 32; alphabets = refl; alphabet = every_zero Word (lit< tt) 32 })
  where
    zeros : (n : ℕ) → Bytes (replicate n 0)
    zeros = every_zero Byte (lit< tt)

-- ---- one record more

module _ (c : Context) (h : ContextEncodable c) where
  counts : CountsSmall c.counts
  counts = (h.modules, h.supervisors, h.events)

  events : EventsEncodable c.events
  events =
      record {
        known = h.events_known;
        controllable = h.controllable;
        owners = h.owners;
        owner = h.owner;
        all_steps = h.all_steps;
        steps = h.steps;
      }

  modules : ModulesEncodable c.modules
  modules = record { known = h.modules_known; all = h.all_modules; states = h.module_states }

  supervisors : SupervisorsEncodable c.supervisors
  supervisors =
      record {
        known = h.supervisors_known;
        all = h.all_supervisors;
        states = h.supervisor_states;
        alphabets = h.all_alphabets;
        alphabet = h.alphabet;
      }

  with_event_lem : (n o k : ℕ) → Byte o → EventsEncodable (with_event c.events n o k)
  with_event_lem n o k p =
      record {
        known = with_bit_fits 64 _ n true h.events_known;
        controllable = with_bit_fits 64 _ n (eqb k 1) h.controllable;
        owners = with_entry_length 64 _ n o h.owners;
        owner = every_entry Byte o p 64 _ n h.owner;
        all_steps = h.all_steps;
        steps = h.steps;
      }

  with_step_lem : (e i : ℕ) → EventsEncodable (with_step c.events e i)
  with_step_lem e i =
      record {
        known = h.events_known;
        controllable = h.controllable;
        owners = h.owners;
        owner = h.owner;
        all_steps = with_entry_length 64 _ e ((i + 1) % 256) h.all_steps;
        steps = every_entry Byte ((i + 1) % 256) (omega arith) 64 _ e h.steps;
      }

  with_module_lem : (n st : ℕ) → Byte st → ModulesEncodable (with_module c.modules n st)
  with_module_lem n st p =
      record {
        known = with_bit_fits 16 _ n true h.modules_known;
        all = with_entry_length 16 _ n st h.all_modules;
        states = every_entry Byte st p 16 _ n h.module_states;
      }

  with_supervisor_lem : (n st a : ℕ) → Byte st → Word a → SupervisorsEncodable (with_supervisor c.supervisors n st a)
  with_supervisor_lem n st a p w =
      record {
        known = with_bit_fits 32 _ n true h.supervisors_known;
        all = with_entry_length 32 _ n st h.all_supervisors;
        states = every_entry Byte st p 32 _ n h.supervisor_states;
        alphabets = with_entry_length 32 _ n a h.all_alphabets;
        alphabet = every_entry Word a w 32 _ n h.alphabet;
      }

  pub record_encodable : (r : Record) → Fits r → ContextEncodable (with_record c r)
  unfolding key_of counts_after events_after modules_after supervisors_after
  record_encodable (Head m v e) f = whole (lit< tt, lit< tt, lit< tt, lit< tt) f events modules supervisors
  record_encodable (Event n o k) f = whole (lit< tt, f.0, lit< tt, lit< tt) counts (with_event_lem n o k f.1) modules supervisors
  record_encodable (Module n st i) f = whole (lit< tt, f.0, lit< tt, lit< tt) counts events (with_module_lem n st f.1) supervisors
  record_encodable (ModuleMove m s e t) f = whole (lit< tt, f.0, f.1, f.2) counts events modules supervisors
  record_encodable (Supervisor n st i a) f = whole (lit< tt, f.0, lit< tt, lit< tt) counts events modules (with_supervisor_lem n st a f.1 f.3)
  record_encodable (SupervisorMove v s e t) f = whole (lit< tt, f.0, f.1, f.2) counts events modules supervisors
  record_encodable (Disabling v st m) f = whole (lit< tt, f.0, f.1, lit< tt) counts events modules supervisors
  record_encodable (Step e i o x) f = whole (lit< tt, f.0, f.1, lit< tt) counts (with_step_lem e i) modules supervisors
  record_encodable (Marking m st) f = whole (lit< tt, f.0, f.1, lit< tt) counts events modules supervisors
  record_encodable End f = whole (lit< tt, lit< tt, lit< tt, lit< tt) counts events modules supervisors
