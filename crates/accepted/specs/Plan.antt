-- What an accepted plan promises of its records rs. Document 01, "Plan records" and numbers 4 to 8, as facts for the layers above.
use Rattle.std.specs.Prelude.{ℕ, ◌≤◌, ◌<◌, ◌≡◌, true, false, length, Some}
use mathlib.Core.List.{List, [], ◌∷◌, ◌++◌, Memᴰ}
use Rattle.bits.specs.Bit.{bit}
use Rattle.records.specs.Key.{key_of}
use Rattle.records.specs.Range.{in_range, operand_in_range}
use Rattle.records.specs.declared.Record.{Record}
use Rattle.records.specs.declared.Record.TheVariants.{Head, Event, Module, ModuleMove, Supervisor, SupervisorMove, Disabling, Step, Marking, End}
use Rattle.reader.specs.Find.{find_in}
use Rattle.reader.specs.Walk.{walk_from, records_of, stop_of}
use Rattle.rules.specs.LookUp.{field2, field_of, modules_of, supervisors_of, events_of, module_in, supervisor_in, owner_of, controllable, alphabet_of}
use Rattle.rules.specs.Check.{limit, IsPlan}

infix 45 ◌∈◌
abbrev pub ◌∈◌ : Record → List Record → Type 0
r ∈ rs = Memᴰ r rs

-- two records with one kind and key are one
abbrev pub Unique : List Record → Type 0
Unique rs = (r t : Record) → r ∈ rs → t ∈ rs → key_of r ≡ key_of t → r ≡ t

-- the events of a mask, of 64 bits
abbrev pub EachOf : ℕ → (ℕ → Type 0) → Type 0
EachOf m P = (e : ℕ) → e < 64 → bit m e ≡ true → P e

-- ---- what a record of each kind names

-- "the number that a record of kind 11, 12 or 14 declares, and the module in kind 11, need only be below the count"
pub record EventLaw (rs : List Record) (n o : ℕ) : Type 0 where
  pub number : n < events_of rs
  pub owner : o < modules_of rs

-- "number, states 1–32, initial state", a state being "below its owner's states"
pub record ModuleLaw (rs : List Record) (n st i : ℕ) : Type 0 where
  pub number : n < modules_of rs
  pub initial : i < st

-- "names an undeclared module, supervisor, event or state" is 6, "move by another module's event" is 7
pub record ModuleMoveLaw (rs : List Record) (m f e t : ℕ) : Type 0 where
  pub owner : m < modules_of rs
  pub from : f < field_of field2 (module_in rs m)
  pub event : e < events_of rs
  pub to : t < field_of field2 (module_in rs m)
  pub own_event_lem : owner_of rs e ≡ m

-- "A mask bit at or above the event count is 6"
pub record SupervisorLaw (rs : List Record) (n st i a : ℕ) : Type 0 where
  pub number : n < supervisors_of rs
  pub initial : i < st
  pub alphabet : EachOf a (λ e. e < events_of rs)

-- "or one outside the alphabet" is 7
pub record SupervisorMoveLaw (rs : List Record) (v f e t : ℕ) : Type 0 where
  pub supervisor : v < supervisors_of rs
  pub from : f < field_of field2 (supervisor_in rs v)
  pub event : e < events_of rs
  pub to : t < field_of field2 (supervisor_in rs v)
  pub in_alphabet_lem : bit (alphabet_of rs v) e ≡ true

-- "disabling mask with an event uncontrollable or outside the alphabet" is 7
pub record DisabledLaw (rs : List Record) (v e : ℕ) : Type 0 where
  pub event : e < events_of rs
  pub class : controllable rs e ≡ true
  pub in_alphabet_lem : bit (alphabet_of rs v) e ≡ true

pub record DisablingLaw (rs : List Record) (v st m : ℕ) : Type 0 where
  pub supervisor : v < supervisors_of rs
  pub state : st < field_of field2 (supervisor_in rs v)
  pub mask : EachOf m (DisabledLaw rs v)

-- "5 respond (an uncontrollable event of the same module)"
pub record RespondLaw (rs : List Record) (e x : ℕ) : Type 0 where
  pub event : x < events_of rs
  pub class : controllable rs x ≡ false
  pub same_owner : owner_of rs x ≡ owner_of rs e

-- "Only controllable events have steps."
pub record StepLaw (rs : List Record) (e i o x : ℕ) : Type 0 where
  pub event : e < events_of rs
  pub class : controllable rs e ≡ true
  pub index : i ≤ 63
  pub operand : operand_in_range o x ≡ true
  pub respond : o ≡ 5 → RespondLaw rs e x

-- document 02, 2.1: "record kind 18 (module, marked state)"
pub record MarkingLaw (rs : List Record) (m st : ℕ) : Type 0 where
  pub owner : m < modules_of rs
  pub state : st < field_of field2 (module_in rs m)

abbrev pub LawOf : List Record → Record → Type 0
LawOf rs (Head m v e) = Unit {0}
LawOf rs (Event n o c) = EventLaw rs n o
LawOf rs (Module n st i) = ModuleLaw rs n st i
LawOf rs (ModuleMove m f e t) = ModuleMoveLaw rs m f e t
LawOf rs (Supervisor n st i a) = SupervisorLaw rs n st i a
LawOf rs (SupervisorMove v f e t) = SupervisorMoveLaw rs v f e t
LawOf rs (Disabling v st m) = DisablingLaw rs v st m
LawOf rs (Step e i o x) = StepLaw rs e i o x
LawOf rs (Marking m st) = MarkingLaw rs m st
LawOf rs End = Unit {0}

-- ---- the record of a number

pub record TheEvent (rs : List Record) (e : ℕ) : Type 0 where
  pub owner : ℕ
  pub class : ℕ
  pub listed : Event e owner class ∈ rs
  pub owner_below : owner < modules_of rs
  pub class_most : class ≤ 1

pub record TheModule (rs : List Record) (m : ℕ) : Type 0 where
  pub states : ℕ
  pub initial : ℕ
  pub listed : Module m states initial ∈ rs
  pub states_least : 1 ≤ states
  pub states_most : states ≤ 32
  pub initial_below : initial < states

pub record TheSupervisor (rs : List Record) (v : ℕ) : Type 0 where
  pub states : ℕ
  pub initial : ℕ
  pub alphabet : ℕ
  pub listed : Supervisor v states initial alphabet ∈ rs
  pub states_least : 1 ≤ states
  pub states_most : states ≤ 64
  pub initial_below : initial < states

pub record TheStep (rs : List Record) (e i : ℕ) : Type 0 where
  pub operation : ℕ
  pub operand : ℕ
  pub listed : Step e i operation operand ∈ rs

-- ---- the whole

pub record Sound (rs : List Record) : Type 0 where
  -- the head's counts
  pub modules : (1 ≤ modules_of rs) × (modules_of rs ≤ 16)
  pub supervisors : supervisors_of rs ≤ 32
  pub events : (1 ≤ events_of rs) × (events_of rs ≤ 64)
  -- a look-up finds each record
  pub unique : Unique rs
  pub finds : (r : Record) → r ∈ rs → find_in (key_of r) rs ≡ Some r
  -- each record's fields are in range and name what is there
  pub ranges : (r : Record) → r ∈ rs → in_range r ≡ true
  pub laws : (r : Record) → r ∈ rs → LawOf rs r
  -- every number that the head promises has its record
  pub the_event : (e : ℕ) → e < events_of rs → TheEvent rs e
  pub the_module : (m : ℕ) → m < modules_of rs → TheModule rs m
  pub the_supervisor : (v : ℕ) → v < supervisors_of rs → TheSupervisor rs v
  -- "Step indices of an event run 0, 1, 2 without a gap"
  pub no_gap : (e i o x : ℕ) → Step e i o x ∈ rs → (j : ℕ) → j < i → TheStep rs e j

-- the image of an accepted plan: records, the end record last and nothing after it
pub record Ended (s : List ℕ) : Type 0 where
  pub short : length s ≤ limit
  pub before : List Record
  pub end_last : records_of s ≡ before ++ (End ∷ [])
  pub stops : stop_of (walk_from s 0) ≡ length s

-- what every accepted plan promises
pub record OfPlan (s : List ℕ) : Type 0 where
  pub sound : Sound (records_of s)
  pub ended : Ended s

abbrev pub EveryPlan : Type 0
EveryPlan = (s : List ℕ) → IsPlan s → OfPlan s
