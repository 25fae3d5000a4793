-- Demand 3, of the calls on a plan image: "one claim over every whole list, not one per call". The statement is `Demand`, at the end of this file; its
-- sentence is quoted part by part. To trust the proof one has to read this statement and the definitions that it names, and no step of the proof.
-- The clauses speak of a list from any system, one-device controller and position of the replay on; demand 3 is their instance from the start.
use Rattle.refusal.specs.Refusal.{refusal}
use Rattle.refusal.specs.declared.Refusal.{Refusal}
use Rattle.messages.specs.declared.Message.{Message}
use Rattle.std.specs.Prelude.{ℕ, ◌≤◌, ◌<◌, ◌≡◌, ◌≢◌, true, false, List, length, get_or, Option, Some, None, Result, Ok, Err, ⊤}
use Rattle.reader.specs.Walk.{records_of}
use Rattle.rules.specs.LookUp.{modules_of, supervisors_of}
use Rattle.rules.specs.Check.{IsPlan}
use Rattle.water.specs.declared.Flow.{Flow}
use Rattle.device_states.specs.States.{device_fits}
use Rattle.device_states.specs.declared.Device.{Device}
use Rattle.device.specs.Device.{start_call}
use Rattle.messages.specs.Message.{parse, parsed_number}
use Rattle.messages.specs.declared.Message.TheVariants.{Bid, Permit, Release}
use Rattle.permits.specs.declared.Module.{Module}
use Rattle.permits.specs.declared.Supervisor.{Supervisor}
use Rattle.permits.specs.Module as M
use Rattle.permits.specs.Supervisor as S
use Rattle.protocol.specs.Plan.{Plan}
use Rattle.protocol.specs.System.{commands_of, Position, replay, start_position, Legal}
use Rattle.protocol.specs.Language.{Supervised}
use Rattle.agreement.specs.PlanOf.{plan_of}
use Rattle.agreement.specs.System.{Sent, System, Act, deliver, buffer_length, AllLent, at, step, start, run}
use Rattle.agreement.specs.Compared.{Seen, DeviceAct, seen, fed, device_run, device_seen, record_of_events, out_to, permit_of}

-- ---- what the statement speaks of, each by one name

-- the plan of an image, as replay and the judging of events take it
abbrev pub image_plan : List ℕ → Plan
image_plan image = plan_of (records_of image)

-- a module and a supervisor that the plan has, and those that it lacks
abbrev pub HasModule : List ℕ → ℕ → Type 0
HasModule image m = m < modules_of (records_of image)

abbrev pub HasSupervisor : List ℕ → ℕ → Type 0
HasSupervisor image v = v < supervisors_of (records_of image)

abbrev pub LacksModule : List ℕ → ℕ → Type 0
LacksModule image m = modules_of (records_of image) ≤ m

abbrev pub LacksSupervisor : List ℕ → ℕ → Type 0
LacksSupervisor image v = supervisors_of (records_of image) ≤ v

-- what the party that a message names answers to it
unfoldable pub answer_to : List ℕ → System → List ℕ → Option Message → Result ⊤ Refusal
answer_to image D bytes (Some (Bid m v)) = (S.supervisor_deliver image v (D.supervisor_at v) bytes).answer
answer_to image D bytes (Some (Permit v m k)) = (M.module_deliver image m (D.module_at m) bytes).answer
answer_to image D bytes (Some (Release m v e)) = (S.supervisor_deliver image v (D.supervisor_at v) bytes).answer
answer_to image D bytes None = Err (refusal (parsed_number None) 0)

-- another state of a module or a supervisor of the plan
pub data Changes (image : List ℕ) (D D' : System) : Type 0 where
  of_module : (m : ℕ) → HasModule image m → D'.module_at m ≢ D.module_at m → Changes image D D'
  of_supervisor : (v : ℕ) → HasSupervisor image v → D'.supervisor_at v ≢ D.supervisor_at v → Changes image D D'

-- "some message under way would be accepted or some module or supervisor step would change a state": the delivery, too, would change one
pub data Progress (image : List ℕ) (D : System) : Type 0 where
  by_delivery : (k : ℕ) (g : Sent) → at k D.sent ≡ Some g → g.delivered ≡ false → answer_to image D g.bytes (parse g.bytes) ≡ Ok tt
      → Changes image D (step image D (deliver k)) → Progress image D
  by_module_step : (m : ℕ) (b : List ℕ) → HasModule image m → length b ≡ buffer_length
      → (M.module_step image m (D.module_at m) b).state ≢ D.module_at m → Progress image D
  by_supervisor_step : (v : ℕ) (b : List ℕ) → HasSupervisor image v → length b ≡ buffer_length
      → (S.supervisor_step image v (D.supervisor_at v) b).state ≢ D.supervisor_at v → Progress image D

-- of a list of calls that begins at the system D, beside the one-device controller d and a replay from the position p on
module _ (image : List ℕ) (D : System) (d : Device) (p : Position) (acts : List Act) where
  -- the list's end: all states and all messages sent after its calls
  abbrev at_end : System
  at_end = run image D acts

  abbrev module_at_end : ℕ → Module
  module_at_end m = at_end.module_at m

  abbrev supervisor_at_end : ℕ → Supervisor
  supervisor_at_end v = at_end.supervisor_at v

  -- the module that supervisor v's permit is out to there, none while it is home, by the answers of the calls
  abbrev permit_at_end : ℕ → Option ℕ
  permit_at_end v = permit_of image D acts v

  -- the answers of the turns taken, responses and ticks of the list
  abbrev list_seen : List Seen
  list_seen = seen image D acts

  -- the same turns, responses and ticks in the same order, the answers of the one-device controller to them, and its state after them
  abbrev list_fed : List DeviceAct
  list_fed = fed image D acts

  abbrev one_device_seen : List Seen
  one_device_seen = device_seen image d list_fed

  abbrev one_device_at_end : Device
  one_device_at_end = device_run image d list_fed

  -- the record of the list: the events fired, in order
  abbrev list_record : List ℕ
  list_record = record_of_events list_seen

  -- and that of the one-device controller
  abbrev one_device_record : List ℕ
  one_device_record = record_of_events one_device_seen

  -- ---- demand 3: what the sentence claims, part by part
  pub record Demand3 : Type 0 where
    -- "each call gets document 01's answer and state": `step` of specs/System.antt makes each call of the list by the definition that the contract of
    -- its function cites. Of a party that the plan lacks document 01 says: "Calls for a party that the plan lacks are merely refused": by 11, with
    -- the state and the buffer as they were.
    pub absent_module_step : (m : ℕ) (b : List ℕ) → LacksModule image m
        → M.module_step image m (module_at_end m) b ≡ M.step_refused (module_at_end m) b 11 0
    pub absent_supervisor_step : (v : ℕ) (b : List ℕ) → LacksSupervisor image v
        → S.supervisor_step image v (supervisor_at_end v) b ≡ S.step_refused (supervisor_at_end v) b 11 0
    pub absent_respond : (m e : ℕ) → LacksModule image m → M.module_respond image m (module_at_end m) e ≡ M.call_refused (module_at_end m) 11 0
    pub absent_tick : (m : ℕ) (f : Flow) → LacksModule image m → M.module_tick image m (module_at_end m) f ≡ M.call_refused (module_at_end m) 11 0
    -- "each turn taken, response and tick gets the answer that the one-device controller gives for the same turns, responses and ticks in the
    -- same order .."
    pub equal : list_seen ≡ one_device_seen
    -- ".. so that records and commands are equal"
    pub records : list_record ≡ one_device_record
    pub commands : commands_of (image_plan image) list_record ≡ commands_of (image_plan image) one_device_record
    -- "every event of the record is a listed move of its module, and no supervisor, led along that record, disables it there"
    pub legal : Legal (image_plan image) p list_record
    -- "at the list's end every supervisor with its permit at home stands exactly where the record's replay puts it"
    pub home : (v : ℕ) → HasSupervisor image v → permit_at_end v ≡ None
        → (supervisor_at_end v).state ≡ (replay (image_plan image) p list_record).supervisor_states v
    -- "if any permit is out, some message under way would be accepted or some module or supervisor step would change a state"
    pub out : (v m : ℕ) → HasSupervisor image v → permit_at_end v ≡ Some m → Progress image at_end

  -- ---- what is proved besides, which demand 3 does not ask for
  pub record Besides : Type 0 where
    -- the record is a word of the modules under their supervisors, in the terms of 004, chapter 2
    pub supervised : Supervised (image_plan image) p list_record
    -- the supervisor's state tells where its permit is
    pub holder : (v : ℕ) → permit_at_end v ≡ out_to (supervisor_at_end v).holder
    -- no delivery of a message under way is refused
    pub taken : (k : ℕ) (g : Sent) → at k at_end.sent ≡ Some g → g.delivered ≡ false
        → answer_to image at_end g.bytes (parse g.bytes) ≡ Ok tt
    -- every reached state fits
    pub module_fits_lem : (m : ℕ) → HasModule image m → M.module_fits (records_of image) m (module_at_end m) ≡ true
    pub supervisor_fits_lem : (v : ℕ) → HasSupervisor image v → S.supervisor_fits (records_of image) v (supervisor_at_end v) ≡ true
    pub device_fits_lem : device_fits (records_of image) one_device_at_end ≡ true
    -- no step of a module or a supervisor of the plan is refused
    pub module_steps : (m : ℕ) (b : List ℕ) (n o : ℕ) → HasModule image m → length b ≡ buffer_length
        → (M.module_step image m (module_at_end m) b).answer ≢ Err (refusal n o)
    pub supervisor_steps : (v : ℕ) (b : List ℕ) (n o : ℕ) → HasSupervisor image v → length b ≡ buffer_length
        → (S.supervisor_step image v (supervisor_at_end v) b).answer ≢ Err (refusal n o)

-- "begun at the starting state", which also is where the one-device controller and the replay begin. Document 01 of it: "permits are home".
pub record FromStart (image : List ℕ) (acts : List Act) : Type 0 where
  pub permits_home : (v : ℕ) → out_to ((start image).supervisor_at v).holder ≡ None
  pub demand : Demand3 image (start image) (start_call image).device (start_position (image_plan image)) acts
  pub besides : Besides image (start image) (start_call image).device (start_position (image_plan image)) acts

-- "For every list of module steps, supervisor steps, deliveries, responses and ticks over one accepted plan, refused calls included, begun at
-- the starting state with 128-byte output buffers, each delivery that of a sent message, unaltered, at most once, to the party it names that
-- takes its kind, in whatever order the wire likes": for every image of bytes that is accepted and every list of calls with such buffers, in which a
-- delivery is an index among the messages sent, and brings its message once (`deliver`, `once` and `delivered` of System)
abbrev pub Demand : Type 0
Demand = (image : List ℕ) → ((i : ℕ) → get_or image i 0 < 256) → IsPlan image → (acts : List Act) → AllLent acts → FromStart image acts
