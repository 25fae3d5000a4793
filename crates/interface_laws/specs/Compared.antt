-- What demand 3 compares, over bytes. Document 01: "Equal are a turn's event .. or none, any refusal's number, and after each the module's state,
-- queue, procedure, water and outputs": the parts of the answer's number, and the bytes of the module's own part. Document 02, 2.5: "The comparison
-- with one device is made with this turn on both sides."
use Rattle.std.specs.Prelude.{ℕ, ◌*◌, ◌/◌, ◌%◌, List, [], ◌∷◌, ◌++◌, Bool, cond, ◌&&◌, ◌||◌, take, drop, eqb, ltb}
use Rattle.reader.specs.Walk.{records_of}
use Rattle.rules.specs.LookUp.{modules_of}
use Rattle.own_bytes.specs.Own.{own_size}
use Rattle.agreement.specs.System.{Act, module_step, supervisor_step, deliver, respond, tick}
use Rattle.agreement.specs.Compared.{DeviceAct, device_turn, device_respond, device_tick}
use Rattle.packing.specs.Answer.{Answer}
use Rattle.module_interface.specs.Calls as ModuleCalls
use Rattle.interface_laws.specs.Laws.{number_of}
use Rattle.interface_laws.specs.Run.{Memory, did_of, sensor_of, litres_of, bytes_step, device_bytes_step}

-- of a call on module m: the refusal's number, what was done and of what, and the own part after it
pub record Outcome : Type 0 where
  pub owner : ℕ
  pub number : ℕ
  pub did : ℕ
  pub value : ℕ
  pub own : List ℕ

-- as `pewterslug_value` of include/pewterslug.h takes it
abbrev pub value_of : Answer → ℕ
value_of a = a.number / 65536 % 256

abbrev pub outcome : ℕ → Answer → List ℕ → Outcome
outcome m a own = record { owner = m; number = number_of a; did = did_of a; value = value_of a; own = own }

-- a module's bytes begin with its own part, and one device has the own parts of all modules one after another
abbrev pub module_outcome : ℕ → Answer → Outcome
module_outcome m a = outcome m a (take own_size a.state)

abbrev pub device_outcome : ℕ → Answer → Outcome
device_outcome m a = outcome m a (take own_size (drop (m * own_size) a.state))

-- an accepted step that took a turn, by the header: 1 "a turn: an event fired", 3 "a turn: none"
abbrev pub took_turn : Answer → Bool
took_turn a = eqb (number_of a) 0 && (eqb (did_of a) 1 || eqb (did_of a) 3)

-- Document 01: "Calls for a party that the plan lacks are merely refused, their numbers not compared."
unfoldable pub act_bytes_seen : List ℕ → Memory → Act → List Outcome
act_bytes_seen image B (module_step m b) = let a = ModuleCalls.step_bytes image (B.module_at m) m b in cond (took_turn a) (module_outcome m a ∷ []) []
act_bytes_seen image B (supervisor_step v b) = []
act_bytes_seen image B (deliver k) = []
act_bytes_seen image B (respond m e) =
    cond (ltb m (modules_of (records_of image))) (module_outcome m (ModuleCalls.respond_bytes image (B.module_at m) m e) ∷ []) []
act_bytes_seen image B (tick m f) =
    cond (ltb m (modules_of (records_of image))) (module_outcome m (ModuleCalls.tick_bytes image (B.module_at m) m (sensor_of f) (litres_of f)) ∷ []) []

unfoldable pub bytes_seen : List ℕ → Memory → List Act → List Outcome
bytes_seen image B [] = []
bytes_seen image B (a ∷ l) = act_bytes_seen image B a ++ bytes_seen image (bytes_step image B a).memory l

-- Document 01: "is fed each response and tick as called, and a turn for each module step that by the rules above takes one; nothing else": here by
-- what the step answered; that these are the turns which the rules take is `feeds` of specs/DemandOverBytes.antt
unfoldable pub act_bytes_fed : List ℕ → Memory → Act → List DeviceAct
act_bytes_fed image B (module_step m b) = cond (took_turn (ModuleCalls.step_bytes image (B.module_at m) m b)) (device_turn m ∷ []) []
act_bytes_fed image B (supervisor_step v b) = []
act_bytes_fed image B (deliver k) = []
act_bytes_fed image B (respond m e) = cond (ltb m (modules_of (records_of image))) (device_respond m e ∷ []) []
act_bytes_fed image B (tick m f) = cond (ltb m (modules_of (records_of image))) (device_tick m f ∷ []) []

unfoldable pub bytes_fed : List ℕ → Memory → List Act → List DeviceAct
bytes_fed image B [] = []
bytes_fed image B (a ∷ l) = act_bytes_fed image B a ++ bytes_fed image (bytes_step image B a).memory l

-- the same of the one-device controller
unfoldable pub owner_in : DeviceAct → ℕ
owner_in (device_turn m) = m
owner_in (device_respond m e) = m
owner_in (device_tick m f) = m

unfoldable pub device_bytes_seen : List ℕ → List ℕ → List DeviceAct → List Outcome
device_bytes_seen image s [] = []
device_bytes_seen image s (a ∷ l) = let c = device_bytes_step image s a in device_outcome (owner_in a) c ∷ device_bytes_seen image c.state l
