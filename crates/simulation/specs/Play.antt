-- The simulation of document 01's "What demand 3 compares": "Each call gets the state that the last call on its module or supervisor left, at
-- first the starting state"; "The one-device controller, from its start, is fed each response and tick as called, and a turn for each module
-- step that by the rules above takes one; nothing else."
use Rattle.refusal.specs.declared.Refusal.{Refusal}
use Rattle.std.specs.Prelude.{ℕ, ◌+◌, ◌/◌, List, [], ◌∷◌, ◌++◌, cond, length, take, replicate, leb, Option, Some, None, Result, Ok, Err, ⊤}
use Rattle.litres.specs.Eighths.{eighths}
use Rattle.water.specs.declared.Flow.{Flow}
use Rattle.water.specs.declared.Flow.TheVariants.{Litres, NoSensor}
use Rattle.messages.specs.Message.{release_size, buffer_length, parse, message_bytes, pieces}
use Rattle.messages.specs.declared.Message.{Message}
use Rattle.messages.specs.declared.Message.TheVariants.{Bid, Permit, Release}
use Rattle.device.specs.Device.{turn_call, respond_call, tick_call}
use Rattle.permits.specs.declared.Stepped.{Stepped}
use Rattle.permits.specs.declared.Stepped.TheVariants.{Turns, Bids, Waits}
use Rattle.permits.specs.declared.Served.{Served}
use Rattle.permits.specs.declared.Served.TheVariants.{Sends, Waits as ServedWaits}
use Rattle.permits.specs.Module as M
use Rattle.permits.specs.Supervisor as S
use Rattle.wire.specs.declared.Sent.{Sent}
use Rattle.wire.specs.declared.Wire.{Wire}
use Rattle.wire.specs.Wire.{under, sent, with_messages, nth_of, without}
use Rattle.parties.specs.declared.Parties.{Parties}
use Rattle.parties.specs.Parties.{module_at, supervisor_at, with_module, with_supervisor, with_wire, with_device}
use Rattle.acts.specs.declared.Act.{Act}
use Rattle.acts.specs.declared.Act.TheVariants.{Module as ModuleLine, Supervisor as SupervisorLine, Delivery as DeliveryLine, Response as ResponseLine, Tick as TickLine, Unfitted as UnfittedLine, Misshapen as MisshapenLine}
use Rattle.simulation.specs.declared.Answer.TheVariants.{Module as ModuleGot, Supervisor as SupervisorGot, Delivery, NoMessage, Response, Tick, Misshapen}
use Rattle.simulation.specs.declared.Played.{Played}

-- ---- steps

-- "A message is sent by the accepted step that writes it": the message that bytes are
unfoldable pub read_by : Option Message → List Sent
read_by (Some g) = sent g ∷ []
read_by None = []

abbrev pub read : List ℕ → List Sent
read bytes = read_by (parse bytes)

unfoldable pub read_all : List (List ℕ) → List Sent
read_all [] = []
read_all (g ∷ gs) = read g ++ read_all gs

-- "each release is sent as a message by itself"
unfoldable pub releases_of : List ℕ → List Sent
releases_of bytes = read_all (pieces release_size (length bytes / release_size) bytes)

-- "128-byte output buffers"; where there is no room for n messages more the step is lent no buffer, and refuses by itself what it cannot write
unfoldable pub lent_for : Wire → ℕ → List ℕ
lent_for w n = cond (leb (w.count + n) 96) (replicate buffer_length 0) []

unfoldable pub after_step : List ℕ → Parties → ℕ → Result Stepped Refusal → List ℕ → Parties
after_step image p m (Ok (Turns t n)) b = with_device (with_wire p (with_messages p.wire (releases_of (take n b)))) (turn_call image p.device m).device
after_step image p m (Ok (Bids v n)) b = with_wire p (with_messages p.wire (read (take n b)))
after_step image p m (Ok Waits) b = p
after_step image p m (Err e) b = p

-- the bytes b are the buffer lent
unfoldable pub module_stepped : List ℕ → Parties → ℕ → List ℕ → Played
module_stepped image p m b =
    let c = M.module_step image m (module_at p m) b in
    record { answer = ModuleGot m c.answer; play = after_step image (with_module p m c.state) m c.answer c.buffer }

unfoldable pub after_serving : Parties → Result Served Refusal → List ℕ → Parties
after_serving p (Ok (Sends m n)) b = with_wire p (with_messages p.wire (read (take n b)))
after_serving p (Ok ServedWaits) b = p
after_serving p (Err e) b = p

unfoldable pub supervisor_stepped : List ℕ → Parties → ℕ → List ℕ → Played
supervisor_stepped image p v b =
    let c = S.supervisor_step image v (supervisor_at p v) b in
    record { answer = SupervisorGot v c.answer; play = after_serving (with_supervisor p v c.state) c.answer c.buffer }

-- ---- deliveries, responses and ticks

-- a message that was taken is under way no more, a refused one still is
unfoldable pub wire_after : Wire → ℕ → Result ⊤ Refusal → Wire
wire_after w k (Ok u) = without w k
wire_after w k (Err e) = w

unfoldable pub to_module : List ℕ → Parties → ℕ → ℕ → Message → Played
to_module image p k m g =
    let c = M.module_deliver image m (module_at p m) (message_bytes g) in
    record { answer = Delivery g c.answer; play = with_wire (with_module p m c.state) (wire_after p.wire k c.answer) }

unfoldable pub to_supervisor : List ℕ → Parties → ℕ → ℕ → Message → Played
to_supervisor image p k v g =
    let c = S.supervisor_deliver image v (supervisor_at p v) (message_bytes g) in
    record { answer = Delivery g c.answer; play = with_wire (with_supervisor p v c.state) (wire_after p.wire k c.answer) }

-- the k-th message goes to the party that it names and that takes its kind
unfoldable pub delivered_by : List ℕ → Parties → ℕ → Option Message → Played
delivered_by image p k None = record { answer = NoMessage; play = p }
delivered_by image p k (Some (Bid m v)) = to_supervisor image p k v (Bid m v)
delivered_by image p k (Some (Permit v m x)) = to_module image p k m (Permit v m x)
delivered_by image p k (Some (Release m v e)) = to_supervisor image p k v (Release m v e)

abbrev pub delivered : List ℕ → Parties → ℕ → Played
delivered image p k = delivered_by image p k (nth_of (under p.wire) k)

unfoldable pub responded : List ℕ → Parties → ℕ → ℕ → Played
responded image p m e =
    let c = M.module_respond image m (module_at p m) e in
    record { answer = Response m e c.answer; play = with_device (with_module p m c.state) (respond_call image p.device m e).device }

unfoldable pub ticked : List ℕ → Parties → ℕ → Flow → Played
ticked image p m f =
    let c = M.module_tick image m (module_at p m) f in
    record { answer = Tick m c.answer; play = with_device (with_module p m c.state) (tick_call image p.device m f).device }

-- ---- a line of the script

unfoldable pub played : List ℕ → Parties → Act → Played
played image p (ModuleLine m) = module_stepped image p m (lent_for p.wire 32)
played image p (SupervisorLine v) = supervisor_stepped image p v (lent_for p.wire 1)
played image p (DeliveryLine k) = delivered image p k
played image p (ResponseLine m e) = responded image p m e
played image p (TickLine m n) = ticked image p m (Litres (eighths n))
played image p (UnfittedLine m) = ticked image p m NoSensor
played image p MisshapenLine = record { answer = Misshapen; play = p }
