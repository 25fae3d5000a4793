-- Demand 3 of the abstract rules, a step of the proof: what has to be read is `Demand` of crate agreement. For every list of acts, from a system D, a
-- one-device controller O and a position p of the replay that belong together, as the starting ones do.
use Rattle.std.specs.Prelude.{ℕ, ◌<◌, ◌≡◌, List, Some, None}
use Rattle.protocol.specs.Generic.{Picked, pick}
use Rattle.protocol.specs.Plan.{Plan}
use Rattle.protocol.specs.Rules.{OneDevice, Message}
use Rattle.protocol.specs.System.{System, Act, run, seen, fed, device_seen, record_of_events, commands_of, Position, replay, Legal, Accepts, Progress}
use Rattle.protocol.specs.Language.{Supervised}

pub record Demand3 (P : Plan) (D : System) (O : OneDevice) (p : Position) (acts : List Act) : Type 0 where
  -- "Equal are a turn's event .. or none, any refusal's number, and after each the module's state, queue, procedure, water and outputs." Document 02,
  -- 2.5: "The comparison with one device is made with this turn on both sides." So records and commands are equal.
  pub equal : seen P D acts ≡ device_seen P O (fed P D acts)
  pub records_equal : record_of_events (seen P D acts) ≡ record_of_events (device_seen P O (fed P D acts))
  pub commands_equal : commands_of P (record_of_events (seen P D acts)) ≡ commands_of P (record_of_events (device_seen P O (fed P D acts)))
  -- "an event is judged by moves and shown masks just before it": the record is a word of the supervised plant
  pub legal : Legal P p (record_of_events (seen P D acts))
  pub supervised : Supervised P p (record_of_events (seen P D acts))
  -- "A permit is out from the step that sends it until its release is accepted, else home.": a supervisor with its permit home stands where
  -- the replay puts it
  pub home : (s : ℕ) → s < P.supervisors → ((run P D acts).supervisor_at s).holder ≡ None
      → ((run P D acts).supervisor_at s).state ≡ (replay P p (record_of_events (seen P D acts))).supervisor_states s
  -- with a permit out, some delivery or step changes a state
  pub out : (s m : ℕ) → s < P.supervisors → ((run P D acts).supervisor_at s).holder ≡ Some m → Progress P (run P D acts)
  -- no message under way is refused
  pub taken : (k : ℕ) (q : Picked Message) → pick k (run P D acts).under_way ≡ Some q → Accepts P (run P D acts) q.item
