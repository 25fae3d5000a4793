-- Document 01, "What demand 3 compares": the lines that the simulation plays on arrays are the lists of calls of which demand 3 is proved.
use Rattle.std.specs.Prelude.{ℕ, zero, suc, ◌≤◌, ◌<◌, ◌≡◌, List, [], ◌∷◌, ◌++◌, map, cond, length, get_or, replicate, ltb}
use Rattle.litres.specs.Eighths.{eighths}
use Rattle.water.specs.declared.Flow.TheVariants.{Litres, NoSensor}
use Rattle.records.specs.declared.Record.{Record}
use Rattle.reader.specs.Walk.{records_of}
use Rattle.rules.specs.LookUp.{modules_of}
use Rattle.rules.specs.Check.{IsPlan}
use Rattle.messages.specs.Message.{message_bytes}
use Rattle.device.specs.Device.{start_call}
use Rattle.wire.specs.declared.Sent.{Sent as UnderWay}
use Rattle.wire.specs.Wire.{under, Sound}
use Rattle.parties.specs.declared.Parties.{Parties}
use Rattle.parties.specs.Parties as P
use Rattle.acts.specs.declared.Act.{Act as Line}
use Rattle.acts.specs.declared.Act.TheVariants.{Module as ModuleLine, Supervisor as SupervisorLine, Delivery as DeliveryLine, Response as ResponseLine, Tick as TickLine, Unfitted as UnfittedLine, Misshapen as MisshapenLine}
use Rattle.simulation.specs.declared.Answer.{Answer}
use Rattle.simulation.specs.declared.Answer.TheVariants.{Module as ModuleGot, Supervisor as SupervisorGot, Delivery, NoMessage, Response, Tick, Misshapen}
use Rattle.simulation.specs.Play.{played}
use Rattle.agreement.specs.System.{Sent, System, Act, module_step, supervisor_step, deliver, respond, tick, buffer_length, AllLent, under_way, start, run}
use Rattle.agreement.specs.Compared.{Seen, call_seen, step_seen, seen, fed, device_run}
use Rattle.agreement.specs.Demand.{FromStart}

abbrev pub bytes_of : UnderWay → List ℕ
bytes_of s = message_bytes s.message

-- the parties as demand 3 has them, w being every message sent so far: the states by their numbers
abbrev pub system_of : Parties → List Sent → System
system_of p w = record { module_at = P.module_at p; supervisor_at = P.supervisor_at p; sent = w }

-- "128-byte output buffers"
abbrev pub buffer : List ℕ
buffer = replicate buffer_length 0

-- the index among all messages sent of the k-th under way; past the last where fewer are
unfoldable pub index_sent : ℕ → List Sent → ℕ
index_sent k [] = 0
index_sent zero (g ∷ w) = cond g.delivered (suc (index_sent zero w)) 0
index_sent (suc k) (g ∷ w) = suc (cond g.delivered (index_sent (suc k) w) (index_sent k w))

-- a line as a call, w being every message sent so far: a delivery names one of those under way; a misshapen line is none
unfoldable pub call_of : List Sent → Line → List Act
call_of w (ModuleLine m) = module_step m buffer ∷ []
call_of w (SupervisorLine v) = supervisor_step v buffer ∷ []
call_of w (DeliveryLine k) = deliver (index_sent k w) ∷ []
call_of w (ResponseLine m e) = respond m e ∷ []
call_of w (TickLine m n) = tick m (Litres (eighths n)) ∷ []
call_of w (UnfittedLine m) = tick m NoSensor ∷ []
call_of w MisshapenLine = []

-- all lines as calls from a system on
unfoldable pub calls_from : List ℕ → System → List Line → List Act
calls_from image D [] = []
calls_from image D (a ∷ l) = call_of D.sent a ++ calls_from image (run image D (call_of D.sent a)) l

abbrev pub calls_of : List ℕ → List Line → List Act
calls_of image lines = calls_from image (start image) lines

-- the parties after all lines
unfoldable pub played_all : List ℕ → Parties → List Line → Parties
played_all image p [] = p
played_all image p (a ∷ l) = played_all image (played image p a).play l

-- what is compared of a line: its answer, with the module's state after it
unfoldable pub answer_seen : List Record → Parties → Answer → List Seen
answer_seen rs p (ModuleGot m a) = step_seen m a (P.module_at p m).own
answer_seen rs p (SupervisorGot v a) = []
answer_seen rs p (Delivery g a) = []
answer_seen rs p NoMessage = []
answer_seen rs p (Response m e a) = cond (ltb m (modules_of rs)) (call_seen m a (P.module_at p m).own ∷ []) []
answer_seen rs p (Tick m a) = cond (ltb m (modules_of rs)) (call_seen m a (P.module_at p m).own ∷ []) []
answer_seen rs p Misshapen = []

unfoldable pub all_seen : List ℕ → Parties → List Line → List Seen
all_seen image p [] = []
all_seen image p (a ∷ l) = let q = played image p a in answer_seen (records_of image) q.play q.answer ++ all_seen image q.play l

-- the arrays have their lengths
pub record Whole (p : Parties) : Type 0 where
  pub modules : length p.modules ≡ 16
  pub supervisors : length p.supervisors ≡ 32
  pub wire : Sound p.wire

module _ (image : List ℕ) (lines : List Line) where
  -- the lines as calls, the system that the calls leave, and the parties that the lines leave
  abbrev calls : List Act
  calls = calls_of image lines

  abbrev end : System
  end = run image (start image) calls

  abbrev parties : Parties
  parties = played_all image (P.start image) lines

  pub record Plays : Type 0 where
    -- the lines are a list of calls that demand 3 speaks of
    pub lent : AllLent calls
    pub demand : FromStart image calls
    -- "Each call gets the state that the last call on its module or supervisor left, at first the starting state": the states are those that the
    -- calls leave, and under way is what the calls sent and did not deliver, in the order sent
    pub system : system_of parties end.sent ≡ end
    pub messages : map bytes_of (under parties.wire) ≡ under_way end.sent
    -- "The one-device controller, from its start, is fed each response and tick as called, and a turn for each module step that by the rules
    -- above takes one; nothing else."
    pub device : parties.device ≡ device_run image (start_call image).device (fed image (start image) calls)
    -- "each turn taken, response and tick gets the answer that the one-device controller gives for the same turns, responses and ticks in the
    -- same order": the answers are those of the calls, to which demand 3's clause `equal` applies
    pub answers : all_seen image (P.start image) lines ≡ seen image (start image) calls
    -- the arrays keep their lengths, and at most a bid of each module and one message for each permit are under way: of the wire's 96 there are
    -- always 32 left for the releases of a turn
    pub whole : Whole parties
    pub few : parties.wire.count ≤ 48

-- for every accepted image and every list of lines
abbrev pub Simulated : Type 0
Simulated = (image : List ℕ) → ((i : ℕ) → get_or image i 0 < 256) → IsPlan image → (lines : List Line) → Plays image lines
