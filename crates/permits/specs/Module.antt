-- Document 01, "Permits and messages": the module's calls on many devices.
use Rattle.refusal.specs.Refusal.{refusal}
use Rattle.refusal.specs.declared.Refusal.{Refusal}
use Rattle.std.specs.Prelude.{ℕ, zero, suc, List, [], ◌∷◌, ◌++◌, Bool, true, false, cond, not, ◌&&◌, ◌||◌, length, eqb, ltb, Option, Some, None, Result, Ok, Err, ⊤, is_some}
use Rattle.std.specs.Int.Bits.{bit_or}
use Rattle.bits.specs.Bit.{bit, all_below, least, put_bit}
use Rattle.records.specs.declared.Record.{Record}
use Rattle.reader.specs.Walk.{records_of}
use Rattle.rules.specs.LookUp.{modules_of}
use Rattle.rules.specs.Check.{verdict_of}
use Rattle.plan.specs.Plan.{in_alphabet, neighbours}
use Rattle.water.specs.declared.Flow.{Flow}
use Rattle.modules.specs.declared.Own.{Own}
use Rattle.modules.specs.declared.Turned.{Turned}
use Rattle.modules.specs.declared.Replied.{Replied}
use Rattle.modules.specs.Procedure.{called_by, tick_of, respond_of}
use Rattle.modules.specs.Turn.{turn_of, wish, start_own, empty_own}
use Rattle.modules.specs.Fits.{own_fits}
use Rattle.messages.specs.Message.{no_event, short, written, parse, parsed_number}
use Rattle.messages.specs.declared.Message.{Message}
use Rattle.messages.specs.declared.Message.TheVariants.{Bid, Permit, Release}
use Rattle.permits.specs.declared.Module.{Module}
use Rattle.permits.specs.declared.ModuleCalled.{ModuleCalled}
use Rattle.permits.specs.declared.Stepped.{Stepped}
use Rattle.permits.specs.declared.Stepped.TheVariants.{Turns, Bids, Waits}
use Rattle.permits.specs.Names.{named}
use Rattle.permits.specs.Step.{bytes_of_messages, Call}

-- A module with some fields set and the others as they are; see specs/Own.antt of crate modules. A response and a tick set the own part.
abbrev pub with_own : Module → Own → Module
with_own x own = record { own = own; held = x.held; received = x.received; bid = x.bid }

-- the permits held, and the union of the masks received with them
abbrev pub with_permits : Module → ℕ → ℕ → Module
with_permits x held received = record { own = x.own; held = held; received = received; bid = x.bid }

abbrev pub with_bid : Module → Bool → Module
with_bid x bid = record { own = x.own; held = x.held; received = x.received; bid = bid }

-- "its lowest neighbour not held", by the masks of the neighbours and of those held
unfoldable pub missing_in : ℕ → ℕ → Option ℕ
missing_in adjacent held = least (λ v. bit adjacent v && not (bit held v)) 32

abbrev pub missing : List Record → ℕ → ℕ → Option ℕ
missing rs m held = missing_in (neighbours rs m) held

-- "held permits are the module's lowest neighbours"
unfoldable pub held_in : ℕ → ℕ → Bool
held_in adjacent held = all_below (λ v. not (bit held v) || (bit adjacent v && all_below (λ w. not (bit adjacent w) || bit held w) v)) 32

abbrev pub held_fits : List Record → ℕ → ℕ → Bool
held_fits rs m held = held_in (neighbours rs m) held

-- document 01's term "fits", of a module: "the received mask is 0 when none is held, a bid is outstanding only while one is missing", and the
-- clauses of the own part
unfoldable pub fits_in : List Record → ℕ → ℕ → Module → Bool
fits_in rs m adjacent x =
    held_in adjacent x.held && (not (eqb x.held 0) || eqb x.received 0) && (not x.bid || is_some (missing_in adjacent x.held)) && own_fits rs m x.own

abbrev pub module_fits : List Record → ℕ → Module → Bool
module_fits rs m x = fits_in rs m (neighbours rs m) x

-- what a module step does
pub data Choice : Type 0 where
  takes_turn waits : Choice
  bids_to : ℕ → Choice

-- The choice of a module step, a clause for each of its sentences. Its arguments: the lowest neighbour not held, if any; whether the module has
-- neighbours; whether a bid is outstanding; whether a permit is held; whether it has a wish.
unfoldable pub choice_on : (not_held : Option ℕ) (any_neighbour outstanding holds wishes : Bool) → Choice
-- "with every neighbour's permit held, it takes a turn"
choice_on None true outstanding holds wishes = takes_turn
-- "A module without neighbours takes its turn if it has a wish, else waits."
choice_on None false outstanding holds wishes = cond wishes takes_turn waits
-- "Otherwise, with no bid outstanding and either a permit held or a wish, it bids to its lowest neighbour not held. Otherwise it waits."
choice_on (Some v) any_neighbour false holds wishes = cond (holds || wishes) (bids_to v) waits
choice_on (Some v) any_neighbour true holds wishes = waits

unfoldable pub choice : List Record → ℕ → Module → Choice
choice rs m x = choice_on (missing rs m x.held) (not (eqb (neighbours rs m) 0)) x.bid (not (eqb x.held 0)) (wish rs m x.own)

-- "it takes a turn over the union of the masks received, releases all .. and holds none"
abbrev pub turn_taken : List Record → ℕ → Module → Turned
turn_taken rs m x = turn_of rs m x.received x.own

abbrev pub after_turn : Module → Own → Module
after_turn x own = with_permits (with_own x own) 0 0

-- "A release carries the event that fired if that supervisor's alphabet has it, else FF."
unfoldable pub event_for : List Record → ℕ → Option ℕ → ℕ
event_for rs v (Some e) = cond (in_alphabet rs v e) e no_event
event_for rs v None = no_event

-- "releases all in ascending order": those to the supervisors of a mask below n, and to the neighbours below n
unfoldable pub releases_in : List Record → ℕ → ℕ → Option ℕ → ℕ → List Message
releases_in rs m mask t zero = []
releases_in rs m mask t (suc n) = releases_in rs m mask t n ++ cond (bit mask n) (Release m n (event_for rs n t) ∷ []) []

abbrev pub releases : List Record → ℕ → Option ℕ → ℕ → List Message
releases rs m t n = releases_in rs m (neighbours rs m) t n

abbrev pub after_bid : Module → Module
after_bid x = with_bid x true

-- the messages that a step sends, each by itself
unfoldable pub sent_by : List Record → ℕ → Module → Choice → List Message
sent_by rs m x takes_turn = releases rs m (turn_taken rs m x).turn 32
sent_by rs m x (bids_to v) = Bid m v ∷ []
sent_by rs m x waits = []

abbrev pub step_bytes : List Record → ℕ → Module → Choice → List ℕ
step_bytes rs m x c = bytes_of_messages (sent_by rs m x c)

-- an accepted step: its answer with the bytes written, and the state after it
unfoldable pub answer_by : List Record → ℕ → Module → Choice → Result Stepped Refusal
answer_by rs m x takes_turn = Ok (Turns (turn_taken rs m x).turn (length (step_bytes rs m x takes_turn)))
answer_by rs m x (bids_to v) = Ok (Bids v (length (step_bytes rs m x (bids_to v))))
answer_by rs m x waits = Ok Waits

unfoldable pub state_by : List Record → ℕ → Module → Choice → Module
state_by rs m x takes_turn = after_turn x (turn_taken rs m x).own
state_by rs m x (bids_to v) = after_bid x
state_by rs m x waits = x

-- a whole call: its answer, the state after it, and the buffer's final contents
abbrev pub StepCall : Type 0
StepCall = Call (Result Stepped Refusal) Module

abbrev pub step_refused : Module → List ℕ → ℕ → ℕ → StepCall
step_refused x b n o = record { answer = Err (refusal n o); state = x; buffer = b }

-- 15, "output buffer shorter than the answer"
unfoldable pub step_in : List Record → ℕ → Module → List ℕ → Choice → StepCall
step_in rs m x b c =
    cond (short (step_bytes rs m x c) b) (step_refused x b 15 0)
    (record { answer = answer_by rs m x c; state = state_by rs m x c; buffer = written (step_bytes rs m x c) b })

-- the smallest number that applies: 11 for a module that the plan lacks, which has no state to judge; then 9; then 15
unfoldable pub step_by : Result ⊤ Refusal → List Record → ℕ → Module → List ℕ → StepCall
step_by (Ok u) rs m x b =
    cond (ltb m (modules_of rs)) (cond (module_fits rs m x) (step_in rs m x b (choice rs m x)) (step_refused x b 9 0)) (step_refused x b 11 0)
step_by (Err e) rs m x b = step_refused x b e.number e.offset

abbrev pub module_step : List ℕ → ℕ → Module → List ℕ → StepCall
module_step image m x b = step_by (verdict_of image) (records_of image) m x b

-- a call without a buffer
abbrev pub call_refused : Module → ℕ → ℕ → ModuleCalled
call_refused x n o = record { answer = Err (refusal n o); state = x }

-- "A module accepts a permit only from the supervisor it has a bid with, and takes its mask as it is." The bid is with the lowest neighbour
-- not held.
unfoldable pub is_for : Option ℕ → ℕ → Bool
is_for None v = false
is_for (Some w) v = eqb w v

unfoldable pub bid_with : List Record → ℕ → Module → ℕ → Bool
bid_with rs m x v = x.bid && is_for (missing rs m x.held) v

abbrev pub after_permit : Module → ℕ → ℕ → Module
after_permit x v k = with_bid (with_permits x (put_bit x.held v true) (bit_or x.received k)) false

-- "A message that names another party than the one given it, or is of a kind that party never takes, is 12."
unfoldable pub taken_by : List Record → ℕ → Module → Message → ModuleCalled
taken_by rs m x (Bid n v) = call_refused x 12 0
taken_by rs m x (Permit v n k) = cond (eqb n m && bid_with rs m x v) (record { answer = Ok tt; state = after_permit x v k }) (call_refused x 12 0)
taken_by rs m x (Release n v e) = call_refused x 12 0

-- 9, then 10, then 11, then 12
unfoldable pub deliver_in : List Record → ℕ → Module → Option Message → ModuleCalled
deliver_in rs m x None = call_refused x (parsed_number None) 0
deliver_in rs m x (Some g) = cond (named rs g) (taken_by rs m x g) (call_refused x 11 0)

-- a module that the plan lacks has no state to judge: 10 or 11
unfoldable pub absent : Module → Option Message → ModuleCalled
absent x None = call_refused x (parsed_number None) 0
absent x (Some g) = call_refused x 11 0

unfoldable pub deliver_by : Result ⊤ Refusal → List Record → ℕ → Module → Option Message → ModuleCalled
deliver_by (Ok u) rs m x g = cond (ltb m (modules_of rs)) (cond (module_fits rs m x) (deliver_in rs m x g) (call_refused x 9 0)) (absent x g)
deliver_by (Err e) rs m x g = call_refused x e.number e.offset

abbrev pub module_deliver : List ℕ → ℕ → Module → List ℕ → ModuleCalled
module_deliver image m x bytes = deliver_by (verdict_of image) (records_of image) m x (parse bytes)

-- a response and a tick, as on one device
unfoldable pub reply_by : Result ⊤ Refusal → List Record → ℕ → Module → Replied → ModuleCalled
reply_by (Ok u) rs m x r =
    cond (ltb m (modules_of rs)) (cond (module_fits rs m x) (record { answer = called_by r.reply; state = with_own x r.own }) (call_refused x 9 0)) (call_refused x 11 0)
reply_by (Err e) rs m x r = call_refused x e.number e.offset

abbrev pub module_respond : List ℕ → ℕ → Module → ℕ → ModuleCalled
module_respond image m x e = reply_by (verdict_of image) (records_of image) m x (respond_of (records_of image) m e x.own)

abbrev pub module_tick : List ℕ → ℕ → Module → Flow → ModuleCalled
module_tick image m x f = reply_by (verdict_of image) (records_of image) m x (tick_of (records_of image) f x.own)

-- a refused start gives the all-zero state
abbrev pub empty_module : Module
empty_module = record { own = empty_own; held = 0; received = 0; bid = false }

-- "At the start all are in their initial states, permits are home, nothing is noted, queued or bid"
abbrev pub start_module : List Record → ℕ → Module
start_module rs m = with_own empty_module (start_own rs m)

unfoldable pub start_by : Result ⊤ Refusal → List Record → ℕ → ModuleCalled
start_by (Ok u) rs m = cond (ltb m (modules_of rs)) (record { answer = Ok tt; state = start_module rs m }) (call_refused empty_module 11 0)
start_by (Err e) rs m = call_refused empty_module e.number e.offset

abbrev pub module_start : List ℕ → ℕ → ModuleCalled
module_start image m = start_by (verdict_of image) (records_of image) m
