-- Document 01, "Permits and messages": the supervisor's calls on many devices.
use Rattle.refusal.specs.Refusal.{refusal}
use Rattle.refusal.specs.declared.Refusal.{Refusal}
use Rattle.std.specs.Prelude.{ℕ, List, [], ◌∷◌, Bool, true, false, cond, not, ◌&&◌, ◌||◌, length, eqb, ltb, Option, Some, None, Result, Ok, Err, ⊤}
use Rattle.bits.specs.Bit.{bit, all_below, least, put_bit}
use Rattle.records.specs.declared.Record.{Record}
use Rattle.reader.specs.Walk.{records_of}
use Rattle.rules.specs.LookUp.{supervisors_of, supervisor_state}
use Rattle.rules.specs.Check.{verdict_of}
use Rattle.plan.specs.Plan.{supervisor_moved, supervisor_initial, shown}
use Rattle.messages.specs.Message.{no_event, short, written, parse, parsed_number}
use Rattle.messages.specs.declared.Message.{Message}
use Rattle.messages.specs.declared.Message.TheVariants.{Bid, Permit, Release}
use Rattle.permits.specs.declared.Supervisor.{Supervisor}
use Rattle.permits.specs.declared.SupervisorCalled.{SupervisorCalled}
use Rattle.permits.specs.declared.Holder.{Holder}
use Rattle.permits.specs.declared.Holder.TheVariants.{Home, Out}
use Rattle.permits.specs.declared.Served.{Served}
use Rattle.permits.specs.declared.Served.TheVariants.{Sends, Waits}
use Rattle.permits.specs.Names.{neighbours?, named}
use Rattle.permits.specs.Step.{bytes_of_messages, Call}
-- the modules' cyclic order, passed on
unfoldable pub use Rattle.bits.specs.Bit.{module_after}

-- a supervisor with a field set and the others as they are; see specs/Own.antt of crate modules
abbrev pub with_state : Supervisor → ℕ → Supervisor
with_state y st = record { state = st; noted = y.noted; holder = y.holder; last = y.last }

abbrev pub with_noted : Supervisor → ℕ → Supervisor
with_noted y noted = record { state = y.state; noted = noted; holder = y.holder; last = y.last }

abbrev pub with_holder : Supervisor → Holder → Supervisor
with_holder y holder = record { state = y.state; noted = y.noted; holder = holder; last = y.last }

abbrev pub with_last : Supervisor → ℕ → Supervisor
with_last y last = record { state = y.state; noted = y.noted; holder = y.holder; last = last }

-- document 01's term "fits", of a supervisor: "a supervisor's noted modules and holder are its neighbours, its last-served place is 0 to 15"
unfoldable pub holder_fits : List Record → ℕ → Holder → Bool
holder_fits rs v Home = true
holder_fits rs v (Out m) = neighbours? rs m v

unfoldable pub supervisor_fits : List Record → ℕ → Supervisor → Bool
supervisor_fits rs v y =
    supervisor_state rs v y.state && all_below (λ m. not (bit y.noted m) || neighbours? rs m v) 16 && holder_fits rs v y.holder && ltb y.last 16

-- "the first noted module cyclically after the last served"
unfoldable pub next_noted : Supervisor → Option ℕ → Option ℕ
next_noted y None = None
next_noted y (Some k) = Some (module_after y.last k)

-- "A supervisor step with the permit home sends it .. Otherwise it waits."
unfoldable pub served_on : Supervisor → Holder → Option ℕ
served_on y (Out m) = None
served_on y Home = next_noted y (least (λ k. bit y.noted (module_after y.last k)) 16)

abbrev pub served : Supervisor → Option ℕ
served y = served_on y y.holder

-- "to the first noted module .. and removes that note"
abbrev pub after_send : Supervisor → ℕ → Supervisor
after_send y m = with_last (with_holder (with_noted y (put_bit y.noted m false)) (Out m)) m

-- "sends it, with its shown mask"
unfoldable pub sent_to : List Record → ℕ → Supervisor → Option ℕ → List Message
sent_to rs v y None = []
sent_to rs v y (Some m) = Permit v m (shown rs v y.state) ∷ []

abbrev pub step_bytes : List Record → ℕ → Supervisor → Option ℕ → List ℕ
step_bytes rs v y t = bytes_of_messages (sent_to rs v y t)

unfoldable pub answer_by : List ℕ → Option ℕ → Result Served Refusal
answer_by bytes None = Ok Waits
answer_by bytes (Some m) = Ok (Sends m (length bytes))

unfoldable pub state_by : Supervisor → Option ℕ → Supervisor
state_by y None = y
state_by y (Some m) = after_send y m

-- a whole call: its answer, the state after it, and the buffer's final contents
abbrev pub ServeCall : Type 0
ServeCall = Call (Result Served Refusal) Supervisor

abbrev pub step_refused : Supervisor → List ℕ → ℕ → ℕ → ServeCall
step_refused y b n o = record { answer = Err (refusal n o); state = y; buffer = b }

unfoldable pub step_in : List Record → ℕ → Supervisor → List ℕ → Option ℕ → ServeCall
step_in rs v y b t =
    cond (short (step_bytes rs v y t) b) (step_refused y b 15 0)
    (record { answer = answer_by (step_bytes rs v y t) t; state = state_by y t; buffer = written (step_bytes rs v y t) b })

unfoldable pub step_by : Result ⊤ Refusal → List Record → ℕ → Supervisor → List ℕ → ServeCall
step_by (Ok u) rs v y b =
    cond (ltb v (supervisors_of rs)) (cond (supervisor_fits rs v y) (step_in rs v y b (served y)) (step_refused y b 9 0)) (step_refused y b 11 0)
step_by (Err e) rs v y b = step_refused y b e.number e.offset

abbrev pub supervisor_step : List ℕ → ℕ → Supervisor → List ℕ → ServeCall
supervisor_step image v y b = step_by (verdict_of image) (records_of image) v y b

-- a call without a buffer
abbrev pub call_refused : Supervisor → ℕ → ℕ → SupervisorCalled
call_refused y n o = record { answer = Err (refusal n o); state = y }

-- "a bid is noted; a second noted bid of that module is 12"
abbrev pub after_note : Supervisor → ℕ → Supervisor
after_note y m = with_noted y (put_bit y.noted m true)

-- "A release, due only from the holder, applies its event and brings the permit home"; a supervisor without a listed move stays
unfoldable pub applied : List Record → ℕ → ℕ → ℕ → ℕ
applied rs v st e = cond (eqb e no_event) st (supervisor_moved rs v st e)

abbrev pub after_release : List Record → ℕ → Supervisor → ℕ → Supervisor
after_release rs v y e = with_holder (with_state y (applied rs v y.state e)) Home

unfoldable pub held_by : Holder → ℕ → Bool
held_by Home m = false
held_by (Out n) m = eqb n m

-- "A message that names another party than the one given it, or is of a kind that party never takes, is 12."
unfoldable pub taken_by : List Record → ℕ → Supervisor → Message → SupervisorCalled
taken_by rs v y (Bid m w) = cond (eqb w v && not (bit y.noted m)) (record { answer = Ok tt; state = after_note y m }) (call_refused y 12 0)
taken_by rs v y (Permit w m k) = call_refused y 12 0
taken_by rs v y (Release m w e) = cond (eqb w v && held_by y.holder m) (record { answer = Ok tt; state = after_release rs v y e }) (call_refused y 12 0)

unfoldable pub deliver_in : List Record → ℕ → Supervisor → Option Message → SupervisorCalled
deliver_in rs v y None = call_refused y (parsed_number None) 0
deliver_in rs v y (Some g) = cond (named rs g) (taken_by rs v y g) (call_refused y 11 0)

unfoldable pub absent : Supervisor → Option Message → SupervisorCalled
absent y None = call_refused y (parsed_number None) 0
absent y (Some g) = call_refused y 11 0

unfoldable pub deliver_by : Result ⊤ Refusal → List Record → ℕ → Supervisor → Option Message → SupervisorCalled
deliver_by (Ok u) rs v y g = cond (ltb v (supervisors_of rs)) (cond (supervisor_fits rs v y) (deliver_in rs v y g) (call_refused y 9 0)) (absent y g)
deliver_by (Err e) rs v y g = call_refused y e.number e.offset

abbrev pub supervisor_deliver : List ℕ → ℕ → Supervisor → List ℕ → SupervisorCalled
supervisor_deliver image v y bytes = deliver_by (verdict_of image) (records_of image) v y (parse bytes)

-- a refused start gives the all-zero state
abbrev pub empty_supervisor : Supervisor
empty_supervisor = record { state = 0; noted = 0; holder = Home; last = 0 }

-- "permits are home, nothing is noted"; "the last served (15 at the start)"
abbrev pub start_supervisor : List Record → ℕ → Supervisor
start_supervisor rs v = with_last (with_state empty_supervisor (supervisor_initial rs v)) 15

unfoldable pub start_by : Result ⊤ Refusal → List Record → ℕ → SupervisorCalled
start_by (Ok u) rs v = cond (ltb v (supervisors_of rs)) (record { answer = Ok tt; state = start_supervisor rs v }) (call_refused empty_supervisor 11 0)
start_by (Err e) rs v = call_refused empty_supervisor e.number e.offset

abbrev pub supervisor_start : List ℕ → ℕ → SupervisorCalled
supervisor_start image v = start_by (verdict_of image) (records_of image) v
