-- Demand 1: "a refused call returns the state unchanged and writes nothing into lent memory", of every image, state, number, buffer, message
-- and reading. It speaks of the definitions that the contracts cite, in their numbers: "For an answer that is an enum, a definition gives
-- this paper's number and values for each case. The promises use that definition."
use Rattle.refusal.specs.Refusal.{refused_number, refused_offset, written_length}
use Rattle.refusal.specs.declared.Refusal.{Refusal}
use Rattle.std.specs.Prelude.{ℕ, ◌≤◌, ◌≡◌, ◌≢◌, List, false, length, drop, Option, Some, None, Result, Ok, Err, ⊤}
use Rattle.records.specs.declared.Record.{Record}
use Rattle.rules.specs.Check.{verdict_of, IsPlan}
use Rattle.pieces.specs.Pieces.{verdict_by}
use Rattle.pieces.specs.declared.Stage.{Stage}
use Rattle.pieces.specs.declared.Stage.TheVariants.{Open, Ended, Faulty}
use Rattle.pieces.specs.declared.CheckState.{CheckState}
use Rattle.writer.specs.Write.{answer_of, buffer_by}
use Rattle.rewrite.specs.Rewrite.{answer_by as rewrite_answer, buffer_by as rewrite_buffer}
use Rattle.paper.specs.Print.{answer_by as print_answer, buffer_by as print_buffer}
use Rattle.messages.specs.Message.{message_bytes, fits_at, put_at}
use Rattle.messages.specs.declared.Message.{Message}
use Rattle.water.specs.declared.Flow.{Flow}
use Rattle.modules.specs.Numbers.{reply_number}
use Rattle.modules.specs.Procedure.{respond_of, tick_of}
use Rattle.modules.specs.declared.Own.{Own}
use Rattle.modules.specs.declared.Replied.{Replied}
use Rattle.device.specs.Device.{start_call, turn_call, respond_call, tick_call}
use Rattle.device.specs.Numbers.{turning_event}
use Rattle.device_states.specs.declared.Device.{Device}
use Rattle.device.specs.declared.DeviceTurned.{DeviceTurned}
use Rattle.device.specs.declared.DeviceCalled.{DeviceCalled}
use Rattle.permits.specs.Module.{StepCall, module_step, module_deliver, module_respond, module_tick, module_start}
use Rattle.permits.specs.Supervisor.{ServeCall, supervisor_step, supervisor_deliver, supervisor_start}
use Rattle.permits.specs.Numbers.{stepped_bytes, served_bytes}
use Rattle.permits.specs.declared.Module.{Module}
use Rattle.permits.specs.declared.ModuleCalled.{ModuleCalled}
use Rattle.permits.specs.declared.Stepped.{Stepped}
use Rattle.permits.specs.declared.Stepped.TheVariants.{Turns, Bids, Waits}
use Rattle.permits.specs.declared.Supervisor.{Supervisor}
use Rattle.permits.specs.declared.SupervisorCalled.{SupervisorCalled}
use Rattle.permits.specs.declared.Served.{Served}
use Rattle.permits.specs.declared.Served.TheVariants.{Sends, Waits as ServedWaits}
use Rattle.blocking.specs.Blocking.{Told}
use Rattle.blocking.specs.Numbers.{blocking_length}
use Rattle.counting.specs.Counting.{Told as CountsTold}
use Rattle.refusals.specs.Table as Table
use Rattle.refusals.specs.Table.{CallKind, Gives}

-- a refusal has a number, and what is accepted has 0
abbrev pub IsRefusal : ℕ → Type 0
IsRefusal n = n ≢ 0

-- the stage of a check in pieces whose refusal, if it has one, has a number of the check, as it has after any pieces (`StaysEncodable` of crate
-- piece_laws) and of all bytes that stand for a state (`AnyAnswer` of crate interface_laws)
abbrev pub OfCheck : Stage → Type 0
OfCheck Open = Unit {0}
OfCheck Ended = Unit {0}
OfCheck (Faulty n o) = (2 ≤ n) × (n ≤ 8)

-- the number n stands with the byte offset o: "0 for 1 and for 9 and above"
pub record OffsetRight (n o : ℕ) : Type 0 where
  pub long : n ≡ 1 → o ≡ 0
  pub call : 9 ≤ n → o ≡ 0

-- an answer a, by its call
pub record Answer {X : Type 0} (c : CallKind) (a : Result X Refusal) : Type 0 where
  -- a refusal has one of the numbers that its call may give
  pub numbered : (e : Refusal) → a ≡ Err e → Gives c e.number
  pub offset_right : OffsetRight (refused_number a) (refused_offset a)
  -- the definitions give what the refusal holds, and 0 and 0 for what is accepted
  pub number_is : (e : Refusal) → a ≡ Err e → refused_number a ≡ e.number
  pub offset_is : (e : Refusal) → a ≡ Err e → refused_offset a ≡ e.offset
  pub accepted : ((e : Refusal) → a ≢ Err e) → (refused_number a ≡ 0) × (refused_offset a ≡ 0)

-- the definition of a value gives what the answer a holds: k if a is that case of k
abbrev pub Held : {E : Type 0} → (E → ℕ) → (ℕ → E) → E → Type 0
Held value case a = (k : ℕ) → a ≡ case k → value a ≡ k

-- the same of a value that no other case has
pub record HeldAlone {E : Type 0} (value : E → Option ℕ) (case : ℕ → E) (a : E) : Type 0 where
  pub is : (k : ℕ) → a ≡ case k → value a ≡ Some k
  pub otherwise : ((k : ℕ) → a ≢ case k) → value a ≡ None

-- "a refused call returns the state unchanged": x is given and y returned, with the number n
abbrev pub Unchanged : {A : Type 0} → ℕ → A → A → Type 0
Unchanged n x y = IsRefusal n → y ≡ x

-- "writes nothing into lent memory": the buffer is b before and c after, with the number n and k bytes written
pub record Lent (n k : ℕ) (b c : List ℕ) : Type 0 where
  pub untouched : Unchanged n b c
  pub nothing : IsRefusal n → k ≡ 0
  -- "An accepted call writes its answer from the buffer's start and nothing else."
  pub rest : drop k c ≡ drop k b
  pub size : length c ≡ length b

-- ---- each kind of answer

abbrev pub CheckAnswer : Result ⊤ Refusal → Type 0
CheckAnswer a = Answer Table.check a

abbrev pub WriteAnswer : Result ℕ Refusal → Type 0
WriteAnswer a = Answer Table.write_record a

abbrev pub RewriteAnswer : Result ℕ Refusal → Type 0
RewriteAnswer a = Answer Table.rewrite a

abbrev pub PrintAnswer : Result ℕ Refusal → Type 0
PrintAnswer a = Answer Table.print_plan a

abbrev pub CallAnswer : CallKind → Result ⊤ Refusal → Type 0
CallAnswer c a = Answer c a

abbrev pub TurnAnswer : Result (Option ℕ) Refusal → Type 0
TurnAnswer a = Answer Table.turn a

abbrev pub StepAnswer : Result Stepped Refusal → Type 0
StepAnswer a = Answer Table.module_step a

abbrev pub ServeAnswer : Result Served Refusal → Type 0
ServeAnswer a = Answer Table.supervisor_step a

abbrev pub BlockingAnswer : Result (Option ℕ) Refusal → Type 0
BlockingAnswer a = Answer Table.find_stuck a

abbrev pub CountingAnswer : Result ℕ Refusal → Type 0
CountingAnswer a = Answer Table.count_words a

-- ---- one call: its answer, its state and its buffer

pub record Write (r : Record) (b : List ℕ) (a : Result ℕ Refusal) : Type 0 where
  pub answer : WriteAnswer a
  -- "The writer of one record gives 5 or 15 only, at offset 0."
  pub offset : refused_offset a ≡ 0
  pub bytes : Held written_length Ok a
  pub buffer : Lent (refused_number a) (written_length a) b (buffer_by a r b)

pub record Rewrite (s b : List ℕ) (a : Result ℕ Refusal) : Type 0 where
  pub answer : RewriteAnswer a
  pub bytes : Held written_length Ok a
  pub buffer : Lent (refused_number a) (written_length a) b (rewrite_buffer a s b)

pub record Print (s b : List ℕ) (a : Result ℕ Refusal) : Type 0 where
  pub answer : PrintAnswer a
  pub bytes : Held written_length Ok a
  pub buffer : Lent (refused_number a) (written_length a) b (print_buffer a s b)

-- a reply of a module's own part, which has no offset
pub record OwnCall (k : CallKind) (own : Own) (c : Replied) : Type 0 where
  pub numbered : (n : ℕ) → c.reply ≡ Err n → Gives k n
  pub number_is : Held reply_number Err c.reply
  pub accepted : c.reply ≡ Ok tt → reply_number c.reply ≡ 0
  pub state : Unchanged (reply_number c.reply) own c.own

pub record Call {A : Type 0} (k : CallKind) (x : A) (a : Result ⊤ Refusal) (y : A) : Type 0 where
  pub answer : CallAnswer k a
  pub state : Unchanged (refused_number a) x y

abbrev pub DeviceCall : CallKind → Device → DeviceCalled → Type 0
DeviceCall k d c = Call k d c.answer c.device

abbrev pub ModuleCall : CallKind → Module → ModuleCalled → Type 0
ModuleCall k x c = Call k x c.answer c.state

abbrev pub SupervisorCall : CallKind → Supervisor → SupervisorCalled → Type 0
SupervisorCall k y c = Call k y c.answer c.state

pub record DeviceTurn (d : Device) (c : DeviceTurned) : Type 0 where
  pub answer : TurnAnswer c.answer
  pub state : Unchanged (refused_number c.answer) d c.device
  -- the event that fired; a refused turn has none
  pub event : HeldAlone turning_event (λ e. Ok (Some e)) c.answer

-- the bytes that a step wrote; `Lent` says that a refused one wrote none
pub record StepBytes (a : Result Stepped Refusal) : Type 0 where
  pub turned : (t : Option ℕ) → Held stepped_bytes (λ (n : ℕ). Ok (Turns t n)) a
  pub bids : (v : ℕ) → Held stepped_bytes (λ (n : ℕ). Ok (Bids v n)) a
  pub waiting : a ≡ Ok Waits → stepped_bytes a ≡ 0

pub record ServeBytes (a : Result Served Refusal) : Type 0 where
  pub sends : (m : ℕ) → Held served_bytes (λ (n : ℕ). Ok (Sends m n)) a
  pub waiting : a ≡ Ok ServedWaits → served_bytes a ≡ 0

pub record ModuleStep (x : Module) (b : List ℕ) (c : StepCall) : Type 0 where
  pub answer : StepAnswer c.answer
  pub state : Unchanged (refused_number c.answer) x c.state
  pub bytes : StepBytes c.answer
  pub buffer : Lent (refused_number c.answer) (stepped_bytes c.answer) b c.buffer

pub record SupervisorStep (y : Supervisor) (b : List ℕ) (c : ServeCall) : Type 0 where
  pub answer : ServeAnswer c.answer
  pub state : Unchanged (refused_number c.answer) y c.state
  pub bytes : ServeBytes c.answer
  pub buffer : Lent (refused_number c.answer) (served_bytes c.answer) b c.buffer

-- the answer whether a plan ever gets stuck, with the buffer before and after
pub record FindStuck (b : List ℕ) (a : Result (Option ℕ) Refusal) (c : List ℕ) : Type 0 where
  pub answer : BlockingAnswer a
  pub bytes : Held blocking_length (λ (n : ℕ). Ok (Some n)) a
  -- document 02, 2.1: "If so, write nothing"
  pub free : a ≡ Ok None → blocking_length a ≡ 0
  pub buffer : Lent (refused_number a) (blocking_length a) b c

-- the answer how many words lead to each joint state, with the buffer before and after
pub record CountWords (b : List ℕ) (a : Result ℕ Refusal) (c : List ℕ) : Type 0 where
  pub answer : CountingAnswer a
  pub bytes : Held written_length Ok a
  pub buffer : Lent (refused_number a) (written_length a) b c

-- ---- every call, party by party. A start is given no state, and the check lends nothing.

pub record Checker : Type 0 where
  pub check : (image : List ℕ) → CheckAnswer (verdict_of image)
  -- "A plan is accepted if its check gives no number."
  pub accepted : (image : List ℕ) → refused_number (verdict_of image) ≡ 0 → IsPlan image
  -- document 02, 2.3: the answer of a check in pieces. A piece is never refused, and nothing is written into it
  pub pieces : (k : CheckState) → OfCheck k.stage → CheckAnswer (verdict_by k)

pub record Writers : Type 0 where
  pub write : (r : Record) (b : List ℕ) → Write r b (answer_of r b)
  pub rewrite : (s b : List ℕ) → Rewrite s b (rewrite_answer (verdict_of s) s b)
  -- document 02, 2.4: a plan on paper
  pub print : (s b : List ℕ) → Print s b (print_answer (verdict_of s) s b)
  -- a message for which there is no room
  pub message : (g : Message) (at : ℕ) (b : List ℕ) → fits_at (message_bytes g) at b ≡ false → put_at (message_bytes g) at b ≡ b

-- a module's own part, on one device and on many
pub record OwnPart : Type 0 where
  pub respond : (rs : List Record) (m e : ℕ) (own : Own) → OwnCall Table.own_respond own (respond_of rs m e own)
  pub tick : (rs : List Record) (f : Flow) (own : Own) → OwnCall Table.own_tick own (tick_of rs f own)

pub record OneDevice : Type 0 where
  pub start : (image : List ℕ) → CallAnswer Table.device_start (start_call image).answer
  pub turn : (image : List ℕ) (d : Device) (m : ℕ) → DeviceTurn d (turn_call image d m)
  pub respond : (image : List ℕ) (d : Device) (m e : ℕ) → DeviceCall Table.respond d (respond_call image d m e)
  pub tick : (image : List ℕ) (d : Device) (m : ℕ) (f : Flow) → DeviceCall Table.tick d (tick_call image d m f)

pub record Modules : Type 0 where
  pub start : (image : List ℕ) (m : ℕ) → CallAnswer Table.start (module_start image m).answer
  pub step : (image : List ℕ) (m : ℕ) (x : Module) (b : List ℕ) → ModuleStep x b (module_step image m x b)
  pub deliver : (image : List ℕ) (m : ℕ) (x : Module) (bytes : List ℕ) → ModuleCall Table.deliver x (module_deliver image m x bytes)
  pub respond : (image : List ℕ) (m : ℕ) (x : Module) (e : ℕ) → ModuleCall Table.respond x (module_respond image m x e)
  pub tick : (image : List ℕ) (m : ℕ) (x : Module) (f : Flow) → ModuleCall Table.tick x (module_tick image m x f)

pub record Supervisors : Type 0 where
  pub start : (image : List ℕ) (v : ℕ) → CallAnswer Table.start (supervisor_start image v).answer
  pub step : (image : List ℕ) (v : ℕ) (y : Supervisor) (b : List ℕ) → SupervisorStep y b (supervisor_step image v y b)
  pub deliver : (image : List ℕ) (v : ℕ) (y : Supervisor) (bytes : List ℕ) → SupervisorCall Table.deliver y (supervisor_deliver image v y bytes)

-- the analyses of a plan, of every answer that their contracts allow
pub record Analyses : Type 0 where
  pub find_stuck : (image b : List ℕ) (a : Result (Option ℕ) Refusal) (c : List ℕ) → Told image b a c → FindStuck b a c
  pub count_words : (image : List ℕ) (m : ℕ) (b : List ℕ) (a : Result ℕ Refusal) (c : List ℕ) → CountsTold image m b a c → CountWords b a c

-- "a refused call returns the state unchanged and writes nothing into lent memory"
pub record Refusals : Type 0 where
  pub table : Table.Listed
  pub checker : Checker
  pub writers : Writers
  pub own : OwnPart
  pub device : OneDevice
  pub modules : Modules
  pub supervisors : Supervisors
  pub analyses : Analyses
