-- What holds of every call over lent bytes, of every image, state, buffer, message and number. The quotations are from include/pewterslug.h.
use Rattle.refusal.specs.Refusal.{refused_number}
use Rattle.refusal.specs.declared.Refusal.{Refusal}
use Rattle.messages.specs.declared.Message.{Message}
use Rattle.records.specs.declared.Record.{Record}
use Rattle.std.specs.Prelude.{ℕ, ◌%◌, ◌≡◌, ◌≢◌, List, [], true, false, cond, length, eqb, ltb, Float, Option, Some, None, Result, Ok}
use Rattle.reader.specs.Read.{read_at, read_number}
use Rattle.reader.specs.Walk.{records_of}
use Rattle.writer.specs.Write.{answer_of}
use Rattle.messages.specs.Message.{message_bytes, short, parse, parsed_number}
use Rattle.rules.specs.LookUp.{modules_of, supervisors_of}
use Rattle.rules.specs.Check.{verdict_of}
use Rattle.paper.specs.Print.{answer_by as print_answer}
use Rattle.device.specs.Device.{start_call, turn_call, respond_call, tick_call}
use Rattle.permits.specs.Module.{module_start, module_step, module_deliver, module_respond, module_tick}
use Rattle.permits.specs.Supervisor.{supervisor_start, supervisor_step, supervisor_deliver}
use Rattle.device_bytes.specs.Device.{device_size, is_device, device_of}
use Rattle.party_bytes.specs.Module.{module_size, is_module, module_of}
use Rattle.party_bytes.specs.Supervisor.{supervisor_size, is_supervisor, supervisor_of}
use Rattle.packing.specs.Answer.{Answer, refused}
use Rattle.packing.specs.Flow.{flow_of}
use Rattle.plan_interface.specs.Records.{check_answer, read_answer, record_by, write_bytes}
use Rattle.plan_interface.specs.Pages.{print_bytes}
use Rattle.plan_interface.specs.Messages.{read_message_answer, message_by, write_message_bytes}
use Rattle.pieces.specs.Pieces.{verdict_by}
use Rattle.piece_bytes.specs.State.{is_state, state_at}
use Rattle.piece_interface.specs.Calls.{check_start_bytes, check_piece_bytes, check_answer_bytes}
use Rattle.blocking.specs.Blocking.{Told}
use Rattle.counting.specs.Counting.{Told as CountsTold}
use Rattle.analysis_interface.specs.Analysis.{FoundBytes}
use Rattle.analysis_interface.specs.Counts.{CountedBytes}
use Rattle.device_interface.specs.Calls as Device
use Rattle.module_interface.specs.Calls as Module
use Rattle.supervisor_interface.specs.Calls as Supervisor

-- the number of an answer, as `pewterslug_number` takes it
abbrev pub number_of : Answer → ℕ
number_of a = a.number % 256

-- "A refused call leaves every lent byte as it was": its state and its buffer, [] where it has none
pub record Untouched (a : Answer) (before lent : List ℕ) : Type 0 where
  pub state : number_of a ≢ 0 → a.state ≡ before
  pub buffer : number_of a ≢ 0 → a.buffer ≡ lent

pub record AllUntouched : Type 0 where
  pub check_start : (l : List ℕ) → Untouched (check_start_bytes l) [] l
  pub check_piece : (s p : List ℕ) → Untouched (check_piece_bytes s p) s []
  pub write_record : (k a b c d w : ℕ) (l : List ℕ) → Untouched (write_bytes k a b c d w l) [] l
  pub print_plan : (image l : List ℕ) → Untouched (print_bytes image l) [] l
  pub write_message : (k a b e w : ℕ) (l : List ℕ) → Untouched (write_message_bytes k a b e w l) [] l
  pub device_start : (image l : List ℕ) → Untouched (Device.start_bytes image l) [] l
  pub device_turn : (image s : List ℕ) (m : ℕ) → Untouched (Device.turn_bytes image s m) s []
  pub device_respond : (image s : List ℕ) (m e : ℕ) → Untouched (Device.respond_bytes image s m e) s []
  pub device_tick : (image s : List ℕ) (m f : ℕ) (x : Float) → Untouched (Device.tick_bytes image s m f x) s []
  pub module_start : (image : List ℕ) (m : ℕ) (l : List ℕ) → Untouched (Module.start_bytes image m l) [] l
  pub module_step : (image s : List ℕ) (m : ℕ) (l : List ℕ) → Untouched (Module.step_bytes image s m l) s l
  pub module_deliver : (image s : List ℕ) (m : ℕ) (g : List ℕ) → Untouched (Module.deliver_bytes image s m g) s []
  pub module_respond : (image s : List ℕ) (m e : ℕ) → Untouched (Module.respond_bytes image s m e) s []
  pub module_tick : (image s : List ℕ) (m f : ℕ) (x : Float) → Untouched (Module.tick_bytes image s m f x) s []
  pub supervisor_start : (image : List ℕ) (v : ℕ) (l : List ℕ) → Untouched (Supervisor.start_bytes image v l) [] l
  pub supervisor_step : (image s : List ℕ) (v : ℕ) (l : List ℕ) → Untouched (Supervisor.step_bytes image s v l) s l
  pub supervisor_deliver : (image s : List ℕ) (v : ℕ) (g : List ℕ) → Untouched (Supervisor.deliver_bytes image s v g) s []
  pub find_stuck : (image l : List ℕ) (r : ℕ) (after : List ℕ) → FoundBytes image l r after → Untouched (record { number = r; state = []; buffer = after }) [] l
  pub count_words : (image : List ℕ) (m : ℕ) (l : List ℕ) (r : ℕ) (after : List ℕ) → CountedBytes image m l r after → Untouched (record { number = r; state = []; buffer = after }) [] l

-- ".. stand for no state: the call that gets them is refused with 9", on an image that is accepted, of one device always, of a module or a
-- supervisor if it is the plan's; of a check in pieces always
abbrev pub Nine : Answer → Type 0
Nine a = a.number ≡ refused 9 0

abbrev pub NoDevice : List ℕ → List ℕ → Type 0
NoDevice image s = (verdict_of image ≡ Ok tt) × (is_device s ≡ false)

abbrev pub NoModule : List ℕ → List ℕ → ℕ → Type 0
NoModule image s m = (verdict_of image ≡ Ok tt) × (ltb m (modules_of (records_of image)) ≡ true) × (is_module s ≡ false)

abbrev pub NoSupervisor : List ℕ → List ℕ → ℕ → Type 0
NoSupervisor image s v = (verdict_of image ≡ Ok tt) × (ltb v (supervisors_of (records_of image)) ≡ true) × (is_supervisor s ≡ false)

pub record NoState : Type 0 where
  pub check_piece : (s p : List ℕ) → is_state s ≡ false → Nine (check_piece_bytes s p)
  pub check_answer : (s : List ℕ) → is_state s ≡ false → check_answer_bytes s ≡ refused 9 0
  pub device_turn : (image s : List ℕ) (m : ℕ) → NoDevice image s → Nine (Device.turn_bytes image s m)
  pub device_respond : (image s : List ℕ) (m e : ℕ) → NoDevice image s → Nine (Device.respond_bytes image s m e)
  pub device_tick : (image s : List ℕ) (m f : ℕ) (x : Float) → NoDevice image s → Nine (Device.tick_bytes image s m f x)
  pub module_step : (image s : List ℕ) (m : ℕ) (l : List ℕ) → NoModule image s m → Nine (Module.step_bytes image s m l)
  pub module_deliver : (image s : List ℕ) (m : ℕ) (g : List ℕ) → NoModule image s m → Nine (Module.deliver_bytes image s m g)
  pub module_respond : (image s : List ℕ) (m e : ℕ) → NoModule image s m → Nine (Module.respond_bytes image s m e)
  pub module_tick : (image s : List ℕ) (m f : ℕ) (x : Float) → NoModule image s m → Nine (Module.tick_bytes image s m f x)
  pub supervisor_step : (image s : List ℕ) (v : ℕ) (l : List ℕ) → NoSupervisor image s v → Nine (Supervisor.step_bytes image s v l)
  pub supervisor_deliver : (image s : List ℕ) (v : ℕ) (g : List ℕ) → NoSupervisor image s v → Nine (Supervisor.deliver_bytes image s v g)

-- the number of a start whose own number is n, and whose state has so many bytes
abbrev pub start_number : ℕ → ℕ → List ℕ → ℕ
start_number size n l = cond (eqb n 0) (cond (ltb (length l) size) 15 0) n

-- the number of a written record, "A kind that is none is 5", and of a written message, "A kind that is none is 10"
abbrev pub record_number : Option Record → List ℕ → ℕ
record_number (Some r) l = refused_number (answer_of r l)
record_number None l = 5

abbrev pub message_number : Option Message → List ℕ → ℕ
message_number (Some g) l = cond (short (message_bytes g) l) 15 0
message_number None l = parsed_number None

-- the number of an answer is the number of the call that it is made of; a piece that is taken has 0
pub record SameNumbers : Type 0 where
  pub check : (image : List ℕ) → check_answer image % 256 ≡ refused_number (verdict_of image)
  pub check_start : (l : List ℕ) → number_of (check_start_bytes l) ≡ start_number 495 0 l
  pub check_piece : (s p : List ℕ) → number_of (check_piece_bytes s p) ≡ cond (is_state s) 0 9
  pub check_answer : (s : List ℕ) → check_answer_bytes s % 256 ≡ cond (is_state s) (refused_number (verdict_by (state_at s))) 9
  pub read_record : (s : List ℕ) (at : ℕ) → read_answer s at % 256 ≡ read_number (read_at s at)
  pub write_record : (k a b c d w : ℕ) (l : List ℕ) → number_of (write_bytes k a b c d w l) ≡ record_number (record_by k a b c d w) l
  pub print_plan : (image l : List ℕ) → number_of (print_bytes image l) ≡ refused_number (print_answer (verdict_of image) image l)
  pub read_message : (g : List ℕ) → read_message_answer g % 256 ≡ parsed_number (parse g)
  pub write_message : (k a b e w : ℕ) (l : List ℕ) → number_of (write_message_bytes k a b e w l) ≡ message_number (message_by k a b e w) l
  pub device_start : (image l : List ℕ) → number_of (Device.start_bytes image l) ≡ start_number device_size (refused_number (start_call image).answer) l
  pub device_turn : (image s : List ℕ) (m : ℕ)
      → number_of (Device.turn_bytes image s m) ≡ refused_number (turn_call image (device_of s) m).answer
  pub device_respond : (image s : List ℕ) (m e : ℕ)
      → number_of (Device.respond_bytes image s m e) ≡ refused_number (respond_call image (device_of s) m e).answer
  pub device_tick : (image s : List ℕ) (m f : ℕ) (x : Float)
      → number_of (Device.tick_bytes image s m f x) ≡ refused_number (tick_call image (device_of s) m (flow_of f x)).answer
  pub module_start : (image : List ℕ) (m : ℕ) (l : List ℕ)
      → number_of (Module.start_bytes image m l) ≡ start_number module_size (refused_number (module_start image m).answer) l
  pub module_step : (image s : List ℕ) (m : ℕ) (l : List ℕ)
      → number_of (Module.step_bytes image s m l) ≡ refused_number (module_step image m (module_of s) l).answer
  pub module_deliver : (image s : List ℕ) (m : ℕ) (g : List ℕ)
      → number_of (Module.deliver_bytes image s m g) ≡ refused_number (module_deliver image m (module_of s) g).answer
  pub module_respond : (image s : List ℕ) (m e : ℕ)
      → number_of (Module.respond_bytes image s m e) ≡ refused_number (module_respond image m (module_of s) e).answer
  pub module_tick : (image s : List ℕ) (m f : ℕ) (x : Float)
      → number_of (Module.tick_bytes image s m f x) ≡ refused_number (module_tick image m (module_of s) (flow_of f x)).answer
  pub supervisor_start : (image : List ℕ) (v : ℕ) (l : List ℕ)
      → number_of (Supervisor.start_bytes image v l) ≡ start_number supervisor_size (refused_number (supervisor_start image v).answer) l
  pub supervisor_step : (image s : List ℕ) (v : ℕ) (l : List ℕ)
      → number_of (Supervisor.step_bytes image s v l) ≡ refused_number (supervisor_step image v (supervisor_of s) l).answer
  pub supervisor_deliver : (image s : List ℕ) (v : ℕ) (g : List ℕ)
      → number_of (Supervisor.deliver_bytes image s v g) ≡ refused_number (supervisor_deliver image v (supervisor_of s) g).answer
  pub find_stuck : (image l : List ℕ) (a : Result (Option ℕ) Refusal) (r : ℕ) (after : List ℕ) → Told image l a after → FoundBytes image l r after → r % 256 ≡ refused_number a
  pub count_words : (image : List ℕ) (m : ℕ) (l : List ℕ) (a : Result ℕ Refusal) (r : ℕ) (after : List ℕ) → CountsTold image m l a after → CountedBytes image m l r after → r % 256 ≡ refused_number a
