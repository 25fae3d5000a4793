-- `NoState` of specs/Laws.antt.
use Rattle.std.specs.Prelude.{Option, Result, Ok, Err, ⊤}
use Rattle.refusal.specs.Refusal.{refusal}
use Rattle.refusal.specs.declared.Refusal.{Refusal}
use Rattle.messages.specs.declared.Message.{Message}
use mathlib.Core.Path.{◌≡◌, ap, ◌∙◌}
use mathlib.Core.List.{List}
use mathlib.Core.Bool.{Bool, true, false, cond}
use Prim.Native.Nat.{ℕ}
use lib.Dec.{ltb}
use Rattle.records.specs.declared.Record.{Record}
use Rattle.reader.specs.Walk.{records_of}
use Rattle.rules.specs.LookUp.{modules_of, supervisors_of}
use Rattle.modules.specs.declared.Replied.{Replied}
use Rattle.messages.specs.Message.{parse}
use Rattle.device.specs.Device.{device_number, turn_in, turn_by, turn_call, reply_in, reply_by, respond_call, tick_call}
use Rattle.device_states.specs.declared.Device.{Device}
use Rattle.permits.specs.Module as Modules
use Rattle.permits.specs.Module.{module_step, module_deliver, module_respond, module_tick}
use Rattle.permits.specs.Supervisor as Supervisors
use Rattle.permits.specs.Supervisor.{supervisor_step, supervisor_deliver}
use Rattle.permits.specs.declared.Module.{Module}
use Rattle.permits.specs.declared.Supervisor.{Supervisor}
use Rattle.device_bytes.specs.Device.{is_device, device_at, unfit_device, device_of}
use Rattle.device_bytes.proofs.Parts.{device_parts}
use Rattle.party_bytes.specs.Module.{is_module, module_at, unfit_module, module_of}
use Rattle.party_bytes.specs.Supervisor.{is_supervisor, supervisor_at, unfit_supervisor, supervisor_of}
use Rattle.party_bytes.proofs.Parts.{module_parts, supervisor_parts}
use Rattle.packing.specs.Answer.{called_answer, turning_answer, stepped_answer, served_answer}
use Rattle.piece_interface.specs.Calls.{check_piece_bytes, check_answer_bytes}
use Rattle.packing.specs.Flow.{flow_of}
use Rattle.device_interface.specs.Calls as DeviceCalls
use Rattle.module_interface.specs.Calls as ModuleCalls
use Rattle.supervisor_interface.specs.Calls as SupervisorCalls
use Rattle.interface_laws.specs.Laws.{NoState}

-- ---- one device

device_is : (s : List ℕ) → is_device s ≡ false → device_of s ≡ unfit_device
unfolding device_of
device_is s h = ap (λ (t : Bool). cond t (device_at s) unfit_device) h

nine : (rs : List Record) (m : ℕ) → device_number rs unfit_device m ≡ 9
nine rs m = ap (λ (t : Bool). cond t (cond (ltb m (modules_of rs)) 0 11) 9) (device_parts.unfit rs)

turn_nine : (v : Result ⊤ Refusal) (rs : List Record) (m : ℕ) → v ≡ Ok tt → (turn_by v rs unfit_device m).answer ≡ Err (refusal 9 0)
unfolding turn_by turn_in
turn_nine v rs m e = ap (λ (w : Result ⊤ Refusal). (turn_by w rs unfit_device m).answer) e ∙ ap (λ (n : ℕ). (turn_in rs unfit_device m n).answer) (nine rs m)

reply_nine : (v : Result ⊤ Refusal) (rs : List Record) (m : ℕ) (r : Replied) → v ≡ Ok tt → (reply_by v rs unfit_device m r).answer ≡ Err (refusal 9 0)
unfolding reply_by reply_in
reply_nine v rs m r e = ap (λ (w : Result ⊤ Refusal). (reply_by w rs unfit_device m r).answer) e ∙ ap (λ (n : ℕ). (reply_in unfit_device m n r).answer) (nine rs m)

-- ---- a module

module_is : (s : List ℕ) → is_module s ≡ false → module_of s ≡ unfit_module
unfolding module_of
module_is s h = ap (λ (t : Bool). cond t (module_at s) unfit_module) h

module _ (v : Result ⊤ Refusal) (rs : List Record) (m : ℕ) (e : v ≡ Ok tt) (h : ltb m (modules_of rs) ≡ true) where
  step_nine : (l : List ℕ) → (Modules.step_by v rs m unfit_module l).answer ≡ Err (refusal 9 0)
  unfolding Modules.step_by
  step_nine l = ap (λ (w : Result ⊤ Refusal). (Modules.step_by w rs m unfit_module l).answer) e ∙ simp (h, module_parts.unfit rs m)

  deliver_nine : (g : Option Message) → (Modules.deliver_by v rs m unfit_module g).answer ≡ Err (refusal 9 0)
  unfolding Modules.deliver_by
  deliver_nine g = ap (λ (w : Result ⊤ Refusal). (Modules.deliver_by w rs m unfit_module g).answer) e ∙ simp (h, module_parts.unfit rs m)

  replied_nine : (r : Replied) → (Modules.reply_by v rs m unfit_module r).answer ≡ Err (refusal 9 0)
  unfolding Modules.reply_by
  replied_nine r = ap (λ (w : Result ⊤ Refusal). (Modules.reply_by w rs m unfit_module r).answer) e ∙ simp (h, module_parts.unfit rs m)

-- ---- a supervisor

supervisor_is : (s : List ℕ) → is_supervisor s ≡ false → supervisor_of s ≡ unfit_supervisor
unfolding supervisor_of
supervisor_is s h = ap (λ (t : Bool). cond t (supervisor_at s) unfit_supervisor) h

module _ (v : Result ⊤ Refusal) (rs : List Record) (n : ℕ) (e : v ≡ Ok tt) (h : ltb n (supervisors_of rs) ≡ true) where
  serve_nine : (l : List ℕ) → (Supervisors.step_by v rs n unfit_supervisor l).answer ≡ Err (refusal 9 0)
  unfolding Supervisors.step_by
  serve_nine l = ap (λ (w : Result ⊤ Refusal). (Supervisors.step_by w rs n unfit_supervisor l).answer) e ∙ simp (h, supervisor_parts.unfit rs n)

  given_nine : (g : Option Message) → (Supervisors.deliver_by v rs n unfit_supervisor g).answer ≡ Err (refusal 9 0)
  unfolding Supervisors.deliver_by
  given_nine g = ap (λ (w : Result ⊤ Refusal). (Supervisors.deliver_by w rs n unfit_supervisor g).answer) e ∙ simp (h, supervisor_parts.unfit rs n)

pub no_state : NoState
no_state =
    record {
      check_piece = λ s p h. unfold check_piece_bytes in simp h;
      check_answer = λ s h. unfold check_answer_bytes in simp h;
      device_turn = λ image s m h. unfold DeviceCalls.turn_bytes turning_answer in
          ap (λ (d : Device). turning_answer (turn_call image d m).answer) (device_is s h.1) ∙ ap turning_answer (turn_nine _ (records_of image) m h.0);
      device_respond = λ image s m n h. unfold DeviceCalls.respond_bytes called_answer in
          ap (λ (d : Device). called_answer (respond_call image d m n).answer) (device_is s h.1) ∙ ap called_answer (reply_nine _ (records_of image) m _ h.0);
      device_tick = λ image s m f x h. unfold DeviceCalls.tick_bytes called_answer in
          ap (λ (d : Device). called_answer (tick_call image d m (flow_of f x)).answer) (device_is s h.1) ∙ ap called_answer (reply_nine _ (records_of image) m _ h.0);
      module_step = λ image s m l h. unfold ModuleCalls.step_bytes stepped_answer in
          ap (λ (x : Module). stepped_answer (module_step image m x l).answer) (module_is s h.2) ∙ ap stepped_answer (step_nine _ (records_of image) m h.0 h.1 l);
      module_deliver = λ image s m g h. unfold ModuleCalls.deliver_bytes called_answer in
          ap (λ (x : Module). called_answer (module_deliver image m x g).answer) (module_is s h.2) ∙ ap called_answer (deliver_nine _ (records_of image) m h.0 h.1 (parse g));
      module_respond = λ image s m n h. unfold ModuleCalls.respond_bytes called_answer in
          ap (λ (x : Module). called_answer (module_respond image m x n).answer) (module_is s h.2) ∙ ap called_answer (replied_nine _ (records_of image) m h.0 h.1 _);
      module_tick = λ image s m f y h. unfold ModuleCalls.tick_bytes called_answer in
          ap (λ (x : Module). called_answer (module_tick image m x (flow_of f y)).answer) (module_is s h.2) ∙ ap called_answer (replied_nine _ (records_of image) m h.0 h.1 _);
      supervisor_step = λ image s v l h. unfold SupervisorCalls.step_bytes served_answer in
          ap (λ (y : Supervisor). served_answer (supervisor_step image v y l).answer) (supervisor_is s h.2) ∙ ap served_answer (serve_nine _ (records_of image) v h.0 h.1 l);
      supervisor_deliver = λ image s v g h. unfold SupervisorCalls.deliver_bytes called_answer in
          ap (λ (y : Supervisor). called_answer (supervisor_deliver image v y g).answer) (supervisor_is s h.2) ∙ ap called_answer (given_nine _ (records_of image) v h.0 h.1 (parse g));
    }
