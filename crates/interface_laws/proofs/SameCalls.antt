-- `SameCalls` of specs/SameCalls.antt.
use Rattle.refusal.specs.Refusal.{refused_number}
use Rattle.std.specs.Prelude.{Result, Ok, Err, ⊤}
use Rattle.refusal.specs.declared.Refusal.{Refusal}
use mathlib.Core.Path.{◌≡◌, refl, sym, ap, ◌∙◌}
use mathlib.Core.Logic.{◌≢◌}
use mathlib.Core.List.{List, [], ◌++◌}
use mathlib.Core.Bool.{Bool, true, false, cond}
use Prim.Native.Nat.{ℕ, ◌≤◌}
use native.Mathlib.Omega.{arith}
use lib.ListN.{length, drop, replicate, length-replicate}
use lib.Dec.{eqb, ltb}
use lib.Ieee.{binary64, to_bits}
use borrow.Author.Tests.{eqb-false, le-ltb, ltb-true}
use Rattle.reader.specs.Walk.{records_of}
use Rattle.rules.specs.LookUp.{modules_of, supervisors_of}
use Rattle.litres.specs.Eighths.{eighths}
use Rattle.words.specs.Word.{quad_bytes, word_bytes}
use Rattle.fields.specs.Fields.{half_bytes}
use Rattle.own_bytes.specs.Own.{procedure_bytes, own_bytes}
use Rattle.messages.specs.Message.{put_at}
use Rattle.device.specs.Device.{start_call, turn_call, respond_call, tick_call}
use Rattle.permits.specs.Module as M
use Rattle.permits.specs.Module.{StepCall, module_step}
use Rattle.permits.specs.Supervisor as S
use Rattle.permits.specs.Supervisor.{ServeCall, supervisor_step, supervisor_deliver}
use Rattle.device_states.specs.declared.Device.{Device}
use Rattle.device.specs.declared.DeviceCalled.{DeviceCalled}
use Rattle.device.specs.declared.DeviceTurned.{DeviceTurned}
use Rattle.permits.specs.declared.Module.{Module}
use Rattle.permits.specs.declared.Supervisor.{Supervisor}
use Rattle.permits.specs.declared.ModuleCalled.{ModuleCalled}
use Rattle.permits.specs.declared.SupervisorCalled.{SupervisorCalled}
use Rattle.refusals.proofs.Refusals.{refusals}
use Rattle.party_bytes.specs.Module.{module_size, module_bytes, module_of, ModuleEncodable}
use Rattle.party_bytes.specs.Supervisor.{supervisor_size, is_out, holder_byte, supervisor_bytes, SupervisorEncodable}
use Rattle.party_bytes.proofs.Parts.{module_parts, supervisor_parts}
use Rattle.device_bytes.specs.Device.{device_size, device_bytes, device_put, device_of, DeviceEncodable}
use Rattle.device_bytes.proofs.Parts.{device_parts}
use Rattle.pieces.specs.Pieces.{starting, piece_taken, verdict_by}
use Rattle.pieces.specs.declared.CheckState.{CheckState}
use Rattle.piece_bytes.specs.State.{state_bytes, StateEncodable}
use Rattle.piece_bytes.proofs.Parts.{parts as state-parts}
use Rattle.piece_laws.proofs.Encodable.{stays_encodable}
use Rattle.piece_interface.specs.Calls.{check_start_bytes, check_piece_bytes, check_answer_bytes}
use Rattle.packing.specs.Answer.{Answer, done, called_answer, turning_answer, stepped_answer, served_answer, lent_after, start_answer}
use Rattle.packing.specs.Flow.{flow_of}
use Rattle.packing.proofs.InPlace.{over, put_over}
use Rattle.device_interface.specs.Calls as DeviceCalls
use Rattle.module_interface.specs.Calls as ModuleCalls
use Rattle.supervisor_interface.specs.Calls as SupervisorCalls
use Rattle.interface_laws.specs.SameCalls.{module_answer, step_answer, supervisor_answer, serve_answer, device_answer, device_turn_answer, taken_answer, started_answer, SameCalls}
use Rattle.interface_laws.proofs.Exact.{exact}
use Rattle.interface_laws.proofs.InPlace.{put_device}
use Rattle.interface_laws.proofs.OwnParts.{choose, start_encodable}
use Rattle.interface_laws.proofs.Parties.{judged}
use Rattle.interface_laws.proofs.Encodable.{all_encodable}

-- the bytes `before` after a call of number n that puts the bytes `after` there: a refused call leaves the state
after_call : (n : ℕ) (put before after : List ℕ) → put ≡ after → (n ≢ 0 → after ≡ before) → lent_after n put before ≡ after
unfolding lent_after
after_call n put before after p r = go (eqb n 0) refl
  where
    go : (t : Bool) → eqb n 0 ≡ t → cond t put before ≡ after
    go true e = p
    go false e = sym (r (eqb-false n 0 e))

-- ---- modules

module _ (n : ℕ) (x z : Module) (h : ModuleEncodable x) (k : ModuleEncodable z) (r : n ≢ 0 → z ≡ x) where
  module_left : ModuleCalls.module_bytes_after n z (module_bytes x) ≡ module_bytes z
  module_left =
      after_call n (put_at (module_bytes z) 0 (module_bytes x)) (module_bytes x) (module_bytes z)
      (put_over (module_bytes z) (module_bytes x) (module_parts.size z k.own.cells ∙ sym (module_parts.size x h.own.cells))) (λ e. ap module_bytes (r e))

module_called : (x : Module) (h : ModuleEncodable x) (call : Module → ModuleCalled) → ModuleEncodable (call x).state → (refused_number (call x).answer ≢ 0 → (call x).state ≡ x)
    → ModuleCalls.called_on (call (module_of (module_bytes x))) (module_bytes x) ≡ module_answer (call x)
module_called x h call k r =
    ap (λ (y : Module). ModuleCalls.called_on (call y) (module_bytes x)) (exact.module_again x h)
    ∙ ap (λ (s : List ℕ). record { number = called_answer (call x).answer; state = s; buffer = [] }) (module_left (refused_number (call x).answer) x (call x).state h k r)

module_stepped_lem : (image : List ℕ) (m : ℕ) (x : Module) (b : List ℕ) → ModuleEncodable x → ModuleCalls.step_bytes image (module_bytes x) m b ≡ step_answer (module_step image m x b)
unfolding ModuleCalls.step_bytes
module_stepped_lem image m x b h =
    let c : StepCall = module_step image m x b in
    ap (λ (y : Module). ModuleCalls.step_on (module_step image m y b) (module_bytes x)) (exact.module_again x h)
    ∙ ap (λ (s : List ℕ). record { number = stepped_answer c.answer; state = s; buffer = c.buffer })
    (module_left (refused_number c.answer) x c.state h (all_encodable.module_step image m x b h) (refusals.modules.step image m x b).state)

-- ---- supervisors

module _ (n : ℕ) (y z : Supervisor) (r : n ≢ 0 → z ≡ y) where
  supervisor_left : SupervisorCalls.supervisor_bytes_after n z (supervisor_bytes y) ≡ supervisor_bytes z
  supervisor_left =
      after_call n (put_at (supervisor_bytes z) 0 (supervisor_bytes y)) (supervisor_bytes y) (supervisor_bytes z)
      (put_over (supervisor_bytes z) (supervisor_bytes y) (supervisor_parts.size z ∙ sym (supervisor_parts.size y))) (λ e. ap supervisor_bytes (r e))

supervisor_called : (image : List ℕ) (v : ℕ) (y : Supervisor) (g : List ℕ) → SupervisorEncodable y → SupervisorCalls.deliver_bytes image (supervisor_bytes y) v g ≡ supervisor_answer (supervisor_deliver image v y g)
unfolding SupervisorCalls.deliver_bytes
supervisor_called image v y g h =
    let c : SupervisorCalled = supervisor_deliver image v y g in
    ap (λ (z : Supervisor). SupervisorCalls.called_on (supervisor_deliver image v z g) (supervisor_bytes y)) (exact.supervisor_again y h)
    ∙ ap (λ (s : List ℕ). record { number = called_answer c.answer; state = s; buffer = [] }) (supervisor_left (refused_number c.answer) y c.state (refusals.supervisors.deliver image v y g).state)

supervisor_stepped_lem : (image : List ℕ) (v : ℕ) (y : Supervisor) (b : List ℕ) → SupervisorEncodable y → SupervisorCalls.step_bytes image (supervisor_bytes y) v b ≡ serve_answer (supervisor_step image v y b)
unfolding SupervisorCalls.step_bytes
supervisor_stepped_lem image v y b h =
    let c : ServeCall = supervisor_step image v y b in
    ap (λ (z : Supervisor). SupervisorCalls.step_on (supervisor_step image v z b) (supervisor_bytes y)) (exact.supervisor_again y h)
    ∙ ap (λ (s : List ℕ). record { number = served_answer c.answer; state = s; buffer = c.buffer })
    (supervisor_left (refused_number c.answer) y c.state (refusals.supervisors.step image v y b).state)

-- ---- one device

module _ (n : ℕ) (d z : Device) (h : DeviceEncodable d) (k : DeviceEncodable z) (r : n ≢ 0 → z ≡ d) where
  device_left : DeviceCalls.device_bytes_after n z (device_bytes d) ≡ device_bytes z
  device_left =
      after_call n (device_put z (device_bytes d)) (device_bytes d) (device_bytes z)
      (put_device z (device_bytes d) (device_parts.size d h) (device_parts.size z k)) (λ e. ap device_bytes (r e))

device_called : (d : Device) (h : DeviceEncodable d) (call : Device → DeviceCalled) → DeviceEncodable (call d).device → (refused_number (call d).answer ≢ 0 → (call d).device ≡ d)
    → DeviceCalls.called_on (call (device_of (device_bytes d))) (device_bytes d) ≡ device_answer (call d)
device_called d h call k r =
    ap (λ (y : Device). DeviceCalls.called_on (call y) (device_bytes d)) (exact.device_again d h)
    ∙ ap (λ (s : List ℕ). record { number = called_answer (call d).answer; state = s; buffer = [] }) (device_left (refused_number (call d).answer) d (call d).device h k r)

device_turned : (image : List ℕ) (d : Device) (m : ℕ) → DeviceEncodable d → DeviceCalls.turn_bytes image (device_bytes d) m ≡ device_turn_answer (turn_call image d m)
unfolding DeviceCalls.turn_bytes
device_turned image d m h =
    let c : DeviceTurned = turn_call image d m in
    ap (λ (z : Device). DeviceCalls.turned_on (turn_call image z m) (device_bytes d)) (exact.device_again d h)
    ∙ ap (λ (s : List ℕ). record { number = turning_answer c.answer; state = s; buffer = [] })
    (device_left (refused_number c.answer) d c.device h (all_encodable.device_turn image d m h) (refusals.device.turn image d m).state)

-- ---- starts

started : (size : ℕ) (c : Result ⊤ Refusal) (bytes l : List ℕ) → size ≤ length l → length bytes ≡ size → start_answer size c bytes l ≡ started_answer size c bytes l
unfolding start_answer
started size (Ok u) bytes l h s =
    let room : ltb (length l) size ≡ false = le-ltb (length l) size h in
    simp room (ap (λ (k : ℕ). record { number = done 0 0 size; state = []; buffer = bytes ++ drop k l }) s)
started size (Err e) bytes l h s = refl

-- in zeros of just its size
pub in_zeros : (size : ℕ) (bytes : List ℕ) → length bytes ≡ size → (start_answer size (Ok tt) bytes (replicate size 0)).buffer ≡ bytes
in_zeros size bytes s =
    let z : List ℕ = replicate size 0 in
    let l : length z ≡ size = length-replicate {A = ℕ} size 0 in
    ap (λ (a : Answer). a.buffer) (started size (Ok tt) bytes z (omega arith) s) ∙ ap (λ (k : ℕ). bytes ++ drop k z) (sym s) ∙ over bytes z (s ∙ sym l)

-- the all-zero states are zeros
zero_float : to_bits binary64 (eighths 0) ≡ 0
unfolding to_bits eighths
zero_float = refl

module_zero : replicate module_size 0 ≡ module_bytes M.empty_module
unfolding module_bytes own_bytes procedure_bytes half_bytes quad_bytes word_bytes
module_zero = simp zero_float

supervisor_zero : replicate supervisor_size 0 ≡ supervisor_bytes S.empty_supervisor
unfolding supervisor_bytes half_bytes is_out holder_byte
supervisor_zero = refl

module_zeros_lem : (image : List ℕ) (m : ℕ) → (ModuleCalls.start_bytes image m (replicate module_size 0)).buffer ≡ module_bytes (M.module_start image m).state
unfolding ModuleCalls.start_bytes M.start_by start_answer
module_zeros_lem image m =
    judged image (λ v. Zeros (M.start_by v (records_of image) m))
    (λ plan. choose Zeros (ltb m (modules_of (records_of image))) _ _
    (λ l. in_zeros module_size (module_bytes (M.start_module (records_of image) m)) (module_parts.size (M.start_module (records_of image) m) (start_encodable (records_of image) plan m (ltb-true m (modules_of (records_of image)) l)).cells))
    (λ l. module_zero))
    (λ e. module_zero)
  where
    Zeros : ModuleCalled → Type 0
    Zeros c = (start_answer module_size c.answer (module_bytes c.state) (replicate module_size 0)).buffer ≡ module_bytes c.state

supervisor_zeros_lem : (image : List ℕ) (v : ℕ) → (SupervisorCalls.start_bytes image v (replicate supervisor_size 0)).buffer ≡ supervisor_bytes (S.supervisor_start image v).state
unfolding SupervisorCalls.start_bytes S.start_by start_answer
supervisor_zeros_lem image v =
    judged image (λ a. Zeros (S.start_by a (records_of image) v))
    (λ plan. choose Zeros (ltb v (supervisors_of (records_of image))) _ _
    (λ l. in_zeros supervisor_size (supervisor_bytes (S.start_supervisor (records_of image) v)) (supervisor_parts.size (S.start_supervisor (records_of image) v)))
    (λ l. supervisor_zero))
    (λ e. supervisor_zero)
  where
    Zeros : SupervisorCalled → Type 0
    Zeros c = (start_answer supervisor_size c.answer (supervisor_bytes c.state) (replicate supervisor_size 0)).buffer ≡ supervisor_bytes c.state

-- ---- the check in pieces

module _ (k : CheckState) where
  piece_taken_lem : (p : List ℕ) → StateEncodable k → check_piece_bytes (state_bytes k) p ≡ taken_answer (piece_taken k p)
  unfolding check_piece_bytes
  piece_taken_lem p h = simp (state-parts.stands k h) (ap (λ (x : CheckState). taken_answer (piece_taken x p)) (state-parts.back k h))

  answer_given : StateEncodable k → check_answer_bytes (state_bytes k) ≡ called_answer (verdict_by k)
  unfolding check_answer_bytes
  answer_given h = simp (state-parts.stands k h) (ap (λ (x : CheckState). called_answer (verdict_by x)) (state-parts.back k h))

pub same_calls : SameCalls
same_calls =
    record {
      module_step = module_stepped_lem;
      module_deliver = λ image m x g b h. unfold ModuleCalls.deliver_bytes in
          module_called x h (λ y. M.module_deliver image m y g) (all_encodable.module_deliver image m x g b h) (refusals.modules.deliver image m x g).state;
      module_respond = λ image m x e h. unfold ModuleCalls.respond_bytes in
          module_called x h (λ y. M.module_respond image m y e) (all_encodable.module_respond image m x e h) (refusals.modules.respond image m x e).state;
      module_tick = λ image m x s l h. unfold ModuleCalls.tick_bytes in
          module_called x h (λ y. M.module_tick image m y (flow_of s l)) (all_encodable.module_tick image m x (flow_of s l) h) (refusals.modules.tick image m x (flow_of s l)).state;
      supervisor_step = supervisor_stepped_lem;
      supervisor_deliver = supervisor_called;
      device_turn = device_turned;
      device_respond = λ image d m e h. unfold DeviceCalls.respond_bytes in
          device_called d h (λ z. respond_call image z m e) (all_encodable.device_respond image d m e h) (refusals.device.respond image d m e).state;
      device_tick = λ image d m s l h. unfold DeviceCalls.tick_bytes in
          device_called d h (λ z. tick_call image z m (flow_of s l)) (all_encodable.device_tick image d m (flow_of s l) h) (refusals.device.tick image d m (flow_of s l)).state;
      module_start = λ image m l h. unfold ModuleCalls.start_bytes in
          started module_size (M.module_start image m).answer (module_bytes (M.module_start image m).state) l h (module_parts.size (M.module_start image m).state (all_encodable.module_start image m).own.cells);
      supervisor_start = λ image v l h. unfold SupervisorCalls.start_bytes in
          started supervisor_size (S.supervisor_start image v).answer (supervisor_bytes (S.supervisor_start image v).state) l h (supervisor_parts.size (S.supervisor_start image v).state);
      device_start = λ image l h. unfold DeviceCalls.start_bytes in
          started device_size (start_call image).answer (device_bytes (start_call image).device) l h (device_parts.size (start_call image).device (all_encodable.device_start image));
      module_zeros = module_zeros_lem;
      supervisor_zeros = supervisor_zeros_lem;
      check_start = λ l h. unfold check_start_bytes in
          started 495 (Ok tt) (state_bytes starting) l h (state-parts.size starting stays_encodable.start);
      check_piece = piece_taken_lem;
      check_answer = answer_given;
    }
