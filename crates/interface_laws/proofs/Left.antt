-- `AllLeft` of specs/Left.antt.
use Rattle.std.specs.Prelude.{Some}
use mathlib.Core.Path.{◌≡◌, refl, sym, ap, ◌∙◌, subst}
use mathlib.Core.Logic.{◌≢◌}
use mathlib.Core.List.{List}
use mathlib.Core.Bool.{Bool, true, false, cond}
use Prim.Native.Nat.{ℕ, zero, suc}
use lib.ListN.{replicate}
use lib.Dec.{eqb, lit<}
use lib.Pow.{pow_pos}
use borrow.Author.Tests.{eqb-true, eqb-false}
use Rattle.roundtrip.specs.Fits.{Bytes}
use Rattle.reader.specs.Walk.{records_of}
use Rattle.rules.specs.Check.{verdict_of}
use Rattle.messages.specs.Message.{parse}
use Rattle.device_states.specs.declared.Device.{Device}
use Rattle.permits.specs.declared.Module.{Module}
use Rattle.permits.specs.declared.Supervisor.{Supervisor}
use Rattle.refusals.proofs.Refusals.{refusals}
use Rattle.own_bytes.specs.Own.{unfit_own, OwnEncodable}
use Rattle.pieces.specs.Pieces.{piece_taken}
use Rattle.pieces.specs.declared.CheckState.{CheckState}
use Rattle.piece_bytes.specs.State.{is_state, state_at, state_bytes, StateEncodable}
use Rattle.piece_bytes.proofs.Parts.{parts as state-parts}
use Rattle.piece_laws.proofs.Encodable.{stays_encodable}
use Rattle.piece_interface.specs.Calls.{check_piece_bytes}
use Rattle.party_bytes.specs.Module.{is_module, module_bytes, module_of, ModuleEncodable}
use Rattle.party_bytes.specs.Supervisor.{holder_byte, is_supervisor, supervisor_bytes, supervisor_of, SupervisorEncodable}
use Rattle.device_bytes.specs.Device.{is_device, device_bytes, device_of, OwnsEncodable, DeviceEncodable}
use Rattle.device_bytes.proofs.Parts.{device_parts}
use Rattle.packing.specs.Answer.{lent_after}
use Rattle.packing.specs.Flow.{flow_of}
use Rattle.device_interface.specs.Calls as DeviceCalls
use Rattle.module_interface.specs.Calls as ModuleCalls
use Rattle.supervisor_interface.specs.Calls as SupervisorCalls
use Rattle.interface_laws.specs.Left.{ReadAs, check_of, piece_on, AllLeft}
use Rattle.interface_laws.proofs.ByteLists.{bytes_zeros}
use Rattle.interface_laws.proofs.OwnParts.{choose, empty_encodable}
use Rattle.interface_laws.proofs.Exact.{exact}
use Rattle.interface_laws.proofs.InPlace.{step_refused_lem, deliver_refused, reply_refused, serve_refused, given_refused, turn_refused_lem, replied_refused, module_kept, supervisor_kept, device_kept, module_unfit, supervisor_unfit, device_unfit, checked}
use Rattle.interface_laws.proofs.Encodable.{all_encodable}

-- ---- the state read from bytes, of whatever bytes

unfit_own_lem : OwnEncodable unfit_own
unfit_own_lem =
    let e = empty_encodable in
    record {
      state = e.state;
      queued = lit< tt;
      cells = e.cells;
      queue = e.queue;
      event = e.event;
      index = e.index;
      count = e.count;
      target = e.target;
      total = e.total;
      outputs = e.outputs;
    }

unfit_owns : (n : ℕ) → OwnsEncodable (replicate n unfit_own)
unfit_owns zero = tt
unfit_owns (suc n) = (unfit_own_lem, unfit_owns n)

module _ (s : List ℕ) (g : Bytes s) where
  module_of_lem : ModuleEncodable (module_of s)
  unfolding module_of
  module_of_lem = choose ModuleEncodable (is_module s) _ _ (λ e. exact.module_encodable s g e) (λ e. record { own = unfit_own_lem; held = pow_pos 32; received = pow_pos 64 })

  supervisor_of_lem : SupervisorEncodable (supervisor_of s)
  unfolding supervisor_of holder_byte
  supervisor_of_lem =
      choose SupervisorEncodable (is_supervisor s) _ _ (λ e. exact.supervisor_encodable s g e) (λ e. record { state = lit< tt; noted = pow_pos 16; holder = lit< tt; last = lit< tt })

  device_of_lem : DeviceEncodable (device_of s)
  unfolding device_of
  device_of_lem =
      choose DeviceEncodable (is_device s) _ _ (λ e. exact.device_encodable s g e)
      (λ e. record { owns = unfit_owns 16; modules = refl; supervisors = refl; states = bytes_zeros 32 })

-- ---- a call of number n leaves the bytes of its state, or what was lent

left : {A : Type 0} (of : List ℕ → A) (to : A → List ℕ) (n : ℕ) (put s : List ℕ) (x : A) → Bytes s → Bytes (to x) → of (to x) ≡ x
    → (n ≡ 0 → put ≡ to x) → (n ≢ 0 → x ≡ of s) → ReadAs of (lent_after n put s) x
unfolding lent_after
left of to n put s x g w again kept unchanged = go (eqb n 0) refl
  where
    go : (b : Bool) → eqb n 0 ≡ b → ReadAs of (cond b put s) x
    go true e =
        let k : put ≡ to x = kept (eqb-true n 0 e) in
        record { bytes = subst Bytes (sym k) w; state = ap of k ∙ again }
    go false e = record { bytes = g; state = sym (unchanged (eqb-false n 0 e)) }

module_left : (n : ℕ) (s : List ℕ) (x : Module) → Bytes s → ModuleEncodable x → (is_module s ≡ false → n ≢ 0) → (n ≢ 0 → x ≡ module_of s)
    → ReadAs module_of (ModuleCalls.module_bytes_after n x s) x
module_left n s x g h r u = left module_of module_bytes n _ s x g (exact.module_bytes_lem x h) (exact.module_again x h) (module_kept s x h.own.cells r) u

supervisor_left : (n : ℕ) (s : List ℕ) (y : Supervisor) → Bytes s → SupervisorEncodable y → (is_supervisor s ≡ false → n ≢ 0) → (n ≢ 0 → y ≡ supervisor_of s)
    → ReadAs supervisor_of (SupervisorCalls.supervisor_bytes_after n y s) y
supervisor_left n s y g h r u = left supervisor_of supervisor_bytes n _ s y g (exact.supervisor_bytes_lem y h) (exact.supervisor_again y h) (supervisor_kept s y r) u

device_left : (n : ℕ) (s : List ℕ) (d : Device) → Bytes s → DeviceEncodable d → (is_device s ≡ false → n ≢ 0) → (n ≢ 0 → d ≡ device_of s)
    → ReadAs device_of (DeviceCalls.device_bytes_after n d s) d
device_left n s d g h r u = left device_of device_bytes n _ s d g (exact.device_bytes_lem d h) (exact.device_again d h) (device_kept s d (device_parts.size d h) r) u

-- of a check in pieces
written_as : (k : CheckState) → StateEncodable k → ReadAs check_of (state_bytes k) (Some k)
written_as k h = record { bytes = state-parts.bytes k h; state = simp (state-parts.stands k h) (ap (λ (x : CheckState). Some x) (state-parts.back k h)) }

piece_left : (s p : List ℕ) → Bytes s → Bytes p → ReadAs check_of (check_piece_bytes s p).state (piece_on p (check_of s))
unfolding check_piece_bytes
piece_left s p g f = go (is_state s) refl
  where
    go : (t : Bool) → is_state s ≡ t → ReadAs check_of (check_piece_bytes s p).state (piece_on p (check_of s))
    go true e = simp e (written_as (piece_taken (state_at s) p) (stays_encodable.piece (state_at s) p (state-parts.encodable s g e) f))
    go false e = simp e (record { bytes = g; state = simp e })

pub all_left : AllLeft
all_left =
    record {
      module_step = λ image s m b g. unfold ModuleCalls.step_bytes in
          module_left _ s _ g (all_encodable.module_step image m (module_of s) b (module_of_lem s g))
          (λ h. step_refused_lem (records_of image) m (module_of s) (module_unfit image s m h) (verdict_of image) (checked image) b) (refusals.modules.step image m (module_of s) b).state;
      module_deliver = λ image s m t g k. unfold ModuleCalls.deliver_bytes in
          module_left _ s _ g (all_encodable.module_deliver image m (module_of s) t k (module_of_lem s g))
          (λ h. deliver_refused (records_of image) m (module_of s) (module_unfit image s m h) (verdict_of image) (checked image) (parse t)) (refusals.modules.deliver image m (module_of s) t).state;
      module_respond = λ image s m e g. unfold ModuleCalls.respond_bytes in
          module_left _ s _ g (all_encodable.module_respond image m (module_of s) e (module_of_lem s g))
          (λ h. reply_refused (records_of image) m (module_of s) (module_unfit image s m h) (verdict_of image) (checked image) _) (refusals.modules.respond image m (module_of s) e).state;
      module_tick = λ image s m f x g. unfold ModuleCalls.tick_bytes in
          module_left _ s _ g (all_encodable.module_tick image m (module_of s) (flow_of f x) (module_of_lem s g))
          (λ h. reply_refused (records_of image) m (module_of s) (module_unfit image s m h) (verdict_of image) (checked image) _) (refusals.modules.tick image m (module_of s) (flow_of f x)).state;
      supervisor_step = λ image s v b g. unfold SupervisorCalls.step_bytes in
          supervisor_left _ s _ g (all_encodable.supervisor_step image v (supervisor_of s) b (supervisor_of_lem s g))
          (λ h. serve_refused (records_of image) v (supervisor_of s) (supervisor_unfit image s v h) (verdict_of image) (checked image) b) (refusals.supervisors.step image v (supervisor_of s) b).state;
      supervisor_deliver = λ image s v t g. unfold SupervisorCalls.deliver_bytes in
          supervisor_left _ s _ g (all_encodable.supervisor_deliver image v (supervisor_of s) t (supervisor_of_lem s g))
          (λ h. given_refused (records_of image) v (supervisor_of s) (supervisor_unfit image s v h) (verdict_of image) (checked image) (parse t)) (refusals.supervisors.deliver image v (supervisor_of s) t).state;
      device_turn = λ image s m g. unfold DeviceCalls.turn_bytes in
          device_left _ s _ g (all_encodable.device_turn image (device_of s) m (device_of_lem s g))
          (λ h. turn_refused_lem (records_of image) (device_of s) m (device_unfit image s h) (verdict_of image) (checked image)) (refusals.device.turn image (device_of s) m).state;
      device_respond = λ image s m e g. unfold DeviceCalls.respond_bytes in
          device_left _ s _ g (all_encodable.device_respond image (device_of s) m e (device_of_lem s g))
          (λ h. replied_refused (records_of image) (device_of s) m (device_unfit image s h) (verdict_of image) (checked image) _) (refusals.device.respond image (device_of s) m e).state;
      device_tick = λ image s m f x g. unfold DeviceCalls.tick_bytes in
          device_left _ s _ g (all_encodable.device_tick image (device_of s) m (flow_of f x) (device_of_lem s g))
          (λ h. replied_refused (records_of image) (device_of s) m (device_unfit image s h) (verdict_of image) (checked image) _) (refusals.device.tick image (device_of s) m (flow_of f x)).state;
      check_piece = piece_left;
    }
