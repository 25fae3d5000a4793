-- The bytes that are written for a state that can be encoded are bytes.
use mathlib.Core.List.{List, [], ◌∷◌, ◌++◌}
use Prim.Native.Nat.{ℕ}
use lib.Ieee.{binary64, to_bits}
use Rattle.roundtrip.specs.Fits.{Bytes}
use Rattle.words.specs.Word.{quad_bytes, word_bytes}
use Rattle.modules.specs.declared.Own.{Own}
use Rattle.permits.specs.declared.Module.{Module}
use Rattle.permits.specs.declared.Supervisor.{Supervisor}
use Rattle.device_states.specs.declared.Device.{Device}
use Rattle.fields.specs.Fields.{half_bytes, flag_byte, float_bytes}
use Rattle.own_bytes.specs.Own.{procedure_bytes, own_bytes, OwnEncodable}
use Rattle.party_bytes.specs.Module.{module_bytes, ModuleEncodable}
use Rattle.party_bytes.specs.Supervisor.{is_out, holder_byte, supervisor_bytes, SupervisorEncodable}
use Rattle.device_bytes.specs.Device.{owns_bytes, device_bytes, OwnsEncodable, DeviceEncodable}
use Rattle.interface_laws.proofs.ByteLists.{bytes_none, bytes_more, bytes_joined, half_bytes_lem, quad_bytes_lem, word_bytes_lem, flag_byte_lem}

own_bytes_lem : (own : Own) → OwnEncodable own → Bytes (own_bytes own)
unfolding own_bytes procedure_bytes
own_bytes_lem own h =
    let p = own.procedure in
    let half : List ℕ = half_bytes p.count in
    let target : List ℕ = float_bytes p.water.target in
    let total : List ℕ = float_bytes p.water.total in
    let numbers : List ℕ = half ++ target ++ total in
    let procedure : Bytes (procedure_bytes p) =
    bytes_more (flag_byte p.running) (p.event ∷ p.index ∷ numbers) (flag_byte_lem p.running) (bytes_more p.event (p.index ∷ numbers) h.event (bytes_more p.index numbers h.index
    (bytes_joined (half ++ target) total (bytes_joined half target (half_bytes_lem p.count) (word_bytes_lem (to_bits binary64 p.water.target))) (word_bytes_lem (to_bits binary64 p.water.total))))) in
    let rest : List ℕ = own.queue ++ procedure_bytes p ++ quad_bytes own.outputs in
    bytes_more own.state (own.length ∷ rest) h.state (bytes_more own.length rest h.queued
    (bytes_joined (own.queue ++ procedure_bytes p) (quad_bytes own.outputs) (bytes_joined own.queue (procedure_bytes p) h.queue procedure) (quad_bytes_lem own.outputs)))

pub module_bytes_lem : (x : Module) → ModuleEncodable x → Bytes (module_bytes x)
unfolding module_bytes
module_bytes_lem x h =
    let o : List ℕ = own_bytes x.own in
    let q : List ℕ = quad_bytes x.held in
    let w : List ℕ = word_bytes x.received in
    bytes_joined (o ++ q ++ w) (flag_byte x.bid ∷ [])
    (bytes_joined (o ++ q) w (bytes_joined o q (own_bytes_lem x.own h.own) (quad_bytes_lem x.held)) (word_bytes_lem x.received))
    (bytes_more (flag_byte x.bid) [] (flag_byte_lem x.bid) bytes_none)

pub supervisor_bytes_lem : (y : Supervisor) → SupervisorEncodable y → Bytes (supervisor_bytes y)
unfolding supervisor_bytes
supervisor_bytes_lem y h =
    let t : List ℕ = flag_byte (is_out y.holder) ∷ holder_byte y.holder ∷ y.last ∷ [] in
    bytes_more y.state (half_bytes y.noted ++ t) h.state (bytes_joined (half_bytes y.noted) t (half_bytes_lem y.noted)
    (bytes_more _ (holder_byte y.holder ∷ y.last ∷ []) (flag_byte_lem (is_out y.holder)) (bytes_more _ (y.last ∷ []) h.holder (bytes_more y.last [] h.last bytes_none))))

owns_bytes_lem : (l : List Own) → OwnsEncodable l → Bytes (owns_bytes l)
unfolding owns_bytes
owns_bytes_lem [] h = bytes_none
owns_bytes_lem (own ∷ l) h = bytes_joined (own_bytes own) (owns_bytes l) (own_bytes_lem own h.0) (owns_bytes_lem l h.1)

pub device_bytes_lem : (d : Device) → DeviceEncodable d → Bytes (device_bytes d)
unfolding device_bytes
device_bytes_lem d h = bytes_joined (owns_bytes d.modules) d.supervisors (owns_bytes_lem d.modules h.owns) h.states
