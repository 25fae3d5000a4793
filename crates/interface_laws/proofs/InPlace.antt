-- "An accepted call writes the state in place": what it got stood for a state, and the state that it leaves is put over it.
use Rattle.refusal.specs.Refusal.{refused_number}
use Rattle.std.specs.Prelude.{Option, Some, None, Result, Ok, Err, ⊤}
use Rattle.refusal.specs.declared.Refusal.{Refusal}
use Rattle.messages.specs.declared.Message.{Message}
use mathlib.Core.Path.{◌≡◌, refl, sym, ap, ◌∙◌}
use mathlib.Core.Logic.{◌≢◌}
use mathlib.Core.List.{List}
use mathlib.Core.Bool.{Bool, true, false, cond, ◌&&◌}
use Prim.Native.Nat.{ℕ, ◌≤◌}
use native.Mathlib.Omega.{arith}
use lib.ListN.{length}
use lib.Dec.{eqb, ltb}
use borrow.Author.Tests.{eqb-true, le-leb}
use Rattle.records.specs.declared.Record.{Record}
use Rattle.reader.specs.Walk.{records_of}
use Rattle.rules.specs.LookUp.{modules_of, supervisors_of}
use Rattle.rules.specs.Check.{verdict_of}
use Rattle.messages.specs.Message.{written, put_at}
use Rattle.modules.specs.declared.Replied.{Replied}
use Rattle.device.specs.Device.{device_number, turn_in, turn_by, reply_in, reply_by}
use Rattle.device_states.specs.States.{device_fits}
use Rattle.device_states.specs.declared.Device.{Device}
use Rattle.permits.specs.Module as Modules
use Rattle.permits.specs.Module.{module_fits}
use Rattle.permits.specs.Supervisor as Supervisors
use Rattle.permits.specs.Supervisor.{supervisor_fits}
use Rattle.permits.specs.declared.Module.{Module}
use Rattle.permits.specs.declared.Supervisor.{Supervisor}
use Rattle.refusals.specs.Table.{check}
use Rattle.refusals.specs.Refusals.{CheckAnswer}
use Rattle.refusals.proofs.Table.{is_refusal}
use Rattle.refusals.proofs.Refusals.{refusals}
use Rattle.fields.proofs.Back.{and_left}
use Rattle.own_bytes.specs.Own.{is_own}
use Rattle.device_bytes.specs.Device.{device_size, device_bytes, device_put, is_device, device_at, unfit_device, device_of}
use Rattle.device_bytes.proofs.Parts.{device_parts}
use Rattle.party_bytes.specs.Module.{module_size, module_bytes, is_module, module_at, unfit_module, module_of}
use Rattle.party_bytes.specs.Supervisor.{supervisor_size, supervisor_bytes, is_supervisor, supervisor_at, unfit_supervisor, supervisor_of}
use Rattle.party_bytes.proofs.Parts.{module_parts, supervisor_parts}
use Rattle.packing.proofs.InPlace.{over, put_over}

-- ---- a state that does not fit is refused, whatever else

eleven : ◌≢◌ {A = ℕ} 11 0
eleven e = omega arith

ten : ◌≢◌ {A = ℕ} 10 0
ten e = omega arith

not_fit : ◌≢◌ {A = ℕ} 9 0
not_fit e = omega arith

module _ (rs : List Record) (m : ℕ) (x : Module) (f : module_fits rs m x ≡ false) where
  pub step_refused_lem : (v : Result ⊤ Refusal) → CheckAnswer v → (l : List ℕ) → refused_number (Modules.step_by v rs m x l).answer ≢ 0
  unfolding Modules.step_by
  step_refused_lem (Ok u) j l = go (ltb m (modules_of rs)) refl
    where
      go : (t : Bool) → ltb m (modules_of rs) ≡ t → refused_number (Modules.step_by (Ok tt) rs m x l).answer ≢ 0
      go true e = simp (e, f) not_fit
      go false e = simp e eleven
  step_refused_lem (Err e) j l = is_refusal check e.number (j.numbered e refl)

  pub deliver_refused : (v : Result ⊤ Refusal) → CheckAnswer v → (g : Option Message) → refused_number (Modules.deliver_by v rs m x g).answer ≢ 0
  unfolding Modules.deliver_by Modules.absent
  deliver_refused (Ok u) j g = go (ltb m (modules_of rs)) refl g
    where
      go : (t : Bool) → ltb m (modules_of rs) ≡ t → (g : Option Message) → refused_number (Modules.deliver_by (Ok tt) rs m x g).answer ≢ 0
      go true e g = simp (e, f) not_fit
      go false e None = simp e ten
      go false e (Some g) = simp e eleven
  deliver_refused (Err e) j g = is_refusal check e.number (j.numbered e refl)

  pub reply_refused : (v : Result ⊤ Refusal) → CheckAnswer v → (r : Replied) → refused_number (Modules.reply_by v rs m x r).answer ≢ 0
  unfolding Modules.reply_by
  reply_refused (Ok u) j r = go (ltb m (modules_of rs)) refl
    where
      go : (t : Bool) → ltb m (modules_of rs) ≡ t → refused_number (Modules.reply_by (Ok tt) rs m x r).answer ≢ 0
      go true e = simp (e, f) not_fit
      go false e = simp e eleven
  reply_refused (Err e) j r = is_refusal check e.number (j.numbered e refl)

module _ (rs : List Record) (v : ℕ) (y : Supervisor) (f : supervisor_fits rs v y ≡ false) where
  pub serve_refused : (w : Result ⊤ Refusal) → CheckAnswer w → (l : List ℕ) → refused_number (Supervisors.step_by w rs v y l).answer ≢ 0
  unfolding Supervisors.step_by
  serve_refused (Ok u) j l = go (ltb v (supervisors_of rs)) refl
    where
      go : (t : Bool) → ltb v (supervisors_of rs) ≡ t → refused_number (Supervisors.step_by (Ok tt) rs v y l).answer ≢ 0
      go true e = simp (e, f) not_fit
      go false e = simp e eleven
  serve_refused (Err e) j l = is_refusal check e.number (j.numbered e refl)

  pub given_refused : (w : Result ⊤ Refusal) → CheckAnswer w → (g : Option Message) → refused_number (Supervisors.deliver_by w rs v y g).answer ≢ 0
  unfolding Supervisors.deliver_by Supervisors.absent
  given_refused (Ok u) j g = go (ltb v (supervisors_of rs)) refl g
    where
      go : (t : Bool) → ltb v (supervisors_of rs) ≡ t → (g : Option Message) → refused_number (Supervisors.deliver_by (Ok tt) rs v y g).answer ≢ 0
      go true e g = simp (e, f) not_fit
      go false e None = simp e ten
      go false e (Some g) = simp e eleven
  given_refused (Err e) j g = is_refusal check e.number (j.numbered e refl)

module _ (rs : List Record) (d : Device) (m : ℕ) (f : device_fits rs d ≡ false) where
  nine : device_number rs d m ≡ 9
  nine = ap (λ (t : Bool). cond t (cond (ltb m (modules_of rs)) 0 11) 9) f

  pub turn_refused_lem : (v : Result ⊤ Refusal) → CheckAnswer v → refused_number (turn_by v rs d m).answer ≢ 0
  unfolding turn_by turn_in
  turn_refused_lem (Ok u) j = simp nine not_fit
  turn_refused_lem (Err e) j = is_refusal check e.number (j.numbered e refl)

  pub replied_refused : (v : Result ⊤ Refusal) → CheckAnswer v → (r : Replied) → refused_number (reply_by v rs d m r).answer ≢ 0
  unfolding reply_by reply_in
  replied_refused (Ok u) j r = simp nine not_fit
  replied_refused (Err e) j r = is_refusal check e.number (j.numbered e refl)

-- ---- the bytes put where bytes of the same length stood

module_length : (s : List ℕ) → is_module s ≡ true → length s ≡ module_size
unfolding is_module
module_length s h = eqb-true (length s) module_size (and_left (eqb (length s) module_size) (is_own s) (and_left (eqb (length s) module_size && is_own s) _ h))

supervisor_length : (s : List ℕ) → is_supervisor s ≡ true → length s ≡ supervisor_size
unfolding is_supervisor
supervisor_length s h = eqb-true (length s) supervisor_size (and_left (eqb (length s) supervisor_size) _ (and_left _ _ h))

device_length : (s : List ℕ) → is_device s ≡ true → length s ≡ device_size
unfolding is_device
device_length s h = eqb-true (length s) device_size (and_left (eqb (length s) device_size) _ h)

pub put_device : (d : Device) (s : List ℕ) → length s ≡ device_size → length (device_bytes d) ≡ device_size → device_put d s ≡ device_bytes d
unfolding device_put
put_device d s e q =
    let l : device_size ≤ length s = omega arith in
    ap (λ (t : Bool). cond t (written (device_bytes d) s) s) (le-leb device_size (length s) l) ∙ over (device_bytes d) s (q ∙ sym e)

-- ---- an accepted call, of number n, got bytes that stand for a state

stood : (t : Bool) {n : ℕ} → (t ≡ false → n ≢ 0) → n ≡ 0 → t ≡ true
stood true r z = refl
stood false r z = absurd (r refl z)

pub module_kept : (s : List ℕ) (x : Module) {n : ℕ} → length x.own.queue ≡ 8 → (is_module s ≡ false → n ≢ 0) → n ≡ 0 → put_at (module_bytes x) 0 s ≡ module_bytes x
module_kept s x q r z = put_over (module_bytes x) s (module_parts.size x q ∙ sym (module_length s (stood (is_module s) r z)))

pub supervisor_kept : (s : List ℕ) (y : Supervisor) {n : ℕ} → (is_supervisor s ≡ false → n ≢ 0) → n ≡ 0 → put_at (supervisor_bytes y) 0 s ≡ supervisor_bytes y
supervisor_kept s y r z = put_over (supervisor_bytes y) s (supervisor_parts.size y ∙ sym (supervisor_length s (stood (is_supervisor s) r z)))

pub device_kept : (s : List ℕ) (d : Device) {n : ℕ} → length (device_bytes d) ≡ device_size → (is_device s ≡ false → n ≢ 0) → n ≡ 0 → device_put d s ≡ device_bytes d
device_kept s d q r z = put_device d s (device_length s (stood (is_device s) r z)) q

pub module_unfit : (image s : List ℕ) (m : ℕ) → is_module s ≡ false → module_fits (records_of image) m (module_of s) ≡ false
unfolding module_of
module_unfit image s m h = ap (λ (t : Bool). module_fits (records_of image) m (cond t (module_at s) unfit_module)) h ∙ module_parts.unfit (records_of image) m

pub supervisor_unfit : (image s : List ℕ) (v : ℕ) → is_supervisor s ≡ false → supervisor_fits (records_of image) v (supervisor_of s) ≡ false
unfolding supervisor_of
supervisor_unfit image s v h = ap (λ (t : Bool). supervisor_fits (records_of image) v (cond t (supervisor_at s) unfit_supervisor)) h ∙ supervisor_parts.unfit (records_of image) v

pub device_unfit : (image s : List ℕ) → is_device s ≡ false → device_fits (records_of image) (device_of s) ≡ false
unfolding device_of
device_unfit image s h = ap (λ (t : Bool). device_fits (records_of image) (cond t (device_at s) unfit_device)) h ∙ device_parts.unfit (records_of image)

pub checked : (image : List ℕ) → CheckAnswer (verdict_of image)
checked image = refusals.checker.check image
