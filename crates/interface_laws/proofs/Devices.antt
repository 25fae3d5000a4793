-- The states that the calls of one device leave can be encoded.
use Rattle.std.specs.Prelude.{Option, Some, None}
use mathlib.Core.Path.{◌≡◌, refl, ◌∙◌, subst}
use mathlib.Core.List.{List, [], ◌∷◌}
use mathlib.Core.Bool.{Bool, true, false, cond}
use Prim.Native.Nat.{ℕ, zero, suc, ◌<◌}
use native.Mathlib.Omega.{arith}
use lib.ListN.{length, get_or, set, replicate, length-set}
use lib.Dec.{T, ltb, lit<}
use lib.Ieee.Fits.{and_l}
use borrow.Author.Tests.{ltb-true}
use denote.Floats.{passes as holds}
use Rattle.bits.specs.Bit.{all_below}
use Rattle.bits.proofs.Laws.{all_at}
use Rattle.records.specs.declared.Record.{Record}
use Rattle.reader.specs.Walk.{records_of}
use Rattle.rules.specs.LookUp.{modules_of, supervisors_of}
use Rattle.rules.specs.Check.{verdict_of}
use Rattle.plan.specs.Plan.{in_alphabet, supervisor_after}
use Rattle.accepted.specs.Plan.{Sound}
use Rattle.roundtrip.specs.Fits.{Byte}
use Rattle.words.specs.Lists.{list_from}
use Rattle.water.specs.declared.Flow.{Flow}
use Rattle.modules.specs.Procedure.{respond_of, tick_of}
use Rattle.modules.specs.Turn.{empty_own}
use Rattle.modules.specs.Fits.{own_fits, own_empty}
use Rattle.modules.specs.declared.Own.{Own}
use Rattle.modules.specs.declared.Replied.{Replied}
use Rattle.device_states.specs.States.{own_at, state_of, own_slot_fits, state_slot_fits, device_fits, shown_by, state_at, state_after_turn, start_slot, start_state}
use Rattle.device_states.specs.declared.Device.{Device}
use Rattle.device.specs.Device.{turned, after_turn, device_number, turn_in, turn_by, turn_call, reply_in, reply_by, respond_call, tick_call, start_by, start_call}
use Rattle.own_bytes.specs.Own.{OwnEncodable}
use Rattle.device_bytes.specs.Device.{OwnsEncodable, DeviceEncodable}
use Rattle.interface_laws.proofs.ByteLists.{bytes_listed, bytes_zeros}
use Rattle.interface_laws.proofs.OwnParts.{choose, turn_encodable, respond_encodable, tick_encodable, start_encodable, empty_encodable}
use Rattle.interface_laws.proofs.Parties.{judged, initial_byte, moved_byte}

-- ---- own parts one after another

owns_at : (l : List Own) → OwnsEncodable l → (m : ℕ) → OwnEncodable (get_or l m empty_own)
owns_at [] h zero = empty_encodable
owns_at [] h (suc m) = empty_encodable
owns_at (a ∷ l) h zero = h.0
owns_at (a ∷ l) h (suc m) = owns_at l h.1 m

owns_set : (l : List Own) (m : ℕ) (own : Own) → OwnsEncodable l → OwnEncodable own → OwnsEncodable (set l m own)
owns_set [] zero own h k = tt
owns_set [] (suc m) own h k = tt
owns_set (a ∷ l) zero own h k = (k, h.1)
owns_set (a ∷ l) (suc m) own h k = (h.0, owns_set l m own h.1 k)

owns_listed : (f : ℕ → Own) → ((m : ℕ) → OwnEncodable (f m)) → (i n : ℕ) → OwnsEncodable (list_from f i n)
unfolding list_from
owns_listed f h i zero = tt
owns_listed f h i (suc n) = (h i, owns_listed f h (suc i) n)

owns_empty : (n : ℕ) → OwnsEncodable (replicate n empty_own)
owns_empty zero = tt
owns_empty (suc n) = (empty_encodable, owns_empty n)

-- ---- the calls

module _ (rs : List Record) (plan : Sound rs) (d : Device) (m : ℕ) (h : DeviceEncodable d) where
  -- a call without a number is on a state that fits, of a module of the plan
  slot_fits : device_number rs d m ≡ 0 → T (own_fits rs m (own_at d m))
  unfolding device_fits own_slot_fits
  slot_fits e = go (device_fits rs d) (ltb m (modules_of rs)) refl refl e
    where
      go : (a b : Bool) → device_fits rs d ≡ a → ltb m (modules_of rs) ≡ b → ◌≡◌ {A = ℕ} (cond a (cond b 0 11) 9) 0 → T (own_fits rs m (own_at d m))
      go true true f l q =
          let below : m < 16 = omega (arith, ltb-true m (modules_of rs) l, plan.modules.1) in
          let t : T (own_slot_fits rs d m) = all_at (own_slot_fits rs d) 16 (and_l (all_below (own_slot_fits rs d) 16) (all_below (state_slot_fits rs d.supervisors) 32) (holds _ f)) m below in
          subst (λ (b : Bool). T (cond b (own_fits rs m (own_at d m)) (own_empty (own_at d m)))) l t
      go true false f l q = absurd (omega arith)
      go false b f l q = absurd (omega arith)

  own_encodable : OwnEncodable (own_at d m)
  own_encodable = owns_at d.modules h.owns m

  moved : (v : ℕ) (t : Option ℕ) → Byte (state_after_turn rs v (state_of d.supervisors v) t)
  unfolding state_after_turn supervisor_after
  moved v (Some e) = choose Byte (in_alphabet rs v e) _ _ (λ a. moved_byte rs plan v (state_of d.supervisors v) e (h.states v)) (λ a. h.states v)
  moved v None = h.states v

  with_own : (own : Own) → OwnEncodable own → OwnsEncodable (set d.modules m own) × (length (set d.modules m own) ≡ 16)
  with_own own k = (owns_set d.modules m own h.owns k, length-set d.modules m own ∙ h.modules)

  turns : (n : ℕ) → device_number rs d m ≡ n → DeviceEncodable (turn_in rs d m n).device
  unfolding turn_in turned after_turn list_from
  turns zero e =
      let own : OwnEncodable (turned rs d m).own = turn_encodable rs plan m (own_at d m) own_encodable (slot_fits e) (shown_by rs (state_at d) (supervisors_of rs)) in
      let w = with_own (turned rs d m).own own in
      record {
        owns = w.0;
        modules = w.1;
        supervisors = refl;
        states = bytes_listed (λ v. state_after_turn rs v (state_of d.supervisors v) (turned rs d m).turn) (λ v. moved v (turned rs d m).turn) 0 32;
      }
  turns (suc n) e = h

  replies : (r : Replied) → (T (own_fits rs m (own_at d m)) → OwnEncodable r.own) → (n : ℕ) → device_number rs d m ≡ n → DeviceEncodable (reply_in d m n r).device
  unfolding reply_in
  replies r k zero e =
      let w = with_own r.own (k (slot_fits e)) in
      record { owns = w.0; modules = w.1; supervisors = h.supervisors; states = h.states }
  replies r k (suc n) e = h

pub device_started : (image : List ℕ) → DeviceEncodable (start_call image).device
unfolding start_by list_from start_slot start_state
device_started image =
    judged image (λ v. DeviceEncodable (start_by v (records_of image)).device)
    (λ plan. record {
      owns = owns_listed (start_slot rs) (λ m. choose OwnEncodable (ltb m (modules_of rs)) _ _ (λ l. start_encodable rs plan m (ltb-true m (modules_of rs) l)) (λ l. empty_encodable)) 0 16;
      modules = refl;
      supervisors = refl;
      states = bytes_listed (start_state rs) (λ v. choose Byte (ltb v (supervisors_of rs)) _ _ (λ l. initial_byte rs plan v (ltb-true v (supervisors_of rs) l)) (λ l. lit< tt)) 0 32;
    })
    (λ e. record { owns = owns_empty 16; modules = refl; supervisors = refl; states = bytes_zeros 32 })
  where
    rs : List Record
    rs = records_of image

module _ (image : List ℕ) (d : Device) (m : ℕ) (h : DeviceEncodable d) where
  pub device_turned : DeviceEncodable (turn_call image d m).device
  unfolding turn_by
  device_turned = judged image (λ v. DeviceEncodable (turn_by v (records_of image) d m).device) (λ plan. turns (records_of image) plan d m h (device_number (records_of image) d m) refl) (λ e. h)

  device_replied : (r : Replied) → (Sound (records_of image) → T (own_fits (records_of image) m (own_at d m)) → OwnEncodable r.own) → DeviceEncodable (reply_by (verdict_of image) (records_of image) d m r).device
  unfolding reply_by
  device_replied r k =
      judged image (λ v. DeviceEncodable (reply_by v (records_of image) d m r).device) (λ plan. replies (records_of image) plan d m h r (k plan) (device_number (records_of image) d m) refl) (λ e. h)

  pub device_responded : (e : ℕ) → DeviceEncodable (respond_call image d m e).device
  device_responded e =
      device_replied (respond_of (records_of image) m e (own_at d m)) (λ plan t. respond_encodable (records_of image) plan m (own_at d m) (owns_at d.modules h.owns m) t e)

  pub device_ticked : (f : Flow) → DeviceEncodable (tick_call image d m f).device
  device_ticked f =
      device_replied (tick_of (records_of image) f (own_at d m)) (λ plan t. tick_encodable (records_of image) plan m (own_at d m) (owns_at d.modules h.owns m) t f)
