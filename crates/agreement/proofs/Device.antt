-- The one-device calls do what the rules of one device do.
use Rattle.std.specs.Prelude.{Option, Some, None, Result, Ok, ⊤, unwrap_or}
use Rattle.refusal.specs.declared.Refusal.{Refusal}
use mathlib.Core.Path.{◌≡◌, refl, sym, ap, ap₂, ◌∙◌, subst}
use mathlib.Core.Bool.{Bool, true, false, cond}
use mathlib.Core.List.{List}
use Prim.Native.Nat.{ℕ, zero, suc, ◌+◌, ◌≤◌, ◌<◌}
use native.Mathlib.Decide.{ℕ_discrete}
use native.Mathlib.Omega.{arith}
use lib.ListN.{length, get_or, set, length-set}
use lib.Seq.{get_or-set_same, get_or-set_other}
use lib.Bits.{bit_or}
use lib.Dec.{T, eqb, ltb}
use lib.Ieee.Fits.{and_l, and_r, and_i}
use borrow.Author.Tests.{lt-ltb, ltb-false}
use Rattle.bits.specs.Bit.{all_below}
use Rattle.bits.proofs.Laws.{all_at, all_of}
use Rattle.records.specs.declared.Record.{Record}
use Rattle.rules.specs.LookUp.{modules_of, supervisors_of, supervisor_state}
use Rattle.plan.specs.Plan.{supervisor_move, state_or, supervisor_after, shown, in_alphabet}
use Rattle.modules.specs.declared.Own.{Own}
use Rattle.modules.specs.declared.Turned.{Turned}
use Rattle.modules.specs.declared.Replied.{Replied}
use Rattle.modules.specs.Procedure.{called_by}
use Rattle.modules.specs.Turn.{turn_of, empty_own}
use Rattle.modules.specs.Fits.{own_fits, own_empty}
use Rattle.device_states.specs.declared.Device.{Device}
use Rattle.words.specs.Lists.{list_from}
use Rattle.device_states.specs.States.{own_at, state_at, own_slot_fits, state_slot_fits, device_fits, shown_by, state_after_turn, with_own}
use Rattle.words.proofs.Lists.{from_at}
use Rattle.device.specs.Device.{turned, after_turn, device_number, turn_in, turn_by, reply_in, reply_by}
use Rattle.protocol.specs.Generic.{update}
use Rattle.protocol.specs.Rules as R
use Rattle.protocol.proofs.Tools.{update_same, update_other}
use Rattle.agreement.specs.PlanOf.{plan_of}

-- the device's state and the rules' one, over the plan's modules and supervisors
pub record Same (rs : List Record) (d : Device) (O : R.OneDevice) : Type 0 where
  pub owns : (m : ℕ) → m < modules_of rs → own_at d m ≡ O.owns m
  pub states : (v : ℕ) → v < supervisors_of rs → state_at d v ≡ O.states v
  pub slots : length d.modules ≡ 16
  pub fits : device_fits rs d ≡ true

abbrev pub OwnSlot : List Record → Device → ℕ → Bool
OwnSlot rs d m = cond (ltb m (modules_of rs)) (own_fits rs m (own_at d m)) (own_empty (own_at d m))

abbrev pub StateSlot : List Record → Device → ℕ → Bool
StateSlot rs d v = cond (ltb v (supervisors_of rs)) (supervisor_state rs v (state_at d v)) (eqb (state_at d v) 0)

held : {b : Bool} → b ≡ true → T b
held {b} e = subst T (sym e) tt

is : (b : Bool) → T b → b ≡ true
is true t = refl
is false t = absurd t

pub fits_of : (rs : List Record) (d : Device) → ((m : ℕ) → m < 16 → OwnSlot rs d m ≡ true) → ((v : ℕ) → v < 32 → StateSlot rs d v ≡ true) → device_fits rs d ≡ true
unfolding device_fits own_slot_fits state_slot_fits
fits_of rs d f g =
    is _ (and_i (all_below (OwnSlot rs d) 16) (all_below (StateSlot rs d) 32) (all_of (OwnSlot rs d) 16 (λ m l. held (f m l))) (all_of (StateSlot rs d) 32 (λ v l. held (g v l))))

pub own_slot : (rs : List Record) (d : Device) → device_fits rs d ≡ true → (m : ℕ) → m < 16 → OwnSlot rs d m ≡ true
unfolding device_fits own_slot_fits state_slot_fits
own_slot rs d h m l = is _ (all_at (OwnSlot rs d) 16 (and_l (all_below (OwnSlot rs d) 16) (all_below (StateSlot rs d) 32) (held h)) m l)

pub state_slot : (rs : List Record) (d : Device) → device_fits rs d ≡ true → (v : ℕ) → v < 32 → StateSlot rs d v ≡ true
unfolding device_fits own_slot_fits state_slot_fits
state_slot rs d h v l = is _ (all_at (StateSlot rs d) 32 (and_r (all_below (OwnSlot rs d) 16) (all_below (StateSlot rs d) 32) (held h)) v l)

module _ (rs : List Record) (few_modules : modules_of rs ≤ 16) (few : supervisors_of rs ≤ 32) (watched : (v e : ℕ) → in_alphabet rs v e ≡ true → v < supervisors_of rs)
    (kept : (v x e y : ℕ) → supervisor_move rs v x e ≡ Some y → supervisor_state rs v y ≡ true) where
  -- the masks shown
  shown_same : (d : Device) (O : R.OneDevice) → Same rs d O → (n : ℕ) → n ≤ supervisors_of rs → shown_by rs (state_at d) n ≡ R.shown_below (plan_of rs) O.states n
  unfolding shown_by R.shown_below plan_of
  shown_same d O S zero h = refl
  shown_same d O S (suc n) h = ap₂ bit_or (shown_same d O S n (omega arith)) (ap (shown rs n) (S.states n (omega arith)))

  -- where firing leads a supervisor
  led_same : (v x : ℕ) (t : Option ℕ) → state_after_turn rs v x t ≡ R.state_after (plan_of rs) v x t
  unfolding state_after_turn supervisor_after R.state_after plan_of state_or
  led_same v x (Some e) = ap (λ (y : ℕ). cond (in_alphabet rs v e) y x) (go (supervisor_move rs v x e))
    where
      go : (o : Option ℕ) → state_or o x ≡ unwrap_or o x
      go None = unfold state_or in refl
      go (Some y) = unfold state_or in refl
  led_same v x None = refl

  -- a state stays fit
  led_fits : (v x : ℕ) (t : Option ℕ) → supervisor_state rs v x ≡ true → supervisor_state rs v (state_after_turn rs v x t) ≡ true
  unfolding state_after_turn supervisor_after state_or
  led_fits v x (Some e) h = go (in_alphabet rs v e) (supervisor_move rs v x e) refl
    where
      go : (b : Bool) (o : Option ℕ) → supervisor_move rs v x e ≡ o → supervisor_state rs v (cond b (state_or o x) x) ≡ true
      go true None q = unfold state_or in h
      go true (Some y) q = unfold state_or in (kept v x e y q)
      go false o q = h
  led_fits v x None h = h

  -- a supervisor that the plan lacks stays
  led_stays : (v x : ℕ) (t : Option ℕ) → supervisors_of rs ≤ v → state_after_turn rs v x t ≡ x
  unfolding state_after_turn supervisor_after
  led_stays v x (Some e) h = go (in_alphabet rs v e) refl
    where
      go : (b : Bool) → in_alphabet rs v e ≡ b → cond b (state_or (supervisor_move rs v x e) x) x ≡ x
      go true q = let l : v < supervisors_of rs = watched v e q in absurd (omega arith)
      go false q = refl
  led_stays v x None h = refl

  -- one module's own part changed
  own_after : (d : Device) (O : R.OneDevice) (m : ℕ) (own : Own) → Same rs d O → m < modules_of rs → (j : ℕ) → j < modules_of rs
      → get_or (set d.modules m own) j empty_own ≡ update O.owns m own j
  own_after d O m own S l j k = go (ℕ_discrete m j)
    where
      go : Dec (m ≡ j) → get_or (set d.modules m own) j empty_own ≡ update O.owns m own j
      go (yes e) =
          subst (λ (x : ℕ). get_or (set d.modules m own) x empty_own ≡ update O.owns m own x) e
          (get_or-set_same d.modules m own empty_own (omega (arith, S.slots)) ∙ sym (update_same O.owns m own))
      go (no q) = get_or-set_other d.modules m j own empty_own (λ e. q (sym e)) ∙ S.owns j k ∙ sym (update_other O.owns m own j q)

  slot_after : (d : Device) (O : R.OneDevice) (m : ℕ) (own : Own) (ss : List ℕ) → Same rs d O → m < modules_of rs → own_fits rs m own ≡ true → (j : ℕ) → j < 16
      → OwnSlot rs (record { modules = set d.modules m own; supervisors = ss }) j ≡ true
  slot_after d O m own ss S l f j k = go (ℕ_discrete m j)
    where
      go : Dec (m ≡ j) → OwnSlot rs (record { modules = set d.modules m own; supervisors = ss }) j ≡ true
      go (yes e) =
          subst (λ (x : ℕ). OwnSlot rs (record { modules = set d.modules m own; supervisors = ss }) x ≡ true) e
          (ap₂ (λ (b : Bool) (o : Own). cond b (own_fits rs m o) (own_empty o)) (lt-ltb m (modules_of rs) l) (get_or-set_same d.modules m own empty_own (omega (arith, S.slots))) ∙ f)
      go (no q) = ap (λ (o : Own). cond (ltb j (modules_of rs)) (own_fits rs j o) (own_empty o)) (get_or-set_other d.modules m j own empty_own (λ e. q (sym e))) ∙ own_slot rs d S.fits j k

  -- a response or a tick
  pub reply_same : (d : Device) (O : R.OneDevice) (m : ℕ) (own : Own) → Same rs d O → m < modules_of rs → own_fits rs m own ≡ true
      → Same rs (with_own d m own) (record { owns = update O.owns m own; states = O.states })
  reply_same d O m own S l f = record {
    owns = own_after d O m own S l;
    states = S.states;
    slots = length-set d.modules m own ∙ S.slots;
    fits = fits_of rs (with_own d m own) (slot_after d O m own d.supervisors S l f) (state_slot rs d S.fits);
  }

  state_after_lem : (d : Device) (t : Option ℕ) (v : ℕ) → v < 32 → get_or (list_from (λ w. state_after_turn rs w (state_at d w) t) 0 32) v 0 ≡ state_after_turn rs v (state_at d v) t
  state_after_lem d t v l = from_at (λ w. state_after_turn rs w (state_at d w) t) 0 32 v 0 l ∙ ap (λ (w : ℕ). state_after_turn rs w (state_at d w) t) (let e : 0 + v ≡ v = omega arith in e)

  states_fit : (d : Device) (t : Option ℕ) (ms : List Own) → device_fits rs d ≡ true → (v : ℕ) → v < 32
      → StateSlot rs (record { modules = ms; supervisors = list_from (λ w. state_after_turn rs w (state_at d w) t) 0 32 }) v ≡ true
  states_fit d t ms h v l = ap (λ (x : ℕ). cond (ltb v (supervisors_of rs)) (supervisor_state rs v x) (eqb x 0)) (state_after_lem d t v l) ∙ go (ltb v (supervisors_of rs)) refl (state_slot rs d h v l)
    where
      go : (b : Bool) → ltb v (supervisors_of rs) ≡ b → cond b (supervisor_state rs v (state_at d v)) (eqb (state_at d v) 0) ≡ true
          → cond b (supervisor_state rs v (state_after_turn rs v (state_at d v) t)) (eqb (state_after_turn rs v (state_at d v) t) 0) ≡ true
      go true q k = led_fits v (state_at d v) t k
      go false q k = ap (λ (x : ℕ). eqb x 0) (led_stays v (state_at d v) t (ltb-false v (supervisors_of rs) q)) ∙ k

  -- a turn
  pub turn_same : (d : Device) (O : R.OneDevice) (m : ℕ) → Same rs d O → m < modules_of rs → turned rs d m ≡ R.device_turn (plan_of rs) O m
  unfolding turned R.device_turn plan_of
  turn_same d O m S l = ap₂ (turn_of rs m) (shown_same d O S (supervisors_of rs) (omega arith)) (S.owns m l)

  pub after_same : (d : Device) (O : R.OneDevice) (m : ℕ) (t : Turned) → Same rs d O → m < modules_of rs → own_fits rs m t.own ≡ true
      → Same rs (after_turn rs d m t) (record { owns = update O.owns m t.own; states = λ v. R.state_after (plan_of rs) v (O.states v) t.turn })
  unfolding after_turn
  after_same d O m t S l f = record {
    owns = own_after d O m t.own S l;
    states = λ v k. state_after_lem d t.turn v (omega arith) ∙ led_same v (state_at d v) t.turn ∙ ap (λ (x : ℕ). R.state_after (plan_of rs) v x t.turn) (S.states v k);
    slots = length-set d.modules m t.own ∙ S.slots;
    fits = fits_of rs _ (slot_after d O m t.own (list_from (λ w. state_after_turn rs w (state_at d w) t.turn) 0 32) S l f) (states_fit d t.turn (set d.modules m t.own) S.fits);
  }

  -- the calls on a state that fits
  number_none : (d : Device) (m : ℕ) → device_fits rs d ≡ true → m < modules_of rs → device_number rs d m ≡ 0
  number_none d m h l = ap₂ (λ (a b : Bool). cond a (cond b 0 11) 9) h (lt-ltb m (modules_of rs) l)

  pub turn_call : (v : Result ⊤ Refusal) (d : Device) (m : ℕ) → v ≡ Ok tt → device_fits rs d ≡ true → m < modules_of rs
      → turn_by v rs d m ≡ record { answer = Ok (turned rs d m).turn; device = after_turn rs d m (turned rs d m) }
  turn_call v d m a h l =
      ap (λ (w : Result ⊤ Refusal). turn_by w rs d m) a ∙ (unfold turn_by in (ap (turn_in rs d m) (number_none d m h l) ∙ (unfold turn_in in refl)))

  pub reply_call : (v : Result ⊤ Refusal) (d : Device) (m : ℕ) (r : Replied) → v ≡ Ok tt → device_fits rs d ≡ true → m < modules_of rs
      → reply_by v rs d m r ≡ record { answer = called_by r.reply; device = with_own d m r.own }
  reply_call v d m r a h l =
      ap (λ (w : Result ⊤ Refusal). reply_by w rs d m r) a ∙ (unfold reply_by in (ap (λ (n : ℕ). reply_in d m n r) (number_none d m h l) ∙ (unfold reply_in in refl)))
