-- Each way through a call, with every fact that the code is told as a premise.
use Rattle.std.specs.Prelude.{Some, None, Result, Ok, Err}
use Rattle.refusal.specs.Refusal.{refusal}
use Rattle.refusal.specs.declared.Refusal.{Refusal}
use Prim.Native.Nat.{ℕ, zero, suc}
use mathlib.Core.Path.{◌≡◌, refl, sym, ap, ap₂, ◌∙◌}
use mathlib.Core.List.{List}
use lib.ListN.{length}
use Rattle.records.specs.declared.Record.{Record}
use Rattle.reader.specs.Walk.{records_of}
use Rattle.rules.specs.Check.{verdict_of}
use Rattle.places.specs.declared.Places.{Places}
use Rattle.places.specs.Places.{records_by}
use Rattle.checker.specs.Examined.{examined_of}
use Rattle.checker.proofs.Examining.{call_by, refused_call}
use Rattle.modules.specs.declared.Turned.{Turned}
use Rattle.modules.specs.declared.Replied.{Replied}
use Rattle.device_states.specs.declared.Device.{Device}
use Rattle.device.specs.declared.DeviceTurned.{DeviceTurned}
use Rattle.device.specs.declared.DeviceCalled.{DeviceCalled}
use Rattle.words.specs.Lists.{list_from}
use Rattle.modules.specs.Procedure.{respond_of, tick_of}
use Rattle.water.specs.declared.Flow.{Flow}
use Rattle.device_states.specs.States.{own_at, state_of, state_after_turn, with_own, states_after, empty_device, start_device}
use Rattle.device.specs.Device.{turned, after_turn, device_number, turn_refused, turn_in, turn_by, turn_call, call_refused, reply_in, reply_by, respond_call, tick_call, start_by, start_call}
use Rattle.words.proofs.Lists.{same_slots}

-- ---- the state after a turn

module _ (rs : List Record) (d : Device) (m : ℕ) (t : Turned) {w : Device} where
  pub after_event : {l : List ℕ} {e : ℕ} → w ≡ with_own d m t.own → t.turn ≡ Some e → l ≡ states_after rs d.supervisors (Some e)
      → record { modules = w.modules; supervisors = l } ≡ after_turn rs d m t
  unfolding after_turn
  after_event a q h = ap₂ (λ (x : Device) (l : List ℕ). record { modules = x.modules; supervisors = l }) a (h ∙ ap (states_after rs d.supervisors) (sym q))

  -- without a firing the supervisors stay
  pub after_none : w ≡ with_own d m t.own → t.turn ≡ None → length d.supervisors ≡ 32 → w ≡ after_turn rs d m t
  unfolding after_turn state_after_turn
  after_none a q h = a ∙ ap (λ (l : List ℕ). record { modules = (with_own d m t.own).modules; supervisors = l }) (sym (ap (states_after rs d.supervisors) q ∙ same))
    where
      same : list_from (state_of d.supervisors) 0 32 ≡ d.supervisors
      same = ap (list_from (state_of d.supervisors) 0) (sym h) ∙ same_slots 0 d.supervisors

-- ---- the number of a call

module _ (rs : List Record) (d : Device) (m n : ℕ) (e : n ≡ device_number rs d m) where
  pub turn_taken_lem : {t : Turned} {next : Device} → n ≡ 0 → t ≡ turned rs d m → next ≡ after_turn rs d m t
      → record { answer = Ok t.turn; device = next } ≡ turn_in rs d m (device_number rs d m)
  unfolding turn_in
  turn_taken_lem {t = t} z g h =
      ap (λ (x : Device). record { answer = Ok t.turn; device = x }) h
      ∙ ap (λ (x : Turned). record { answer = Ok x.turn; device = after_turn rs d m x }) g
      ∙ ap (turn_in rs d m) (sym z ∙ e)

  pub turn_numbered : (n ≡ 0 → ⊥) → turn_refused d (refusal n 0) ≡ turn_in rs d m (device_number rs d m)
  unfolding turn_in
  turn_numbered z = go n z ∙ ap (turn_in rs d m) e
    where
      go : (k : ℕ) → (k ≡ 0 → ⊥) → turn_refused d (refusal k 0) ≡ turn_in rs d m k
      go zero q = absurd (q refl)
      go (suc k) q = refl

  pub reply_taken : {r x : Replied} {c : DeviceCalled} → n ≡ 0 → r ≡ x → c ≡ reply_in d m 0 r → c ≡ reply_in d m (device_number rs d m) x
  reply_taken z g h = h ∙ ap₂ (λ (k : ℕ) (y : Replied). reply_in d m k y) (sym z ∙ e) g

  pub reply_numbered : (x : Replied) {c : DeviceCalled} → (n ≡ 0 → ⊥) → c ≡ call_refused d (refusal n 0) → c ≡ reply_in d m (device_number rs d m) x
  unfolding reply_in
  reply_numbered x z g = g ∙ go n z ∙ ap (λ (k : ℕ). reply_in d m k x) e
    where
      go : (k : ℕ) → (k ≡ 0 → ⊥) → call_refused d (refusal k 0) ≡ reply_in d m k x
      go zero q = absurd (q refl)
      go (suc k) q = refl

-- ---- the image as it was examined

module _ (s : List ℕ) {v : Result Places Refusal} (e : v ≡ examined_of s) where
  module _ (d : Device) (m : ℕ) where
    pub turn_accepted : {p : Places} {c : DeviceTurned} → v ≡ Ok p → c ≡ turn_in (records_by s p) d m (device_number (records_by s p) d m) → c ≡ turn_call s d m
    unfolding turn_by
    turn_accepted q g = g ∙ call_by s e (λ w rs. turn_by w rs d m) q

    pub turn_refused_lem : {x : Refusal} → v ≡ Err x → turn_refused d x ≡ turn_call s d m
    unfolding turn_by
    turn_refused_lem q = refused_call s e (λ w rs. turn_by w rs d m) q

    pub respond_accepted : (k : ℕ) {p : Places} {c : DeviceCalled} → v ≡ Ok p
        → c ≡ reply_in d m (device_number (records_by s p) d m) (respond_of (records_by s p) m k (own_at d m)) → c ≡ respond_call s d m k
    unfolding reply_by
    respond_accepted k q g = g ∙ call_by s e (λ w rs. reply_by w rs d m (respond_of rs m k (own_at d m))) q

    pub tick_accepted : (f : Flow) {p : Places} {c : DeviceCalled} → v ≡ Ok p
        → c ≡ reply_in d m (device_number (records_by s p) d m) (tick_of (records_by s p) f (own_at d m)) → c ≡ tick_call s d m f
    unfolding reply_by
    tick_accepted f q g = g ∙ call_by s e (λ w rs. reply_by w rs d m (tick_of rs f (own_at d m))) q

    pub reply_refused : (x : Replied) {y : Refusal} {c : DeviceCalled} → v ≡ Err y → c ≡ call_refused d y → c ≡ reply_by (verdict_of s) (records_of s) d m x
    unfolding reply_by
    reply_refused x q g = g ∙ refused_call s e (λ w rs. reply_by w rs d m x) q

  pub start_accepted : {p : Places} {d : Device} → v ≡ Ok p → d ≡ start_device (records_by s p) → record { answer = Ok tt; device = d } ≡ start_call s
  unfolding start_by
  start_accepted q g = ap (λ (x : Device). record { answer = Ok tt; device = x }) g ∙ call_by s e start_by q

  pub start_refused : {x : Refusal} {d : Device} {c : DeviceCalled} → v ≡ Err x → d ≡ empty_device → c ≡ call_refused d x → c ≡ start_call s
  unfolding start_by
  start_refused {x = x} q g h = h ∙ ap (λ (y : Device). call_refused y x) g ∙ refused_call s e start_by q
