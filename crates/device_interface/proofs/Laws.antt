-- The calls over lent bytes, from what the code is told.
use Rattle.std.specs.Prelude.{Some, None, Result, Ok, Err, ⊤}
use Rattle.refusal.specs.Refusal.{refused_number}
use Rattle.refusal.specs.declared.Refusal.{Refusal}
use mathlib.Core.Path.{◌≡◌, refl, sym, ap, ap₂, ◌∙◌, subst}
use mathlib.Core.List.{List, []}
use mathlib.Core.Bool.{Bool, true, false, cond}
use Prim.Native.Nat.{ℕ, ◌≤◌, ◌<◌}
use native.Mathlib.Omega.{arith}
use lib.ListN.{length}
use lib.Dec.{eqb, ltb}
use lib.Ieee.{Float}
use borrow.Author.Tests.{lt-ltb, le-ltb, le-leb, ne_eqb}
use Rattle.records.specs.declared.Record.{Record}
use Rattle.roundtrip.specs.Fits.{Bytes}
use Rattle.reader.specs.Walk.{records_of}
use Rattle.rules.specs.LookUp.{modules_of, supervisors_of}
use Rattle.rules.specs.Check.{verdict_of}
use Rattle.places.specs.declared.Places.{Places}
use Rattle.places.specs.Places.{records_by}
use Rattle.checker.specs.Examined.{examined_of}
use Rattle.checker.proofs.Examining.{refused_is}
use Rattle.refusals.specs.Table.{check}
use Rattle.refusals.proofs.Table.{is_refusal}
use Rattle.refusals.proofs.Checked.{checked}
use Rattle.messages.specs.Message.{put_at, written}
use Rattle.water.specs.declared.Flow.{Flow}
use Rattle.modules.specs.Procedure.{called_by, respond_of, tick_of}
use Rattle.modules.specs.Turn.{turn_of}
use Rattle.modules.specs.declared.Own.{Own}
use Rattle.modules.specs.declared.Turned.{Turned}
use Rattle.modules.specs.declared.Replied.{Replied}
use Rattle.device.specs.Device.{turned, after_turn, device_number, turn_in, reply_in, reply_by, start_call, tick_call}
use Rattle.device.proofs.Calls.{turn_taken_lem, reply_taken, turn_accepted, respond_accepted, tick_accepted, reply_refused, turn_numbered as turns-numbered, reply_numbered as replies-numbered, turn_refused_lem as turns-refused, after_event as turn-event, after_none as turn-none}
use Rattle.device_states.specs.declared.Device.{Device}
use Rattle.device_states.specs.States.{own_at, state_of, device_fits, shown_by, state_after_turn, states_after, with_own}
use Rattle.words.proofs.Lists.{from_length}
use Rattle.device.specs.declared.DeviceCalled.{DeviceCalled}
use Rattle.device.specs.declared.DeviceTurned.{DeviceTurned}
use Rattle.device_bytes.specs.Device as bytes
use Rattle.device_bytes.specs.Device.{slots_size, device_size, device_bytes, device_put, is_device, device_at, device_of, states_in, own_in, slot_put}
use Rattle.device_bytes.proofs.InPlace.{device_moved, device_kept, fits_stands, states_taken, own_taken}
use Rattle.packing.specs.Answer.{Answered, packed, called_answer, turning_answer, lent_after, start_answer}
use Rattle.packing.proofs.Accepted.{after_yes, after_no}
use Rattle.packing.specs.Flow.{flow_of}
use Rattle.device_interface.specs.Calls.{called_on, turned_on, start_bytes, turn_bytes, respond_bytes, tick_bytes}

-- ---- the number of a call

module _ (rs : List Record) (s : List ℕ) (m : ℕ) where
  abbrev D : Device
  D = device_of s

  module _ {x : Bool} (f : x ≡ device_fits rs D) where
    pub number_none : {n : ℕ} → x ≡ true → n ≡ modules_of rs → m < n → 0 ≡ device_number rs D m
    number_none {n} t w h = simp (sym f ∙ t, ap (ltb m) (sym w) ∙ lt-ltb m n h)

    pub number_eleven : {n : ℕ} → x ≡ true → n ≡ modules_of rs → n ≤ m → 11 ≡ device_number rs D m
    number_eleven {n} t w h = simp (sym f ∙ t, ap (ltb m) (sym w) ∙ le-ltb m n h)

    pub number_nine : x ≡ false → 9 ≡ device_number rs D m
    number_nine t = simp (sym f ∙ t)

  module _ {n : ℕ} (e : n ≡ device_number rs D m) where
    fits_one : n ≡ 0 → device_fits rs D ≡ true
    fits_one z = go (device_fits rs D) refl
      where
        go : (t : Bool) → device_fits rs D ≡ t → t ≡ true
        go true w = refl
        go false w = let nine : ◌≡◌ {A = ℕ} 0 9 = sym z ∙ e ∙ simp w in absurd (omega (arith, nine))

    pub number_stands : n ≡ 0 → is_device s ≡ true
    number_stands z = fits_stands rs s refl (fits_one z)

    pub turn_numbered : {r : ℕ} → (n ≡ 0 → ⊥) → r ≡ packed n 0 0 0 → Answered (turned_on (turn_in rs D m (device_number rs D m)) s) r s []
    turn_numbered {r} z w =
        subst (λ (c : DeviceTurned). Answered (turned_on c s) r s []) (turns-numbered rs D m n e z)
        (record { answer = w ∙ (unfold turning_answer in refl); state = after_no n (device_put D s) s refl (ne_eqb n 0 z); buffer = refl })

    pub reply_numbered : (x : Replied) {r : ℕ} → (n ≡ 0 → ⊥) → r ≡ packed n 0 0 0 → Answered (called_on (reply_in D m (device_number rs D m) x) s) r s []
    reply_numbered x {r} z w =
        subst (λ (c : DeviceCalled). Answered (called_on c s) r s []) (replies-numbered rs D m n e x z refl)
        (record { answer = w ∙ (unfold called_answer in refl); state = after_no n (device_put D s) s refl (ne_eqb n 0 z); buffer = refl })

-- ---- the state after a call, from bytes that stand for a device

stands_at : (s : List ℕ) → is_device s ≡ true → device_at s ≡ device_of s
unfolding device_of
stands_at s d = simp d

module _ (s : List ℕ) (m : ℕ) (g : Bytes s) (d : is_device s ≡ true) where
  module _ (rs : List Record) (t : Turned) (q : length t.own.queue ≡ 8) {s1 : List ℕ} (w : s1 ≡ slot_put t.own m s) where
    pub after_event : {s2 l states : List ℕ} {e : ℕ} → t.turn ≡ Some e → states ≡ (device_at s).supervisors → l ≡ states_after rs states (Some e) → s2 ≡ put_at l slots_size s1 → s2 ≡ device_put (after_turn rs (device_at s) m t) s
    after_event {l = l} {states} {e} x v h k =
        let is : l ≡ states_after rs (device_at s).supervisors (Some e) = h ∙ ap (λ (y : List ℕ). states_after rs y (Some e)) v in
        let n : length l ≡ 32 = ap length is ∙ from_length (λ u. state_after_turn rs u (state_of (device_at s).supervisors u) (Some e)) 0 32 in
        k ∙ ap (put_at l slots_size) w ∙ sym (device_moved s g d m t.own q l n)
        ∙ ap (λ (y : Device). device_put y s) (turn-event rs (device_at s) m t refl x is)

    pub after_none : t.turn ≡ None → s1 ≡ device_put (after_turn rs (device_at s) m t) s
    after_none o = w ∙ sym (device_kept s g d m t.own q) ∙ ap (λ (y : Device). device_put y s) (turn-none rs (device_at s) m t refl o (from_length (bytes.state_byte s) 0 32))

  module _ (x : Replied) {a : Result ⊤ Refusal} (e : a ≡ called_by x.reply) {t : Bool} (z : t ≡ eqb (refused_number a) 0) {r : ℕ} (v : r ≡ called_answer a) where
    same : t ≡ eqb (refused_number (called_by x.reply)) 0
    same = z ∙ ap (λ (c : Result ⊤ Refusal). eqb (refused_number c) 0) e

    pub keep_yes : {s1 : List ℕ} → length x.own.queue ≡ 8 → t ≡ true → s1 ≡ slot_put x.own m s → Answered (called_on (reply_in (device_at s) m 0 x) s) r s1 []
    unfolding reply_in
    keep_yes q h w =
        record {
          answer = v ∙ ap called_answer e;
          state = w ∙ sym (device_kept s g d m x.own q) ∙ after_yes (refused_number (called_by x.reply)) (device_put (with_own (device_at s) m x.own) s) s same h;
          buffer = refl;
        }

    pub keep_no : t ≡ false → Answered (called_on (reply_in (device_at s) m 0 x) s) r s []
    unfolding reply_in
    keep_no h =
        record {
          answer = v ∙ ap called_answer e;
          state = after_no (refused_number (called_by x.reply)) (device_put (with_own (device_at s) m x.own) s) s same h;
          buffer = refl;
        }

-- ---- a call of a plan that is accepted

module _ (rs : List Record) (s : List ℕ) (m : ℕ) {n : ℕ} (e : n ≡ device_number rs (device_of s) m) (z : n ≡ 0) where
  stands : is_device s ≡ true
  stands = number_stands rs s m e z

  is_at : device_at s ≡ device_of s
  is_at = stands_at s stands

  pub states_read : {states : List ℕ} → states ≡ states_in s → states ≡ (device_at s).supervisors
  states_read = states_taken s stands

  pub turn_done : {states s1 : List ℕ} {own : Own} {t : Turned} {r : ℕ} → states ≡ states_in s → own ≡ own_in s m
      → t ≡ turn_of rs m (shown_by rs (state_of states) (supervisors_of rs)) own → s1 ≡ device_put (after_turn rs (device_at s) m t) s → r ≡ turning_answer (Ok t.turn)
      → Answered (turned_on (turn_in rs (device_of s) m (device_number rs (device_of s) m)) s) r s1 []
  turn_done {states} {s1} {own} {t} {r} u v w k a =
      let is : t ≡ turned rs (device_of s) m =
      w ∙ ap₂ (λ (x : List ℕ) (y : Own). turn_of rs m (shown_by rs (state_of x) (supervisors_of rs)) y) (states_read u) (own_taken s stands m v) ∙ ap (λ (y : Device). turn_of rs m (shown_by rs (state_of y.supervisors) (supervisors_of rs)) (own_at y m)) is_at ∙ (unfold turned in refl) in
      subst (λ (c : DeviceTurned). Answered (turned_on c s) r s1 []) (turn_taken_lem rs (device_of s) m n e z is (ap (λ (y : Device). after_turn rs y m t) is_at))
      (record { answer = a; state = k ∙ (unfold lent_after in refl); buffer = refl })

  pub reply_done : {x y : Replied} {r : ℕ} {s1 : List ℕ} → x ≡ y → Answered (called_on (reply_in (device_at s) m 0 x) s) r s1 [] → Answered (called_on (reply_in (device_of s) m (device_number rs (device_of s) m) y) s) r s1 []
  reply_done {x} {y} {r} {s1} w a =
      subst (λ (c : DeviceCalled). Answered (called_on c s) r s1 []) (reply_taken rs (device_of s) m n e z w (ap (λ (v : Device). reply_in v m 0 x) is_at)) a

  pub respond_own : (k : ℕ) {own : Own} {x : Replied} → own ≡ own_in s m → x ≡ respond_of rs m k own → x ≡ respond_of rs m k (own_at (device_of s) m)
  respond_own k v w = w ∙ ap (respond_of rs m k) (own_taken s stands m v ∙ ap (λ (y : Device). own_at y m) is_at)

  pub tick_own : (f : Flow) {own : Own} {x : Replied} → own ≡ own_in s m → x ≡ tick_of rs f own → x ≡ tick_of rs f (own_at (device_of s) m)
  tick_own f v w = w ∙ ap (tick_of rs f) (own_taken s stands m v ∙ ap (λ (y : Device). own_at y m) is_at)

-- ---- the image as it was examined

module _ (image s : List ℕ) (m : ℕ) {v : Result Places Refusal} (e : v ≡ examined_of image) where
  abbrev By : Places → ℕ
  By p = device_number (records_by image p) (device_of s) m

  pub turn_by_lem : {p : Places} {s1 : List ℕ} {r : ℕ} → v ≡ Ok p → Answered (turned_on (turn_in (records_by image p) (device_of s) m (By p)) s) r s1 [] → Answered (turn_bytes image s m) r s1 []
  unfolding turn_bytes
  turn_by_lem {p} {s1} {r} q a = subst (λ (c : DeviceTurned). Answered (turned_on c s) r s1 []) (turn_accepted image e (device_of s) m q refl) a

  pub respond_by : (k : ℕ) {p : Places} {s1 : List ℕ} {r : ℕ} → v ≡ Ok p
      → Answered (called_on (reply_in (device_of s) m (By p) (respond_of (records_by image p) m k (own_at (device_of s) m))) s) r s1 [] → Answered (respond_bytes image s m k) r s1 []
  unfolding respond_bytes
  respond_by k {p} {s1} {r} q a = subst (λ (c : DeviceCalled). Answered (called_on c s) r s1 []) (respond_accepted image e (device_of s) m k q refl) a

  pub tick_by : (sensor : ℕ) (litres : Float) {f : Flow} {p : Places} {s1 : List ℕ} {r : ℕ} → f ≡ flow_of sensor litres → v ≡ Ok p
      → Answered (called_on (reply_in (device_of s) m (By p) (tick_of (records_by image p) f (own_at (device_of s) m))) s) r s1 [] → Answered (tick_bytes image s m sensor litres) r s1 []
  unfolding tick_bytes
  tick_by sensor litres {f} {p} {s1} {r} w q a =
      subst (λ (c : DeviceCalled). Answered (called_on c s) r s1 []) (tick_accepted image e (device_of s) m f q refl ∙ ap (tick_call image (device_of s) m) w) a

  -- a refused image, whose number is not 0
  refused_not : {x : Refusal} → v ≡ Err x → eqb x.number 0 ≡ false
  refused_not {x} q = ne_eqb x.number 0 (is_refusal check x.number ((checked image).numbered x (refused_is image e q)))

  module _ {x : Refusal} {r : ℕ} (q : v ≡ Err x) (w : r ≡ packed x.number 0 0 x.offset) where
    pub turn_refused_lem : Answered (turn_bytes image s m) r s []
    unfolding turn_bytes
    turn_refused_lem =
        subst (λ (c : DeviceTurned). Answered (turned_on c s) r s []) (turns-refused image e (device_of s) m q)
        (record { answer = w ∙ (unfold turning_answer in refl); state = after_no x.number (device_put (device_of s) s) s refl (refused_not q); buffer = refl })

    replied_refused : (y : Replied) → Answered (called_on (reply_by (verdict_of image) (records_of image) (device_of s) m y) s) r s []
    replied_refused y =
        subst (λ (c : DeviceCalled). Answered (called_on c s) r s []) (reply_refused image e (device_of s) m y q refl)
        (record { answer = w ∙ (unfold called_answer in refl); state = after_no x.number (device_put (device_of s) s) s refl (refused_not q); buffer = refl })

    pub respond_refused : (k : ℕ) → Answered (respond_bytes image s m k) r s []
    unfolding respond_bytes
    respond_refused k = replied_refused (respond_of (records_of image) m k (own_at (device_of s) m))

    pub tick_refused : (sensor : ℕ) (litres : Float) → Answered (tick_bytes image s m sensor litres) r s []
    unfolding tick_bytes
    tick_refused sensor litres = replied_refused (tick_of (records_of image) (flow_of sensor litres) (own_at (device_of s) m))

-- ---- a start

module _ (c : DeviceCalled) (b : List ℕ) {r : ℕ} where
  pub give_short : c.answer ≡ Ok tt → length b < device_size → r ≡ packed 15 0 0 0 → Answered (start_answer device_size c.answer (device_bytes c.device) b) r [] b
  unfolding start_answer
  give_short e h w = rw e (simp (lt-ltb (length b) device_size h) (record { answer = w; state = refl; buffer = refl }))

  pub give_done : {after : List ℕ} → c.answer ≡ Ok tt → device_size ≤ length b → after ≡ device_put c.device b → r ≡ packed 0 0 0 device_size
      → Answered (start_answer device_size c.answer (device_bytes c.device) b) r [] after
  unfolding start_answer device_put
  give_done e h w z =
      let put : device_put c.device b ≡ written (device_bytes c.device) b = ap (λ (y : Bool). cond y (written (device_bytes c.device) b) b) (le-leb device_size (length b) h) in
      rw e (simp (le-ltb (length b) device_size h) (record { answer = z; state = refl; buffer = w ∙ put }))

  pub give_refused : {e : Refusal} → c.answer ≡ Err e → r ≡ packed e.number 0 0 e.offset → Answered (start_answer device_size c.answer (device_bytes c.device) b) r [] b
  unfolding start_answer
  give_refused e w = rw e (record { answer = w; state = refl; buffer = refl })

module _ (image : List ℕ) {r : ℕ} {after : List ℕ} where
  pub start_by : (b : List ℕ) {c : DeviceCalled} → c ≡ start_call image → Answered (start_answer device_size c.answer (device_bytes c.device) b) r [] after → Answered (start_bytes image b) r [] after
  unfolding start_bytes
  start_by b e a = subst (λ (c : DeviceCalled). Answered (start_answer device_size c.answer (device_bytes c.device) b) r [] after) e a
