-- Each way through a line, with every fact that the code is told as a premise.
use Rattle.std.specs.Prelude.{Option, Some, None, Result, Ok, Err, ⊤}
use Rattle.refusal.specs.Refusal.{refusal}
use Rattle.refusal.specs.declared.Refusal.{Refusal}
use Prim.Native.Nat.{ℕ, min, ◌+◌, ◌≤◌}
use native.Mathlib.Omega.{arith}
use mathlib.Core.Path.{◌≡◌, refl, sym, ap, ap₂, ◌∙◌, subst}
use mathlib.Core.List.{List, [], ◌++◌}
use mathlib.Core.Bool.{Bool, true, false, cond}
use lib.ListN.{length, take, drop, replicate, length-append}
use lib.Seq.{take-append_seam, length-take-le}
use lib.Dec.{leb}
use borrow.Author.Tests.{le-ltb}
use lib.Ieee.{Float}
use Rattle.words.proofs.Laws.{length_word}
use Rattle.litres.specs.Eighths.{eighths}
use Rattle.water.specs.declared.Flow.{Flow}
use Rattle.water.specs.declared.Flow.TheVariants.{Litres, NoSensor}
use Rattle.messages.specs.Message.{permit_size, buffer_length, message_bytes, put_at}
use Rattle.messages.specs.declared.Message.{Message}
use Rattle.messages.specs.declared.Message.TheVariants.{Bid, Permit, Release}
use Rattle.messages.proofs.Writing.{put_start}
use Rattle.device.specs.declared.DeviceTurned.{DeviceTurned}
use Rattle.device.specs.declared.DeviceCalled.{DeviceCalled}
use Rattle.device.specs.Device.{turn_call, respond_call, tick_call}
use Rattle.permits.specs.declared.Module.{Module}
use Rattle.permits.specs.declared.ModuleCalled.{ModuleCalled}
use Rattle.permits.specs.declared.ModuleStepped.{ModuleStepped}
use Rattle.permits.specs.declared.Supervisor.{Supervisor}
use Rattle.permits.specs.declared.SupervisorCalled.{SupervisorCalled}
use Rattle.permits.specs.declared.SupervisorStepped.{SupervisorStepped}
use Rattle.permits.specs.declared.Stepped.{Stepped}
use Rattle.permits.specs.declared.Stepped.TheVariants.{Turns, Bids, Waits}
use Rattle.permits.specs.declared.Served.{Served}
use Rattle.permits.specs.declared.Served.TheVariants.{Sends, Waits as ServedWaits}
use Rattle.permits.specs.Module.{module_step, module_deliver, module_respond, module_tick}
use Rattle.permits.specs.Supervisor.{supervisor_step, supervisor_deliver}
use Rattle.permits.specs.Step.{Gave}
use Rattle.wire.specs.declared.Wire.{Wire}
use Rattle.wire.specs.Wire.{under, with_messages, nth_of, without}
use Rattle.acts.specs.declared.Act.{Act}
use Rattle.acts.specs.declared.Act.TheVariants.{Module as ModuleLine, Supervisor as SupervisorLine, Delivery as DeliveryLine, Response as ResponseLine, Tick as TickLine, Unfitted as UnfittedLine, Misshapen as MisshapenLine}
use Rattle.parties.specs.declared.Parties.{Parties}
use Rattle.parties.specs.Parties.{module_at, supervisor_at, with_module, with_supervisor, with_wire, with_device}
use Rattle.simulation.specs.declared.Answer.TheVariants.{Module as ModuleGot, Supervisor as SupervisorGot, Delivery, NoMessage, Response, Tick, Misshapen}
use Rattle.simulation.specs.declared.Played.{Played}
use Rattle.simulation.specs.Play.{read, releases_of, lent_for, after_step, module_stepped, after_serving, supervisor_stepped, wire_after, to_module, to_supervisor, delivered_by, delivered, responded, ticked, played}
use Rattle.simulation.specs.Numbers.{answer_number, delivery_number, call_number, PlayedAs}
use Rattle.simulation.proofs.Sending.{part}

-- ---- a buffer's first bytes

pub part_count : (b : List ℕ) (n : ℕ) {k : ℕ} → k ≡ min n (length b) → k ≡ length (take k b)
part_count b n {k} e = sym (length-take-le k b (omega arith))

-- ---- the state after a step

module _ (image : List ℕ) (p : Parties) (m : ℕ) (b : List ℕ) {a : Result Stepped Refusal} where
  pub step_turned : {s : Stepped} {t : Option ℕ} {n k : ℕ} {w : Wire} {d : DeviceTurned} {q r : Parties} → a ≡ Ok s → s ≡ Turns t n → k ≡ min n (length b) → w ≡ with_messages p.wire (releases_of (take k b))
      → d ≡ turn_call image p.device m → q ≡ with_wire p w → r ≡ with_device q d.device → r ≡ after_step image p m a b
  unfolding after_step
  step_turned {n = n} e u f g h i j =
      j
      ∙ ap₂ (λ (x : Parties) (y : DeviceTurned). with_device x y.device) (i ∙ ap (with_wire p) (g ∙ ap (λ (l : List ℕ). with_messages p.wire (releases_of l)) (part b n f))) h
      ∙ ap (λ (x : Result Stepped Refusal). after_step image p m x b) (sym (e ∙ ap Ok u))

  pub step_bids : {s : Stepped} {v n k : ℕ} {w : Wire} {r : Parties} → a ≡ Ok s → s ≡ Bids v n → k ≡ min n (length b) → w ≡ with_messages p.wire (read (take k b)) → r ≡ with_wire p w → r ≡ after_step image p m a b
  unfolding after_step
  step_bids {n = n} e u f g i =
      i ∙ ap (with_wire p) (g ∙ ap (λ (l : List ℕ). with_messages p.wire (read l)) (part b n f)) ∙ ap (λ (x : Result Stepped Refusal). after_step image p m x b) (sym (e ∙ ap Ok u))

  pub step_waits : {s : Stepped} → a ≡ Ok s → s ≡ Waits → p ≡ after_step image p m a b
  unfolding after_step
  step_waits e u = ap (λ (x : Result Stepped Refusal). after_step image p m x b) (sym (e ∙ ap Ok u))

  pub step_refused_lem : {e : Refusal} → a ≡ Err e → p ≡ after_step image p m a b
  unfolding after_step
  step_refused_lem e = ap (λ (x : Result Stepped Refusal). after_step image p m x b) (sym e)

module _ (p : Parties) (b : List ℕ) {a : Result Served Refusal} where
  pub serving_sends : {s : Served} {m n k : ℕ} {w : Wire} {r : Parties} → a ≡ Ok s → s ≡ Sends m n → k ≡ min n (length b) → w ≡ with_messages p.wire (read (take k b)) → r ≡ with_wire p w → r ≡ after_serving p a b
  unfolding after_serving
  serving_sends {n = n} e u f g i =
      i ∙ ap (with_wire p) (g ∙ ap (λ (l : List ℕ). with_messages p.wire (read l)) (part b n f)) ∙ ap (λ (x : Result Served Refusal). after_serving p x b) (sym (e ∙ ap Ok u))

  pub serving_waits : {s : Served} → a ≡ Ok s → s ≡ ServedWaits → p ≡ after_serving p a b
  unfolding after_serving
  serving_waits e u = ap (λ (x : Result Served Refusal). after_serving p x b) (sym (e ∙ ap Ok u))

  pub serving_refused : {e : Refusal} → a ≡ Err e → p ≡ after_serving p a b
  unfolding after_serving
  serving_refused e = ap (λ (x : Result Served Refusal). after_serving p x b) (sym e)

-- ---- steps

pub module_stepped_lem : (image : List ℕ) (p : Parties) (m : ℕ) (b : List ℕ) {x : Module} {s : ModuleStepped} {after : List ℕ} {q r : Parties} → x ≡ module_at p m
    → Gave (module_step image m x b) s.answer s.state after → q ≡ with_module p m s.state → r ≡ after_step image q m s.answer after
    → record { answer = ModuleGot m s.answer; play = r } ≡ module_stepped image p m b
unfolding module_stepped
module_stepped_lem image p m b {s = s} {after} e g h i =
    let gave : Gave (module_step image m (module_at p m) b) s.answer s.state after = subst (λ (y : Module). Gave (module_step image m y b) s.answer s.state after) e g in
    let q : with_module p m s.state ≡ with_module p m (module_step image m (module_at p m) b).state = ap (with_module p m) gave.state in
    (λ j.
    record {
      answer = ModuleGot m (gave.answer j);
      play = (i ∙ (λ k. after_step image ((h ∙ q) k) m (gave.answer k) (gave.buffer k))) j;
    })

pub supervisor_stepped_lem : (image : List ℕ) (p : Parties) (v : ℕ) (b : List ℕ) {y : Supervisor} {s : SupervisorStepped} {after : List ℕ} {q r : Parties} → y ≡ supervisor_at p v
    → Gave (supervisor_step image v y b) s.answer s.state after → q ≡ with_supervisor p v s.state → r ≡ after_serving q s.answer after
    → record { answer = SupervisorGot v s.answer; play = r } ≡ supervisor_stepped image p v b
unfolding supervisor_stepped
supervisor_stepped_lem image p v b {s = s} {after} e g h i =
    let gave : Gave (supervisor_step image v (supervisor_at p v) b) s.answer s.state after = subst (λ (y : Supervisor). Gave (supervisor_step image v y b) s.answer s.state after) e g in
    let q : with_supervisor p v s.state ≡ with_supervisor p v (supervisor_step image v (supervisor_at p v) b).state = ap (with_supervisor p v) gave.state in
    (λ j.
    record {
      answer = SupervisorGot v (gave.answer j);
      play = (i ∙ (λ k. after_serving ((h ∙ q) k) (gave.answer k) (gave.buffer k))) j;
    })

-- the buffer lent
module _ (w : Wire) (n : ℕ) {t : Bool} (e : t ≡ leb (w.count + n) 96) where
  pub lent : t ≡ true → replicate buffer_length 0 ≡ lent_for w n
  unfolding lent_for
  lent q = ap (λ (x : Bool). cond x (replicate buffer_length 0) []) (sym q ∙ e)

  pub unlent : t ≡ false → [] ≡ lent_for w n
  unfolding lent_for
  unlent q = ap (λ (x : Bool). cond x (replicate buffer_length 0) []) (sym q ∙ e)

-- ---- deliveries

module _ (w : Wire) (k : ℕ) {a : Result ⊤ Refusal} where
  pub wire_taken : {r : Wire} → a ≡ Ok tt → r ≡ without w k → r ≡ wire_after w k a
  unfolding wire_after
  wire_taken e h = h ∙ ap (wire_after w k) (sym e)

  pub wire_kept : {e : Refusal} → a ≡ Err e → w ≡ wire_after w k a
  unfolding wire_after
  wire_kept e = ap (wire_after w k) (sym e)

module _ (image : List ℕ) (p : Parties) (k : ℕ) (g : Message) {bytes : List ℕ} (f : bytes ≡ message_bytes g) {w : Wire} {q r : Parties} where
  pub to_module_by : (m : ℕ) {x : Module} {c : ModuleCalled} → x ≡ module_at p m → c ≡ module_deliver image m x bytes → w ≡ wire_after p.wire k c.answer → q ≡ with_module p m c.state
      → r ≡ with_wire q w → record { answer = Delivery g c.answer; play = r } ≡ to_module image p k m g
  unfolding to_module
  to_module_by m {c = c} e h i j l =
      ap (λ (y : Parties). record { answer = Delivery g c.answer; play = y }) (l ∙ ap₂ with_wire j i)
      ∙ ap (λ (y : ModuleCalled). record { answer = Delivery g y.answer; play = with_wire (with_module p m y.state) (wire_after p.wire k y.answer) })
      (h ∙ ap₂ (λ (y : Module) (z : List ℕ). module_deliver image m y z) e f)

  pub to_supervisor_by : (v : ℕ) {y : Supervisor} {c : SupervisorCalled} → y ≡ supervisor_at p v → c ≡ supervisor_deliver image v y bytes → w ≡ wire_after p.wire k c.answer
      → q ≡ with_supervisor p v c.state → r ≡ with_wire q w → record { answer = Delivery g c.answer; play = r } ≡ to_supervisor image p k v g
  unfolding to_supervisor
  to_supervisor_by v {c = c} e h i j l =
      ap (λ (x : Parties). record { answer = Delivery g c.answer; play = x }) (l ∙ ap₂ with_wire j i)
      ∙ ap (λ (x : SupervisorCalled). record { answer = Delivery g x.answer; play = with_wire (with_supervisor p v x.state) (wire_after p.wire k x.answer) })
      (h ∙ ap₂ (λ (x : Supervisor) (z : List ℕ). supervisor_deliver image v x z) e f)

pub bytes_as : (bytes : List ℕ) {g h : Message} → bytes ≡ message_bytes g → g ≡ h → bytes ≡ message_bytes h
bytes_as bytes f e = f ∙ ap message_bytes e

module _ (image : List ℕ) (p : Parties) (k : ℕ) {g : Message} {r : Played} where
  pub party_bid : {m v : ℕ} → g ≡ Bid m v → r ≡ to_supervisor image p k v (Bid m v) → r ≡ delivered_by image p k (Some g)
  unfolding delivered_by
  party_bid e h = h ∙ ap (λ (x : Message). delivered_by image p k (Some x)) (sym e)

  pub party_permit : {v m x : ℕ} → g ≡ Permit v m x → r ≡ to_module image p k m (Permit v m x) → r ≡ delivered_by image p k (Some g)
  unfolding delivered_by
  party_permit e h = h ∙ ap (λ (y : Message). delivered_by image p k (Some y)) (sym e)

  pub party_release : {m v x : ℕ} → g ≡ Release m v x → r ≡ to_supervisor image p k v (Release m v x) → r ≡ delivered_by image p k (Some g)
  unfolding delivered_by
  party_release e h = h ∙ ap (λ (y : Message). delivered_by image p k (Some y)) (sym e)

-- a message's bytes, written from the start of the longest
pub message_length : (g : Message) → length (message_bytes g) ≤ permit_size
unfolding message_bytes
message_length (Bid m v) = omega arith
message_length (Permit v m k) = omega (arith, length_word k)
message_length (Release m v e) = omega arith

module _ (g : Message) {n : ℕ} {b : List ℕ} (e : n ≡ length (message_bytes g)) (f : b ≡ put_at (message_bytes g) 0 (replicate permit_size 0)) where
  written_is : b ≡ message_bytes g ++ drop (length (message_bytes g)) (replicate permit_size 0)
  written_is = f ∙ put_start (message_bytes g) (replicate permit_size 0) (le-ltb _ _ (message_length g))

  pub bytes_within : n ≤ length b
  bytes_within = rw (written_is, length-append) (omega arith)

  pub bytes_count : n ≡ length (take n b)
  bytes_count = sym (length-take-le n b bytes_within)

  pub bytes_are : take n b ≡ message_bytes g
  bytes_are = ap₂ (λ (k : ℕ) (l : List ℕ). take k l) e written_is ∙ take-append_seam (message_bytes g) _

module _ (image : List ℕ) (p : Parties) (k : ℕ) {l : Option Message} (e : l ≡ nth_of (under p.wire) k) where
  pub delivery_none : l ≡ None → record { answer = NoMessage; play = p } ≡ delivered image p k
  unfolding delivered_by
  delivery_none q = ap (delivered_by image p k) (sym q ∙ e)

  pub delivery_some : {g : Message} {r : Played} → l ≡ Some g → r ≡ delivered_by image p k (Some g) → r ≡ delivered image p k
  delivery_some q h = h ∙ ap (delivered_by image p k) (sym q ∙ e)

-- ---- responses and ticks

module _ (image : List ℕ) (p : Parties) (m : ℕ) {x : Module} (i : x ≡ module_at p m) {c : ModuleCalled} {d : DeviceCalled} {q r : Parties} (h : q ≡ with_module p m c.state) (j : r ≡ with_device q d.device) where
  pub responded_by : (e : ℕ) → c ≡ module_respond image m x e → d ≡ respond_call image p.device m e → record { answer = Response m e c.answer; play = r } ≡ responded image p m e
  unfolding responded
  responded_by e f g =
      ap (λ (y : Parties). record { answer = Response m e c.answer; play = y }) (j ∙ ap (λ (y : Parties). with_device y d.device) h)
      ∙ ap₂ (λ (y : ModuleCalled) (z : DeviceCalled). record { answer = Response m e y.answer; play = with_device (with_module p m y.state) z.device })
      (f ∙ ap (λ (y : Module). module_respond image m y e) i) g

  pub ticked_by : (e : Flow) → c ≡ module_tick image m x e → d ≡ tick_call image p.device m e → record { answer = Tick m c.answer; play = r } ≡ ticked image p m e
  unfolding ticked
  ticked_by e f g =
      ap (λ (y : Parties). record { answer = Tick m c.answer; play = y }) (j ∙ ap (λ (y : Parties). with_device y d.device) h)
      ∙ ap₂ (λ (y : ModuleCalled) (z : DeviceCalled). record { answer = Tick m y.answer; play = with_device (with_module p m y.state) z.device })
      (f ∙ ap (λ (y : Module). module_tick image m y e) i) g

-- ---- a line

module _ (image : List ℕ) (p : Parties) {a : Act} {r : Played} where
  pub play_module : {m : ℕ} → a ≡ ModuleLine m → r ≡ module_stepped image p m (lent_for p.wire 32) → r ≡ played image p a
  unfolding played
  play_module e h = h ∙ ap (played image p) (sym e)

  pub play_supervisor : {v : ℕ} → a ≡ SupervisorLine v → r ≡ supervisor_stepped image p v (lent_for p.wire 1) → r ≡ played image p a
  unfolding played
  play_supervisor e h = h ∙ ap (played image p) (sym e)

  pub play_delivery : {k j : ℕ} → a ≡ DeliveryLine k → j ≡ k → r ≡ delivered image p j → r ≡ played image p a
  unfolding played
  play_delivery e f h = h ∙ ap (delivered image p) f ∙ ap (played image p) (sym e)

  pub play_response : {m e : ℕ} → a ≡ ResponseLine m e → r ≡ responded image p m e → r ≡ played image p a
  unfolding played
  play_response e h = h ∙ ap (played image p) (sym e)

  pub play_tick : {m n : ℕ} {x : Float} → a ≡ TickLine m n → x ≡ eighths n → r ≡ ticked image p m (Litres x) → r ≡ played image p a
  unfolding played
  play_tick {m} e f h = h ∙ ap (λ (y : Float). ticked image p m (Litres y)) f ∙ ap (played image p) (sym e)

  pub play_unfitted : {m : ℕ} → a ≡ UnfittedLine m → r ≡ ticked image p m NoSensor → r ≡ played image p a
  unfolding played
  play_unfitted e h = h ∙ ap (played image p) (sym e)

pub play_misshapen : (image : List ℕ) (p : Parties) {a : Act} → a ≡ MisshapenLine → record { answer = Misshapen; play = p } ≡ played image p a
unfolding played
play_misshapen image p e = ap (played image p) (sym e)

-- the number of the case is that of the line's call
pub played_as : (image : List ℕ) (p : Parties) (a : Act) {r : Played} → r ≡ played image p a → PlayedAs image p a r
unfolding played module_stepped supervisor_stepped delivered_by to_module to_supervisor responded ticked call_number delivery_number
played_as image p a e = record { answer = e; number = ap (λ (x : Played). answer_number x.answer) e ∙ number a }
  where
    delivery : (k : ℕ) (l : Option Message) → answer_number (delivered_by image p k l).answer ≡ delivery_number image p l
    delivery k None = refl
    delivery k (Some (Bid m v)) = refl
    delivery k (Some (Permit v m x)) = refl
    delivery k (Some (Release m v x)) = refl

    number : (b : Act) → answer_number (played image p b).answer ≡ call_number image p b
    number (ModuleLine m) = refl
    number (SupervisorLine v) = refl
    number (DeliveryLine k) = delivery k (nth_of (under p.wire) k)
    number (ResponseLine m x) = refl
    number (TickLine m n) = refl
    number (UnfittedLine m) = refl
    number MisshapenLine = refl
