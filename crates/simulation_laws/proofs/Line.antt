-- One line of the simulation is one call of demand 3's lists.
use Rattle.std.specs.Prelude.{Option, Some, None, Result, Ok, Err, ⊤}
use Rattle.refusal.specs.declared.Refusal.{Refusal}
use Prim.Native.Nat.{ℕ, ◌+◌, ◌≤◌, ◌<◌}
use native.Mathlib.Omega.{arith}
use mathlib.Core.Path.{◌≡◌, refl, sym, ap, ◌∙◌, subst}
use mathlib.Core.Bool.{Bool, true, false, cond}
use mathlib.Core.List.{List, [], ◌∷◌, ◌++◌, map, append-nil}
use lib.ListN.{length-set, length-replicate}
use lib.Dec.{ltb}
use borrow.Author.Tests.{le-leb, ltb-true, ltb-false}
use Rattle.litres.specs.Eighths.{eighths}
use Rattle.words.specs.Word.{word_at}
use Rattle.words.proofs.Laws.{length_word}
use Rattle.records.specs.declared.Record.{Record}
use Rattle.reader.specs.Walk.{records_of}
use Rattle.rules.specs.LookUp.{modules_of, supervisors_of}
use Rattle.rules.specs.Check.{verdict_of, IsPlan}
use Rattle.water.specs.declared.Flow.{Flow}
use Rattle.water.specs.declared.Flow.TheVariants.{Litres, NoSensor}
use Rattle.modules.specs.declared.Replied.{Replied}
use Rattle.messages.specs.Message.{message_bytes, parse}
use Rattle.messages.specs.declared.Message.{Message}
use Rattle.messages.specs.declared.Message.TheVariants.{Bid, Permit, Release}
use Rattle.device.specs.Device as Dev
use Rattle.device_states.specs.declared.Device.{Device}
use Rattle.permits.specs.declared.Module.{Module}
use Rattle.permits.specs.declared.Supervisor.{Supervisor}
use Rattle.permits.specs.declared.Stepped.{Stepped}
use Rattle.permits.specs.declared.Stepped.TheVariants.{Turns, Bids, Waits}
use Rattle.permits.specs.declared.Served.{Served}
use Rattle.permits.specs.declared.Served.TheVariants.{Sends, Waits as ServedWaits}
use Rattle.permits.specs.Module as M
use Rattle.permits.specs.Supervisor as S
use Rattle.wire.specs.declared.Sent.{Sent}
use Rattle.wire.specs.declared.Wire.{Wire}
use Rattle.wire.specs.Wire as W
use Rattle.wire.proofs.Lists.{lists, all_sound}
use Rattle.parties.specs.declared.Parties.{Parties}
use Rattle.parties.specs.Parties as P
use Rattle.acts.specs.declared.Act.{Act as Line}
use Rattle.acts.specs.declared.Act.TheVariants.{Module as ModuleLine, Supervisor as SupervisorLine, Delivery as DeliveryLine, Response as ResponseLine, Tick as TickLine, Unfitted as UnfittedLine, Misshapen as MisshapenLine}
use Rattle.simulation.specs.Play as Play
use Rattle.turn_laws.specs.Laws.{TurnLaws}
use Rattle.protocol.specs.Generic.{Picked, pick}
use Rattle.protocol.proofs.Tools.{update_same}
use Rattle.agreement.specs.System as A
use Rattle.agreement.specs.Compared as C
use Rattle.agreement.specs.Demand.{answer_to}
use Rattle.agreement.proofs.Bytes.{parse_bytes}
use Rattle.agreement.proofs.Steps.{step_is, step_absent, serve_absent}
use Rattle.agreement.proofs.Simulation.{picked_of, pick_map, brought_with, under_way_send}
use Rattle.simulation_laws.specs.Calls.{bytes_of, system_of, buffer, index_sent, call_of, answer_seen, Whole}
use Rattle.simulation_laws.proofs.Wire.{Same, wire_grows, put_by, module_put, put_out, supervisor_put, picked_message, nth_pick, pick_rest, pick_under_way, brought_open}
use Rattle.simulation_laws.proofs.Party.{set_update, reply_stays, permit_stays, message_stays, device_stays}

-- ---- the parties after a step, by what was put under way

unfoldable turned_by : List ℕ → Device → ℕ → Result Stepped Refusal → Device
turned_by image d m (Ok (Turns t n)) = (Dev.turn_call image d m).device
turned_by image d m (Ok (Bids v n)) = d
turned_by image d m (Ok Waits) = d
turned_by image d m (Err e) = d

after_step_lem : (image : List ℕ) (q : Parties) (m : ℕ) (a : Result Stepped Refusal) (b : List ℕ)
    → Play.after_step image q m a b ≡ P.with_device (P.with_wire q (W.with_messages q.wire (put_by a b))) (turned_by image q.device m a)
unfolding Play.after_step put_by turned_by W.with_messages
after_step_lem image q m (Ok (Turns t n)) b = refl
after_step_lem image q m (Ok (Bids v n)) b = refl
after_step_lem image q m (Ok Waits) b = refl
after_step_lem image q m (Err e) b = refl

after_serving_lem : (q : Parties) (a : Result Served Refusal) (b : List ℕ) → Play.after_serving q a b ≡ P.with_wire q (W.with_messages q.wire (put_out a b))
unfolding Play.after_serving put_out W.with_messages
after_serving_lem q (Ok (Sends m n)) b = refl
after_serving_lem q (Ok ServedWaits) b = refl
after_serving_lem q (Err e) b = refl

-- ---- the arrays keep their lengths

module _ (p : Parties) (c : Whole p) where
  whole_module : (m : ℕ) (x : Module) (w : Wire) (d : Device) → W.Sound w → Whole (P.with_device (P.with_wire (P.with_module p m x) w) d)
  whole_module m x w d s = record { modules = length-set p.modules m x ∙ c.modules; supervisors = c.supervisors; wire = s }

  whole_supervisor : (v : ℕ) (y : Supervisor) (w : Wire) → W.Sound w → Whole (P.with_wire (P.with_supervisor p v y) w)
  whole_supervisor v y w s = record { modules = c.modules; supervisors = length-set p.supervisors v y ∙ c.supervisors; wire = s }

  after_sound : (k : ℕ) (a : Result ⊤ Refusal) → W.Sound (Play.wire_after p.wire k a)
  unfolding Play.wire_after
  after_sound k (Ok u) = lists.without_sound p.wire k c.wire
  after_sound k (Err e) = c.wire

  message_whole : (image : List ℕ) (k : ℕ) (g : Message) → Whole (Play.delivered_by image p k (Some g)).play
  unfolding Play.delivered_by Play.to_module Play.to_supervisor
  message_whole image k (Bid m v) = whole_supervisor v _ _ (after_sound k _)
  message_whole image k (Permit v m x) = whole_module m _ _ p.device (after_sound k _)
  message_whole image k (Release m v e) = whole_supervisor v _ _ (after_sound k _)

  delivery_whole : (image : List ℕ) (k : ℕ) (o : Option Message) → Whole (Play.delivered_by image p k o).play
  delivery_whole image k None = unfold Play.delivered_by in c
  delivery_whole image k (Some g) = message_whole image k g

  pub line_whole : (image : List ℕ) (a : Line) → Whole (Play.played image p a).play
  unfolding Play.played Play.module_stepped Play.supervisor_stepped Play.responded Play.ticked
  line_whole image (ModuleLine m) = subst Whole (sym (after_step_lem image _ m _ _)) (whole_module m _ _ _ (all_sound p.wire _ c.wire))
  line_whole image (SupervisorLine v) = subst Whole (sym (after_serving_lem _ _ _)) (whole_supervisor v _ _ (all_sound p.wire _ c.wire))
  line_whole image (DeliveryLine k) = delivery_whole image k (W.nth_of (W.under p.wire) k)
  line_whole image (ResponseLine m e) = whole_module m _ p.wire _ c.wire
  line_whole image (TickLine m n) = whole_module m _ p.wire _ c.wire
  line_whole image (UnfittedLine m) = whole_module m _ p.wire _ c.wire
  line_whole image MisshapenLine = c

-- ---- the states and the messages under way

-- a permit's bytes are read as a permit between the same two
permit_read : (v m x : ℕ) → parse (message_bytes (Permit v m x)) ≡ Some (Permit v m (word_at (message_bytes (Permit v m x)) 3))
unfolding parse message_bytes
permit_read v m x = simp (length_word x)

-- every message under way would be taken, as demand 3's clause `taken` says of every reached system
abbrev pub AllTaken : List ℕ → A.System → Type 0
AllTaken image D = (k : ℕ) (g : A.Sent) → A.at k D.sent ≡ Some g → g.delivered ≡ false → answer_to image D g.bytes (parse g.bytes) ≡ Ok tt

-- the parties are a system: their states, and their messages under way
pub record Is (p : Parties) (D : A.System) : Type 0 where
  pub states : system_of p D.sent ≡ D
  pub wire : map bytes_of (W.under p.wire) ≡ A.under_way D.sent

module _ (image : List ℕ) (plan : IsPlan image) (T : TurnLaws (records_of image)) (p : Parties) (c : Whole p) (w : List A.Sent)
    (same : map bytes_of (W.under p.wire) ≡ A.under_way w) where
  abbrev rs : List Record
  rs = records_of image

  abbrev here : A.System
  here = system_of p w

  module_changed : (m : ℕ) (x : Module) (after : Wire) (d : Device) (u : List A.Sent) → (modules_of rs ≤ m → x ≡ P.module_at p m) → map bytes_of (W.under after) ≡ A.under_way u
      → Is (P.with_device (P.with_wire (P.with_module p m x) after) d) (A.with_module here m x u)
  module_changed m x after d u h e =
      let f : modules_of rs ≤ 16 = T.few_modules in
      record {
        states = λ i. record { module_at = λ j. set_update p.modules m x M.empty_module (λ k. h (omega (arith, c.modules, f))) j i; supervisor_at = P.supervisor_at p; sent = u };
        wire = e;
      }

  supervisor_changed : (v : ℕ) (y : Supervisor) (after : Wire) (u : List A.Sent) → (supervisors_of rs ≤ v → y ≡ P.supervisor_at p v) → map bytes_of (W.under after) ≡ A.under_way u
      → Is (P.with_wire (P.with_supervisor p v y) after) (A.with_supervisor here v y u)
  supervisor_changed v y after u h e =
      let f : supervisors_of rs ≤ 32 = T.few_supervisors in
      record {
        states = λ i. record { module_at = P.module_at p; supervisor_at = λ j. set_update p.supervisors v y S.empty_supervisor (λ k. h (omega (arith, c.supervisors, f))) j i; sent = u };
        wire = e;
      }

  -- what a step sent is put under way
  sent_on : (l : List Sent) (out : List (List ℕ)) → p.wire.count + 32 ≤ 96 → Same l out → map bytes_of (W.under (W.with_messages p.wire l)) ≡ A.under_way (A.send w out)
  sent_on l out r s = wire_grows p.wire l out c.wire r s ∙ ap (λ (k : List (List ℕ)). k ++ out) same ∙ sym (under_way_send w out)

  module_stepped_lem : (m : ℕ) (b : List ℕ) → p.wire.count + 32 ≤ 96 → Is (Play.module_stepped image p m b).play (A.step image here (A.module_step m b))
  unfolding Play.module_stepped A.step
  module_stepped_lem m b r =
      let k : M.StepCall = M.module_step image m (P.module_at p m) b in
      subst (λ (q : Parties). Is q (A.with_module here m k.state (A.send w (A.wrote k.answer k.buffer)))) (sym (after_step_lem image (P.with_module p m k.state) m k.answer k.buffer))
      (module_changed m k.state (W.with_messages p.wire (put_by k.answer k.buffer)) (turned_by image p.device m k.answer) (A.send w (A.wrote k.answer k.buffer))
      (λ l. ap (λ z. z.state) (step_absent rs m (P.module_at p m) (verdict_of image) b plan l))
      (sent_on (put_by k.answer k.buffer) (A.wrote k.answer k.buffer) r (module_put rs m (P.module_at p m) b (verdict_of image))))

  supervisor_stepped_lem : (v : ℕ) (b : List ℕ) → p.wire.count + 32 ≤ 96 → Is (Play.supervisor_stepped image p v b).play (A.step image here (A.supervisor_step v b))
  unfolding Play.supervisor_stepped A.step
  supervisor_stepped_lem v b r =
      let k : S.ServeCall = S.supervisor_step image v (P.supervisor_at p v) b in
      subst (λ (q : Parties). Is q (A.with_supervisor here v k.state (A.send w (A.wrote_out k.answer k.buffer)))) (sym (after_serving_lem (P.with_supervisor p v k.state) k.answer k.buffer))
      (supervisor_changed v k.state (W.with_messages p.wire (put_out k.answer k.buffer)) (A.send w (A.wrote_out k.answer k.buffer))
      (λ l. ap (λ z. z.state) (serve_absent rs v (P.supervisor_at p v) (verdict_of image) b plan l))
      (sent_on (put_out k.answer k.buffer) (A.wrote_out k.answer k.buffer) r (supervisor_put rs v (P.supervisor_at p v) b (T.shown_small v (P.supervisor_at p v).state) (verdict_of image))))

  -- a message that is taken is under way no more
  after_done : (k : ℕ) (q : Picked Sent) (a : Result ⊤ Refusal) → pick k (W.under p.wire) ≡ Some q → a ≡ Ok tt → map bytes_of (W.under (Play.wire_after p.wire k a)) ≡ map bytes_of q.rest
  unfolding Play.wire_after
  after_done k q a e t =
      ap (λ (z : Result ⊤ Refusal). map bytes_of (W.under (Play.wire_after p.wire k z))) t
      ∙ ap (map bytes_of) (lists.without_is p.wire k c.wire ∙ pick_rest k (W.under p.wire) q e)

  -- by the party that the bytes go to, the messages sent being u after it
  module _ (k : ℕ) (q : Picked Sent) (e : pick k (W.under p.wire) ≡ Some q) (u : List A.Sent) (left : map bytes_of q.rest ≡ A.under_way u) where
    to_supervisor_lem : (v : ℕ) (bytes : List ℕ) → let a = S.supervisor_deliver image v (P.supervisor_at p v) bytes in a.answer ≡ Ok tt
        → Is (P.with_wire (P.with_supervisor p v a.state) (Play.wire_after p.wire k a.answer)) (A.with_supervisor here v a.state u)
    to_supervisor_lem v bytes t =
        let a = S.supervisor_deliver image v (P.supervisor_at p v) bytes in
        supervisor_changed v a.state (Play.wire_after p.wire k a.answer) u (message_stays rs (verdict_of image) plan v (P.supervisor_at p v) (parse bytes)) (after_done k q a.answer e t ∙ left)

    to_module_lem : (m : ℕ) (bytes : List ℕ) → let a = M.module_deliver image m (P.module_at p m) bytes in a.answer ≡ Ok tt
        → Is (P.with_wire (P.with_module p m a.state) (Play.wire_after p.wire k a.answer)) (A.with_module here m a.state u)
    to_module_lem m bytes t =
        let a = M.module_deliver image m (P.module_at p m) bytes in
        module_changed m a.state (Play.wire_after p.wire k a.answer) p.device u (permit_stays rs (verdict_of image) plan m (P.module_at p m) (parse bytes)) (after_done k q a.answer e t ∙ left)

    -- the bytes name the party that the message names
    message_delivered : (g : Message) → answer_to image here (message_bytes g) (parse (message_bytes g)) ≡ Ok tt
        → Is (Play.delivered_by image p k (Some g)).play (A.delivered image here (message_bytes g) u (parse (message_bytes g)))
    unfolding Play.delivered_by Play.to_module Play.to_supervisor A.delivered answer_to
    message_delivered (Bid m v) t =
        let r : parse (message_bytes (Bid m v)) ≡ Some (Bid m v) = parse_bytes (Bid m v) tt in
        subst (λ (g : Option Message). Is (Play.delivered_by image p k (Some (Bid m v))).play (A.delivered image here (message_bytes (Bid m v)) u g)) (sym r)
        (to_supervisor_lem v (message_bytes (Bid m v)) (sym (ap (answer_to image here (message_bytes (Bid m v))) r) ∙ t))
    message_delivered (Permit v m x) t =
        let r : parse (message_bytes (Permit v m x)) ≡ Some (Permit v m (word_at (message_bytes (Permit v m x)) 3)) = permit_read v m x in
        subst (λ (g : Option Message). Is (Play.delivered_by image p k (Some (Permit v m x))).play (A.delivered image here (message_bytes (Permit v m x)) u g)) (sym r)
        (to_module_lem m (message_bytes (Permit v m x)) (sym (ap (answer_to image here (message_bytes (Permit v m x))) r) ∙ t))
    message_delivered (Release m v n) t =
        let r : parse (message_bytes (Release m v n)) ≡ Some (Release m v n) = parse_bytes (Release m v n) tt in
        subst (λ (g : Option Message). Is (Play.delivered_by image p k (Some (Release m v n))).play (A.delivered image here (message_bytes (Release m v n)) u g)) (sym r)
        (to_supervisor_lem v (message_bytes (Release m v n)) (sym (ap (answer_to image here (message_bytes (Release m v n))) r) ∙ t))

  -- the k-th message under way has the index j among all that were sent
  module _ (k : ℕ) (t : AllTaken image here) where
    abbrev j : ℕ
    j = index_sent k w

    both : (g : Picked Sent) (b : List ℕ) → picked_of bytes_of (Some g) ≡ brought_with (Some b) (A.under_way (A.mark j w))
        → ◌≡◌ {A = Picked (List ℕ)} (record { item = bytes_of g.item; rest = map bytes_of g.rest }) (record { item = b; rest = A.under_way (A.mark j w) })
    unfolding picked_of brought_with
    both g b q = cc

    done : (b : List ℕ) → A.brought j w ≡ Some b → answer_to image here b (parse b) ≡ Ok tt
    done b f = let h = brought_open (A.at j w) b f in subst (λ (bytes : List ℕ). answer_to image here bytes (parse bytes) ≡ Ok tt) h.3 (t j h.0 h.1 h.2)

    brought_here : (o : Option (Picked Sent)) (b : Option (List ℕ)) → pick k (W.under p.wire) ≡ o → A.brought j w ≡ b → picked_of bytes_of o ≡ brought_with b (A.under_way (A.mark j w))
        → Is (Play.delivered_by image p k (picked_message o)).play (A.delivered_at image here j b)
    unfolding picked_message A.delivered_at
    brought_here None None e f q = unfold Play.delivered_by in (record { states = refl; wire = same })
    brought_here None (Some b) e f q = unfold picked_of brought_with in (let z : ◌≡◌ {A = ℕ} 0 1 = cc in absurd (omega arith))
    brought_here (Some g) None e f q = unfold picked_of brought_with in (let z : ◌≡◌ {A = ℕ} 0 1 = cc in absurd (omega arith))
    brought_here (Some g) (Some b) e f q =
        let i : bytes_of g.item ≡ b = ap (λ (x : Picked (List ℕ)). x.item) (both g b q) in
        subst (λ (bytes : List ℕ). Is (Play.delivered_by image p k (Some g.item.message)).play (A.delivered image here bytes (A.mark j w) (parse bytes))) i
        (message_delivered k g e (A.mark j w) (ap (λ (x : Picked (List ℕ)). x.rest) (both g b q)) g.item.message
        (ap (λ (bytes : List ℕ). answer_to image here bytes (parse bytes)) i ∙ done b f))

    delivery : Is (Play.delivered image p k).play (A.step image here (A.deliver j))
    unfolding A.step
    delivery =
        subst (λ (o : Option Message). Is (Play.delivered_by image p k o).play (A.delivered_at image here j (A.brought j w))) (sym (nth_pick k (W.under p.wire)))
        (brought_here (pick k (W.under p.wire)) (A.brought j w) refl refl (sym (pick_map bytes_of k (W.under p.wire)) ∙ ap (pick k) same ∙ pick_under_way k w))

  responded : (m e : ℕ) → Is (Play.responded image p m e).play (A.step image here (A.respond m e))
  unfolding Play.responded A.step
  responded m e = module_changed m _ p.wire (Dev.respond_call image p.device m e).device w (reply_stays rs (verdict_of image) plan m (P.module_at p m) _) same

  ticked : (m : ℕ) (f : Flow) → Is (Play.ticked image p m f).play (A.step image here (A.tick m f))
  unfolding Play.ticked A.step
  ticked m f = module_changed m _ p.wire (Dev.tick_call image p.device m f).device w (reply_stays rs (verdict_of image) plan m (P.module_at p m) _) same

  lent_is : (n : ℕ) → n ≤ 32 → p.wire.count + 32 ≤ 96 → Play.lent_for p.wire n ≡ buffer
  unfolding Play.lent_for
  lent_is n h r = rw (le-leb (p.wire.count + n) 96 (omega arith))

  pub line_system : (a : Line) → p.wire.count + 32 ≤ 96 → AllTaken image here → Is (Play.played image p a).play (A.run image here (call_of w a))
  unfolding Play.played call_of A.run
  line_system (ModuleLine m) r t = subst (λ (b : List ℕ). Is (Play.module_stepped image p m b).play (A.step image here (A.module_step m buffer))) (sym (lent_is 32 (omega arith) r)) (module_stepped_lem m buffer r)
  line_system (SupervisorLine v) r t = subst (λ (b : List ℕ). Is (Play.supervisor_stepped image p v b).play (A.step image here (A.supervisor_step v buffer))) (sym (lent_is 1 (omega arith) r)) (supervisor_stepped_lem v buffer r)
  line_system (DeliveryLine k) r t = delivery k t
  line_system (ResponseLine m e) r t = responded m e
  line_system (TickLine m n) r t = ticked m (Litres (eighths n))
  line_system (UnfittedLine m) r t = ticked m NoSensor
  line_system MisshapenLine r t = record { states = refl; wire = same }

  -- ---- the one device

  choice_fed_lem : (m : ℕ) (x : M.Choice) → turned_by image p.device m (M.answer_by rs m (P.module_at p m) x) ≡ C.device_run image p.device (C.choice_fed m x ++ [])
  unfolding turned_by M.answer_by C.choice_fed C.device_run C.device_step
  choice_fed_lem m M.takes_turn = refl
  choice_fed_lem m M.waits = refl
  choice_fed_lem m (M.bids_to v) = refl

  step_fed : (m : ℕ) → (m < modules_of rs → M.module_fits rs m (P.module_at p m) ≡ true)
      → (Play.module_stepped image p m buffer).play.device ≡ C.device_run image p.device (C.act_fed rs here (A.module_step m buffer) ++ [])
  unfolding C.act_fed Play.module_stepped
  step_fed m f = ap (λ (q : Parties). q.device) (after_step_lem image _ m _ _) ∙ go (ltb m (modules_of rs)) refl
    where
      go : (b : Bool) → ltb m (modules_of rs) ≡ b → turned_by image p.device m (M.module_step image m (P.module_at p m) buffer).answer
          ≡ C.device_run image p.device (cond b (C.choice_fed m (M.choice rs m (P.module_at p m))) [] ++ [])
      go true q =
          let l : m < modules_of rs = ltb-true m (modules_of rs) q in
          ap (λ k. turned_by image p.device m k.answer) (step_is rs m (P.module_at p m) (verdict_of image) buffer plan l (f l) (length-replicate {A = ℕ} A.buffer_length 0))
          ∙ choice_fed_lem m (M.choice rs m (P.module_at p m))
      go false q =
          ap (λ k. turned_by image p.device m k.answer) (step_absent rs m (P.module_at p m) (verdict_of image) buffer plan (ltb-false m (modules_of rs) q)) ∙ (unfold turned_by C.device_run in refl)

  -- a response and a tick, by what they reply
  reply_fed : (m : ℕ) (r : Replied) (x : C.DeviceAct) → C.device_step image p.device x ≡ (Dev.reply_by (verdict_of image) rs p.device m r).device
      → (Dev.reply_by (verdict_of image) rs p.device m r).device ≡ C.device_run image p.device (cond (ltb m (modules_of rs)) (x ∷ []) [] ++ [])
  unfolding C.device_run
  reply_fed m r x e = go (ltb m (modules_of rs)) refl
    where
      go : (b : Bool) → ltb m (modules_of rs) ≡ b → (Dev.reply_by (verdict_of image) rs p.device m r).device ≡ C.device_run image p.device (cond b (x ∷ []) [] ++ [])
      go true q = sym e
      go false q = device_stays rs (verdict_of image) plan p.device m r (ltb-false m (modules_of rs) q)

  delivery_fed : (k : ℕ) (o : Option Message) → (Play.delivered_by image p k o).play.device ≡ p.device
  unfolding Play.delivered_by Play.to_module Play.to_supervisor
  delivery_fed k None = refl
  delivery_fed k (Some (Bid m v)) = refl
  delivery_fed k (Some (Permit v m x)) = refl
  delivery_fed k (Some (Release m v e)) = refl

  pub line_device : (a : Line) → p.wire.count + 32 ≤ 96 → ((m : ℕ) → m < modules_of rs → M.module_fits rs m (P.module_at p m) ≡ true)
      → (Play.played image p a).play.device ≡ C.device_run image p.device (C.fed image here (call_of w a))
  unfolding Play.played call_of C.fed C.act_fed
  line_device (ModuleLine m) r f =
      ap (λ (b : List ℕ). (Play.module_stepped image p m b).play.device) (lent_is 32 (omega arith) r) ∙ step_fed m (f m)
  line_device (SupervisorLine v) r f = unfold Play.supervisor_stepped C.device_run in (ap (λ (q : Parties). q.device) (after_serving_lem _ _ _))
  line_device (DeliveryLine k) r f = unfold C.device_run in (delivery_fed k (W.nth_of (W.under p.wire) k))
  line_device (ResponseLine m e) r f = unfold Play.responded C.device_step in (reply_fed m _ (C.device_respond m e) refl)
  line_device (TickLine m n) r f = unfold Play.ticked C.device_step in (reply_fed m _ (C.device_tick m (Litres (eighths n))) refl)
  line_device (UnfittedLine m) r f = unfold Play.ticked C.device_step in (reply_fed m _ (C.device_tick m NoSensor) refl)
  line_device MisshapenLine r f = unfold C.device_run in refl

  -- ---- the answers

  -- a module's state after a call on it
  state_after_lem : (q : Parties) (m : ℕ) (x : Module) (u : List A.Sent) → Is q (A.with_module here m x u) → P.module_at q m ≡ x
  state_after_lem q m x u e = ap (λ (D : A.System). D.module_at m) e.states ∙ update_same (P.module_at p) m x

  step_seen_lem : (m : ℕ) (b : List ℕ) → p.wire.count + 32 ≤ 96
      → answer_seen rs (Play.module_stepped image p m b).play (Play.module_stepped image p m b).answer ≡ C.act_seen image here (A.module_step m b)
  unfolding answer_seen C.act_seen A.step Play.module_stepped
  step_seen_lem m b r =
      let k : M.StepCall = M.module_step image m (P.module_at p m) b in
      ap (λ (x : Module). C.step_seen m k.answer x.own) (state_after_lem (Play.module_stepped image p m b).play m k.state _ (module_stepped_lem m b r))

  respond_seen : (m e : ℕ) → answer_seen rs (Play.responded image p m e).play (Play.responded image p m e).answer ≡ C.act_seen image here (A.respond m e)
  unfolding answer_seen C.act_seen A.step Play.responded
  respond_seen m e =
      let k = M.module_respond image m (P.module_at p m) e in
      ap (λ (x : Module). cond (ltb m (modules_of rs)) (C.call_seen m k.answer x.own ∷ []) []) (state_after_lem (Play.responded image p m e).play m k.state _ (responded m e))

  tick_seen : (m : ℕ) (f : Flow) → answer_seen rs (Play.ticked image p m f).play (Play.ticked image p m f).answer ≡ C.act_seen image here (A.tick m f)
  unfolding answer_seen C.act_seen A.step Play.ticked
  tick_seen m f =
      let k = M.module_tick image m (P.module_at p m) f in
      ap (λ (x : Module). cond (ltb m (modules_of rs)) (C.call_seen m k.answer x.own ∷ []) []) (state_after_lem (Play.ticked image p m f).play m k.state _ (ticked m f))

  delivery_seen : (q : Parties) (k : ℕ) (o : Option Message) → answer_seen rs q (Play.delivered_by image p k o).answer ≡ []
  unfolding answer_seen Play.delivered_by Play.to_module Play.to_supervisor
  delivery_seen q k None = refl
  delivery_seen q k (Some (Bid m v)) = refl
  delivery_seen q k (Some (Permit v m x)) = refl
  delivery_seen q k (Some (Release m v e)) = refl

  pub line_seen : (a : Line) → p.wire.count + 32 ≤ 96 → answer_seen rs (Play.played image p a).play (Play.played image p a).answer ≡ C.seen image here (call_of w a)
  unfolding Play.played call_of C.seen
  line_seen (ModuleLine m) r =
      ap (λ (b : List ℕ). answer_seen rs (Play.module_stepped image p m b).play (Play.module_stepped image p m b).answer) (lent_is 32 (omega arith) r)
      ∙ step_seen_lem m buffer r
      ∙ sym (append-nil (C.act_seen image here (A.module_step m buffer)))
  line_seen (SupervisorLine v) r = unfold answer_seen Play.supervisor_stepped C.act_seen in refl
  line_seen (DeliveryLine k) r = unfold C.act_seen in (delivery_seen (Play.delivered image p k).play k (W.nth_of (W.under p.wire) k))
  line_seen (ResponseLine m e) r = respond_seen m e ∙ sym (append-nil (C.act_seen image here (A.respond m e)))
  line_seen (TickLine m n) r = tick_seen m (Litres (eighths n)) ∙ sym (append-nil (C.act_seen image here (A.tick m (Litres (eighths n)))))
  line_seen (UnfittedLine m) r = tick_seen m NoSensor ∙ sym (append-nil (C.act_seen image here (A.tick m NoSensor)))
  line_seen MisshapenLine r = unfold answer_seen in refl
