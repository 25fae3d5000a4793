-- Demand 3, from every system that belongs to a system of the rules with their invariant, and so from the start.
use Rattle.std.specs.Prelude.{Option, Some, None, Ok, Err, is_some}
use Rattle.refusal.specs.Refusal.{refusal}
use Rattle.messages.specs.declared.Message.{Message}
use mathlib.Core.Path.{◌≡◌, refl, sym, ap, ◌∙◌, subst}
use mathlib.Core.Logic.{◌≢◌}
use mathlib.Core.Bool.{Bool, true, false, cond, true≢false, false≢true}
use mathlib.Core.List.{List, [], ◌∷◌, ◌++◌, map}
use Prim.Native.Nat.{ℕ, zero, suc, ◌<◌}
use native.Mathlib.Decide.{ℕ_discrete}
use native.Mathlib.Omega.{arith}
use lib.ListN.{length, get_or, replicate, length-replicate}
use Rattle.records.specs.declared.Record.{Record}
use Rattle.reader.specs.Walk.{records_of}
use Rattle.rules.specs.LookUp.{modules_of, supervisors_of}
use Rattle.rules.specs.Check.{verdict_of, IsPlan}
use Rattle.accepted.proofs.Accepted.{every_plan}
use Rattle.device.specs.Device.{start_call}
use Rattle.device_states.specs.declared.Device.{Device}
use Rattle.messages.specs.Message.{buffer_length, parse}
use Rattle.permits.specs.declared.Module.{Module}
use Rattle.permits.specs.declared.Supervisor.{Supervisor}
use Rattle.permits.specs.Module as M
use Rattle.permits.specs.Supervisor as S
use Rattle.turn_laws.proofs.Laws.{turn_laws}
use Rattle.roundtrip.proofs.AllFit.{all_fit}
use Rattle.protocol.specs.Generic.{Picked, pick, behind, update}
use Rattle.protocol.specs.Plan.{Laws}
use Rattle.protocol.specs.Rules as R
use Rattle.protocol.specs.System as P
use Rattle.protocol.proofs.Tools.{Inserted, inserted_all, pick_inserted, update_same, update_other}
use Rattle.protocol.proofs.Invariant.{Inv}
use Rattle.protocol.proofs.Progress.{accepted}
use Rattle.protocol.proofs.Theorem.{StandsAt, good, whole, start_inv, start_stands, demand3_from}
use Rattle.agreement.specs.PlanOf.{plan_of}
use Rattle.agreement.specs.System as A
use Rattle.agreement.specs.Compared as C
use Rattle.agreement.specs.Demand.{answer_to, Changes, of_module, of_supervisor, Progress, Demand3, Besides, Demand}
use Rattle.agreement.proofs.Names.{message_of}
use Rattle.agreement.proofs.Fit.{SameModule, SameSupervisor, module_fits_lem, supervisor_fits_lem}
use Rattle.agreement.proofs.Steps.{step_absent, serve_absent}
use Rattle.agreement.proofs.Deliveries.{module_takes, supervisor_takes, read_back}
use Rattle.agreement.proofs.Permit.{permit_holder, start_home}
use Rattle.agreement.proofs.Simulation.{bytes_of, Sim, index_under_way, act_of, acts_of, seen_of, picked_of, pick_map, brought_with, brought_is, bid_here, permit_here, release_here, module_call, supervisor_call, reply_absent, act_done}
use Rattle.agreement.proofs.Laws.{laws}
use Rattle.agreement.proofs.Device.{Same}
use Rattle.agreement.proofs.Start.{start_sim, start_same}
use Rattle.agreement.proofs.Whole.{ran}

-- the record is the rules' record
record_same : (l : List P.Seen) → C.record_of_events (map seen_of l) ≡ P.record_of_events l
unfolding C.record_of_events P.record_of_events seen_of
record_same [] = refl
record_same (P.turn_seen m t o ∷ l) = ap (λ (w : List ℕ). P.turn_events t ++ w) (record_same l)
record_same (P.reply_seen m r o ∷ l) = record_same l

-- an accepted step is no refusal
module_accepts : (rs : List Record) (m : ℕ) (x : Module) (c : M.Choice) (n o : ℕ) → M.answer_by rs m x c ≢ Err (refusal n o)
unfolding M.answer_by
module_accepts rs m x M.takes_turn n o e = let z : ◌≡◌ {A = ℕ} 0 1 = cc in omega arith
module_accepts rs m x M.waits n o e = let z : ◌≡◌ {A = ℕ} 0 1 = cc in omega arith
module_accepts rs m x (M.bids_to v) n o e = let z : ◌≡◌ {A = ℕ} 0 1 = cc in omega arith

supervisor_accepts : (bytes : List ℕ) (t : Option ℕ) (n o : ℕ) → S.answer_by bytes t ≢ Err (refusal n o)
unfolding S.answer_by
supervisor_accepts bytes None n o e = let z : ◌≡◌ {A = ℕ} 0 1 = cc in omega arith
supervisor_accepts bytes (Some m) n o e = let z : ◌≡◌ {A = ℕ} 0 1 = cc in omega arith

-- ---- the index among all sent of a message under way

open_at : (k : ℕ) (w : List A.Sent) (g : A.Sent) → A.at k w ≡ Some g → g.delivered ≡ false → A.once (A.at k w) ≡ Some g.bytes
unfolding A.once
open_at k w g e f = ap A.once e ∙ ap (λ (d : Bool). cond d None (Some g.bytes)) f

was_there : {X : Type 0} (b : X) (o : Option (Picked X)) (q : Picked X) → behind b o ≡ Some q → (p : Picked X) × (o ≡ Some p)
unfolding behind
was_there b None q e = let z : ◌≡◌ {A = ℕ} 0 1 = cc in absurd (omega arith)
was_there b (Some p) q e = (p, refl)

index_sent : (w : List A.Sent) (j : ℕ) (q : Picked (List ℕ)) → pick j (A.under_way w) ≡ Some q → (k : ℕ) × (index_under_way k w ≡ j)
unfolding A.under_way
index_sent [] j q e = unfold pick in (let z : ◌≡◌ {A = ℕ} 0 1 = cc in absurd (omega arith))
index_sent (g ∷ l) j q e = go (λ i p h. index_sent l i p h) g.delivered refl j e
  where
    go : ((i : ℕ) (p : Picked (List ℕ)) → pick i (A.under_way l) ≡ Some p → (k : ℕ) × (index_under_way k l ≡ i)) → (d : Bool) → g.delivered ≡ d → (j : ℕ) → pick j (cond d (A.under_way l) (g.bytes ∷ A.under_way l)) ≡ Some q → (k : ℕ) × (index_under_way k (g ∷ l) ≡ j)
    go ih true f j e = let r = ih j q e in (suc r.0, unfold index_under_way in (ap (λ (d : Bool). cond d (index_under_way r.0 l) (suc (index_under_way r.0 l))) f ∙ r.1))
    go ih false f zero e = (zero, unfold index_under_way in (ap (λ (d : Bool). cond d (length (A.under_way l)) 0) f))
    go ih false f (suc i) e =
        let p = was_there g.bytes (pick i (A.under_way l)) q (unfold pick in e) in
        let r = ih i p.0 p.1 in
        (suc r.0, unfold index_under_way in (ap (λ (d : Bool). cond d (index_under_way r.0 l) (suc (index_under_way r.0 l))) f ∙ ap suc r.1))

-- ---- a state of the calls belongs to one state of the rules

one_supervisor : (x : Supervisor) (y y' : R.SupervisorState) → SameSupervisor x y → SameSupervisor x y' → y' ≡ y
one_supervisor x y y' a b =
    λ i. record { state = (sym b.state ∙ a.state) i; noted = (sym b.noted ∙ a.noted) i; holder = (sym b.holder ∙ a.holder) i; last_served = (sym b.last ∙ a.last) i }

-- an open bid is with the lowest neighbour not held
one_bid : (t o o' : Option ℕ) → is_some o' ≡ is_some o → ((u : ℕ) → o ≡ Some u → t ≡ Some u) → ((u : ℕ) → o' ≡ Some u → t ≡ Some u) → o' ≡ o
one_bid t None None e f g = refl
one_bid t None (Some u) e f g = absurd (true≢false e)
one_bid t (Some u) None e f g = absurd (false≢true e)
one_bid t (Some u) (Some u') e f g = sym (g u' refl) ∙ f u refl

module _ (rs : List Record) (D D' : P.System) (O O' : R.OneDevice) (I : Inv (plan_of rs) D O) (J : Inv (plan_of rs) D' O') where
  one_module : (m : ℕ) (x : Module) → SameModule x (D.module_at m) → SameModule x (D'.module_at m) → D'.module_at m ≡ D.module_at m
  one_module m x a b =
      let h : (D'.module_at m).held ≡ (D.module_at m).held = sym b.held ∙ a.held in
      let o : (D'.module_at m).outstanding ≡ (D.module_at m).outstanding =
      one_bid (R.missing (plan_of rs) m (D.module_at m).held) (D.module_at m).outstanding (D'.module_at m).outstanding (sym b.bid ∙ a.bid)
      (λ u e. (I.modules m).bid_lowest u e) (λ u e. ap (R.missing (plan_of rs) m) (sym h) ∙ (J.modules m).bid_lowest u e) in
      λ i. record { own = (sym b.own ∙ a.own) i; held = h i; received = (sym b.received ∙ a.received) i; outstanding = o i }

  -- so where the rules' states change, the calls' do
  changes_same : (image : List ℕ) → records_of image ≡ rs → (B B' : A.System) → Sim rs B D → Sim rs B' D' → P.Changes (plan_of rs) D D' → Changes image B B'
  changes_same image r B B' s t (P.of_module m l q) =
      let k : m < modules_of rs = unfold plan_of in l in
      of_module m (subst (λ (z : List Record). m < modules_of z) (sym r) k) (λ e. q (one_module m (B.module_at m) (s.modules m k) (subst (λ (x : Module). SameModule x (D'.module_at m)) e (t.modules m k))))
  changes_same image r B B' s t (P.of_supervisor v l q) =
      let k : v < supervisors_of rs = unfold plan_of in l in
      of_supervisor v (subst (λ (z : List Record). v < supervisors_of z) (sym r) k)
      (λ e. q (one_supervisor (B.supervisor_at v) (D.supervisor_at v) (D'.supervisor_at v) (s.supervisors v k) (subst (λ (x : Supervisor). SameSupervisor x (D'.supervisor_at v)) e (t.supervisors v k))))

-- a delivery that changes a state is that of a message under way
changing : (image : List ℕ) (B : A.System) (k : ℕ) → Changes image B (A.step image B (A.deliver k)) → (g : A.Sent) × (A.at k B.sent ≡ Some g) × (g.delivered ≡ false)
unfolding A.step
changing image B k ch = go (A.at k B.sent) refl ch
  where
    same : Changes image B B → ⊥
    same (of_module m l q) = q refl
    same (of_supervisor v l q) = q refl

    go : (o : Option A.Sent) → A.at k B.sent ≡ o → Changes image B (A.delivered_at image B k (A.once o)) → (g : A.Sent) × (A.at k B.sent ≡ Some g) × (g.delivered ≡ false)
    go None e c = unfold A.once A.delivered_at in (absurd (same c))
    go (Some g) e c = marked g.delivered refl (unfold A.once in c)
      where
        marked : (d : Bool) → g.delivered ≡ d → Changes image B (A.delivered_at image B k (cond d None (Some g.bytes))) → (h : A.Sent) × (A.at k B.sent ≡ Some h) × (h.delivered ≡ false)
        marked true f c = unfold A.delivered_at in (absurd (same c))
        marked false f c = (g, e, f)

-- a call on one party changes no other
module_only : (image : List ℕ) (B : A.System) (m : ℕ) (x : Module) (w : List A.Sent) → Changes image B (A.with_module B m x w) → (m < modules_of (records_of image)) × (x ≢ B.module_at m)
module_only image B m x w (of_module j l q) = go (ℕ_discrete m j)
  where
    go : Dec (m ≡ j) → (m < modules_of (records_of image)) × (x ≢ B.module_at m)
    go (yes e) =
        (subst (λ (i : ℕ). i < modules_of (records_of image)) (sym e) l, λ h. q (subst (λ (i : ℕ). update B.module_at m x i ≡ B.module_at i) e (update_same B.module_at m x ∙ h)))
    go (no n) = absurd (q (update_other B.module_at m x j n))
module_only image B m x w (of_supervisor v l q) = absurd (q refl)

supervisor_only : (image : List ℕ) (B : A.System) (v : ℕ) (y : Supervisor) (w : List A.Sent) → Changes image B (A.with_supervisor B v y w)
    → (v < supervisors_of (records_of image)) × (y ≢ B.supervisor_at v)
supervisor_only image B v y w (of_supervisor j l q) = go (ℕ_discrete v j)
  where
    go : Dec (v ≡ j) → (v < supervisors_of (records_of image)) × (y ≢ B.supervisor_at v)
    go (yes e) =
        (subst (λ (i : ℕ). i < supervisors_of (records_of image)) (sym e) l, λ h. q (subst (λ (i : ℕ). update B.supervisor_at v y i ≡ B.supervisor_at i) e (update_same B.supervisor_at v y ∙ h)))
    go (no n) = absurd (q (update_other B.supervisor_at v y j n))
supervisor_only image B v y w (of_module m l q) = absurd (q refl)

module _ (image : List ℕ) (plan : IsPlan image) (L : Laws (plan_of (records_of image))) (B : A.System) (D : P.System) (O : R.OneDevice) (s : Sim (records_of image) B D)
    (I : Inv (plan_of (records_of image)) D O) where
  abbrev rs : List Record
  rs = records_of image

  -- a message under way is taken
  message_taken : (g : R.Message) {r : List R.Message} → Inserted g D.under_way r → parse (bytes_of g) ≡ Some (message_of g) → answer_to image B (bytes_of g) (Some (message_of g)) ≡ Ok tt
  unfolding answer_to message_of
  message_taken (R.bid m v) t e =
      let a = accepted (plan_of rs) L D O I (R.bid m v) _ t in
      ap (λ (g : Option Message). (S.deliver_by (verdict_of image) rs v (B.supervisor_at v) g).answer) e
      ∙ supervisor_takes (B.supervisor_at v) (R.take_bid (D.supervisor_at v) m) a.0 _ a.1 (bid_here image plan L B D O s I m v (inserted_all t I.names).0)
  message_taken (R.permit v m k) t e =
      let a = accepted (plan_of rs) L D O I (R.permit v m k) _ t in
      ap (λ (g : Option Message). (M.deliver_by (verdict_of image) rs m (B.module_at m) g).answer) e
      ∙ module_takes (B.module_at m) (R.take_permit (D.module_at m) v k) a.0 _ a.1 (permit_here image plan L B D O s I v m k (inserted_all t I.names).0)
  message_taken (R.release m v o) t e =
      let a = accepted (plan_of rs) L D O I (R.release m v o) _ t in
      ap (λ (g : Option Message). (S.deliver_by (verdict_of image) rs v (B.supervisor_at v) g).answer) e
      ∙ supervisor_takes (B.supervisor_at v) (R.take_release (plan_of rs) v (D.supervisor_at v) m o) a.0 _ a.1 (release_here image plan L B D O s I m v o (inserted_all t I.names).0)

  pub all_taken : (k : ℕ) (g : A.Sent) → A.at k B.sent ≡ Some g → g.delivered ≡ false → answer_to image B g.bytes (parse g.bytes) ≡ Ok tt
  all_taken k g e f = go (pick (index_under_way k B.sent) D.under_way) refl (brought_is image plan L B D O s I k ∙ ap (λ (o : Option (List ℕ)). brought_with o (A.under_way (A.mark k B.sent))) (open_at k B.sent g e f))
    where
      go : (o : Option (Picked R.Message)) → pick (index_under_way k B.sent) D.under_way ≡ o → picked_of bytes_of o ≡ brought_with (Some g.bytes) (A.under_way (A.mark k B.sent))
          → answer_to image B g.bytes (parse g.bytes) ≡ Ok tt
      go None h q = unfold picked_of brought_with in (let z : ◌≡◌ {A = ℕ} 0 1 = cc in absurd (omega arith))
      go (Some p) h q =
          let t = pick_inserted (index_under_way k B.sent) D.under_way p h in
          subst (λ (b : List ℕ). answer_to image B b (parse b) ≡ Ok tt) (item_is p q) (
          let back : parse (bytes_of p.item) ≡ Some (message_of p.item) = read_back rs L D O I p.item t in
          ap (answer_to image B (bytes_of p.item)) back ∙ message_taken p.item t back)
        where
          item_is : (p : Picked R.Message) → picked_of bytes_of (Some p) ≡ brought_with (Some g.bytes) (A.under_way (A.mark k B.sent)) → bytes_of p.item ≡ g.bytes
          item_is p q = unfold picked_of brought_with in (
              let z : ◌≡◌ {A = Picked (List ℕ)} (record { item = bytes_of p.item; rest = map bytes_of p.rest }) (record { item = g.bytes; rest = A.under_way (A.mark k B.sent) }) = cc in
              ap (λ (x : Picked (List ℕ)). x.item) z)

  -- ---- progress
  act_changes : (a : A.Act) → A.Lent a → P.Changes (plan_of rs) D (P.step (plan_of rs) D (act_of B.sent a)) → Changes image B (A.step image B a)
  act_changes a n ch =
      changes_same rs D (P.step (plan_of rs) D (act_of B.sent a)) O _ I (good (plan_of rs) L D O I (act_of B.sent a)).inv image refl B (A.step image B a) s (act_done image plan L B D O s I a n).sim ch

  lent : length (replicate {A = ℕ} buffer_length 0) ≡ buffer_length
  lent = length-replicate {A = ℕ} buffer_length 0

  delivery_changes : (k j : ℕ) → index_under_way k B.sent ≡ j → P.Changes (plan_of rs) D (P.step (plan_of rs) D (P.deliver j)) → Changes image B (A.step image B (A.deliver k))
  unfolding act_of
  delivery_changes k j e ch = act_changes (A.deliver k) tt (subst (λ (i : ℕ). P.Changes (plan_of rs) D (P.step (plan_of rs) D (P.deliver i))) (sym e) ch)

  module_changes : (m : ℕ) → P.Changes (plan_of rs) D (P.step (plan_of rs) D (P.module_step m))
      → (m < modules_of rs) × ((M.module_step image m (B.module_at m) (replicate buffer_length 0)).state ≢ B.module_at m)
  unfolding act_of A.step
  module_changes m ch = module_only image B m _ _ (act_changes (A.module_step m (replicate buffer_length 0)) lent ch)

  supervisor_changes : (v : ℕ) → P.Changes (plan_of rs) D (P.step (plan_of rs) D (P.supervisor_step v))
      → (v < supervisors_of rs) × ((S.supervisor_step image v (B.supervisor_at v) (replicate buffer_length 0)).state ≢ B.supervisor_at v)
  unfolding act_of A.step
  supervisor_changes v ch = supervisor_only image B v _ _ (act_changes (A.supervisor_step v (replicate buffer_length 0)) lent ch)

  pub progress_same : P.Progress (plan_of rs) D → Progress image B
  unfolding picked_of
  progress_same (P.by_delivery j q e a ch) =
      let f : pick j (A.under_way B.sent) ≡ Some (record { item = bytes_of q.item; rest = map bytes_of q.rest }) = ap (pick j) s.wire ∙ pick_map bytes_of j D.under_way ∙ ap (picked_of bytes_of) e in
      let r = index_sent B.sent j (record { item = bytes_of q.item; rest = map bytes_of q.rest }) f in
      let c : Changes image B (A.step image B (A.deliver r.0)) = delivery_changes r.0 j r.1 ch in
      let g = changing image B r.0 c in
      Progress.by_delivery r.0 g.0 g.1 g.2 (all_taken r.0 g.0 g.1 g.2) c
  progress_same (P.by_module_step m ch) = let c = module_changes m ch in Progress.by_module_step m (replicate buffer_length 0) c.0 lent c.1
  progress_same (P.by_supervisor_step v ch) = let c = supervisor_changes v ch in Progress.by_supervisor_step v (replicate buffer_length 0) c.0 lent c.1

-- ---- the theorem

-- a system, a one-device controller and a position of the replay that belong together, by a system and a one-device controller of the rules
pub record Stands (image : List ℕ) (B : A.System) (d : Device) (p : P.Position) : Type 0 where
  pub system : P.System
  pub device : R.OneDevice
  pub sim : Sim (records_of image) B system
  pub inv : Inv (plan_of (records_of image)) system device
  pub same : Same (records_of image) d device
  pub position : StandsAt (plan_of (records_of image)) device p

pub plan_laws : (image : List ℕ) → ((i : ℕ) → get_or image i 0 < 256) → IsPlan image → Laws (plan_of (records_of image))
plan_laws image bytes plan = laws (records_of image) (turn_laws (records_of image) (every_plan image plan).sound (all_fit image bytes))

module _ (image : List ℕ) (plan : IsPlan image) (L : Laws (plan_of (records_of image))) (B : A.System) (d : Device) (p : P.Position) (S₀ : Stands image B d p) (acts : List A.Act) (n : A.AllLent acts) where
  abbrev records : List Record
  records = records_of image

  record_is : C.record_of_events (C.seen image B acts) ≡ P.record_of_events (P.seen (plan_of records) S₀.system (acts_of image B acts))
  record_is = ap C.record_of_events (ran image plan L acts B S₀.system S₀.device d n S₀.sim S₀.inv S₀.same).seen ∙ record_same (P.seen (plan_of records) S₀.system (acts_of image B acts))

  -- what belongs together still does after any list of calls
  pub stands_on : Stands image (A.run image B acts) (C.device_run image d (C.fed image B acts)) (P.replay (plan_of records) p (C.record_of_events (C.seen image B acts)))
  stands_on =
      let r = ran image plan L acts B S₀.system S₀.device d n S₀.sim S₀.inv S₀.same in
      let w = whole (plan_of records) L (acts_of image B acts) S₀.system S₀.device S₀.inv in
      record {
        system = P.run (plan_of records) S₀.system (acts_of image B acts);
        device = P.device_run (plan_of records) S₀.device (P.fed (plan_of records) S₀.system (acts_of image B acts));
        sim = r.sim;
        inv = w.inv;
        same = r.same;
        position = rw record_is (w.stands p S₀.position);
      }

  pub demand_from : Demand3 image B d p acts
  unfolding plan_of
  demand_from =
      let r = ran image plan L acts B S₀.system S₀.device d n S₀.sim S₀.inv S₀.same in
      let w = whole (plan_of records) L (acts_of image B acts) S₀.system S₀.device S₀.inv in
      let q = demand3_from (plan_of records) L S₀.system S₀.device p S₀.inv S₀.position (acts_of image B acts) in
      let same : C.seen image B acts ≡ C.device_seen image d (C.fed image B acts) = r.seen ∙ ap (map seen_of) q.equal ∙ sym r.device in
      record {
        absent_module_step = λ m b l. step_absent records m _ (verdict_of image) b plan l;
        absent_supervisor_step = λ v b l. serve_absent records v _ (verdict_of image) b plan l;
        absent_respond = λ m e l. reply_absent image plan L _ _ _ r.sim w.inv m _ l;
        absent_tick = λ m f l. reply_absent image plan L _ _ _ r.sim w.inv m _ l;
        equal = same;
        records = ap C.record_of_events same;
        commands = ap (λ l. P.commands_of (plan_of records) (C.record_of_events l)) same;
        legal = rw record_is q.legal;
        home = λ v l h. (r.sim.supervisors v l).state ∙ q.home v l (sym (r.sim.supervisors v l).holder ∙ sym (permit_holder image v B acts) ∙ h) ∙ rw record_is;
        out = λ v m l h. progress_same image plan L _ _ _ r.sim w.inv (q.out v m l (sym (r.sim.supervisors v l).holder ∙ sym (permit_holder image v B acts) ∙ h));
      }

  pub besides_from : Besides image B d p acts
  unfolding plan_of
  besides_from =
      let r = ran image plan L acts B S₀.system S₀.device d n S₀.sim S₀.inv S₀.same in
      let w = whole (plan_of records) L (acts_of image B acts) S₀.system S₀.device S₀.inv in
      let q = demand3_from (plan_of records) L S₀.system S₀.device p S₀.inv S₀.position (acts_of image B acts) in
      record {
        supervised = rw record_is q.supervised;
        holder = λ v. permit_holder image v B acts;
        taken = all_taken image plan L _ _ _ r.sim w.inv;
        module_fits_lem = λ m l. module_fits_lem records L _ _ w.inv m _ l (r.sim.modules m l);
        supervisor_fits_lem = λ v l. supervisor_fits_lem records L _ _ w.inv v _ l (r.sim.supervisors v l);
        device_fits_lem = r.same.fits;
        module_steps = λ m b k o l c e. module_accepts records m _ _ k o (sym (ap (λ z. z.answer) (module_call image plan L _ _ _ r.sim w.inv m b l c)) ∙ e);
        supervisor_steps = λ v b k o l c e. supervisor_accepts _ _ k o (sym (ap (λ z. z.answer) (supervisor_call image plan L _ _ _ r.sim w.inv v b l c)) ∙ e);
      }

pub start_together : (image : List ℕ) → IsPlan image → Laws (plan_of (records_of image)) → Stands image (A.start image) (start_call image).device (P.start_position (plan_of (records_of image)))
start_together image plan L = record {
  system = P.start_system (plan_of (records_of image));
  device = P.start_device (plan_of (records_of image));
  sim = start_sim image plan L;
  inv = start_inv (plan_of (records_of image)) L;
  same = start_same image plan L;
  position = start_stands (plan_of (records_of image)) L;
}

pub demand : Demand
demand image bytes plan acts n =
    let L : Laws (plan_of (records_of image)) = plan_laws image bytes plan in
    let t = start_together image plan L in
    record {
      permits_home = start_home image;
      demand = demand_from image plan L _ _ _ t acts n;
      besides = besides_from image plan L _ _ _ t acts n;
    }
