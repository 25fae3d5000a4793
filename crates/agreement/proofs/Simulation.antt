-- Each call does what one act of the rules does.
use Rattle.std.specs.Prelude.{Option, Some, None}
use Rattle.messages.specs.declared.Message.{Message}
use mathlib.Core.Path.{◌≡◌, refl, sym, ap, ap₂, ◌∙◌, subst}
use mathlib.Core.Bool.{Bool, true, false, cond}
use mathlib.Core.List.{List, [], ◌∷◌, ◌++◌, map, append-nil}
use Prim.Native.Nat.{ℕ, zero, suc, ◌≤◌, ◌<◌}
use native.Mathlib.Decide.{ℕ_discrete}
use native.Mathlib.Omega.{arith}
use lib.ListN.{length}
use lib.Dec.{ltb}
use borrow.Author.Tests.{lt-ltb, le-ltb, ltb-true, ltb-false}
use Rattle.records.specs.declared.Record.{Record}
use Rattle.reader.specs.Walk.{records_of}
use Rattle.rules.specs.LookUp.{modules_of, supervisors_of}
use Rattle.rules.specs.Check.{verdict_of, IsPlan}
use Rattle.water.specs.declared.Flow.{Flow}
use Rattle.modules.specs.declared.Own.{Own}
use Rattle.modules.specs.declared.Replied.{Replied}
use Rattle.modules.specs.Procedure.{called_by, tick_of, respond_of}
use Rattle.messages.specs.Message.{buffer_length, message_bytes, parse, written}
use Rattle.messages.specs.declared.Message.TheVariants.{Bid, Permit, Release}
use Rattle.permits.specs.declared.Module.{Module}
use Rattle.permits.specs.declared.Supervisor.{Supervisor}
use Rattle.permits.specs.Module as M
use Rattle.permits.specs.Supervisor as S
use Rattle.protocol.specs.Generic.{update, Picked, pick, behind}
use Rattle.protocol.specs.Plan.{Laws}
use Rattle.protocol.specs.Rules as R
use Rattle.protocol.specs.System as P
use Rattle.protocol.proofs.Tools.{update_same, update_other, update_each, inserted_all, pick_inserted}
use Rattle.protocol.proofs.Invariant.{Inv, Names, ReleaseNames}
use Rattle.agreement.specs.PlanOf.{plan_of}
use Rattle.agreement.specs.System as A
use Rattle.agreement.specs.Compared as C
use Rattle.agreement.proofs.Names.{event_byte, message_of, choice_of, missing_same}
use Rattle.agreement.proofs.Fit.{SameModule, SameSupervisor, few, watched, near_module, near_supervisor, module_fits_lem, supervisor_fits_lem}
use Rattle.agreement.proofs.Steps.{step_is, step_absent, sent_is, sent_of, after_of, choice_is, messages_are, after_is, turn_is, serve_is, serve_absent, served_bytes, permit_of, after_serving, served_is, permit_is, serving_is}
use Rattle.agreement.proofs.Deliveries.{ModuleTakes, SupervisorTakes, module_after, supervisor_after, bid_call, permit_call, release_call, read_back}

-- a rule's message as bytes
abbrev pub bytes_of : R.Message → List ℕ
bytes_of g = message_bytes (message_of g)

pub record Sim (rs : List Record) (B : A.System) (D : P.System) : Type 0 where
  pub modules : (m : ℕ) → m < modules_of rs → SameModule (B.module_at m) (D.module_at m)
  pub supervisors : (v : ℕ) → v < supervisors_of rs → SameSupervisor (B.supervisor_at v) (D.supervisor_at v)
  pub wire : A.under_way B.sent ≡ map bytes_of D.under_way

-- the index among those under way of the message with an index among all sent; one past the last where it has been delivered
unfoldable pub index_under_way : ℕ → List A.Sent → ℕ
index_under_way k [] = 0
index_under_way zero (g ∷ l) = cond g.delivered (length (A.under_way l)) 0
index_under_way (suc k) (g ∷ l) = cond g.delivered (index_under_way k l) (suc (index_under_way k l))

-- a call as an act of the rules, the messages sent before being w
unfoldable pub act_of : List A.Sent → A.Act → P.Act
act_of w (A.module_step m b) = P.module_step m
act_of w (A.supervisor_step v b) = P.supervisor_step v
act_of w (A.deliver k) = P.deliver (index_under_way k w)
act_of w (A.respond m e) = P.respond m e
act_of w (A.tick m f) = P.tick m f

unfoldable pub acts_of : List ℕ → A.System → List A.Act → List P.Act
acts_of image B [] = []
acts_of image B (a ∷ l) = act_of B.sent a ∷ acts_of image (A.step image B a) l

-- what is compared, and what the one device is fed
unfoldable pub seen_of : P.Seen → C.Seen
seen_of (P.turn_seen m t o) = C.turn_seen m t o
seen_of (P.reply_seen m r o) = C.call_seen m (called_by r) o

unfoldable pub fed_of : R.DeviceAct → C.DeviceAct
fed_of (R.device_turns m) = C.device_turn m
fed_of (R.device_responds m e) = C.device_respond m e
fed_of (R.device_ticks m f) = C.device_tick m f

map_map : (l : List R.Message) → map message_bytes (map message_of l) ≡ map bytes_of l
map_map [] = refl
map_map (g ∷ l) = ap (λ (t : List (List ℕ)). bytes_of g ∷ t) (map_map l)

pub map_append : {A B : Type 0} (f : A → B) (l r : List A) → map f (l ++ r) ≡ map f l ++ map f r
map_append f [] r = refl
map_append f (a ∷ l) r = ap (λ t. f a ∷ t) (map_append f l r)

-- the member at an index of a mapped list
unfoldable pub picked_of : {A B : Type 0} → (A → B) → Option (Picked A) → Option (Picked B)
picked_of f None = None
picked_of f (Some q) = Some (record { item = f q.item; rest = map f q.rest })

pub pick_map : {A B : Type 0} (f : A → B) (k : ℕ) (l : List A) → pick k (map f l) ≡ picked_of f (pick k l)
unfolding pick picked_of
pick_map f k [] = refl
pick_map f zero (a ∷ l) = refl
pick_map f (suc k) (a ∷ l) = ap (behind (f a)) (pick_map f k l) ∙ go (pick k l)
  where
    go : (o : Option (Picked _)) → behind (f a) (picked_of f o) ≡ picked_of f (behind a o)
    go None = unfold behind picked_of in refl
    go (Some q) = unfold behind picked_of in refl

-- ---- all messages sent and those under way

fresh_under_way : (l : List (List ℕ)) → A.under_way (map A.fresh l) ≡ l
unfolding A.under_way
fresh_under_way [] = refl
fresh_under_way (b ∷ l) = ap (λ (t : List (List ℕ)). b ∷ t) (fresh_under_way l)

pub under_way_send : (w : List A.Sent) (l : List (List ℕ)) → A.under_way (A.send w l) ≡ A.under_way w ++ l
unfolding A.under_way
under_way_send [] l = fresh_under_way l
under_way_send (g ∷ w) l = go g.delivered (under_way_send w l)
  where
    go : (d : Bool) → A.under_way (A.send w l) ≡ A.under_way w ++ l → cond d (A.under_way (A.send w l)) (g.bytes ∷ A.under_way (A.send w l)) ≡ cond d (A.under_way w) (g.bytes ∷ A.under_way w) ++ l
    go true h = h
    go false h = ap (λ (t : List (List ℕ)). g.bytes ∷ t) h

-- what a delivery brings, with those under way after it
unfoldable pub brought_with : Option (List ℕ) → List (List ℕ) → Option (Picked (List ℕ))
brought_with None r = None
brought_with (Some b) r = Some (record { item = b; rest = r })

pick_past : (l : List (List ℕ)) → pick (length l) l ≡ None
unfolding pick
pick_past [] = refl
pick_past (b ∷ l) = ap (behind b) (pick_past l) ∙ (unfold behind in refl)

pub behind_brought : (b : List ℕ) (o : Option (List ℕ)) (r : List (List ℕ)) → behind b (brought_with o r) ≡ brought_with o (b ∷ r)
unfolding behind brought_with
behind_brought b None r = refl
behind_brought b (Some c) r = refl

pub pick_index : (k : ℕ) (w : List A.Sent) → pick (index_under_way k w) (A.under_way w) ≡ brought_with (A.once (A.at k w)) (A.under_way (A.mark k w))
unfolding index_under_way A.at A.mark A.under_way A.once
pick_index k [] = unfold pick brought_with in refl
pick_index zero (g ∷ l) = go g.delivered
  where
    go : (d : Bool) → pick (cond d (length (A.under_way l)) 0) (cond d (A.under_way l) (g.bytes ∷ A.under_way l)) ≡ brought_with (cond d None (Some g.bytes)) (A.under_way l)
    go true = pick_past (A.under_way l) ∙ (unfold brought_with in refl)
    go false = unfold pick brought_with in refl
pick_index (suc k) (g ∷ l) = go g.delivered (pick_index k l)
  where
    go : (d : Bool) → pick (index_under_way k l) (A.under_way l) ≡ brought_with (A.once (A.at k l)) (A.under_way (A.mark k l)) → pick (cond d (index_under_way k l) (suc (index_under_way k l))) (cond d (A.under_way l) (g.bytes ∷ A.under_way l))
        ≡ brought_with (A.once (A.at k l)) (cond d (A.under_way (A.mark k l)) (g.bytes ∷ A.under_way (A.mark k l)))
    go true h = h
    go false h = unfold pick in (ap (behind g.bytes) h ∙ behind_brought g.bytes (A.once (A.at k l)) (A.under_way (A.mark k l)))

-- a module or a supervisor changed on both sides
module _ (rs : List Record) (B : A.System) (D : P.System) (s : Sim rs B D) where
  pub with_module_lem : (m : ℕ) (x : Module) (y : R.ModuleState) (w : List A.Sent) (u : List R.Message) → SameModule x y → A.under_way w ≡ map bytes_of u
      → Sim rs (A.with_module B m x w) (record { module_at = update D.module_at m y; supervisor_at = D.supervisor_at; under_way = u })
  with_module_lem m x y w u e f = record { modules = λ j l. go j l (ℕ_discrete m j); supervisors = s.supervisors; wire = f }
    where
      go : (j : ℕ) → j < modules_of rs → Dec (m ≡ j) → SameModule (update B.module_at m x j) (update D.module_at m y j)
      go j l (yes p) =
          subst (λ (i : ℕ). SameModule (update B.module_at m x i) (update D.module_at m y i)) p
          (subst (λ a. SameModule a (update D.module_at m y m)) (sym (update_same B.module_at m x)) (subst (λ a. SameModule x a) (sym (update_same D.module_at m y)) e))
      go j l (no q) =
          subst (λ a. SameModule a (update D.module_at m y j)) (sym (update_other B.module_at m x j q)) (subst (λ a. SameModule (B.module_at j) a) (sym (update_other D.module_at m y j q)) (s.modules j l))

  pub with_supervisor_lem : (v : ℕ) (x : Supervisor) (y : R.SupervisorState) (w : List A.Sent) (u : List R.Message) → SameSupervisor x y → A.under_way w ≡ map bytes_of u
      → Sim rs (A.with_supervisor B v x w) (record { module_at = D.module_at; supervisor_at = update D.supervisor_at v y; under_way = u })
  with_supervisor_lem v x y w u e f = record { modules = s.modules; supervisors = λ j l. go j l (ℕ_discrete v j); wire = f }
    where
      go : (j : ℕ) → j < supervisors_of rs → Dec (v ≡ j) → SameSupervisor (update B.supervisor_at v x j) (update D.supervisor_at v y j)
      go j l (yes p) =
          subst (λ (i : ℕ). SameSupervisor (update B.supervisor_at v x i) (update D.supervisor_at v y i)) p
          (subst (λ a. SameSupervisor a (update D.supervisor_at v y v)) (sym (update_same B.supervisor_at v x)) (subst (λ a. SameSupervisor x a) (sym (update_same D.supervisor_at v y)) e))
      go j l (no q) =
          subst (λ a. SameSupervisor a (update D.supervisor_at v y j)) (sym (update_other B.supervisor_at v x j q)) (subst (λ a. SameSupervisor (B.supervisor_at j) a) (sym (update_other D.supervisor_at v y j q)) (s.supervisors j l))

  -- a call that changes nothing
  pub still_module : (m : ℕ) → Sim rs (A.with_module B m (B.module_at m) B.sent) D
  still_module m = record { modules = λ j l. subst (λ a. SameModule a (D.module_at j)) (sym (kept j)) (s.modules j l); supervisors = s.supervisors; wire = s.wire }
    where
      kept : (j : ℕ) → update B.module_at m (B.module_at m) j ≡ B.module_at j
      kept = update_each (λ j a. a ≡ B.module_at j) B.module_at m (B.module_at m) refl (λ j q. refl)

  pub still_supervisor : (v : ℕ) → Sim rs (A.with_supervisor B v (B.supervisor_at v) B.sent) D
  still_supervisor v = record { modules = s.modules; supervisors = λ j l. subst (λ a. SameSupervisor a (D.supervisor_at j)) (sym (kept j)) (s.supervisors j l); wire = s.wire }
    where
      kept : (j : ℕ) → update B.supervisor_at v (B.supervisor_at v) j ≡ B.supervisor_at j
      kept = update_each (λ j a. a ≡ B.supervisor_at j) B.supervisor_at v (B.supervisor_at v) refl (λ j q. refl)

-- what one call gives: the systems stay the same, and so do what is compared and what is fed
pub record Done (image : List ℕ) (B : A.System) (D : P.System) (a : A.Act) : Type 0 where
  pub sim : Sim (records_of image) (A.step image B a) (P.step (plan_of (records_of image)) D (act_of B.sent a))
  pub seen : C.act_seen image B a ≡ map seen_of (P.act_seen (plan_of (records_of image)) D (act_of B.sent a))
  pub fed : C.act_fed (records_of image) B a ≡ map fed_of (P.act_fed (plan_of (records_of image)) D (act_of B.sent a))

module _ (image : List ℕ) (plan : IsPlan image) (L : Laws (plan_of (records_of image))) (B : A.System) (D : P.System) (O : R.OneDevice) (s : Sim (records_of image) B D)
    (I : Inv (plan_of (records_of image)) D O) where
  abbrev rs : List Record
  rs = records_of image

  -- ---- a module step
  module_wire : (m : ℕ) (c : R.Choice) → m < modules_of rs
      → A.under_way (A.send B.sent (map message_bytes (M.sent_by rs m (B.module_at m) (choice_of c)))) ≡ map bytes_of (D.under_way ++ sent_of (plan_of rs) m (D.module_at m) c)
  module_wire m c l =
      under_way_send B.sent (map message_bytes (M.sent_by rs m (B.module_at m) (choice_of c)))
      ∙ ap₂ ◌++◌ s.wire (ap (map message_bytes) (messages_are rs L m (B.module_at m) (D.module_at m) (s.modules m l) c) ∙ map_map (sent_of (plan_of rs) m (D.module_at m) c))
      ∙ sym (map_append bytes_of D.under_way (sent_of (plan_of rs) m (D.module_at m) c))

  module_sim : (m : ℕ) (c : R.Choice) → m < modules_of rs
      → Sim rs (A.with_module B m (M.state_by rs m (B.module_at m) (choice_of c)) (A.send B.sent (map message_bytes (M.sent_by rs m (B.module_at m) (choice_of c))))) (P.after_module_step (plan_of rs) D m c)
  unfolding P.after_module_step
  module_sim m R.takes_turn l = with_module_lem rs B D s m _ _ _ _ (unfold after_of in (after_is rs L m (B.module_at m) (D.module_at m) (s.modules m l) R.takes_turn)) (unfold sent_of in (module_wire m R.takes_turn l))
  module_sim m (R.bids_to v) l = with_module_lem rs B D s m _ _ _ _ (unfold after_of in (after_is rs L m (B.module_at m) (D.module_at m) (s.modules m l) (R.bids_to v))) (unfold sent_of in (module_wire m (R.bids_to v) l))
  module_sim m R.waits l =
      subst (λ (w : List A.Sent). Sim rs (A.with_module B m (M.state_by rs m (B.module_at m) (choice_of R.waits)) w) D) (sym none_sent)
      (unfold M.state_by choice_of in (still_module rs B D s m))
    where
      none_sent : A.send B.sent (map message_bytes (M.sent_by rs m (B.module_at m) (choice_of R.waits))) ≡ B.sent
      none_sent = unfold M.sent_by choice_of in (append-nil B.sent)

  module_seen : (m : ℕ) (c : R.Choice) → m < modules_of rs
      → C.step_seen m (M.answer_by rs m (B.module_at m) (choice_of c)) (M.state_by rs m (B.module_at m) (choice_of c)).own ≡ map seen_of (P.step_seen (plan_of rs) m (D.module_at m) c)
  unfolding C.step_seen M.answer_by M.state_by choice_of P.step_seen
  module_seen m R.takes_turn l = ap (λ t. C.turn_seen m t.turn t.own ∷ []) (turn_is rs L m (B.module_at m) (D.module_at m) (s.modules m l)) ∙ (unfold seen_of in refl)
  module_seen m R.waits l = refl
  module_seen m (R.bids_to v) l = refl

  module_fed : (m : ℕ) (c : R.Choice) → C.choice_fed m (choice_of c) ≡ map fed_of (P.step_fed m c)
  unfolding C.choice_fed choice_of P.step_fed
  module_fed m R.takes_turn = unfold fed_of in refl
  module_fed m R.waits = refl
  module_fed m (R.bids_to v) = refl

  -- the call's whole answer, by the rules' choice
  pub module_call : (m : ℕ) (b : List ℕ) → m < modules_of rs → length b ≡ buffer_length
      → M.module_step image m (B.module_at m) b
      ≡ record { answer = M.answer_by rs m (B.module_at m) (choice_of (R.choice (plan_of rs) m (D.module_at m))); state = M.state_by rs m (B.module_at m) (choice_of (R.choice (plan_of rs) m (D.module_at m))); buffer = written (M.step_bytes rs m (B.module_at m) (choice_of (R.choice (plan_of rs) m (D.module_at m)))) b }
  module_call m b l n =
      step_is rs m (B.module_at m) (verdict_of image) b plan l (module_fits_lem rs L D O I m (B.module_at m) l (s.modules m l)) n
      ∙ ap (λ (c : M.Choice). record { answer = M.answer_by rs m (B.module_at m) c; state = M.state_by rs m (B.module_at m) c; buffer = written (M.step_bytes rs m (B.module_at m) c) b })
      (choice_is rs L m (B.module_at m) (D.module_at m) (s.modules m l))

  pub module_done : (m : ℕ) (b : List ℕ) → length b ≡ buffer_length → Done image B D (A.module_step m b)
  module_done m b n = go (ltb m (modules_of rs)) refl
    where
      there : m < modules_of rs → ltb m (modules_of rs) ≡ true → Done image B D (A.module_step m b)
      there l t =
          let c : R.Choice = R.choice (plan_of rs) m (D.module_at m) in
          record {
            sim = unfold A.step P.step act_of plan_of in (rw (t, module_call m b l n, sent_is rs m (B.module_at m) (choice_of c) b) (module_sim m c l));
            seen = unfold C.act_seen P.act_seen act_of plan_of in (rw (t, module_call m b l n) (module_seen m c l));
            fed = unfold C.act_fed P.act_fed act_of plan_of in (rw (t, choice_is rs L m (B.module_at m) (D.module_at m) (s.modules m l)) (module_fed m c));
          }

      away : modules_of rs ≤ m → ltb m (modules_of rs) ≡ false → Done image B D (A.module_step m b)
      away l t =
          record {
            sim = unfold A.step A.wrote P.step act_of plan_of in (rw (t, step_absent rs m (B.module_at m) (verdict_of image) b plan l, append-nil B.sent) (still_module rs B D s m));
            seen = unfold C.act_seen C.step_seen P.act_seen act_of plan_of in (rw (t, step_absent rs m (B.module_at m) (verdict_of image) b plan l));
            fed = unfold C.act_fed P.act_fed act_of plan_of in (rw t);
          }

      go : (t : Bool) → ltb m (modules_of rs) ≡ t → Done image B D (A.module_step m b)
      go true t = there (ltb-true m (modules_of rs) t) t
      go false t = away (ltb-false m (modules_of rs) t) t

  -- ---- a supervisor step
  supervisor_wire : (v : ℕ) (t : Option ℕ) → v < supervisors_of rs
      → A.under_way (A.send B.sent (map message_bytes (S.sent_to rs v (B.supervisor_at v) t))) ≡ map bytes_of (D.under_way ++ permit_of (plan_of rs) v (D.supervisor_at v) t)
  supervisor_wire v t l =
      under_way_send B.sent (map message_bytes (S.sent_to rs v (B.supervisor_at v) t))
      ∙ ap₂ ◌++◌ s.wire (ap (map message_bytes) (permit_is rs v (B.supervisor_at v) (D.supervisor_at v) (s.supervisors v l) t) ∙ map_map (permit_of (plan_of rs) v (D.supervisor_at v) t))
      ∙ sym (map_append bytes_of D.under_way (permit_of (plan_of rs) v (D.supervisor_at v) t))

  supervisor_sim : (v : ℕ) (t : Option ℕ) → v < supervisors_of rs
      → Sim rs (A.with_supervisor B v (S.state_by (B.supervisor_at v) t) (A.send B.sent (map message_bytes (S.sent_to rs v (B.supervisor_at v) t)))) (P.after_supervisor_step (plan_of rs) D v t)
  unfolding P.after_supervisor_step
  supervisor_sim v (Some m) l = with_supervisor_lem rs B D s v _ _ _ _ (unfold after_serving in (serving_is rs v (B.supervisor_at v) (D.supervisor_at v) (s.supervisors v l) (Some m))) (unfold permit_of in (supervisor_wire v (Some m) l))
  supervisor_sim v None l =
      subst (λ (w : List A.Sent). Sim rs (A.with_supervisor B v (S.state_by (B.supervisor_at v) None) w) D) (sym none_sent) (unfold S.state_by in (still_supervisor rs B D s v))
    where
      none_sent : A.send B.sent (map message_bytes (S.sent_to rs v (B.supervisor_at v) None)) ≡ B.sent
      none_sent = unfold S.sent_to in (append-nil B.sent)

  pub supervisor_call : (v : ℕ) (b : List ℕ) → v < supervisors_of rs → length b ≡ buffer_length
      → S.supervisor_step image v (B.supervisor_at v) b
      ≡ record { answer = S.answer_by (S.step_bytes rs v (B.supervisor_at v) (R.served (D.supervisor_at v))) (R.served (D.supervisor_at v)); state = S.state_by (B.supervisor_at v) (R.served (D.supervisor_at v)); buffer = written (S.step_bytes rs v (B.supervisor_at v) (R.served (D.supervisor_at v))) b }
  supervisor_call v b l n =
      serve_is rs v (B.supervisor_at v) (verdict_of image) b plan l (supervisor_fits_lem rs L D O I v (B.supervisor_at v) l (s.supervisors v l)) n
      ∙ ap (λ (t : Option ℕ). record { answer = S.answer_by (S.step_bytes rs v (B.supervisor_at v) t) t; state = S.state_by (B.supervisor_at v) t; buffer = written (S.step_bytes rs v (B.supervisor_at v) t) b })
      (served_is rs v (B.supervisor_at v) (D.supervisor_at v) (s.supervisors v l))

  pub supervisor_done : (v : ℕ) (b : List ℕ) → length b ≡ buffer_length → Done image B D (A.supervisor_step v b)
  supervisor_done v b n = record { sim = go (ltb v (supervisors_of rs)) refl; seen = unfold C.act_seen P.act_seen act_of in refl; fed = unfold C.act_fed P.act_fed act_of in refl }
    where
      there : v < supervisors_of rs → ltb v (supervisors_of rs) ≡ true → Sim rs (A.step image B (A.supervisor_step v b)) (P.step (plan_of rs) D (act_of B.sent (A.supervisor_step v b)))
      there l t = unfold A.step P.step act_of plan_of in (rw (t, supervisor_call v b l n, served_bytes rs v (B.supervisor_at v) (R.served (D.supervisor_at v)) b) (supervisor_sim v (R.served (D.supervisor_at v)) l))

      away : supervisors_of rs ≤ v → ltb v (supervisors_of rs) ≡ false → Sim rs (A.step image B (A.supervisor_step v b)) (P.step (plan_of rs) D (act_of B.sent (A.supervisor_step v b)))
      away l t = unfold A.step A.wrote_out P.step act_of plan_of in (rw (t, serve_absent rs v (B.supervisor_at v) (verdict_of image) b plan l, append-nil B.sent) (still_supervisor rs B D s v))

      go : (t : Bool) → ltb v (supervisors_of rs) ≡ t → Sim rs (A.step image B (A.supervisor_step v b)) (P.step (plan_of rs) D (act_of B.sent (A.supervisor_step v b)))
      go true t = there (ltb-true v (supervisors_of rs) t) t
      go false t = away (ltb-false v (supervisors_of rs) t) t

  -- ---- a response and a tick
  reply_is : (m : ℕ) (r : Replied) → m < modules_of rs → M.reply_by (verdict_of image) rs m (B.module_at m) r ≡ record { answer = called_by r.reply; state = M.with_own (B.module_at m) r.own }
  unfolding M.reply_by
  reply_is m r l = rw (plan, lt-ltb m (modules_of rs) l, module_fits_lem rs L D O I m (B.module_at m) l (s.modules m l))

  pub reply_absent : (m : ℕ) (r : Replied) → modules_of rs ≤ m → M.reply_by (verdict_of image) rs m (B.module_at m) r ≡ M.call_refused (B.module_at m) 11 0
  unfolding M.reply_by
  reply_absent m r l = rw (plan, le-ltb m (modules_of rs) l)

  reply_sim : (m : ℕ) (o : Own) → m < modules_of rs → Sim rs (A.with_module B m (M.with_own (B.module_at m) o) B.sent) (P.after_own D m o)
  unfolding P.after_own
  reply_sim m o l =
      let e = s.modules m l in
      with_module_lem rs B D s m _ _ _ _ (record { own = refl; held = e.held; received = e.received; bid = e.bid }) s.wire

  -- a call on a module's own part, by what it replies
  module _ (m : ℕ) (a : A.Act) (x : R.DeviceAct) (r : Own → Replied)
      (steps : A.step image B a ≡ A.with_module B m (M.reply_by (verdict_of image) rs m (B.module_at m) (r (B.module_at m).own)).state B.sent)
      (stepped : P.step (plan_of rs) D (act_of B.sent a) ≡ cond (ltb m (modules_of rs)) (P.after_own D m (r (D.module_at m).own).own) D)
      (seeing : C.act_seen image B a
      ≡ cond (ltb m (modules_of rs)) (C.call_seen m (M.reply_by (verdict_of image) rs m (B.module_at m) (r (B.module_at m).own)).answer (M.reply_by (verdict_of image) rs m (B.module_at m) (r (B.module_at m).own)).state.own ∷ []) [])
      (saw : P.act_seen (plan_of rs) D (act_of B.sent a) ≡ cond (ltb m (modules_of rs)) (P.replied_seen m (r (D.module_at m).own) ∷ []) [])
      (feeding : C.act_fed rs B a ≡ cond (ltb m (modules_of rs)) (fed_of x ∷ []) [])
      (fed_one : P.act_fed (plan_of rs) D (act_of B.sent a) ≡ cond (ltb m (modules_of rs)) (x ∷ []) []) where
    own_there : m < modules_of rs → ltb m (modules_of rs) ≡ true → Done image B D a
    own_there l t =
        record {
          sim = rw (steps, stepped, t, reply_is m (r (B.module_at m).own) l, (s.modules m l).own) (reply_sim m (r (D.module_at m).own).own l);
          seen = rw (seeing, saw, t, reply_is m (r (B.module_at m).own) l, (s.modules m l).own) (unfold seen_of in refl);
          fed = rw (feeding, fed_one, t);
        }

    own_away : modules_of rs ≤ m → ltb m (modules_of rs) ≡ false → Done image B D a
    own_away l t =
        record {
          sim = rw (steps, stepped, t, reply_absent m (r (B.module_at m).own) l) (still_module rs B D s m);
          seen = rw (seeing, saw, t);
          fed = rw (feeding, fed_one, t);
        }

    own_done : Done image B D a
    own_done = go (ltb m (modules_of rs)) refl
      where
        go : (t : Bool) → ltb m (modules_of rs) ≡ t → Done image B D a
        go true t = own_there (ltb-true m (modules_of rs) t) t
        go false t = own_away (ltb-false m (modules_of rs) t) t

  pub respond_done : (m e : ℕ) → Done image B D (A.respond m e)
  unfolding A.step P.step C.act_seen P.act_seen C.act_fed P.act_fed act_of fed_of plan_of
  respond_done m e = own_done m (A.respond m e) (R.device_responds m e) (respond_of rs m e) refl refl refl refl refl refl

  pub tick_done : (m : ℕ) (f : Flow) → Done image B D (A.tick m f)
  unfolding A.step P.step C.act_seen P.act_seen C.act_fed P.act_fed act_of fed_of plan_of
  tick_done m f = own_done m (A.tick m f) (R.device_ticks m f) (tick_of rs f) refl refl refl refl refl refl

  -- ---- a delivery
  -- the calls on the party that a message names are the rules' options
  pub bid_here : (m v : ℕ) → R.neighbour (plan_of rs) m v ≡ true
      → SupervisorTakes (B.supervisor_at v) (R.take_bid (D.supervisor_at v) m) (S.deliver_by (verdict_of image) rs v (B.supervisor_at v) (Some (Bid m v)))
  bid_here m v n =
      let l : v < supervisors_of rs = near_supervisor rs L m v n in
      bid_call rs L m v (B.supervisor_at v) (D.supervisor_at v) n (supervisor_fits_lem rs L D O I v (B.supervisor_at v) l (s.supervisors v l)) (s.supervisors v l) (verdict_of image) plan

  pub permit_here : (v m k : ℕ) → R.neighbour (plan_of rs) m v ≡ true
      → ModuleTakes (B.module_at m) (R.take_permit (D.module_at m) v k) (M.deliver_by (verdict_of image) rs m (B.module_at m) (Some (Permit v m k)))
  permit_here v m k n =
      let l : m < modules_of rs = near_module rs L m v n in
      permit_call rs L v m k (B.module_at m) (D.module_at m) n (module_fits_lem rs L D O I m (B.module_at m) l (s.modules m l)) (s.modules m l)
      (λ u e. ap (M.missing rs m) (s.modules m l).held ∙ missing_same rs (few rs L) (watched rs L) m (D.module_at m).held ∙ (I.modules m).bid_lowest u e) (verdict_of image) plan

  pub release_here : (m v : ℕ) (e : Option ℕ) → ReleaseNames (plan_of rs) m v e
      → SupervisorTakes (B.supervisor_at v) (R.take_release (plan_of rs) v (D.supervisor_at v) m e) (S.deliver_by (verdict_of image) rs v (B.supervisor_at v) (Some (Release m v (event_byte e))))
  release_here m v e n =
      let l : v < supervisors_of rs = near_supervisor rs L m v n.neighbours in
      release_call rs L m v e (B.supervisor_at v) (D.supervisor_at v) n (supervisor_fits_lem rs L D O I v (B.supervisor_at v) l (s.supervisors v l)) (s.supervisors v l) (verdict_of image) plan

  -- whether it is taken or not, the systems stay the same
  message_sim : (g : R.Message) (w : List A.Sent) (r : List R.Message) → Names (plan_of rs) g → parse (bytes_of g) ≡ Some (message_of g) → A.under_way w ≡ map bytes_of r
      → Sim rs (A.delivered image B (bytes_of g) w (Some (message_of g))) (P.after_message (plan_of rs) D r g)
  unfolding A.delivered message_of P.after_message
  message_sim (R.bid m v) w r n e f =
      rw e (with_supervisor_lem rs B D s v _ _ w r (supervisor_after (B.supervisor_at v) (D.supervisor_at v) (R.take_bid (D.supervisor_at v) m) (S.deliver_by (verdict_of image) rs v (B.supervisor_at v) (Some (Bid m v))) (s.supervisors v (near_supervisor rs L m v n)) (bid_here m v n)) f)
  message_sim (R.permit v m k) w r n e f =
      rw e (with_module_lem rs B D s m _ _ w r (module_after (B.module_at m) (D.module_at m) (R.take_permit (D.module_at m) v k) (M.deliver_by (verdict_of image) rs m (B.module_at m) (Some (Permit v m k))) (s.modules m (near_module rs L m v n)) (permit_here v m k n)) f)
  message_sim (R.release m v o) w r n e f =
      rw e (with_supervisor_lem rs B D s v _ _ w r (supervisor_after (B.supervisor_at v) (D.supervisor_at v) (R.take_release (plan_of rs) v (D.supervisor_at v) m o) (S.deliver_by (verdict_of image) rs v (B.supervisor_at v) (Some (Release m v (event_byte o)))) (s.supervisors v (near_supervisor rs L m v n.neighbours)) (release_here m v o n)) f)

  -- what a delivery brings is the message of the rules at its index
  pub brought_is : (k : ℕ) → picked_of bytes_of (pick (index_under_way k B.sent) D.under_way) ≡ brought_with (A.brought k B.sent) (A.under_way (A.mark k B.sent))
  brought_is k = sym (pick_map bytes_of (index_under_way k B.sent) D.under_way) ∙ ap (pick (index_under_way k B.sent)) (sym s.wire) ∙ pick_index k B.sent

  delivery_sim : (k : ℕ) (o : Option (Picked R.Message)) (b : Option (List ℕ)) → pick (index_under_way k B.sent) D.under_way ≡ o
      → picked_of bytes_of o ≡ brought_with b (A.under_way (A.mark k B.sent)) → Sim rs (A.delivered_at image B k b) (P.after_delivery (plan_of rs) D o)
  unfolding A.delivered_at picked_of P.after_delivery brought_with
  delivery_sim k None None e f = s
  delivery_sim k None (Some b) e f = let z : ◌≡◌ {A = ℕ} 0 1 = cc in absurd (omega arith)
  delivery_sim k (Some q) None e f = let z : ◌≡◌ {A = ℕ} 0 1 = cc in absurd (omega arith)
  delivery_sim k (Some q) (Some b) e f =
      let t = pick_inserted (index_under_way k B.sent) D.under_way q e in
      let z : ◌≡◌ {A = Picked (List ℕ)} (record { item = bytes_of q.item; rest = map bytes_of q.rest }) (record { item = b; rest = A.under_way (A.mark k B.sent) }) = cc in
      let back : parse (bytes_of q.item) ≡ Some (message_of q.item) = read_back rs L D O I q.item t in
      subst (λ (c : List ℕ). Sim rs (A.delivered image B c (A.mark k B.sent) (parse c)) (P.after_message (plan_of rs) D q.rest q.item)) (ap (λ (x : Picked (List ℕ)). x.item) z)
      (subst (λ (g : Option Message). Sim rs (A.delivered image B (bytes_of q.item) (A.mark k B.sent) g) (P.after_message (plan_of rs) D q.rest q.item)) (sym back)
      (message_sim q.item (A.mark k B.sent) q.rest (inserted_all t I.names).0 back (sym (ap (λ (x : Picked (List ℕ)). x.rest) z))))

  pub deliver_done : (k : ℕ) → Done image B D (A.deliver k)
  deliver_done k =
      record {
        sim = unfold A.step P.step act_of in (delivery_sim k (pick (index_under_way k B.sent) D.under_way) (A.brought k B.sent) refl (brought_is k));
        seen = unfold C.act_seen P.act_seen act_of in refl;
        fed = unfold C.act_fed P.act_fed act_of in refl;
      }

  pub act_done : (a : A.Act) → A.Lent a → Done image B D a
  act_done (A.module_step m b) n = module_done m b n
  act_done (A.supervisor_step v b) n = supervisor_done v b n
  act_done (A.deliver k) n = deliver_done k
  act_done (A.respond m e) n = respond_done m e
  act_done (A.tick m f) n = tick_done m f
