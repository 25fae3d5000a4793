-- Whole lists of calls, and demand 3.
use Rattle.std.specs.Prelude.{Some, Ok}
use mathlib.Core.Path.{◌≡◌, refl, sym, ap, ap₂, ◌∙◌, subst}
use mathlib.Core.Logic.{◌⊎◌, inl, inr}
use mathlib.Core.Bool.{Bool, true, false, cond}
use mathlib.Core.List.{List, [], ◌∷◌, ◌++◌, map}
use Prim.Native.Nat.{ℕ, ◌<◌}
use lib.Dec.{ltb}
use borrow.Author.Tests.{ltb-true}
use Rattle.records.specs.declared.Record.{Record}
use Rattle.reader.specs.Walk.{records_of}
use Rattle.rules.specs.LookUp.{modules_of, supervisor_state}
use Rattle.rules.specs.Check.{verdict_of, IsPlan}
use Rattle.plan.specs.Plan.{supervisor_move}
use Rattle.modules.specs.declared.Own.{Own}
use Rattle.modules.specs.declared.Replied.{Replied}
use Rattle.modules.specs.Procedure.{called_by, respond_of, tick_of}
use Rattle.modules.specs.Fits.{own_fits}
use Rattle.device_states.specs.declared.Device.{Device}
use Rattle.device_states.specs.States as States
use Rattle.device.specs.Device as Dev
use Rattle.protocol.specs.Plan.{Plan, Laws}
use Rattle.protocol.specs.Generic.{update}
use Rattle.protocol.specs.Rules as R
use Rattle.protocol.specs.System as P
use Rattle.protocol.proofs.Tools.{update_same}
use Rattle.protocol.proofs.Invariant.{Inv}
use Rattle.protocol.proofs.Theorem.{good}
use Rattle.agreement.specs.PlanOf.{plan_of}
use Rattle.agreement.specs.System as A
use Rattle.agreement.specs.Compared as C
use Rattle.agreement.proofs.Device.{Same, reply_same, turn_same, after_same, turn_call, reply_call}
use Rattle.agreement.proofs.Fit.{few_modules, few, watched}
use Rattle.agreement.proofs.Simulation.{Sim, act_of, acts_of, seen_of, fed_of, act_done, map_append}

-- the module that a one-device act names
unfoldable module_of : R.DeviceAct → ℕ
module_of (R.device_turns m) = m
module_of (R.device_responds m e) = m
module_of (R.device_ticks m f) = m

-- a call feeds the one device nothing, or one act on a module of the plan
AtMostOne : List Record → List R.DeviceAct → Type 0
AtMostOne rs os = (os ≡ []) ⊎ ((x : R.DeviceAct) × (os ≡ x ∷ []) × (module_of x < modules_of rs))

module _ (rs : List Record) (D : P.System) (w : List A.Sent) where
  when : (m : ℕ) (x : R.DeviceAct) → module_of x ≡ m → (b : Bool) → ltb m (modules_of rs) ≡ b → AtMostOne rs (cond b (x ∷ []) [])
  unfolding AtMostOne
  when m x e true t = inr (x, refl, subst (λ (n : ℕ). n < modules_of rs) (sym e) (ltb-true m (modules_of rs) t))
  when m x e false t = inl refl

  fed_one : (a : A.Act) → AtMostOne rs (P.act_fed (plan_of rs) D (act_of w a))
  unfolding P.act_fed act_of plan_of
  fed_one (A.module_step m b) = go (R.choice (plan_of rs) m (D.module_at m)) (ltb m (modules_of rs)) refl
    where
      go : (c : R.Choice) (t : Bool) → ltb m (modules_of rs) ≡ t → AtMostOne rs (cond t (P.step_fed m c) [])
      go R.takes_turn t q = unfold P.step_fed in (when m (R.device_turns m) (unfold module_of in refl) t q)
      go R.waits true q = unfold AtMostOne P.step_fed in (inl refl)
      go R.waits false q = unfold AtMostOne in (inl refl)
      go (R.bids_to v) true q = unfold AtMostOne P.step_fed in (inl refl)
      go (R.bids_to v) false q = unfold AtMostOne in (inl refl)
  fed_one (A.supervisor_step v b) = unfold AtMostOne in (inl refl)
  fed_one (A.deliver k) = unfold AtMostOne in (inl refl)
  fed_one (A.respond m e) = when m (R.device_responds m e) (unfold module_of in refl) (ltb m (modules_of rs)) refl
  fed_one (A.tick m f) = when m (R.device_ticks m f) (unfold module_of in refl) (ltb m (modules_of rs)) refl

-- ---- the one device
seen_append : (image : List ℕ) (d : Device) (l r : List C.DeviceAct) → C.device_seen image d (l ++ r) ≡ C.device_seen image d l ++ C.device_seen image (C.device_run image d l) r
unfolding C.device_seen C.device_run
seen_append image d [] r = refl
seen_append image d (a ∷ l) r = ap (λ (t : List C.Seen). C.device_act_seen image d a ∷ t) (seen_append image (C.device_step image d a) l r)

pub run_append : (image : List ℕ) (d : Device) (l r : List C.DeviceAct) → C.device_run image d (l ++ r) ≡ C.device_run image (C.device_run image d l) r
unfolding C.device_run
run_append image d [] r = refl
run_append image d (a ∷ l) r = run_append image (C.device_step image d a) l r

rules_append : (Q : Plan) (O : R.OneDevice) (l r : List R.DeviceAct) → P.device_seen Q O (l ++ r) ≡ P.device_seen Q O l ++ P.device_seen Q (P.device_run Q O l) r
unfolding P.device_seen P.device_run
rules_append Q O [] r = refl
rules_append Q O (a ∷ l) r = ap (λ (t : List P.Seen). P.device_act_seen Q O a ∷ t) (rules_append Q (R.device_step Q O a) l r)

rules_run_append : (Q : Plan) (O : R.OneDevice) (l r : List R.DeviceAct) → P.device_run Q O (l ++ r) ≡ P.device_run Q (P.device_run Q O l) r
unfolding P.device_run
rules_run_append Q O [] r = refl
rules_run_append Q O (a ∷ l) r = rules_run_append Q (R.device_step Q O a) l r

module _ (image : List ℕ) (plan : IsPlan image) (L : Laws (plan_of (records_of image))) where
  abbrev rs : List Record
  rs = records_of image

  kept : (v x e y : ℕ) → supervisor_move rs v x e ≡ Some y → supervisor_state rs v y ≡ true
  kept v x e y h = unfold plan_of in (L.supervisor_moves v x e y h)

  -- what one act of the one device gives
  record Fed (d : Device) (O : R.OneDevice) (x : R.DeviceAct) : Type 0 where
    same : Same rs (C.device_step image d (fed_of x)) (R.device_step (plan_of rs) O x)
    seen : C.device_act_seen image d (fed_of x) ≡ seen_of (P.device_act_seen (plan_of rs) O x)

  reply_fed : (d : Device) (O : R.OneDevice) (m : ℕ) (r : Own → Replied) → Same rs d O → m < modules_of rs → own_fits rs m (r (O.owns m)).own ≡ true
      → Same rs (Dev.reply_by (verdict_of image) rs d m (r (States.own_at d m))).device (record { owns = update O.owns m (r (O.owns m)).own; states = O.states })
  reply_fed d O m r s l f =
      rw (reply_call rs (few_modules rs L) (few rs L) (watched rs L) kept (verdict_of image) d m (r (States.own_at d m)) plan s.fits l, s.owns m l)
      (reply_same rs (few_modules rs L) (few rs L) (watched rs L) kept d O m (r (O.owns m)).own s l f)

  own_of : (d : Device) (O : R.OneDevice) (m : ℕ) (o : Own) (st : ℕ → ℕ) → m < modules_of rs → Same rs d (record { owns = update O.owns m o; states = st }) → States.own_at d m ≡ o
  own_of d O m o st l s = s.owns m l ∙ update_same O.owns m o

  reply_seen : (d : Device) (O : R.OneDevice) (m : ℕ) (r : Own → Replied) → Same rs d O → m < modules_of rs → own_fits rs m (r (O.owns m)).own ≡ true
      → C.call_seen m (Dev.reply_by (verdict_of image) rs d m (r (States.own_at d m))).answer (States.own_at (Dev.reply_by (verdict_of image) rs d m (r (States.own_at d m))).device m)
      ≡ C.call_seen m (called_by (r (O.owns m)).reply) (r (O.owns m)).own
  reply_seen d O m r s l f =
      ap₂ (C.call_seen m)
      (rw (reply_call rs (few_modules rs L) (few rs L) (watched rs L) kept (verdict_of image) d m (r (States.own_at d m)) plan s.fits l, s.owns m l))
      (own_of _ O m (r (O.owns m)).own O.states l (reply_fed d O m r s l f))

  -- a turn of a module of the plan
  module _ (d : Device) (O : R.OneDevice) (m : ℕ) (s : Same rs d O) (l : m < modules_of rs) (f : own_fits rs m (R.device_turn (plan_of rs) O m).own ≡ true) where
    abbrev after : R.OneDevice
    after = record { owns = update O.owns m (R.device_turn (plan_of rs) O m).own; states = λ v. R.state_after (plan_of rs) v (O.states v) (R.device_turn (plan_of rs) O m).turn }

    turned_is : Dev.turned rs d m ≡ R.device_turn (plan_of rs) O m
    turned_is = turn_same rs (few_modules rs L) (few rs L) (watched rs L) kept d O m s l

    call_is : Dev.turn_by (verdict_of image) rs d m ≡ record { answer = Ok (R.device_turn (plan_of rs) O m).turn; device = Dev.after_turn rs d m (R.device_turn (plan_of rs) O m) }
    call_is =
        turn_call rs (few_modules rs L) (few rs L) (watched rs L) kept (verdict_of image) d m plan s.fits l
        ∙ ap (λ t. record { answer = Ok t.turn; device = Dev.after_turn rs d m t }) turned_is

    turn_after : Same rs (Dev.after_turn rs d m (R.device_turn (plan_of rs) O m)) after
    turn_after = after_same rs (few_modules rs L) (few rs L) (watched rs L) kept d O m (R.device_turn (plan_of rs) O m) s l f

    turn_fed : Same rs (Dev.turn_by (verdict_of image) rs d m).device after
    turn_fed = subst (λ c. Same rs c.device after) (sym call_is) turn_after

    turn_seen_lem : C.turning_seen m (Dev.turn_by (verdict_of image) rs d m).answer (States.own_at (Dev.turn_by (verdict_of image) rs d m).device m)
        ≡ C.turn_seen m (R.device_turn (plan_of rs) O m).turn (R.device_turn (plan_of rs) O m).own
    unfolding C.turning_seen
    turn_seen_lem =
        ap (λ c. C.turning_seen m c.answer (States.own_at c.device m)) call_is
        ∙ ap (C.turn_seen m (R.device_turn (plan_of rs) O m).turn) (own_of _ O m (R.device_turn (plan_of rs) O m).own after.states l turn_after)

  fed_act : (d : Device) (O : R.OneDevice) (x : R.DeviceAct) → Same rs d O → module_of x < modules_of rs
      → own_fits rs (module_of x) ((R.device_step (plan_of rs) O x).owns (module_of x)) ≡ true → Fed d O x
  unfolding module_of C.device_step R.device_step C.device_act_seen P.device_act_seen fed_of seen_of plan_of
  fed_act d O (R.device_turns m) s l f =
      let g : own_fits rs m (R.device_turn (plan_of rs) O m).own ≡ true = sym (ap (own_fits rs m) (update_same O.owns m (R.device_turn (plan_of rs) O m).own)) ∙ f in
      record { same = turn_fed d O m s l g; seen = turn_seen_lem d O m s l g }
  fed_act d O (R.device_responds m e) s l f =
      let g : own_fits rs m (respond_of rs m e (O.owns m)).own ≡ true = sym (ap (own_fits rs m) (update_same O.owns m (respond_of rs m e (O.owns m)).own)) ∙ f in
      record { same = reply_fed d O m (respond_of rs m e) s l g; seen = reply_seen d O m (respond_of rs m e) s l g }
  fed_act d O (R.device_ticks m r) s l f =
      let g : own_fits rs m (tick_of rs r (O.owns m)).own ≡ true = sym (ap (own_fits rs m) (update_same O.owns m (tick_of rs r (O.owns m)).own)) ∙ f in
      record { same = reply_fed d O m (tick_of rs r) s l g; seen = reply_seen d O m (tick_of rs r) s l g }

  -- what a call feeds
  record FedAll (d : Device) (O : R.OneDevice) (os : List R.DeviceAct) : Type 0 where
    same : Same rs (C.device_run image d (map fed_of os)) (P.device_run (plan_of rs) O os)
    seen : C.device_seen image d (map fed_of os) ≡ map seen_of (P.device_seen (plan_of rs) O os)

  fed_all : (d : Device) (O : R.OneDevice) (os : List R.DeviceAct) → Same rs d O → AtMostOne rs os
      → ((m : ℕ) → m < modules_of rs → own_fits rs m ((P.device_run (plan_of rs) O os).owns m) ≡ true) → FedAll d O os
  unfolding AtMostOne
  fed_all d O os s h f = go h
    where
      none_fed : FedAll d O []
      none_fed = unfold C.device_run P.device_run C.device_seen P.device_seen in (record { same = s; seen = refl })

      one_fed : (x : R.DeviceAct) → os ≡ x ∷ [] → module_of x < modules_of rs → FedAll d O (x ∷ [])
      one_fed x e l =
          let g = fed_act d O x s l (unfold P.device_run in (subst (λ (t : List R.DeviceAct). own_fits rs (module_of x) ((P.device_run (plan_of rs) O t).owns (module_of x)) ≡ true) e (f (module_of x) l))) in
          unfold C.device_run P.device_run C.device_seen P.device_seen in (record { same = g.same; seen = ap (λ (t : C.Seen). t ∷ []) g.seen })

      go : (os ≡ []) ⊎ ((x : R.DeviceAct) × (os ≡ x ∷ []) × (module_of x < modules_of rs)) → FedAll d O os
      go (inl e) = subst (FedAll d O) (sym e) none_fed
      go (inr q) = subst (FedAll d O) (sym q.1) (one_fed q.0 q.1 q.2)

  -- ---- whole lists
  pub record Ran (B : A.System) (D : P.System) (O : R.OneDevice) (d : Device) (acts : List A.Act) : Type 0 where
    pub sim : Sim rs (A.run image B acts) (P.run (plan_of rs) D (acts_of image B acts))
    pub seen : C.seen image B acts ≡ map seen_of (P.seen (plan_of rs) D (acts_of image B acts))
    pub device : C.device_seen image d (C.fed image B acts) ≡ map seen_of (P.device_seen (plan_of rs) O (P.fed (plan_of rs) D (acts_of image B acts)))
    pub same : Same rs (C.device_run image d (C.fed image B acts)) (P.device_run (plan_of rs) O (P.fed (plan_of rs) D (acts_of image B acts)))

  pub ran : (acts : List A.Act) (B : A.System) (D : P.System) (O : R.OneDevice) (d : Device) → A.AllLent acts → Sim rs B D → Inv (plan_of rs) D O → Same rs d O → Ran B D O d acts
  unfolding acts_of A.run P.run C.seen P.seen C.device_seen P.device_seen C.fed P.fed
  ran [] B D O d n s I e = record { sim = s; seen = refl; device = refl; same = unfold C.device_run P.device_run in e }
  ran (a ∷ l) B D O d n s I e =
      let c = act_done image plan L B D O s I a n.0 in
      let g = good (plan_of rs) L D O I (act_of B.sent a) in
      let os : List R.DeviceAct = P.act_fed (plan_of rs) D (act_of B.sent a) in
      let fits : (m : ℕ) → m < modules_of rs → own_fits rs m ((P.device_run (plan_of rs) O os).owns m) ≡ true = λ m k. sym (ap (own_fits rs m) (g.inv.owns m)) ∙ fits_here g.inv m k in
      let h = fed_all d O os e (fed_one rs D B.sent a) fits in
      let r = ran l (A.step image B a) (P.step (plan_of rs) D (act_of B.sent a)) (P.device_run (plan_of rs) O os) (C.device_run image d (map fed_of os)) n.1 c.sim g.inv h.same in
      record {
        sim = r.sim;
        seen = ap₂ ◌++◌ c.seen r.seen ∙ sym (map_append seen_of (P.act_seen (plan_of rs) D (act_of B.sent a)) (P.seen (plan_of rs) (P.step (plan_of rs) D (act_of B.sent a)) (acts_of image (A.step image B a) l)));
        device =
            ap (λ (t : List C.DeviceAct). C.device_seen image d (t ++ C.fed image (A.step image B a) l)) c.fed
            ∙ seen_append image d (map fed_of os) (C.fed image (A.step image B a) l)
            ∙ ap₂ ◌++◌ h.seen r.device
            ∙ sym (map_append seen_of (P.device_seen (plan_of rs) O os) (P.device_seen (plan_of rs) (P.device_run (plan_of rs) O os) (P.fed (plan_of rs) (P.step (plan_of rs) D (act_of B.sent a)) (acts_of image (A.step image B a) l))))
            ∙ ap (map seen_of) (sym (rules_append (plan_of rs) O os (P.fed (plan_of rs) (P.step (plan_of rs) D (act_of B.sent a)) (acts_of image (A.step image B a) l))));
        same =
            subst (λ (z : R.OneDevice). Same rs (C.device_run image d (C.fed image B (a ∷ l))) z) (sym (rules_run_append (plan_of rs) O os (P.fed (plan_of rs) (P.step (plan_of rs) D (act_of B.sent a)) (acts_of image (A.step image B a) l))))
            (subst (λ (z : Device). Same rs z (P.device_run (plan_of rs) (P.device_run (plan_of rs) O os) (P.fed (plan_of rs) (P.step (plan_of rs) D (act_of B.sent a)) (acts_of image (A.step image B a) l))))
            (sym (ap (λ (t : List C.DeviceAct). C.device_run image d (t ++ C.fed image (A.step image B a) l)) c.fed ∙ run_append image d (map fed_of os) (C.fed image (A.step image B a) l)))
            r.same);
      }
    where
      fits_here : {D' : P.System} {O' : R.OneDevice} → Inv (plan_of rs) D' O' → (m : ℕ) → m < modules_of rs → own_fits rs m (D'.module_at m).own ≡ true
      fits_here J m k = unfold plan_of in ((J.modules m).fits k)
