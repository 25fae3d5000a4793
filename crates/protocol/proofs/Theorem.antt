-- Demand 3 for every plan with the laws and every list of acts, from any system and one device that have the invariant.
use Rattle.std.specs.Prelude.{Option, Some, None, Result, ⊤, unwrap_or, option_map}
use Prim.Native.Nat.{ℕ, ◌<◌}
use native.Mathlib.Omega.{arith}
use mathlib.Core.Path.{◌≡◌, refl, sym, ap, ap₂, ◌∙◌}
use mathlib.Core.Logic.{◌⊎◌, inl, inr}
use mathlib.Core.Bool.{Bool, true, false, cond}
use mathlib.Core.List.{List, [], ◌∷◌, ◌++◌, append_assoc}
use lib.Dec.{ltb}
use lib.Pow.{pow_pos}
use borrow.Author.Tests.{ltb-true}
use Rattle.bits.specs.Bit.{bit, least, module_after}
use Rattle.bits.proofs.Laws.{bit_none}
use Rattle.water.specs.declared.Flow.{Flow}
use Rattle.modules.specs.declared.Own.{Own}
use Rattle.protocol.specs.Generic.{update, Picked, pick}
use Rattle.protocol.specs.Plan.{Plan, Fired, TurnLaw, OwnLaws, Laws}
use Rattle.protocol.specs.Rules.{OneDevice, state_after, shown_below, device_turn, DeviceAct, device_responds, device_ticks, device_step, Message, bid, permit, release, missing, Choice, takes_turn, waits, bids_to, choice_on, choice, SupervisorState, first_noted, served_on, served}
use Rattle.protocol.specs.System.{System, Act, module_step, supervisor_step, deliver, respond, tick, after_module_step, after_supervisor_step, after_message, after_delivery, after_own, step, run, start_system, start_device, Seen, turn_seen, reply_seen, replied_seen, step_seen, act_seen, seen, step_fed, act_fed, fed, device_act_seen, device_run, device_seen, turn_events, record_of_events, commands_of, Position, start_position, after_event, replay, LegalEvent, Legal, none_left, next}
use Rattle.protocol.specs.Demand.{Demand3}
use Rattle.bits.proofs.Least.{least_some}
use Rattle.protocol.proofs.Tools.{clash, either_way, digit, one_at, update_same, update_other, update_each, count_nil, nil, Inserted, pick_inserted}
use Rattle.protocol.proofs.Invariant.{bid_of, permit_of, release_of, Inv}
use Rattle.protocol.proofs.Keep.{sending_keeps, bidding_keeps, bid_keeps, permit_keeps, release_keeps, own_keeps}
use Rattle.protocol.proofs.Turn.{shown_in, turn_agrees, turn_keeps}
use Rattle.protocol.proofs.Progress.{all_accepted, progress}
use Rattle.protocol.proofs.Language.{legal_supervised}

-- a position of the replay that stands where the one device does
pub record StandsAt (P : Plan) (O : OneDevice) (p : Position) : Type 0 where
  pub modules : (m : ℕ) → m < P.modules → (O.owns m).state ≡ p.module_states m
  pub supervisors : (s : ℕ) → O.states s ≡ p.supervisor_states s

-- what one act has to give: D' its system, fs what it feeds the one device, vs what is seen
pub record Good (P : Plan) (O : OneDevice) (D' : System) (fs : List DeviceAct) (vs : List Seen) : Type 0 where
  pub inv : Inv P D' (device_run P O fs)
  pub equal : vs ≡ device_seen P O fs
  pub legal : (p : Position) → StandsAt P O p → Legal P p (record_of_events vs)
  pub stands : (p : Position) → StandsAt P O p → StandsAt P (device_run P O fs) (replay P p (record_of_events vs))

nothing : (P : Plan) (O : OneDevice) (D' : System) → Inv P D' O → Good P O D' [] []
unfolding device_run device_seen record_of_events replay
nothing P O D' I = record { inv = I; equal = refl; legal = λ p a. none_left; stands = λ p a. a }

-- an act on a party that the plan may lack
if_there : (P : Plan) (O : OneDevice) (D D' : System) (fs : List DeviceAct) (vs : List Seen) (b : Bool) → Inv P D O → (b ≡ true → Good P O D' fs vs)
    → Good P O (cond b D' D) (cond b fs []) (cond b vs [])
if_there P O D D' fs vs true I g = g refl
if_there P O D D' fs vs false I g = nothing P O D I

-- a module's own part is replaced by one with the same state
same_state : (P : Plan) (O : OneDevice) (m : ℕ) (o : Own) (p : Position) → (m < P.modules → o.state ≡ (O.owns m).state) → StandsAt P O p
    → StandsAt P (record { owns = update O.owns m o; states = O.states }) p
same_state P O m o p e a = record {
  modules = update_each (λ b x. b < P.modules → x.state ≡ p.module_states b) O.owns m o (λ l. e l ∙ a.modules m l) (λ b h. a.modules b);
  supervisors = a.supervisors;
}

-- ---- a turn is legal, and the replay follows it
module _ (P : Plan) (A : Laws P) (O : OneDevice) (m : ℕ) (mine : m < P.modules) where
  abbrev mask : ℕ
  mask = shown_below P O.states P.supervisors

  disabled_by_none : (e s : ℕ) (o : Own) → Fired P m mask (O.owns m) e o → s < P.supervisors → bit (P.shown s (O.states s)) e ≡ false
  disabled_by_none e s o f b = go (either_way (bit (P.shown s (O.states s)) e)) f.free
    where
      go : (bit (P.shown s (O.states s)) e ≡ true) ⊎ (bit (P.shown s (O.states s)) e ≡ false) → (P.controllable e ≡ false) ⊎ (bit mask e ≡ false)
          → bit (P.shown s (O.states s)) e ≡ false
      go (inl h) (inl c) = clash (A.shown_controllable s (O.states s) e h) c
      go (inl h) (inr c) = clash (shown_in P O.states P.supervisors s e b h) c
      go (inr h) c = h

  module _ (p : Position) (a : StandsAt P O p) where
    move_there : (e y : ℕ) → P.move m (O.owns m).state e ≡ Some y → P.move m (p.module_states m) e ≡ Some y
    move_there e y h = ap (λ (x : ℕ). P.move m x e) (sym (a.modules m mine)) ∙ h

    turn_legal : (t : Option ℕ) (o : Own) → TurnLaw P m mask (O.owns m) t o → Legal P p (turn_events t ++ [])
    unfolding turn_events
    turn_legal (Some e) o l =
        let w : P.owner e ≡ m = A.move_owner m (O.owns m).state e o.state l.listed in
        let allowed : LegalEvent P p e = record {
          listed = rw (w, move_there e o.state l.listed);
          disabled_by_none = λ s b. rw (← a.supervisors s) (disabled_by_none e s o l b);
        } in
        next allowed none_left
    turn_legal None o l = none_left

    turn_leads : (t : Option ℕ) (o : Own) → TurnLaw P m mask (O.owns m) t o
        → StandsAt P (record { owns = update O.owns m o; states = λ s. state_after P s (O.states s) t }) (replay P p (turn_events t ++ []))
    unfolding turn_events replay after_event state_after
    turn_leads (Some e) o l =
        let w : P.owner e ≡ m = A.move_owner m (O.owns m).state e o.state l.listed in
        let y : ℕ = unwrap_or (P.move m (p.module_states m) e) (p.module_states m) in
        record {
          modules = rw w (update_each (λ b x. b < P.modules → x.state ≡ update p.module_states m y b) O.owns m o
              (λ i. rw (move_there e o.state l.listed) (sym (update_same p.module_states m o.state)))
              (λ b h i. a.modules b i ∙ sym (update_other p.module_states m y b h)));
          supervisors = λ s. ap (λ (x : ℕ). cond (P.alphabet s e) (unwrap_or (P.supervisor_move s x e) x) x) (a.supervisors s);
        }
    turn_leads None o l = same_state P O m o p (λ i. l) a

-- ---- what a choice says
pub choice_turn : (o : Option ℕ) (n : Bool) (b : Option ℕ) (h w : Bool) → choice_on o n b h w ≡ takes_turn → o ≡ None
unfolding choice_on
choice_turn None n b h w e = refl
choice_turn (Some s) n (Some b) h w e = let z : ◌≡◌ {A = ℕ} 0 1 = cc in absurd (omega arith)
choice_turn (Some s) n None true w e = let z : ◌≡◌ {A = ℕ} 0 1 = cc in absurd (omega arith)
choice_turn (Some s) n None false true e = let z : ◌≡◌ {A = ℕ} 0 1 = cc in absurd (omega arith)
choice_turn (Some s) n None false false e = let z : ◌≡◌ {A = ℕ} 0 1 = cc in absurd (omega arith)

pub choice_bid : (o : Option ℕ) (n : Bool) (b : Option ℕ) (h w : Bool) (s : ℕ) → choice_on o n b h w ≡ bids_to s → (o ≡ Some s) × (b ≡ None)
unfolding choice_on
choice_bid None true b h w s e = let z : ◌≡◌ {A = ℕ} 0 1 = cc in absurd (omega arith)
choice_bid None false b h true s e = let z : ◌≡◌ {A = ℕ} 0 1 = cc in absurd (omega arith)
choice_bid None false b h false s e = let z : ◌≡◌ {A = ℕ} 0 1 = cc in absurd (omega arith)
choice_bid (Some t) n (Some b) h w s e = let z : ◌≡◌ {A = ℕ} 0 1 = cc in absurd (omega arith)
choice_bid (Some t) n None true w s e = let z : t ≡ s = cc in (ap {B = Option ℕ} Some z, refl)
choice_bid (Some t) n None false true s e = let z : t ≡ s = cc in (ap {B = Option ℕ} Some z, refl)
choice_bid (Some t) n None false false s e = let z : ◌≡◌ {A = ℕ} 0 1 = cc in absurd (omega arith)

-- the module served is noted, and the permit was home
pub served_noted : (y : SupervisorState) (m : ℕ) → served y ≡ Some m → (y.holder ≡ None) × (bit y.noted m ≡ true)
unfolding served
served_noted y m e = at_home y.holder refl e
  where
    found : (o : Option ℕ) → least (λ k. bit y.noted (module_after y.last_served k)) 16 ≡ o → option_map (module_after y.last_served) o ≡ Some m → bit y.noted m ≡ true
    found None q f = let z : ◌≡◌ {A = ℕ} 0 1 = cc in absurd (omega arith)
    found (Some k) q f = let z : module_after y.last_served k ≡ m = cc in rw (← z) (least_some (λ k. bit y.noted (module_after y.last_served k)) 16 k q).passes

    at_home : (o : Option ℕ) → y.holder ≡ o → served_on o (first_noted y) ≡ Some m → (y.holder ≡ None) × (bit y.noted m ≡ true)
    at_home (Some k) q f = unfold served_on in (let z : ◌≡◌ {A = ℕ} 0 1 = cc in absurd (omega arith))
    at_home None q f = unfold served_on first_noted in (q, found (least (λ k. bit y.noted (module_after y.last_served k)) 16) refl f)

-- ---- each act
module _ (P : Plan) (A : Laws P) (D : System) (O : OneDevice) (I : Inv P D O) where
  turn_good : (m : ℕ) → m < P.modules → missing P m (D.module_at m).held ≡ None
      → Good P O (after_module_step P D m takes_turn) (step_fed m takes_turn) (step_seen P m (D.module_at m) takes_turn)
  unfolding step_fed step_seen device_run device_seen device_act_seen
  turn_good m b h = record {
    inv = turn_keeps P A D O I m b h;
    equal = rw (turn_agrees P A D O I m b h);
    legal = λ p a. unfold record_of_events in (rw (turn_agrees P A D O I m b h) (turn_legal P A O m b p a (device_turn P O m).turn (device_turn P O m).own law));
    stands = λ p a. unfold record_of_events device_step in (rw (turn_agrees P A D O I m b h) (turn_leads P A O m b p a (device_turn P O m).turn (device_turn P O m).own law));
  }
    where
      law : TurnLaw P m (shown_below P O.states P.supervisors) (O.owns m) (device_turn P O m).turn (device_turn P O m).own
      law = unfold device_turn in ((A.own_laws m (O.owns m) b (rw (← I.owns m) ((I.modules m).fits b))).turn_law (shown_below P O.states P.supervisors))

  module_step_good : (m : ℕ) → m < P.modules → (c : Choice) → choice P m (D.module_at m) ≡ c
      → Good P O (after_module_step P D m c) (step_fed m c) (step_seen P m (D.module_at m) c)
  module_step_good m b takes_turn e = turn_good m b (unfold choice in (choice_turn (missing P m (D.module_at m).held) _ _ _ _ e))
  module_step_good m b (bids_to s) e = unfold step_fed step_seen in (nothing P O (after_module_step P D m (bids_to s)) (bidding_keeps P D O I m s c.1 c.0))
    where
      c : (missing P m (D.module_at m).held ≡ Some s) × ((D.module_at m).outstanding ≡ None)
      c = unfold choice in (choice_bid (missing P m (D.module_at m).held) _ (D.module_at m).outstanding _ _ s e)
  module_step_good m b waits e = unfold step_fed step_seen after_module_step in (nothing P O D I)

  supervisor_step_keeps : (s : ℕ) (o : Option ℕ) → served (D.supervisor_at s) ≡ o → Inv P (after_supervisor_step P D s o) O
  supervisor_step_keeps s None e = unfold after_supervisor_step in I
  supervisor_step_keeps s (Some m) e = let q = served_noted (D.supervisor_at s) m e in sending_keeps P A D O I s m q.0 q.1

  message_keeps : (g : Message) (r : List Message) → Inserted g D.under_way r → Inv P (after_message P D r g) O
  message_keeps (bid m s) r t = bid_keeps P A D O I t
  message_keeps (permit s m k) r t = permit_keeps P A D O I t
  message_keeps (release m s v) r t = release_keeps P A D O I t

  delivery_keeps : (k : ℕ) (o : Option (Picked Message)) → pick k D.under_way ≡ o → Inv P (after_delivery P D o) O
  delivery_keeps k None e = unfold after_delivery in I
  delivery_keeps k (Some q) e = unfold after_delivery in (message_keeps q.item q.rest (pick_inserted k D.under_way q e))

  reply_good : (m : ℕ) (n : Result ⊤ ℕ) (o : Own) (act : DeviceAct) → P.fits m o ≡ true → o.state ≡ (O.owns m).state
      → device_step P O act ≡ record { owns = update O.owns m o; states = O.states } → device_act_seen P O act ≡ reply_seen m n o
      → Good P O (after_own D m o) (act ∷ []) (reply_seen m n o ∷ [])
  unfolding device_run device_seen record_of_events replay
  reply_good m n o act k t e f = record {
    inv = rw e (own_keeps P D O m o I k);
    equal = rw f;
    legal = λ p a. none_left;
    stands = λ p a. rw e (same_state P O m o p (λ i. t) a);
  }

  own_law : (m : ℕ) → m < P.modules → OwnLaws P m (D.module_at m).own
  own_law m b = A.own_laws m (D.module_at m).own b ((I.modules m).fits b)

  respond_good : (m e : ℕ) → m < P.modules
      → Good P O (after_own D m (P.respond m (D.module_at m).own e).own) (device_responds m e ∷ []) (replied_seen m (P.respond m (D.module_at m).own e) ∷ [])
  respond_good m e b = reply_good m _ _ (device_responds m e) ((own_law m b).respond_fits e) ((own_law m b).respond_state e ∙ ap (λ (o : Own). o.state) (I.owns m))
      (unfold device_step in (rw (I.owns m))) (unfold device_act_seen in (rw (I.owns m)))

  tick_good : (m : ℕ) (r : Flow) → m < P.modules
      → Good P O (after_own D m (P.tick m (D.module_at m).own r).own) (device_ticks m r ∷ []) (replied_seen m (P.tick m (D.module_at m).own r) ∷ [])
  tick_good m r b = reply_good m _ _ (device_ticks m r) ((own_law m b).tick_fits r) ((own_law m b).tick_state r ∙ ap (λ (o : Own). o.state) (I.owns m))
      (unfold device_step in (rw (I.owns m))) (unfold device_act_seen in (rw (I.owns m)))

  pub good : (a : Act) → Good P O (step P D a) (act_fed P D a) (act_seen P D a)
  unfolding step act_fed act_seen
  good (module_step m) = if_there P O D _ _ _ (ltb m P.modules) I (λ b. module_step_good m (ltb-true m P.modules b) (choice P m (D.module_at m)) refl)
  good (supervisor_step s) = nothing P O _ (go (ltb s P.supervisors))
    where
      go : (b : Bool) → Inv P (cond b (after_supervisor_step P D s (served (D.supervisor_at s))) D) O
      go true = supervisor_step_keeps s (served (D.supervisor_at s)) refl
      go false = I
  good (deliver k) = nothing P O _ (delivery_keeps k (pick k D.under_way) refl)
  good (respond m e) = if_there P O D _ _ _ (ltb m P.modules) I (λ b. respond_good m e (ltb-true m P.modules b))
  good (tick m r) = if_there P O D _ _ _ (ltb m P.modules) I (λ b. tick_good m r (ltb-true m P.modules b))

-- ---- lists of acts
device_run_append : (P : Plan) (O : OneDevice) (l r : List DeviceAct) → device_run P O (l ++ r) ≡ device_run P (device_run P O l) r
unfolding device_run
device_run_append P O [] r = refl
device_run_append P O (a ∷ l) r = device_run_append P (device_step P O a) l r

device_seen_append : (P : Plan) (O : OneDevice) (l r : List DeviceAct) → device_seen P O (l ++ r) ≡ device_seen P O l ++ device_seen P (device_run P O l) r
unfolding device_run device_seen
device_seen_append P O [] r = refl
device_seen_append P O (a ∷ l) r = ap (λ (x : List Seen). device_act_seen P O a ∷ x) (device_seen_append P (device_step P O a) l r)

record_of_events_append : (l r : List Seen) → record_of_events (l ++ r) ≡ record_of_events l ++ record_of_events r
unfolding record_of_events
record_of_events_append [] r = refl
record_of_events_append (turn_seen m t o ∷ l) r = ap (λ (y : List ℕ). turn_events t ++ y) (record_of_events_append l r) ∙ sym (append_assoc (turn_events t) (record_of_events l) (record_of_events r))
record_of_events_append (reply_seen m n o ∷ l) r = record_of_events_append l r

replay_append : (P : Plan) (p : Position) (l r : List ℕ) → replay P p (l ++ r) ≡ replay P (replay P p l) r
unfolding replay
replay_append P p [] r = refl
replay_append P p (e ∷ l) r = replay_append P (after_event P p e) l r

legal_append : (P : Plan) (p : Position) (l r : List ℕ) → Legal P p l → Legal P (replay P p l) r → Legal P p (l ++ r)
unfolding replay
legal_append P p [] r none_left h = h
legal_append P p (e ∷ l) r (next m t) h = next m (legal_append P (after_event P p e) l r t h)

pub record Whole (P : Plan) (D : System) (O : OneDevice) (acts : List Act) : Type 0 where
  pub inv : Inv P (run P D acts) (device_run P O (fed P D acts))
  pub equal : seen P D acts ≡ device_seen P O (fed P D acts)
  pub legal : (p : Position) → StandsAt P O p → Legal P p (record_of_events (seen P D acts))
  pub stands : (p : Position) → StandsAt P O p → StandsAt P (device_run P O (fed P D acts)) (replay P p (record_of_events (seen P D acts)))

whole_cons : (P : Plan) (D : System) (O : OneDevice) (a : Act) (l : List Act) → Good P O (step P D a) (act_fed P D a) (act_seen P D a)
    → Whole P (step P D a) (device_run P O (act_fed P D a)) l → Whole P D O (a ∷ l)
unfolding run fed seen
whole_cons P D O a l g w =
    let vs : List Seen = act_seen P D a in
    let rest : List Seen = seen P (step P D a) l in
    record {
      inv = rw (device_run_append P O (act_fed P D a) (fed P (step P D a) l)) w.inv;
      equal = ap₂ (λ (x y : List Seen). x ++ y) g.equal w.equal ∙ sym (device_seen_append P O (act_fed P D a) (fed P (step P D a) l));
      legal = λ p t. rw (record_of_events_append vs rest) (legal_append P p (record_of_events vs) (record_of_events rest) (g.legal p t) (w.legal (replay P p (record_of_events vs)) (g.stands p t)));
      stands = λ p t. rw (record_of_events_append vs rest, replay_append P p (record_of_events vs) (record_of_events rest), device_run_append P O (act_fed P D a) (fed P (step P D a) l))
          (w.stands (replay P p (record_of_events vs)) (g.stands p t));
    }

pub whole : (P : Plan) → Laws P → (acts : List Act) (D : System) (O : OneDevice) → Inv P D O → Whole P D O acts
whole P A [] D O I = unfold run fed seen device_run device_seen record_of_events replay in (record { inv = I; equal = refl; legal = λ p t. none_left; stands = λ p t. t })
whole P A (a ∷ l) D O I = let g = good P A D O I a in whole_cons P D O a l g (whole P A l (step P D a) (device_run P O (act_fed P D a)) g.inv)

-- ---- the start
pub start_inv : (P : Plan) → Laws P → Inv P (start_system P) (start_device P)
unfolding start_system start_device
start_inv P A = record {
  owns = λ m. refl;
  pairs = λ m s. record {
    bids = omega (arith, count_nil (bid_of m s), count_nil (permit_of m s), ap digit (bit_none m));
    permits = omega (arith, count_nil (permit_of m s), count_nil (release_of m s), ap digit (bit_none s));
  };
  modules = λ m. record {
    neighbours = λ s h. clash h (bit_none s);
    lowest = λ s t h l n. clash h (bit_none s);
    bid_lowest = λ s e. let z : ◌≡◌ {A = ℕ} 0 1 = cc in absurd (omega arith);
    received_all = λ s e h g. clash h (bit_none s);
    received_only = λ e h. clash h (bit_none e);
    none_received = λ e. refl;
    fits = A.start_fits m;
  };
  supervisors = λ s. record { noted_below = pow_pos 64; last_below = omega arith; fits = A.supervisor_start_lem s };
  names = nil;
  carries = nil;
  stands = λ s z. refl;
}

pub start_stands : (P : Plan) → Laws P → StandsAt P (start_device P) (start_position P)
unfolding start_device start_position
start_stands P A = record { modules = A.start_state_lem; supervisors = λ s. refl }

-- ---- a permit home: no release of that supervisor is under way
pub home_stands : (P : Plan) (D : System) (O : OneDevice) → Inv P D O → (s : ℕ) → (D.supervisor_at s).holder ≡ None → (D.supervisor_at s).state ≡ O.states s
home_stands P D O I s h = sym (I.stands s (λ m. omega (arith, (I.pairs m s).permits, ap (λ (o : Option ℕ). one_at o m) h)))

-- ---- demand 3
pub demand3_from : (P : Plan) → Laws P → (D : System) (O : OneDevice) (p : Position) → Inv P D O → StandsAt P O p → (acts : List Act) → Demand3 P D O p acts
demand3_from P A D O p I t acts =
    let w = whole P A acts D O I in
    let D' : System = run P D acts in
    let O' : OneDevice = device_run P O (fed P D acts) in
    record {
      equal = w.equal;
      records_equal = ap record_of_events w.equal;
      commands_equal = ap (λ (l : List Seen). commands_of P (record_of_events l)) w.equal;
      legal = w.legal p t;
      supervised = legal_supervised P A p (record_of_events (seen P D acts)) (w.legal p t);
      home = λ s l h. home_stands P D' O' w.inv s h ∙ (w.stands p t).supervisors s;
      out = λ s m l h. progress P A D' O' w.inv s m l h;
      taken = all_accepted P A D' O' w.inv;
    }

pub demand3 : (P : Plan) → Laws P → (acts : List Act) → Demand3 P (start_system P) (start_device P) (start_position P) acts
demand3 P A acts = demand3_from P A (start_system P) (start_device P) (start_position P) (start_inv P A) (start_stands P A) acts
