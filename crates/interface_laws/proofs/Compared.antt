-- What is seen of the calls over bytes is what demand 3 sees of them on states by value, with the numbers and the own parts as bytes; and so of
-- the one-device controller, which is fed the same.
use Rattle.std.specs.Prelude.{Option, Some, None, Result, Ok, Err, ⊤}
use Rattle.refusal.specs.Refusal.{refusal}
use Rattle.refusal.specs.declared.Refusal.{Refusal}
use mathlib.Core.Path.{◌≡◌, refl, sym, ap, ap₂, ◌∙◌, subst}
use mathlib.Core.Logic.{◌≢◌}
use mathlib.Core.List.{List, [], ◌∷◌, ◌++◌, map, map-append, append_assoc}
use mathlib.Core.Bool.{Bool, true, false, cond, ◌&&◌, ◌||◌}
use Prim.Native.Nat.{ℕ, zero, suc, ◌+◌, ◌*◌, ◌<◌}
use native.Mathlib.Omega.{arith}
use lib.ListN.{length, get_or, take, drop}
use lib.Seq.{take_at, drop_at, drop-drop}
use lib.Dec.{eqb, ltb, lit<}
use borrow.Author.Tests.{ne_eqb, ltb-true}
use Rattle.records.specs.declared.Record.{Record}
use Rattle.reader.specs.Walk.{records_of}
use Rattle.rules.specs.LookUp.{modules_of, supervisors_of}
use Rattle.rules.specs.Check.{IsPlan}
use Rattle.accepted.specs.Plan.{Sound}
use Rattle.accepted.proofs.Accepted.{every_plan}
use Rattle.water.specs.declared.Flow.{Flow}
use Rattle.messages.specs.Message.{short, written}
use Rattle.modules.specs.Turn.{empty_own}
use Rattle.modules.specs.declared.Own.{Own}
use Rattle.device_states.specs.States.{own_at, device_fits, shown_by, state_at}
use Rattle.device_states.specs.declared.Device.{Device}
use Rattle.device.specs.Device.{turned, device_number, turn_in, turn_by, turn_call, respond_call, tick_call}
use Rattle.permits.specs.Module as M
use Rattle.permits.specs.declared.Module.{Module}
use Rattle.permits.specs.declared.Stepped.{Stepped}
use Rattle.permits.specs.declared.Stepped.TheVariants.{Turns, Bids, Waits}
use Rattle.refusals.specs.Table as Table
use Rattle.refusals.specs.Table.{InTable, CallKind}
use Rattle.refusals.specs.Refusals.{CallAnswer}
use Rattle.refusals.proofs.Table.{listed, is_byte}
use Rattle.refusals.proofs.Refusals.{refusals}
use Rattle.agreement.specs.System.{System, Act, module_step, supervisor_step, deliver, respond, tick, buffer_length, Lent, AllLent, step, run}
use Rattle.agreement.specs.Compared.{Seen, turn_seen, refusal_seen, call_seen, step_seen, act_seen, seen, DeviceAct, device_turn, device_respond, device_tick, choice_fed, act_fed, fed, device_step, turning_seen, device_act_seen, device_seen}
use Rattle.own_bytes.specs.Own.{own_size, own_bytes}
use Rattle.own_bytes.proofs.Parts.{own_parts}
use Rattle.party_bytes.specs.Module.{module_bytes, ModuleEncodable}
use Rattle.device_bytes.specs.Device.{owns_bytes, device_bytes, OwnsEncodable, DeviceEncodable}
use Rattle.fields.specs.Fields.{flag_byte}
use Rattle.words.specs.Word.{quad_bytes, word_bytes}
use Rattle.packing.specs.Answer.{Answer, packed, called_answer, turn_answer, turning_answer, stepped_answer}
use Rattle.packing.proofs.Parts.{unpacked}
use Rattle.interface_laws.specs.SameCalls.{module_answer}
use Rattle.interface_laws.specs.Run.{Given, Memory, sensor_of, litres_of, device_bytes_step, encoded, device_act_answer}
use Rattle.interface_laws.specs.Compared.{Outcome, outcome, module_outcome, device_outcome, took_turn, act_bytes_seen, bytes_seen, act_bytes_fed, bytes_fed, owner_in, device_bytes_seen}
use Rattle.interface_laws.proofs.OwnParts.{choose}
use Rattle.interface_laws.proofs.Encodable.{all_encodable}
use Rattle.interface_laws.proofs.SameCalls.{same_calls}
use Rattle.interface_laws.proofs.Sent.{TurnSmall, StepSmall, turn_small, module_sent}
use Rattle.interface_laws.proofs.Runs.{SystemEncodable, flow_back, step_same, step_encodable, device_same, device_left, device_encodable}

-- ---- what demand 3 sees, as numbers and bytes

abbrev turn_outcome : ℕ → Option ℕ → List ℕ → Outcome
turn_outcome m (Some e) own = record { owner = m; number = 0; did = 1; value = e; own = own }
turn_outcome m None own = record { owner = m; number = 0; did = 3; value = 0; own = own }

abbrev call_outcome : ℕ → Result ⊤ Refusal → List ℕ → Outcome
call_outcome m (Ok u) own = record { owner = m; number = 0; did = 0; value = 0; own = own }
call_outcome m (Err e) own = record { owner = m; number = e.number; did = 0; value = 0; own = own }

abbrev pub outcome_of : Seen → Outcome
outcome_of (turn_seen m t own) = turn_outcome m t (own_bytes own)
outcome_of (refusal_seen m n own) = record { owner = m; number = n; did = 0; value = 0; own = own_bytes own }
outcome_of (call_seen m a own) = call_outcome m a (own_bytes own)

-- whether a step took a turn, by its answer
abbrev took_in : Result Stepped Refusal → Bool
took_in (Ok (Turns t k)) = true
took_in (Ok (Bids v k)) = false
took_in (Ok Waits) = false
took_in (Err e) = false

-- ---- the parts of an answer

module _ (m : ℕ) (s b own : List ℕ) where
  abbrev answer_by : ℕ → Answer
  answer_by p = record { number = p; state = s; buffer = b }

  parts : (n d v k : ℕ) → n < 256 → d < 256 → v < 256 → outcome m (answer_by (packed n d v k)) own ≡ record { owner = m; number = n; did = d; value = v; own = own }
  parts n d v k nh dh vh = let q = unpacked n d v k nh dh vh in simp (q.number, q.did, q.value)

  is_turn : (n d v k : ℕ) → n < 256 → d < 256 → v < 256 → took_turn (answer_by (packed n d v k)) ≡ (eqb n 0 && (eqb d 1 || eqb d 3))
  is_turn n d v k nh dh vh = let q = unpacked n d v k nh dh vh in simp (q.number, q.did)

  turn_outcome_lem : (t : Option ℕ) (k : ℕ) → TurnSmall t → outcome m (answer_by (turn_answer t k)) own ≡ turn_outcome m t own
  unfolding turn_answer
  turn_outcome_lem (Some e) k h = parts 0 1 e k (lit< tt) (lit< tt) h
  turn_outcome_lem None k h = parts 0 3 0 k (lit< tt) (lit< tt) (lit< tt)

  call_outcome_lem : (c : CallKind) (a : Result ⊤ Refusal) → CallAnswer c a → outcome m (answer_by (called_answer a)) own ≡ call_outcome m a own
  unfolding called_answer
  call_outcome_lem c (Ok u) h = parts 0 0 0 0 (lit< tt) (lit< tt) (lit< tt)
  call_outcome_lem c (Err e) h = parts e.number 0 0 e.offset (is_byte c e.number (h.numbered e refl)) (lit< tt) (lit< tt)

  turn_taken_lem : (t : Option ℕ) (k : ℕ) → TurnSmall t → took_turn (answer_by (turn_answer t k)) ≡ true
  unfolding turn_answer
  turn_taken_lem (Some e) k h = is_turn 0 1 e k (lit< tt) (lit< tt) h
  turn_taken_lem None k h = is_turn 0 3 0 k (lit< tt) (lit< tt) (lit< tt)

  step_taken : (a : Result Stepped Refusal) → StepSmall a → took_turn (answer_by (stepped_answer a)) ≡ took_in a
  unfolding stepped_answer
  step_taken (Ok (Turns t k)) h = turn_taken_lem t k h.0
  step_taken (Ok (Bids v k)) h = is_turn 0 4 v k (lit< tt) (lit< tt) h.0
  step_taken (Ok Waits) h = is_turn 0 6 0 0 (lit< tt) (lit< tt) (lit< tt)
  step_taken (Err e) h =
      is_turn e.number 0 0 e.offset (listed.byte e.number h) (lit< tt) (lit< tt) ∙ ap (λ (t : Bool). t && false) (ne_eqb e.number 0 (listed.not_0 e.number h))

  step_outcomes : (a : Result Stepped Refusal) (o : Own) → StepSmall a → own ≡ own_bytes o
      → cond (took_turn (answer_by (stepped_answer a))) (outcome m (answer_by (stepped_answer a)) own ∷ []) [] ≡ map outcome_of (step_seen m a o)
  unfolding step_seen stepped_answer
  step_outcomes a o h e = ap (λ (t : Bool). cond t (outcome m (answer_by (stepped_answer a)) own ∷ []) []) (step_taken a h) ∙ go a h
    where
      go : (a : Result Stepped Refusal) → StepSmall a → cond (took_in a) (outcome m (answer_by (stepped_answer a)) own ∷ []) [] ≡ map outcome_of (step_seen m a o)
      go (Ok (Turns t k)) h = ap (λ (x : Outcome). x ∷ []) (turn_outcome_lem t k h.0) ∙ ap (λ (w : List ℕ). turn_outcome m t w ∷ []) e
      go (Ok (Bids v k)) h = refl
      go (Ok Waits) h = refl
      go (Err e) h = refl

-- ---- modules

own_first : (x : Module) → ModuleEncodable x → take own_size (module_bytes x) ≡ own_bytes x.own
unfolding module_bytes
own_first x h =
    let o : List ℕ = own_bytes x.own in
    let q : List ℕ = quad_bytes x.held in
    let w : List ℕ = word_bytes x.received in
    let f : List ℕ = flag_byte x.bid ∷ [] in
    ap (take own_size) (append_assoc (o ++ q) w f ∙ append_assoc o q (w ++ f)) ∙ take_at o (q ++ (w ++ f)) own_size (own_parts.size x.own h.own.cells)

compared : (b : Bool) (x : Seen) (y : Outcome) → y ≡ outcome_of x → cond b (y ∷ []) [] ≡ map outcome_of (cond b (x ∷ []) [])
compared true x y e = ap (λ (o : Outcome). o ∷ []) e
compared false x y e = refl

-- no step of a module of the plan is refused
abbrev NeverRefused : List ℕ → System → Type 0
NeverRefused image D = (m : ℕ) (b : List ℕ) (n o : ℕ) → m < modules_of (records_of image) → length b ≡ buffer_length → (M.module_step image m (D.module_at m) b).answer ≢ Err (refusal n o)

-- a step that is not refused takes a turn where the rules say so
turn_fed : (rs : List Record) (m : ℕ) (x : Module) (b : List ℕ) → ((n o : ℕ) → m < modules_of rs → (M.step_by (Ok tt) rs m x b).answer ≢ Err (refusal n o))
    → cond (took_in (M.step_by (Ok tt) rs m x b).answer) (device_turn m ∷ []) [] ≡ cond (ltb m (modules_of rs)) (choice_fed m (M.choice rs m x)) []
unfolding M.step_by M.step_in M.answer_by choice_fed
turn_fed rs m x b h = go (ltb m (modules_of rs)) (M.module_fits rs m x) (short (M.step_bytes rs m x (M.choice rs m x)) b) (M.choice rs m x) refl (λ n o l. h n o (ltb-true m (modules_of rs) l))
  where
    after : Bool → Bool → Bool → M.Choice → Result Stepped Refusal
    after p q r c =
        (cond p (cond q (cond r (M.step_refused x b 15 0) (record { answer = M.answer_by rs m x c; state = M.state_by rs m x c; buffer = written (M.step_bytes rs m x c) b })) (M.step_refused x b 9 0)) (M.step_refused x b 11 0)).answer

    go : (p q r : Bool) (c : M.Choice) → ltb m (modules_of rs) ≡ p → ((n o : ℕ) → ltb m (modules_of rs) ≡ true → after p q r c ≢ Err (refusal n o))
        → cond (took_in (after p q r c)) (device_turn m ∷ []) [] ≡ cond p (choice_fed m c) []
    go false q r c e k = refl
    go true false r c e k = absurd (k 9 0 e refl)
    go true true true c e k = absurd (k 15 0 e refl)
    go true true false M.takes_turn e k = refl
    go true true false (M.bids_to v) e k = refl
    go true true false M.waits e k = refl

module _ (image : List ℕ) (accepted : IsPlan image) where
  module _ (D : System) (h : SystemEncodable D) where
    act_seen_lem : (a : Act) → Lent a → act_bytes_seen image (encoded D) a ≡ map outcome_of (act_seen image D a)
    unfolding act_bytes_seen act_seen
    act_seen_lem (module_step m b) l =
        let c : M.StepCall = M.module_step image m (D.module_at m) b in
        ap (λ (a : Answer). cond (took_turn a) (module_outcome m a ∷ []) []) (same_calls.module_step image m (D.module_at m) b (h.modules m))
        ∙ step_outcomes m (module_bytes c.state) c.buffer (take own_size (module_bytes c.state)) c.answer c.state.own (module_sent image accepted m (D.module_at m) b l).0
        (own_first c.state (all_encodable.module_step image m (D.module_at m) b (h.modules m)))
    act_seen_lem (supervisor_step v b) l = refl
    act_seen_lem (deliver k) l = refl
    act_seen_lem (respond m e) l =
        let x : Module = D.module_at m in
        let z : Module = (M.module_respond image m x e).state in
        compared (ltb m (modules_of (records_of image))) _ _
        (ap (module_outcome m) (same_calls.module_respond image m x e (h.modules m))
        ∙ call_outcome_lem m (module_bytes z) [] (take own_size (module_bytes z)) Table.respond (M.module_respond image m x e).answer (refusals.modules.respond image m x e).answer
        ∙ ap (call_outcome m (M.module_respond image m x e).answer) (own_first z (all_encodable.module_respond image m x e (h.modules m))))
    act_seen_lem (tick m f) l =
        let x : Module = D.module_at m in
        let z : Module = (M.module_tick image m x f).state in
        compared (ltb m (modules_of (records_of image))) _ _
        (ap (module_outcome m) (same_calls.module_tick image m x (sensor_of f) (litres_of f) (h.modules m) ∙ ap (λ (r : Flow). module_answer (M.module_tick image m x r)) (flow_back f))
        ∙ call_outcome_lem m (module_bytes z) [] (take own_size (module_bytes z)) Table.tick (M.module_tick image m x f).answer (refusals.modules.tick image m x f).answer
        ∙ ap (call_outcome m (M.module_tick image m x f).answer) (own_first z (all_encodable.module_tick image m x f (h.modules m))))

    act_fed_lem : NeverRefused image D → (a : Act) → Lent a → act_bytes_fed image (encoded D) a ≡ act_fed (records_of image) D a
    unfolding act_bytes_fed act_fed
    act_fed_lem k (module_step m b) l =
        let x : Module = D.module_at m in
        let c : M.StepCall = M.module_step image m x b in
        ap (λ (a : Answer). cond (took_turn a) (device_turn m ∷ []) []) (same_calls.module_step image m x b (h.modules m))
        ∙ ap (λ (t : Bool). cond t (device_turn m ∷ []) []) (step_taken m (module_bytes c.state) c.buffer [] c.answer (module_sent image accepted m x b l).0)
        ∙ subst (λ (v : Result ⊤ Refusal). ((n o : ℕ) → m < modules_of (records_of image) → (M.step_by v (records_of image) m x b).answer ≢ Err (refusal n o))
        → cond (took_in (M.step_by v (records_of image) m x b).answer) (device_turn m ∷ []) [] ≡ cond (ltb m (modules_of (records_of image))) (choice_fed m (M.choice (records_of image) m x)) [])
        (sym accepted) (turn_fed (records_of image) m x b) (λ n o p. k m b n o p l)
    act_fed_lem k (supervisor_step v b) l = refl
    act_fed_lem k (deliver i) l = refl
    act_fed_lem k (respond m e) l = refl
    act_fed_lem k (tick m f) l = refl

  pub seen_same : (acts : List Act) → AllLent acts → (D : System) → SystemEncodable D → bytes_seen image (encoded D) acts ≡ map outcome_of (seen image D acts)
  unfolding bytes_seen seen
  seen_same [] l D h = refl
  seen_same (a ∷ acts) l D h =
      ap₂ (λ (x y : List Outcome). x ++ y) (act_seen_lem D h a l.0)
      (ap (λ (g : Given Memory). bytes_seen image g.memory acts) (step_same image D h accepted a l.0) ∙ seen_same acts l.1 (step image D a) (step_encodable image D h accepted a l.0))
      ∙ sym (map-append outcome_of (act_seen image D a) (seen image (step image D a) acts))

  pub fed_same : (acts : List Act) → AllLent acts → (D : System) → SystemEncodable D → ((l : List Act) → AllLent l → NeverRefused image (run image D l))
      → bytes_fed image (encoded D) acts ≡ fed image D acts
  unfolding bytes_fed fed run
  fed_same [] l D h k = refl
  fed_same (a ∷ acts) l D h k =
      ap₂ (λ (x y : List DeviceAct). x ++ y) (act_fed_lem D h (k [] tt) a l.0)
      (ap (λ (g : Given Memory). bytes_fed image g.memory acts) (step_same image D h accepted a l.0)
      ∙ fed_same acts l.1 (step image D a) (step_encodable image D h accepted a l.0) (λ r q. k (a ∷ r) (l.0, q)))

-- ---- one device

owns_slot : (l : List Own) (rest : List ℕ) (m : ℕ) → OwnsEncodable l → m < length l → take own_size (drop (m * own_size) (owns_bytes l ++ rest)) ≡ own_bytes (get_or l m empty_own)
unfolding owns_bytes
owns_slot [] rest m h b = absurd (omega arith)
owns_slot (x ∷ l) rest zero h b =
    ap (take own_size) (append_assoc (own_bytes x) (owns_bytes l) rest) ∙ take_at (own_bytes x) (owns_bytes l ++ rest) own_size (own_parts.size x h.0.cells)
owns_slot (x ∷ l) rest (suc m) h b =
    let n : suc m * own_size ≡ own_size + m * own_size = omega arith in
    ap₂ (λ (k : ℕ) (t : List ℕ). take own_size (drop k t)) n (append_assoc (own_bytes x) (owns_bytes l) rest)
    ∙ ap (take own_size) (sym (drop-drop (m * own_size) own_size (own_bytes x ++ (owns_bytes l ++ rest))) ∙ ap (drop (m * own_size)) (drop_at (own_bytes x) (owns_bytes l ++ rest) own_size (own_parts.size x h.0.cells)))
    ∙ owns_slot l rest m h.1 (omega arith)

slot : (d : Device) (m : ℕ) → DeviceEncodable d → m < 16 → take own_size (drop (m * own_size) (device_bytes d)) ≡ own_bytes (own_at d m)
unfolding device_bytes
slot d m h b = owns_slot d.modules d.supervisors m h.owns (omega (arith, h.modules))

-- calls on modules that the device has
abbrev AllBelow : List DeviceAct → Type 0
AllBelow [] = Unit {0}
AllBelow (a ∷ l) = (owner_in a < 16) × AllBelow l

below_joined : (a b : List DeviceAct) → AllBelow a → AllBelow b → AllBelow (a ++ b)
below_joined [] b h k = k
below_joined (x ∷ a) b h k = (h.0, below_joined a b h.1 k)

abbrev TurningSmall : Result (Option ℕ) Refusal → Type 0
TurningSmall (Ok t) = TurnSmall t
TurningSmall (Err e) = InTable e.number

turning_outcome : (m : ℕ) (s b : List ℕ) (a : Result (Option ℕ) Refusal) (own : Own) → TurningSmall a
    → outcome m (record { number = turning_answer a; state = s; buffer = b }) (own_bytes own) ≡ outcome_of (turning_seen m a own)
unfolding turning_answer turning_seen
turning_outcome m s b (Ok t) own h = turn_outcome_lem m s b (own_bytes own) t 0 h
turning_outcome m s b (Err e) own h = parts m s b (own_bytes own) e.number 0 0 e.offset (listed.byte e.number h) (lit< tt) (lit< tt)

module _ (image : List ℕ) (accepted : IsPlan image) where
  abbrev rs : List Record
  rs = records_of image

  abbrev plan : Sound rs
  plan = (every_plan image accepted).sound

  turning_small : (d : Device) (m : ℕ) → TurningSmall (turn_call image d m).answer
  unfolding turn_by turn_in turned
  turning_small d m = subst (λ (v : Result ⊤ Refusal). TurningSmall (turn_by v rs d m).answer) (sym accepted) (go (device_number rs d m) refl)
    where
      in_table : (n : ℕ) (a b : Bool) → ◌≡◌ {A = ℕ} (cond a (cond b 0 11) 9) (suc n) → InTable (suc n)
      in_table n true true e = absurd (omega arith)
      in_table n true false e = subst InTable e refl
      in_table n false b e = subst InTable e refl

      go : (n : ℕ) → device_number rs d m ≡ n → TurningSmall (turn_in rs d m n).answer
      go zero e = turn_small rs m (shown_by rs (state_at d) (supervisors_of rs)) (own_at d m)
      go (suc n) e = in_table n (device_fits rs d) (ltb m (modules_of rs)) e

  device_act : (d : Device) → DeviceEncodable d → (a : DeviceAct) → owner_in a < 16 → device_outcome (owner_in a) (device_bytes_step image (device_bytes d) a) ≡ outcome_of (device_act_seen image d a)
  unfolding owner_in device_act_seen device_act_answer device_step
  device_act d h (device_turn m) l =
      let e : Device = (turn_call image d m).device in
      ap (device_outcome m) (device_same image accepted d h (device_turn m))
      ∙ ap (outcome m (device_act_answer image d (device_turn m))) (slot e m (device_encodable image accepted d h (device_turn m)) l)
      ∙ turning_outcome m (device_bytes e) [] (turn_call image d m).answer (own_at e m) (turning_small d m)
  device_act d h (device_respond m r) l =
      let e : Device = (respond_call image d m r).device in
      ap (device_outcome m) (device_same image accepted d h (device_respond m r))
      ∙ ap (outcome m (device_act_answer image d (device_respond m r))) (slot e m (device_encodable image accepted d h (device_respond m r)) l)
      ∙ call_outcome_lem m (device_bytes e) [] (own_bytes (own_at e m)) Table.respond (respond_call image d m r).answer (refusals.device.respond image d m r).answer
  device_act d h (device_tick m f) l =
      let e : Device = (tick_call image d m f).device in
      ap (device_outcome m) (device_same image accepted d h (device_tick m f))
      ∙ ap (outcome m (device_act_answer image d (device_tick m f))) (slot e m (device_encodable image accepted d h (device_tick m f)) l)
      ∙ call_outcome_lem m (device_bytes e) [] (own_bytes (own_at e m)) Table.tick (tick_call image d m f).answer (refusals.device.tick image d m f).answer

  pub device_seen_lem : (l : List DeviceAct) → AllBelow l → (d : Device) → DeviceEncodable d → device_bytes_seen image (device_bytes d) l ≡ map outcome_of (device_seen image d l)
  unfolding device_bytes_seen device_seen
  device_seen_lem [] b d h = refl
  device_seen_lem (a ∷ l) b d h =
      ap₂ (λ (x : Outcome) (y : List Outcome). x ∷ y) (device_act d h a b.0)
      (ap (λ (c : Answer). device_bytes_seen image c.state l) (device_same image accepted d h a) ∙ ap (λ (s : List ℕ). device_bytes_seen image s l) (device_left image accepted d a)
      ∙ device_seen_lem l b.1 (device_step image d a) (device_encodable image accepted d h a))

  fed_act : (D : System) (a : Act) → AllBelow (act_fed rs D a)
  unfolding act_fed choice_fed owner_in
  fed_act D (module_step m b) = go (ltb m (modules_of rs)) refl (M.choice rs m (D.module_at m))
    where
      go : (p : Bool) → ltb m (modules_of rs) ≡ p → (c : M.Choice) → AllBelow (cond p (choice_fed m c) [])
      go true e M.takes_turn = (omega (arith, ltb-true m (modules_of rs) e, plan.modules.1), tt)
      go true e (M.bids_to v) = tt
      go true e M.waits = tt
      go false e c = tt
  fed_act D (supervisor_step v b) = tt
  fed_act D (deliver k) = tt
  fed_act D (respond m e) = choose AllBelow (ltb m (modules_of rs)) _ _ (λ l. (omega (arith, ltb-true m (modules_of rs) l, plan.modules.1), tt)) (λ l. tt)
  fed_act D (tick m f) = choose AllBelow (ltb m (modules_of rs)) _ _ (λ l. (omega (arith, ltb-true m (modules_of rs) l, plan.modules.1), tt)) (λ l. tt)

  pub fed_below : (acts : List Act) (D : System) → AllBelow (fed image D acts)
  unfolding fed
  fed_below [] D = tt
  fed_below (a ∷ acts) D = below_joined (act_fed rs D a) (fed image (step image D a) acts) (fed_act D a) (fed_below acts (step image D a))
