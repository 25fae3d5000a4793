-- Lists of calls over bytes and the same lists on states by value, call by call, over states that can be encoded.
use Rattle.std.specs.Prelude.{Option, Some, None, Result, ⊤}
use Rattle.refusal.specs.declared.Refusal.{Refusal}
use Rattle.messages.specs.declared.Message.{Message}
use mathlib.Core.Path.{◌≡◌, refl, ap, ap₂, ◌∙◌, fun_ext}
use mathlib.Core.List.{List, [], ◌∷◌, ◌++◌, map}
use mathlib.Core.Bool.{Bool, true, false, cond}
use Prim.Native.Nat.{ℕ, zero, suc}
use lib.ListN.{replicate}
use lib.Dec.{eqb}
use Rattle.reader.specs.Walk.{records_of}
use Rattle.rules.specs.Check.{IsPlan}
use Rattle.roundtrip.specs.Fits.{Bytes}
use Rattle.water.specs.declared.Flow.{Flow}
use Rattle.water.specs.declared.Flow.TheVariants.{Litres, NoSensor}
use Rattle.messages.specs.Message.{parse}
use Rattle.messages.specs.declared.Message.TheVariants.{Bid, Permit, Release}
use Rattle.device.specs.Device.{tick_call, start_by, start_call}
use Rattle.device_states.specs.declared.Device.{Device}
use Rattle.permits.specs.Module as M
use Rattle.permits.specs.Supervisor as S
use Rattle.permits.specs.declared.Module.{Module}
use Rattle.permits.specs.declared.Supervisor.{Supervisor}
use Rattle.protocol.specs.Generic.{update}
use Rattle.agreement.specs.System.{Sent, System, Act, module_step, supervisor_step, deliver, respond, tick, Lent, AllLent, wrote, wrote_out, fresh, send, at, mark, once, brought, with_module, with_supervisor, delivered, delivered_at, step, run, start}
use Rattle.agreement.specs.Compared.{DeviceAct, device_turn, device_respond, device_tick, device_step, device_run}
use Rattle.party_bytes.specs.Module.{module_bytes, ModuleEncodable}
use Rattle.party_bytes.specs.Supervisor.{supervisor_bytes, SupervisorEncodable}
use Rattle.device_bytes.specs.Device.{device_size, device_bytes, DeviceEncodable}
use Rattle.device_bytes.proofs.Parts.{device_parts}
use Rattle.packing.specs.Answer.{Answer, start_answer}
use Rattle.packing.specs.Flow.{flow_of}
use Rattle.device_interface.specs.Calls as DeviceCalls
use Rattle.supervisor_interface.specs.Calls as SupervisorCalls
use Rattle.interface_laws.specs.SameCalls.{module_answer, step_answer, supervisor_answer, serve_answer, device_answer}
use Rattle.interface_laws.specs.Run.{Memory, Given, module_sends, supervisor_sends, sensor_of, litres_of, on_module, on_supervisor, bytes_delivered, bytes_delivered_at, bytes_step, bytes_run, bytes_start, device_bytes_step, device_bytes_run, device_bytes_start, encoded, decoded, delivery_answers, brought_answers, act_answers, run_answers, device_act_answer, device_answers}
use Rattle.interface_laws.proofs.OwnParts.{choose}
use Rattle.interface_laws.proofs.Exact.{exact}
use Rattle.interface_laws.proofs.Encodable.{all_encodable}
use Rattle.interface_laws.proofs.SameCalls.{in_zeros, same_calls}
use Rattle.interface_laws.proofs.Sent.{AllBytes, module_sends_lem, supervisor_sends_lem, module_sent, supervisor_sent}

-- the states of all parties can be encoded, and the messages sent are bytes
abbrev pub AllSentBytes : List Sent → Type 0
AllSentBytes [] = Unit {0}
AllSentBytes (g ∷ w) = Bytes g.bytes × AllSentBytes w

pub record SystemEncodable (D : System) : Type 0 where
  pub modules : (m : ℕ) → ModuleEncodable (D.module_at m)
  pub supervisors : (v : ℕ) → SupervisorEncodable (D.supervisor_at v)
  pub messages : AllSentBytes D.sent

-- ---- the state of one party

updated : {A : Type 0} (P : A → Type 0) (f : ℕ → A) (i : ℕ) (v : A) → ((j : ℕ) → P (f j)) → P v → (j : ℕ) → P (update f i v j)
unfolding update
updated P f i v h k j = choose P (eqb i j) _ _ (λ e. k) (λ e. h j)

update_each : {A B : Type 0} (g : A → B) (f : ℕ → A) (i : ℕ) (v : A) → update (λ j. g (f j)) i (g v) ≡ (λ (j : ℕ). g (update f i v j))
unfolding update
update_each {A} {B} g f i v = fun_ext (λ j. go j (eqb i j))
  where
    go : (j : ℕ) (b : Bool) → cond b (g v) (g (f j)) ≡ g (cond b v (f j))
    go j true = refl
    go j false = refl

module _ (D : System) where
  on_module_lem : (m : ℕ) (x : Module) (n : ℕ) (b : List ℕ) (w : List Sent)
      → on_module (encoded D) m (record { number = n; state = module_bytes x; buffer = b }) w
      ≡ record { answers = record { number = n; state = module_bytes x; buffer = b } ∷ []; memory = encoded (with_module D m x w) }
  on_module_lem m x n b w =
      ap (λ (f : ℕ → List ℕ). record { answers = record { number = n; state = module_bytes x; buffer = b } ∷ []; memory = record { module_at = f; supervisor_at = λ v. supervisor_bytes (D.supervisor_at v); sent = w } })
      (update_each module_bytes D.module_at m x)

  on_supervisor_lem : (v : ℕ) (y : Supervisor) (n : ℕ) (b : List ℕ) (w : List Sent)
      → on_supervisor (encoded D) v (record { number = n; state = supervisor_bytes y; buffer = b }) w
      ≡ record { answers = record { number = n; state = supervisor_bytes y; buffer = b } ∷ []; memory = encoded (with_supervisor D v y w) }
  on_supervisor_lem v y n b w =
      ap (λ (f : ℕ → List ℕ). record { answers = record { number = n; state = supervisor_bytes y; buffer = b } ∷ []; memory = record { module_at = λ m. module_bytes (D.module_at m); supervisor_at = f; sent = w } })
      (update_each supervisor_bytes D.supervisor_at v y)

-- ---- messages

all_fresh : (l : List (List ℕ)) → AllBytes l → AllSentBytes (map fresh l)
all_fresh [] k = tt
all_fresh (g ∷ l) k = (k.0, all_fresh l k.1)

all_sent : (w : List Sent) (l : List (List ℕ)) → AllSentBytes w → AllBytes l → AllSentBytes (send w l)
all_sent [] l h k = all_fresh l k
all_sent (g ∷ w) l h k = (h.0, all_sent w l h.1 k)

all_marked : (k : ℕ) (w : List Sent) → AllSentBytes w → AllSentBytes (mark k w)
unfolding mark
all_marked zero [] h = tt
all_marked (suc k) [] h = tt
all_marked zero (g ∷ w) h = h
all_marked (suc k) (g ∷ w) h = (h.0, all_marked k w h.1)

abbrev BroughtBytes : Option (List ℕ) → Type 0
BroughtBytes None = Unit {0}
BroughtBytes (Some g) = Bytes g

brought_bytes : (k : ℕ) (w : List Sent) → AllSentBytes w → BroughtBytes (brought k w)
unfolding at once
brought_bytes zero [] h = tt
brought_bytes (suc k) [] h = tt
brought_bytes zero (g ∷ w) h = go g.delivered
  where
    go : (d : Bool) → BroughtBytes (cond d None (Some g.bytes))
    go true = tt
    go false = h.0
brought_bytes (suc k) (g ∷ w) h = brought_bytes k w h.1

pub flow_back : (f : Flow) → flow_of (sensor_of f) (litres_of f) ≡ f
unfolding flow_of sensor_of litres_of
flow_back (Litres x) = refl
flow_back NoSensor = refl

-- ---- one call

module _ (image : List ℕ) (D : System) (h : SystemEncodable D) where
  with_module_lem : (m : ℕ) (x : Module) (w : List Sent) → ModuleEncodable x → AllSentBytes w → SystemEncodable (with_module D m x w)
  with_module_lem m x w k b = record { modules = updated ModuleEncodable D.module_at m x h.modules k; supervisors = h.supervisors; messages = b }

  with_supervisor_lem : (v : ℕ) (y : Supervisor) (w : List Sent) → SupervisorEncodable y → AllSentBytes w → SystemEncodable (with_supervisor D v y w)
  with_supervisor_lem v y w k b = record { modules = h.modules; supervisors = updated SupervisorEncodable D.supervisor_at v y h.supervisors k; messages = b }

  supervisor_got : (v : ℕ) (g : List ℕ) (w : List Sent) → on_supervisor (encoded D) v (SupervisorCalls.deliver_bytes image (supervisor_bytes (D.supervisor_at v)) v g) w
      ≡ record { answers = supervisor_answer (S.supervisor_deliver image v (D.supervisor_at v) g) ∷ []; memory = encoded (with_supervisor D v (S.supervisor_deliver image v (D.supervisor_at v) g).state w) }
  supervisor_got v g w =
      ap (λ (a : Answer). on_supervisor (encoded D) v a w) (same_calls.supervisor_deliver image v (D.supervisor_at v) g (h.supervisors v)) ∙ on_supervisor_lem D v _ _ _ w

  message_same : (g : List ℕ) (w : List Sent) → Bytes g → (p : Option Message)
      → bytes_delivered image (encoded D) g w p ≡ record { answers = delivery_answers image D g p; memory = encoded (delivered image D g w p) }
  unfolding bytes_delivered delivery_answers delivered
  message_same g w b (Some (Bid m v)) = supervisor_got v g w
  message_same g w b (Some (Permit v m k)) =
      ap (λ (a : Answer). on_module (encoded D) m a w) (same_calls.module_deliver image m (D.module_at m) g b (h.modules m)) ∙ on_module_lem D m _ _ _ w
  message_same g w b (Some (Release m v e)) = supervisor_got v g w
  message_same g w b None = refl

  message_encodable : (g : List ℕ) (w : List Sent) → Bytes g → AllSentBytes w → (p : Option Message) → SystemEncodable (delivered image D g w p)
  unfolding delivered
  message_encodable g w b s (Some (Bid m v)) = with_supervisor_lem v _ w (all_encodable.supervisor_deliver image v (D.supervisor_at v) g (h.supervisors v)) s
  message_encodable g w b s (Some (Permit v m k)) = with_module_lem m _ w (all_encodable.module_deliver image m (D.module_at m) g b (h.modules m)) s
  message_encodable g w b s (Some (Release m v e)) = with_supervisor_lem v _ w (all_encodable.supervisor_deliver image v (D.supervisor_at v) g (h.supervisors v)) s
  message_encodable g w b s None = record { modules = h.modules; supervisors = h.supervisors; messages = s }

  delivery_same : (k : ℕ) (o : Option (List ℕ)) → BroughtBytes o
      → bytes_delivered_at image (encoded D) k o ≡ record { answers = brought_answers image D o; memory = encoded (delivered_at image D k o) }
  unfolding bytes_delivered_at brought_answers delivered_at
  delivery_same k None b = refl
  delivery_same k (Some g) b = message_same g (mark k D.sent) b (parse g)

  delivery_encodable : (k : ℕ) (o : Option (List ℕ)) → BroughtBytes o → SystemEncodable (delivered_at image D k o)
  unfolding delivered_at
  delivery_encodable k None b = h
  delivery_encodable k (Some g) b = message_encodable g (mark k D.sent) b (all_marked k D.sent h.messages) (parse g)

  module _ (accepted : IsPlan image) where
    pub step_same : (a : Act) → Lent a → bytes_step image (encoded D) a ≡ record { answers = act_answers image D a; memory = encoded (step image D a) }
    unfolding bytes_step act_answers step
    step_same (module_step m b) l =
        let c : M.StepCall = M.module_step image m (D.module_at m) b in
        ap (λ (a : Answer). on_module (encoded D) m a (send D.sent (module_sends a))) (same_calls.module_step image m (D.module_at m) b (h.modules m))
        ∙ ap (λ (w : List (List ℕ)). on_module (encoded D) m (step_answer c) (send D.sent w)) (module_sends_lem (module_bytes c.state) c.buffer c.answer (module_sent image accepted m (D.module_at m) b l).0)
        ∙ on_module_lem D m c.state _ _ (send D.sent (wrote c.answer c.buffer))
    step_same (supervisor_step v b) l =
        let c : S.ServeCall = S.supervisor_step image v (D.supervisor_at v) b in
        ap (λ (a : Answer). on_supervisor (encoded D) v a (send D.sent (supervisor_sends a))) (same_calls.supervisor_step image v (D.supervisor_at v) b (h.supervisors v))
        ∙ ap (λ (w : List (List ℕ)). on_supervisor (encoded D) v (serve_answer c) (send D.sent w)) (supervisor_sends_lem (supervisor_bytes c.state) c.buffer c.answer (supervisor_sent image accepted v (D.supervisor_at v) b l).0)
        ∙ on_supervisor_lem D v c.state _ _ (send D.sent (wrote_out c.answer c.buffer))
    step_same (deliver k) l = delivery_same k (brought k D.sent) (brought_bytes k D.sent h.messages)
    step_same (respond m e) l =
        ap (λ (a : Answer). on_module (encoded D) m a D.sent) (same_calls.module_respond image m (D.module_at m) e (h.modules m)) ∙ on_module_lem D m _ _ _ D.sent
    step_same (tick m f) l =
        ap (λ (a : Answer). on_module (encoded D) m a D.sent)
        (same_calls.module_tick image m (D.module_at m) (sensor_of f) (litres_of f) (h.modules m) ∙ ap (λ (r : Flow). module_answer (M.module_tick image m (D.module_at m) r)) (flow_back f))
        ∙ on_module_lem D m _ _ _ D.sent

    pub step_encodable : (a : Act) → Lent a → SystemEncodable (step image D a)
    unfolding step
    step_encodable (module_step m b) l =
        let c : M.StepCall = M.module_step image m (D.module_at m) b in
        with_module_lem m _ _ (all_encodable.module_step image m (D.module_at m) b (h.modules m)) (all_sent D.sent (wrote c.answer c.buffer) h.messages (module_sent image accepted m (D.module_at m) b l).1)
    step_encodable (supervisor_step v b) l =
        let c : S.ServeCall = S.supervisor_step image v (D.supervisor_at v) b in
        with_supervisor_lem v _ _ (all_encodable.supervisor_step image v (D.supervisor_at v) b (h.supervisors v)) (all_sent D.sent (wrote_out c.answer c.buffer) h.messages (supervisor_sent image accepted v (D.supervisor_at v) b l).1)
    step_encodable (deliver k) l = delivery_encodable k (brought k D.sent) (brought_bytes k D.sent h.messages)
    step_encodable (respond m e) l = with_module_lem m _ D.sent (all_encodable.module_respond image m (D.module_at m) e (h.modules m)) h.messages
    step_encodable (tick m f) l = with_module_lem m _ D.sent (all_encodable.module_tick image m (D.module_at m) f (h.modules m)) h.messages

-- ---- every list of calls

module _ (image : List ℕ) (accepted : IsPlan image) where
  pub run_same : (acts : List Act) → AllLent acts → (D : System) → SystemEncodable D
      → bytes_run image (encoded D) acts ≡ record { answers = run_answers image D acts; memory = encoded (run image D acts) }
  unfolding bytes_run run_answers run
  run_same [] l D h = refl
  run_same (a ∷ acts) l D h =
      ap (λ (s : Given Memory). record { answers = s.answers ++ (bytes_run image s.memory acts).answers; memory = (bytes_run image s.memory acts).memory }) (step_same image D h accepted a l.0)
      ∙ ap (λ (r : Given Memory). record { answers = act_answers image D a ++ r.answers; memory = r.memory }) (run_same acts l.1 (step image D a) (step_encodable image D h accepted a l.0))

  pub run_encodable : (acts : List Act) → AllLent acts → (D : System) → SystemEncodable D → SystemEncodable (run image D acts)
  unfolding run
  run_encodable [] l D h = h
  run_encodable (a ∷ acts) l D h = run_encodable acts l.1 (step image D a) (step_encodable image D h accepted a l.0)

  pub start_same : bytes_start image ≡ encoded (start image)
  unfolding bytes_start start
  start_same =
      ap₂ (λ (f g : ℕ → List ℕ). record { module_at = f; supervisor_at = g; sent = [] })
      (fun_ext (λ m. same_calls.module_zeros image m)) (fun_ext (λ v. same_calls.supervisor_zeros image v))

  pub start_encodable : SystemEncodable (start image)
  unfolding start
  start_encodable = record { modules = all_encodable.module_start image; supervisors = all_encodable.supervisor_start image; messages = tt }

  -- ---- the one-device controller

  pub device_same : (d : Device) → DeviceEncodable d → (a : DeviceAct) → device_bytes_step image (device_bytes d) a ≡ device_act_answer image d a
  unfolding device_bytes_step device_act_answer
  device_same d h (device_turn m) = same_calls.device_turn image d m h
  device_same d h (device_respond m e) = same_calls.device_respond image d m e h
  device_same d h (device_tick m f) = same_calls.device_tick image d m (sensor_of f) (litres_of f) h ∙ ap (λ (r : Flow). device_answer (tick_call image d m r)) (flow_back f)

  pub device_left : (d : Device) (a : DeviceAct) → (device_act_answer image d a).state ≡ device_bytes (device_step image d a)
  unfolding device_act_answer device_step
  device_left d (device_turn m) = refl
  device_left d (device_respond m e) = refl
  device_left d (device_tick m f) = refl

  pub device_encodable : (d : Device) → DeviceEncodable d → (a : DeviceAct) → DeviceEncodable (device_step image d a)
  unfolding device_step
  device_encodable d h (device_turn m) = all_encodable.device_turn image d m h
  device_encodable d h (device_respond m e) = all_encodable.device_respond image d m e h
  device_encodable d h (device_tick m f) = all_encodable.device_tick image d m f h

  pub device_run_lem : (acts : List DeviceAct) (d : Device) → DeviceEncodable d
      → device_bytes_run image (device_bytes d) acts ≡ record { answers = device_answers image d acts; memory = device_bytes (device_run image d acts) }
  unfolding device_bytes_run device_answers device_run
  device_run_lem [] d h = refl
  device_run_lem (a ∷ acts) d h =
      ap (λ (c : Answer). record { answers = c ∷ (device_bytes_run image c.state acts).answers; memory = (device_bytes_run image c.state acts).memory }) (device_same d h a)
      ∙ ap (λ (s : List ℕ). record { answers = device_act_answer image d a ∷ (device_bytes_run image s acts).answers; memory = (device_bytes_run image s acts).memory }) (device_left d a)
      ∙ ap (λ (r : Given (List ℕ)). record { answers = device_act_answer image d a ∷ r.answers; memory = r.memory }) (device_run_lem acts (device_step image d a) (device_encodable d h a))

  pub device_run_encodable : (acts : List DeviceAct) (d : Device) → DeviceEncodable d → DeviceEncodable (device_run image d acts)
  unfolding device_run
  device_run_encodable [] d h = h
  device_run_encodable (a ∷ acts) d h = device_run_encodable acts (device_step image d a) (device_encodable d h a)

  pub device_start_lem : device_bytes_start image ≡ device_bytes (start_call image).device
  unfolding device_bytes_start DeviceCalls.start_bytes start_by
  device_start_lem =
      ap (λ (c : Result ⊤ Refusal). (start_answer device_size c (device_bytes (start_call image).device) (replicate device_size 0)).buffer) (ap (λ (v : Result ⊤ Refusal). (start_by v (records_of image)).answer) accepted)
      ∙ in_zeros device_size (device_bytes (start_call image).device) (device_parts.size (start_call image).device (all_encodable.device_start image))

pub decoded_encoded : (D : System) → SystemEncodable D → decoded (encoded D) ≡ D
decoded_encoded D h =
    ap₂ (λ (f : ℕ → Module) (g : ℕ → Supervisor). record { module_at = f; supervisor_at = g; sent = D.sent })
    (fun_ext (λ m. exact.module_again (D.module_at m) (h.modules m))) (fun_ext (λ v. exact.supervisor_again (D.supervisor_at v) (h.supervisors v)))
