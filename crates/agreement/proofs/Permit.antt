-- A supervisor's state tells where its permit is: out from the step that sends it until its release is accepted.
use Rattle.std.specs.Prelude.{Option, Some, None, Result, Ok, Err, ⊤}
use Rattle.refusal.specs.declared.Refusal.{Refusal}
use mathlib.Core.Path.{◌≡◌, refl, sym, ap, ◌∙◌, subst}
use mathlib.Core.Bool.{Bool, true, false, cond, not, ◌&&◌}
use mathlib.Core.List.{List, [], ◌∷◌}
use Prim.Native.Nat.{ℕ}
use lib.Dec.{eqb, ltb}
use lib.ListN.{length}
use borrow.Author.Tests.{eqb-true}
use Rattle.bits.specs.Bit.{bit}
use Rattle.records.specs.declared.Record.{Record}
use Rattle.reader.specs.Walk.{records_of}
use Rattle.rules.specs.LookUp.{supervisors_of}
use Rattle.rules.specs.Check.{verdict_of}
use Rattle.messages.specs.Message.{parse}
use Rattle.messages.specs.declared.Message.{Message}
use Rattle.messages.specs.declared.Message.TheVariants.{Bid, Permit, Release}
use Rattle.permits.specs.Names.{named}
use Rattle.permits.specs.declared.Supervisor.{Supervisor}
use Rattle.permits.specs.declared.SupervisorCalled.{SupervisorCalled}
use Rattle.permits.specs.Supervisor as S
use Rattle.protocol.specs.Generic.{update}
use Rattle.agreement.specs.System as A
use Rattle.agreement.specs.Compared as C
use Rattle.agreement.specs.Compared.{out_to}

-- a claim of both ways holds of the way taken
either : {X : Type 0} (Q : X → Type 0) (b : Bool) (x y : X) → Q x → Q y → Q (cond b x y)
either Q true x y p q = p
either Q false x y p q = q

module _ (rs : List Record) (v : ℕ) (y : Supervisor) where
  abbrev Serves : S.ServeCall → Type 0
  Serves c = C.after_serving c.answer (out_to y.holder) ≡ out_to c.state.holder

  serve_holder : (w : Result ⊤ Refusal) (b : List ℕ) → Serves (S.step_by w rs v y b)
  unfolding S.step_by S.step_in S.answer_by S.state_by C.after_serving out_to
  serve_holder (Err e) b = refl
  serve_holder (Ok u) b =
      either Serves (ltb v (supervisors_of rs)) _ _
      (either Serves (S.supervisor_fits rs v y) _ _ (go (S.served y)) refl)
      refl
    where
      go : (t : Option ℕ) → Serves (S.step_in rs v y b t)
      go None = either Serves (ltb (length b) (length (S.step_bytes rs v y None))) _ _ refl refl
      go (Some m) = either Serves (ltb (length b) (length (S.step_bytes rs v y (Some m)))) _ _ refl refl

  -- a claim of every refusal and of what an accepted message does holds of the call
  delivers : (Q : SupervisorCalled → Type 0) (g : Message) → ((n o : ℕ) → Q (S.call_refused y n o)) → Q (S.taken_by rs v y g) → (w : Result ⊤ Refusal)
      → Q (S.deliver_by w rs v y (Some g))
  unfolding S.deliver_by S.deliver_in S.absent
  delivers Q g r t (Err e) = r e.number e.offset
  delivers Q g r t (Ok u) =
      either Q (ltb v (supervisors_of rs)) (cond (S.supervisor_fits rs v y) (S.deliver_in rs v y (Some g)) (S.call_refused y 9 0)) (S.absent y (Some g))
      (either Q (S.supervisor_fits rs v y) (S.deliver_in rs v y (Some g)) (S.call_refused y 9 0)
      (either Q (named rs g) (S.taken_by rs v y g) (S.call_refused y 11 0) t (r 11 0)) (r 9 0))
      (r 11 0)

  abbrev Keeps : SupervisorCalled → Type 0
  Keeps c = c.state.holder ≡ y.holder

  bid_holder : (w : Result ⊤ Refusal) (m s : ℕ) → Keeps (S.deliver_by w rs v y (Some (Bid m s)))
  unfolding S.taken_by
  bid_holder w m s =
      delivers Keeps (Bid m s) (λ n o. refl)
      (either Keeps (eqb s v && not (bit y.noted m)) (record { answer = Ok tt; state = S.after_note y m }) (S.call_refused y 12 0) refl refl) w

  abbrev Releases : SupervisorCalled → Type 0
  Releases c = C.after_release c.answer (out_to y.holder) ≡ out_to c.state.holder

  release_holder : (w : Result ⊤ Refusal) (m s e : ℕ) → Releases (S.deliver_by w rs v y (Some (Release m s e)))
  unfolding S.taken_by C.after_release out_to
  release_holder w m s e =
      delivers Releases (Release m s e) (λ n o. refl)
      (either Releases (eqb s v && S.held_by y.holder m) (record { answer = Ok tt; state = S.after_release rs v y e }) (S.call_refused y 12 0) refl refl) w

-- one supervisor's state changed
abbrev out : A.System → ℕ → Option ℕ
out D v = out_to (D.supervisor_at v).holder

holder_at : (D : A.System) (w v : ℕ) (y : Supervisor) (h : Option ℕ) → (w ≡ v → h ≡ out_to y.holder)
    → cond (eqb w v) h (out D v) ≡ out_to (update D.supervisor_at w y v).holder
unfolding update
holder_at D w v y h f = go (eqb w v) refl
  where
    go : (b : Bool) → eqb w v ≡ b → cond b h (out D v) ≡ out_to (cond b y (D.supervisor_at v)).holder
    go true e = f (eqb-true w v e)
    go false e = refl

kept_at : (D : A.System) (w v : ℕ) (y : Supervisor) → y.holder ≡ (D.supervisor_at w).holder → out D v ≡ out_to (update D.supervisor_at w y v).holder
unfolding update
kept_at D w v y k = go (eqb w v) refl
  where
    go : (b : Bool) → eqb w v ≡ b → out D v ≡ out_to (cond b y (D.supervisor_at v)).holder
    go true e = ap (out D) (sym (eqb-true w v e)) ∙ ap out_to (sym k)
    go false e = refl

module _ (image : List ℕ) (v : ℕ) where
  message_holder : (D : A.System) (bytes : List ℕ) (rest : List A.Sent) (g : Option Message) → parse bytes ≡ g
      → C.after_message image D v bytes g (out D v) ≡ out (A.delivered image D bytes rest g) v
  unfolding C.after_message A.delivered
  message_holder D bytes rest (Some (Bid m w)) e =
      kept_at D w v _ (ap (λ (g : Option Message). (S.deliver_by (verdict_of image) (records_of image) w (D.supervisor_at w) g).state.holder) e
      ∙ bid_holder (records_of image) w (D.supervisor_at w) (verdict_of image) m w)
  message_holder D bytes rest (Some (Permit w m k)) e = refl
  message_holder D bytes rest (Some (Release m w x)) e =
      holder_at D w v _ _ (λ i. ap (λ (n : ℕ). C.after_release (S.supervisor_deliver image w (D.supervisor_at w) bytes).answer (out D n)) (sym i)
      ∙ subst (λ (g : Option Message). Releases (records_of image) w (D.supervisor_at w) (S.deliver_by (verdict_of image) (records_of image) w (D.supervisor_at w) g)) (sym e)
      (release_holder (records_of image) w (D.supervisor_at w) (verdict_of image) m w x))
  message_holder D bytes rest None e = refl

  act_holder : (D : A.System) (a : A.Act) → C.act_permit image D v a (out D v) ≡ out (A.step image D a) v
  unfolding C.act_permit A.step
  act_holder D (A.module_step m b) = refl
  act_holder D (A.supervisor_step w b) =
      holder_at D w v _ _ (λ i. ap (λ (n : ℕ). C.after_serving (S.supervisor_step image w (D.supervisor_at w) b).answer (out D n)) (sym i)
      ∙ serve_holder (records_of image) w (D.supervisor_at w) (verdict_of image) b)
  act_holder D (A.deliver k) = go (A.brought k D.sent)
    where
      go : (o : Option (List ℕ)) → C.after_delivery image D v o (out D v) ≡ out (A.delivered_at image D k o) v
      go None = unfold C.after_delivery A.delivered_at in refl
      go (Some bytes) = unfold C.after_delivery A.delivered_at in (message_holder D bytes (A.mark k D.sent) (parse bytes) refl)
  act_holder D (A.respond m e) = refl
  act_holder D (A.tick m f) = refl

  pub permit_holder : (D : A.System) (acts : List A.Act) → C.permit_of image D acts v ≡ out (A.run image D acts) v
  unfolding C.permit_after A.run
  permit_holder D [] = refl
  permit_holder D (a ∷ l) = ap (C.permit_after image (A.step image D a) v l) (act_holder D a) ∙ permit_holder (A.step image D a) l

-- ---- the start
home_at : (rs : List Record) (v : ℕ) (w : Result ⊤ Refusal) → out_to (S.start_by w rs v).state.holder ≡ None
unfolding S.start_by out_to
home_at rs v (Err e) = refl
home_at rs v (Ok u) = either (λ (c : SupervisorCalled). out_to c.state.holder ≡ None) (ltb v (supervisors_of rs)) _ _ refl refl

pub start_home : (image : List ℕ) (v : ℕ) → out_to ((A.start image).supervisor_at v).holder ≡ None
unfolding A.start
start_home image v = home_at (records_of image) v (verdict_of image)
