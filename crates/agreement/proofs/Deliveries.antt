-- A message that names neighbours, given to the party that it names in a state that fits: the call is the rule's option. Where the rules take it,
-- it is taken, and the states stay the same; where they do not, it is refused by 12.
use Rattle.std.specs.Prelude.{Option, Some, None, Result, Ok, ⊤, unwrap_or, is_some}
use Rattle.refusal.specs.declared.Refusal.{Refusal}
use mathlib.Core.Path.{◌≡◌, refl, sym, ap, ◌∙◌, subst}
use mathlib.Core.Bool.{Bool, true, false, cond, not, ◌&&◌, ◌||◌}
use mathlib.Core.List.{List}
use Prim.Native.Nat.{ℕ, ◌^◌, ◌≤◌, ◌<◌}
use native.Mathlib.Omega.{arith}
use lib.Bits.{bit_or}
use lib.Dec.{eqb}
use borrow.Author.Tests.{lt-ltb, ne_eqb}
use Rattle.bits.specs.Bit.{bit, put_bit}
use Rattle.records.specs.declared.Record.{Record}
use Rattle.rules.specs.LookUp.{modules_of, supervisors_of, events_of, owner_of}
use Rattle.plan.specs.Plan.{in_alphabet, supervisor_move, state_or}
use Rattle.messages.specs.Message.{no_event, message_bytes, parse}
use Rattle.messages.specs.declared.Message.TheVariants.{Bid, Permit, Release}
use Rattle.permits.specs.declared.Module.{Module}
use Rattle.permits.specs.declared.ModuleCalled.{ModuleCalled}
use Rattle.permits.specs.declared.Supervisor.{Supervisor}
use Rattle.permits.specs.declared.SupervisorCalled.{SupervisorCalled}
use Rattle.permits.specs.declared.Holder.{Holder}
use Rattle.permits.specs.declared.Holder.TheVariants.{Home, Out}
use Rattle.permits.specs.Names.{event_named, named}
use Rattle.permits.specs.Module as M
use Rattle.permits.specs.Supervisor as S
use Rattle.protocol.specs.Generic.{is_number}
use Rattle.protocol.specs.Plan.{Laws}
use Rattle.protocol.specs.Rules as R
use Rattle.protocol.specs.System.{System}
use Rattle.protocol.proofs.Tools.{and_true, and_intro, eqb_self, Inserted, inserted_all}
use Rattle.protocol.proofs.Invariant.{Inv, ReleaseNames}
use Rattle.agreement.specs.PlanOf.{plan_of}
use Rattle.agreement.specs.Compared.{out_to}
use Rattle.agreement.proofs.Names.{event_byte, message_of}
use Rattle.agreement.proofs.Bytes.{parse_bytes}
use Rattle.agreement.proofs.Fit.{SameModule, SameSupervisor, near_module, near_supervisor, both_named}

-- ---- a call c on a state x, by the state that the rules come to: none where they refuse
abbrev pub ModuleTakes : Module → Option R.ModuleState → ModuleCalled → Type 0
ModuleTakes x None c = c ≡ M.call_refused x 12 0
ModuleTakes x (Some y) c = (c.answer ≡ Ok tt) × SameModule c.state y

abbrev pub SupervisorTakes : Supervisor → Option R.SupervisorState → SupervisorCalled → Type 0
SupervisorTakes x None c = c ≡ S.call_refused x 12 0
SupervisorTakes x (Some y) c = (c.answer ≡ Ok tt) × SameSupervisor c.state y

-- the states after it are the same
pub module_after : (x : Module) (y : R.ModuleState) (o : Option R.ModuleState) (c : ModuleCalled) → SameModule x y → ModuleTakes x o c → SameModule c.state (unwrap_or o y)
module_after x y None c s t = subst (λ (k : ModuleCalled). SameModule k.state y) (sym t) s
module_after x y (Some z) c s t = t.1

pub supervisor_after : (x : Supervisor) (y : R.SupervisorState) (o : Option R.SupervisorState) (c : SupervisorCalled) → SameSupervisor x y → SupervisorTakes x o c
    → SameSupervisor c.state (unwrap_or o y)
supervisor_after x y None c s t = subst (λ (k : SupervisorCalled). SameSupervisor k.state y) (sym t) s
supervisor_after x y (Some z) c s t = t.1

-- one that the rules take is taken
pub module_takes : (x : Module) (o : Option R.ModuleState) (y : R.ModuleState) (c : ModuleCalled) → o ≡ Some y → ModuleTakes x o c → c.answer ≡ Ok tt
module_takes x o y c e t = (subst (λ (z : Option R.ModuleState). ModuleTakes x z c) e t).0

pub supervisor_takes : (x : Supervisor) (o : Option R.SupervisorState) (y : R.SupervisorState) (c : SupervisorCalled) → o ≡ Some y → SupervisorTakes x o c → c.answer ≡ Ok tt
supervisor_takes x o y c e t = (subst (λ (z : Option R.SupervisorState). SupervisorTakes x z c) e t).0

-- ---- one lemma a message
module _ (rs : List Record) (L : Laws (plan_of rs)) where
  -- a bid
  pub bid_call : (m v : ℕ) (x : Supervisor) (y : R.SupervisorState) → R.neighbour (plan_of rs) m v ≡ true → S.supervisor_fits rs v x ≡ true → SameSupervisor x y
      → (w : Result ⊤ Refusal) → w ≡ Ok tt → SupervisorTakes x (R.take_bid y m) (S.deliver_by w rs v x (Some (Bid m v)))
  unfolding S.deliver_by S.deliver_in S.taken_by named R.take_bid
  bid_call m v x y n f s w a =
      rw (a, both_named rs L m v n, lt-ltb v (supervisors_of rs) (near_supervisor rs L m v n), f, eqb_self v, ap (λ (k : ℕ). bit k m) s.noted) (go (bit y.noted m))
    where
      go : (b : Bool) → SupervisorTakes x (cond b None (Some (R.after_noting y m))) (cond (not b) (record { answer = Ok tt; state = S.after_note x m }) (S.call_refused x 12 0))
      go true = refl
      go false = unfold R.after_noting in (refl, record { state = s.state; noted = ap (λ (k : ℕ). put_bit k m true) s.noted; holder = s.holder; last = s.last })

  -- a permit: the rules' bid is with the lowest neighbour not held
  pub permit_call : (v m k : ℕ) (x : Module) (y : R.ModuleState) → R.neighbour (plan_of rs) m v ≡ true → M.module_fits rs m x ≡ true → SameModule x y
      → ((u : ℕ) → y.outstanding ≡ Some u → M.missing rs m x.held ≡ Some u)
      → (w : Result ⊤ Refusal) → w ≡ Ok tt → ModuleTakes x (R.take_permit y v k) (M.deliver_by w rs m x (Some (Permit v m k)))
  unfolding M.deliver_by M.deliver_in M.taken_by named R.take_permit
  permit_call v m k x y n f s lowest w a =
      rw (a, both_named rs L m v n, lt-ltb m (modules_of rs) (near_module rs L m v n), f, eqb_self m, with_bid y.outstanding s.bid lowest) (go (is_number y.outstanding v))
    where
      with_bid : (o : Option ℕ) → x.bid ≡ is_some o → ((u : ℕ) → o ≡ Some u → M.missing rs m x.held ≡ Some u) → M.bid_with rs m x v ≡ is_number o v
      with_bid None b h = unfold M.bid_with is_number in (rw b)
      with_bid (Some u) b h = unfold M.bid_with M.is_for is_number in (rw (b, h u refl))

      go : (b : Bool) → ModuleTakes x (cond b (Some (R.after_permit y v k)) None) (cond b (record { answer = Ok tt; state = M.after_permit x v k }) (M.call_refused x 12 0))
      go true = unfold R.after_permit in (refl, record { own = s.own; held = ap (λ (h : ℕ). put_bit h v true) s.held; received = ap (λ (r : ℕ). bit_or r k) s.received; bid = refl })
      go false = refl

  -- a release
  event_named_lem : (m v : ℕ) (o : Option ℕ) → R.event_of_both (plan_of rs) m v o ≡ true → (eqb (event_byte o) no_event || event_named rs m v (event_byte o)) ≡ true
  unfolding R.event_of_both event_byte plan_of
  event_named_lem m v None h = refl
  event_named_lem m v (Some n) h =
      let q = and_true (in_alphabet rs v n) (eqb (owner_of rs n) m) h in
      let f : event_named rs m v n ≡ true = and_intro (and_intro (lt-ltb n (events_of rs) (L.alphabet_event v n q.0)) q.1) q.0 in
      ap (λ (b : Bool). eqb n no_event || b) f ∙ or_on (eqb n no_event)
    where
      or_on : (b : Bool) → (b || true) ≡ true
      or_on true = refl
      or_on false = refl

  held_by_lem : (m : ℕ) (h : Holder) → S.held_by h m ≡ is_number (out_to h) m
  unfolding S.held_by out_to is_number
  held_by_lem m Home = refl
  held_by_lem m (Out n) = refl

  applied_is : (m v : ℕ) (o : Option ℕ) (st : ℕ) → R.event_of_both (plan_of rs) m v o ≡ true → S.applied rs v st (event_byte o) ≡ R.applied (plan_of rs) v st o
  unfolding S.applied R.applied event_byte R.event_of_both plan_of state_or
  applied_is m v None st h = refl
  applied_is m v (Some n) st h =
      let q = and_true (in_alphabet rs v n) (eqb (owner_of rs n) m) h in
      let a : n < events_of rs = L.alphabet_event v n q.0 in
      let b : events_of rs ≤ 64 = L.few_events in
      ap (λ (c : Bool). cond c st (state_or (supervisor_move rs v st n) st)) (ne_eqb n no_event (λ f. omega arith)) ∙ go (supervisor_move rs v st n)
    where
      go : (o : Option ℕ) → state_or o st ≡ unwrap_or o st
      go None = refl
      go (Some y) = refl

  pub release_call : (m v : ℕ) (e : Option ℕ) (x : Supervisor) (y : R.SupervisorState) → ReleaseNames (plan_of rs) m v e → S.supervisor_fits rs v x ≡ true → SameSupervisor x y
      → (w : Result ⊤ Refusal) → w ≡ Ok tt → SupervisorTakes x (R.take_release (plan_of rs) v y m e) (S.deliver_by w rs v x (Some (Release m v (event_byte e))))
  unfolding S.deliver_by S.deliver_in S.taken_by named R.take_release
  release_call m v e x y n f s w a =
      let h : S.held_by x.holder m ≡ is_number y.holder m = held_by_lem m x.holder ∙ ap (λ (o : Option ℕ). is_number o m) s.holder in
      rw (a, both_named rs L m v n.neighbours, lt-ltb v (supervisors_of rs) (near_supervisor rs L m v n.neighbours), f, event_named_lem m v e n.event, n.event, eqb_self v, h)
      (go (is_number y.holder m))
    where
      go : (b : Bool) → SupervisorTakes x (cond (b && true) (Some (R.after_release (plan_of rs) v y e)) None) (cond b (record { answer = Ok tt; state = S.after_release rs v x (event_byte e) }) (S.call_refused x 12 0))
      go true = unfold R.after_release in (
        refl,
        record {
          state = ap (λ (z : ℕ). S.applied rs v z (event_byte e)) s.state ∙ applied_is m v e y.state n.event;
          noted = s.noted;
          holder = (unfold out_to in refl);
          last = s.last;
        },
      )
      go false = refl

  -- ---- a message under way can be read back
  pub read_back : (D : System) (O : R.OneDevice) → Inv (plan_of rs) D O → (g : R.Message) {r : List R.Message} → Inserted g D.under_way r → parse (message_bytes (message_of g)) ≡ Some (message_of g)
  unfolding message_of
  read_back D O I (R.bid m v) t = parse_bytes (Bid m v) tt
  read_back D O I (R.permit v m k) t =
      parse_bytes (Permit v m k) (subst (λ (n : ℕ). n < 2 ^ 64) (sym (inserted_all t I.carries).0) (L.shown_below v (D.supervisor_at v).state))
  read_back D O I (R.release m v e) t = parse_bytes (Release m v (event_byte e)) tt
