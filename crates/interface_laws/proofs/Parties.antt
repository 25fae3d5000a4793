-- The states that a module's and a supervisor's calls leave can be encoded.
use Rattle.std.specs.Prelude.{Option, Some, None, Result, Ok, Err, ⊤}
use Rattle.refusal.specs.declared.Refusal.{Refusal}
use mathlib.Core.Path.{◌≡◌, refl, ap, subst}
use mathlib.Core.List.{List}
use mathlib.Core.Bool.{Bool, true, false, not, ◌&&◌, false≢true}
use Prim.Native.Nat.{ℕ, suc, ◌+◌, ◌-◌, ◌%◌, ◌^◌, ◌≤◌, ◌<◌}
use native.Mathlib.Omega.{arith}
use native.Mathlib.Nat.{lt_of_le_of_lt}
use lib.Bits.{or_lt, and_le_l}
use lib.Pow.{pow-lt, pow_pos}
use lib.Dec.{T, eqb, ltb, ltb→lt, eqb→eq, lit<}
use lib.Ieee.Fits.{and_r}
use borrow.Author.Tests.{ltb-true}
use denote.Floats.{passes as holds}
use Rattle.bits.specs.Bit.{bit, put_bit, least}
use Rattle.bits.proofs.Least.{least_some}
use Rattle.records.specs.Key.{key_of}
use Rattle.records.specs.declared.Record.{Record}
use Rattle.records.specs.declared.Record.TheVariants.{Supervisor as SupervisorRecord}
use Rattle.reader.specs.Walk.{records_of}
use Rattle.rules.specs.LookUp.{field2, field3, field_of, modules_of, supervisors_of, supervisor_in}
use Rattle.rules.specs.Check.{verdict_of}
use Rattle.rules.proofs.Valid.{both}
use Rattle.plan.specs.Plan.{supervisor_move, supervisor_initial, neighbours, state_or}
use Rattle.accepted.specs.Plan.{Sound}
use Rattle.accepted.proofs.Accepted.{every_plan}
use Rattle.roundtrip.specs.Fits.{Byte, Bytes}
use Rattle.roundtrip.proofs.Shape.{word_small}
use Rattle.messages.specs.Message.{bid_size, permit_size, release_size, no_event, short, shaped, parse}
use Rattle.messages.specs.declared.Message.{Message}
use Rattle.messages.specs.declared.Message.TheVariants.{Bid, Permit, Release}
use Rattle.water.specs.declared.Flow.{Flow}
use Rattle.modules.specs.Procedure.{respond_of, tick_of}
use Rattle.modules.specs.Fits.{own_fits}
use Rattle.modules.specs.declared.Replied.{Replied}
use Rattle.permits.specs.Names.{neighbours?, named}
use Rattle.permits.specs.Module as M
use Rattle.permits.specs.Supervisor as S
use Rattle.permits.specs.declared.Module.{Module}
use Rattle.permits.specs.declared.Supervisor.{Supervisor}
use Rattle.permits.specs.declared.Holder.{Holder}
use Rattle.permits.specs.declared.Holder.TheVariants.{Home, Out}
use Rattle.permits.specs.declared.ModuleCalled.{ModuleCalled}
use Rattle.permits.specs.declared.SupervisorCalled.{SupervisorCalled}
use Rattle.turn_laws.proofs.Found.{supervisor_move_lem}
use Rattle.own_bytes.specs.Own.{OwnEncodable}
use Rattle.party_bytes.specs.Module.{ModuleEncodable}
use Rattle.party_bytes.specs.Supervisor.{holder_byte, SupervisorEncodable}
use Rattle.interface_laws.proofs.OwnParts.{choose, turn_encodable, respond_encodable, tick_encodable, start_encodable, empty_encodable}

-- a call on an image that is refused leaves the state, and one on an accepted image has what the plan promises
pub judged : (image : List ℕ) (P : Result ⊤ Refusal → Type 0) → (Sound (records_of image) → P (Ok tt)) → ((e : Refusal) → P (Err e)) → P (verdict_of image)
judged image P a r = go (verdict_of image) refl
  where
    go : (v : Result ⊤ Refusal) → verdict_of image ≡ v → P v
    go (Ok u) e = a (every_plan image e).sound
    go (Err why) e = r why

-- a bit below k put into a mask of k bits
put_small : (k m e : ℕ) (on : Bool) → e < k → m < 2 ^ k → put_bit m e on < 2 ^ k
unfolding put_bit
put_small k m e on l h =
    choose (λ (x : ℕ). x < 2 ^ k) (ltb e 64) _ _
    (λ q. choose (λ (x : ℕ). x < 2 ^ k) on _ _ (λ t. or_lt k m (2 ^ e) h (pow-lt l)) (λ t. lt_of_le_of_lt (and_le_l m (2 ^ 64 - 1 - 2 ^ e)) h)) (λ q. h)

-- the mask of a permit has 64 bits
abbrev MaskSmall : Option Message → Type 0
MaskSmall (Some (Bid m v)) = Unit {0}
MaskSmall (Some (Permit v m k)) = k < 2 ^ 64
MaskSmall (Some (Release m v e)) = Unit {0}
MaskSmall None = Unit {0}

mask_small : (g : List ℕ) → Bytes g → MaskSmall (parse g)
unfolding parse
mask_small g h =
    choose MaskSmall (shaped 0x01 bid_size g) _ _ (λ a. tt)
    (λ a. choose MaskSmall (shaped 0x02 permit_size g) _ _ (λ b. word_small g 3 h) (λ b. choose MaskSmall (shaped 0x03 release_size g) _ _ (λ c. tt) (λ c. tt)))

-- ---- modules

own_fits_lem : (rs : List Record) (m : ℕ) (x : Module) → M.module_fits rs m x ≡ true → T (own_fits rs m x.own)
unfolding M.fits_in
own_fits_lem rs m x f = let t : T (M.module_fits rs m x) = holds _ f in search both

module _ (rs : List Record) (m : ℕ) (x : Module) (h : ModuleEncodable x) where
  abbrev Keeps : ModuleCalled → Type 0
  Keeps c = ModuleEncodable c.state

  bid_small : (v : ℕ) → M.bid_with rs m x v ≡ true → v < 32
  unfolding M.bid_with M.missing_in M.is_for
  bid_small v b = go (M.missing rs m x.held) refl (and_r x.bid (M.is_for (M.missing rs m x.held) v) (holds _ b))
    where
      go : (o : Option ℕ) → M.missing rs m x.held ≡ o → T (M.is_for o v) → v < 32
      go None e u = absurd u
      go (Some w) e u = subst (λ (k : ℕ). k < 32) (eqb→eq w v u) (least_some (λ n. bit (neighbours rs m) n && not (bit x.held n)) 32 w e).below

  taken : (g : Message) → MaskSmall (Some g) → Keeps (M.taken_by rs m x g)
  unfolding M.taken_by
  taken (Bid n v) s = h
  taken (Permit v n k) s =
      choose Keeps (eqb n m && M.bid_with rs m x v) _ _
      (λ e. record { own = h.own; held = put_small 32 x.held v true (bid_small v (both_true (eqb n m) _ e)) h.held; received = or_lt 64 x.received k h.received s }) (λ e. h)
    where
      both_true : (a b : Bool) → (a && b) ≡ true → b ≡ true
      both_true true b q = q
      both_true false b q = absurd (false≢true q)
  taken (Release n v e) s = h

  delivered : (p : Option Message) → MaskSmall p → Keeps (M.deliver_by (Ok tt) rs m x p)
  unfolding M.deliver_by M.deliver_in M.absent
  delivered None s = choose Keeps (ltb m (modules_of rs)) _ _ (λ l. choose Keeps (M.module_fits rs m x) _ _ (λ f. h) (λ f. h)) (λ l. h)
  delivered (Some g) s =
      choose Keeps (ltb m (modules_of rs)) _ _ (λ l. choose Keeps (M.module_fits rs m x) _ _ (λ f. choose Keeps (named rs g) _ _ (λ n. taken g s) (λ n. h)) (λ f. h)) (λ l. h)

  replied : (r : Replied) → (T (own_fits rs m x.own) → OwnEncodable r.own) → Keeps (M.reply_by (Ok tt) rs m x r)
  unfolding M.reply_by
  replied r k =
      choose Keeps (ltb m (modules_of rs)) _ _ (λ l. choose Keeps (M.module_fits rs m x) _ _
      (λ f. record { own = k (own_fits_lem rs m x f); held = h.held; received = h.received }) (λ f. h)) (λ l. h)

  stepped : Sound rs → (b : List ℕ) → ModuleEncodable (M.step_by (Ok tt) rs m x b).state
  unfolding M.step_by M.step_in M.state_by
  stepped plan b =
      choose Keep (ltb m (modules_of rs)) _ _ (λ l. choose Keep (M.module_fits rs m x) _ _
      (λ f. choose Keep (short (M.step_bytes rs m x (M.choice rs m x)) b) _ _ (λ s. h) (λ s. by f (M.choice rs m x))) (λ f. h)) (λ l. h)
    where
      Keep : M.StepCall → Type 0
      Keep c = ModuleEncodable c.state

      by : M.module_fits rs m x ≡ true → (c : M.Choice) → ModuleEncodable (M.state_by rs m x c)
      by f M.takes_turn = record { own = turn_encodable rs plan m x.own h.own (own_fits_lem rs m x f) x.received; held = pow_pos 32; received = pow_pos 64 }
      by f (M.bids_to v) = record { own = h.own; held = h.held; received = h.received }
      by f M.waits = h

pub module_started : (image : List ℕ) (m : ℕ) → ModuleEncodable (M.module_start image m).state
unfolding M.start_by
module_started image m =
    judged image (λ v. ModuleEncodable (M.start_by v (records_of image) m).state)
    (λ plan. choose (λ (c : ModuleCalled). ModuleEncodable c.state) (ltb m (modules_of (records_of image))) _ _
    (λ l. record { own = start_encodable (records_of image) plan m (ltb-true m (modules_of (records_of image)) l); held = pow_pos 32; received = pow_pos 64 }) (λ l. empty))
    (λ e. empty)
  where
    empty : ModuleEncodable M.empty_module
    empty = record { own = empty_encodable; held = pow_pos 32; received = pow_pos 64 }

module _ (image : List ℕ) (m : ℕ) (x : Module) (h : ModuleEncodable x) where
  pub module_stepped_lem : (b : List ℕ) → ModuleEncodable (M.module_step image m x b).state
  unfolding M.step_by
  module_stepped_lem b = judged image (λ v. ModuleEncodable (M.step_by v (records_of image) m x b).state) (λ plan. stepped (records_of image) m x h plan b) (λ e. h)

  pub module_delivered : (g : List ℕ) → Bytes g → ModuleEncodable (M.module_deliver image m x g).state
  unfolding M.deliver_by
  module_delivered g s = judged image (λ v. ModuleEncodable (M.deliver_by v (records_of image) m x (parse g)).state) (λ plan. delivered (records_of image) m x h (parse g) (mask_small g s)) (λ e. h)

  module_replied : (r : Replied) → (Sound (records_of image) → T (own_fits (records_of image) m x.own) → OwnEncodable r.own) → ModuleEncodable (M.reply_by (verdict_of image) (records_of image) m x r).state
  unfolding M.reply_by
  module_replied r k = judged image (λ v. ModuleEncodable (M.reply_by v (records_of image) m x r).state) (λ plan. replied (records_of image) m x h r (k plan)) (λ e. h)

  pub module_responded : (e : ℕ) → ModuleEncodable (M.module_respond image m x e).state
  module_responded e = module_replied (respond_of (records_of image) m e x.own) (λ plan t. respond_encodable (records_of image) plan m x.own h.own t e)

  pub module_ticked : (f : Flow) → ModuleEncodable (M.module_tick image m x f).state
  module_ticked f = module_replied (tick_of (records_of image) f x.own) (λ plan t. tick_encodable (records_of image) plan m x.own h.own t f)

-- ---- supervisors

-- the module that gets the permit
pub served_small : (y : Supervisor) (m : ℕ) → S.served y ≡ Some m → m < 16
unfolding S.next_noted S.module_after S.served_on
served_small y m e = holds_at y.holder e
  where
    in_range_lem : (o : Option ℕ) → S.next_noted y o ≡ Some m → m < 16
    in_range_lem None q = let z : ◌≡◌ {A = ℕ} 0 1 = cc in absurd (omega arith)
    in_range_lem (Some k) q = let z : (y.last + suc k) % 16 ≡ m = cc in omega arith

    holds_at : (a : Holder) → S.served_on y a ≡ Some m → m < 16
    holds_at Home q = in_range_lem (least (λ k. bit y.noted (S.module_after y.last k)) 16) q
    holds_at (Out n) q = let z : ◌≡◌ {A = ℕ} 0 1 = cc in absurd (omega arith)

module _ (rs : List Record) (plan : Sound rs) where
  module _ (v : ℕ) (l : v < supervisors_of rs) where
    states : field_of field2 (supervisor_in rs v) ≤ 64
    unfolding key_of field_of field2
    states =
        let r = plan.the_supervisor v l in
        let e : field_of field2 (supervisor_in rs v) ≡ r.states = ap (field_of field2) (plan.finds (SupervisorRecord v r.states r.initial r.alphabet) r.listed) in
        omega (arith, r.states_most)

    pub initial_byte : Byte (supervisor_initial rs v)
    unfolding key_of field_of field3
    initial_byte =
        let r = plan.the_supervisor v l in
        let e : supervisor_initial rs v ≡ r.initial = ap (field_of field3) (plan.finds (SupervisorRecord v r.states r.initial r.alphabet) r.listed) in
        omega (arith, r.states_most, r.initial_below)

  pub moved_byte : (v st e : ℕ) → Byte st → Byte (state_or (supervisor_move rs v st e) st)
  unfolding state_or
  moved_byte v st e h = go (supervisor_move rs v st e) refl
    where
      go : (o : Option ℕ) → supervisor_move rs v st e ≡ o → Byte (state_or o st)
      go None q = h
      go (Some y) q = let k = supervisor_move_lem rs plan v st e y q in omega (arith, k.to, states v k.supervisor)

  module _ (v : ℕ) (y : Supervisor) (h : SupervisorEncodable y) where
    abbrev Kept : SupervisorCalled → Type 0
    Kept c = SupervisorEncodable c.state

    takes : (g : Message) → named rs g ≡ true → Kept (S.taken_by rs v y g)
    unfolding S.taken_by S.applied named holder_byte
    takes (Bid m w) n =
        let t : T (neighbours? rs m w) = holds _ n in
        let l : m < modules_of rs = ltb→lt m (modules_of rs) (search both) in
        choose Kept (eqb w v && not (bit y.noted m)) _ _
        (λ e. record { state = h.state; noted = put_small 16 y.noted m true (omega (arith, plan.modules.1)) h.noted; holder = h.holder; last = h.last }) (λ e. h)
    takes (Permit w m k) n = h
    takes (Release m w e) n =
        choose Kept (eqb w v && S.held_by y.holder m) _ _
        (λ q. record { state = choose Byte (eqb e no_event) _ _ (λ a. h.state) (λ a. moved_byte v y.state e h.state); noted = h.noted; holder = lit< tt; last = h.last }) (λ q. h)

    received : (p : Option Message) → Kept (S.deliver_by (Ok tt) rs v y p)
    unfolding S.deliver_by S.deliver_in S.absent
    received None = choose Kept (ltb v (supervisors_of rs)) _ _ (λ l. choose Kept (S.supervisor_fits rs v y) _ _ (λ f. h) (λ f. h)) (λ l. h)
    received (Some g) =
        choose Kept (ltb v (supervisors_of rs)) _ _ (λ l. choose Kept (S.supervisor_fits rs v y) _ _ (λ f. choose Kept (named rs g) _ _ (λ n. takes g n) (λ n. h)) (λ f. h)) (λ l. h)

    sent : (o : Option ℕ) → S.served y ≡ o → SupervisorEncodable (S.state_by y o)
    unfolding S.state_by holder_byte
    sent None e = h
    sent (Some m) e =
        let l : m < 16 = served_small y m e in
        record { state = h.state; noted = put_small 16 y.noted m false l h.noted; holder = omega arith; last = omega arith }

    serves : (b : List ℕ) → SupervisorEncodable (S.step_by (Ok tt) rs v y b).state
    unfolding S.step_by S.step_in
    serves b =
        choose Keep (ltb v (supervisors_of rs)) _ _ (λ l. choose Keep (S.supervisor_fits rs v y) _ _
        (λ f. choose Keep (short (S.step_bytes rs v y (S.served y)) b) _ _ (λ s. h) (λ s. sent (S.served y) refl)) (λ f. h)) (λ l. h)
      where
        Keep : S.ServeCall → Type 0
        Keep c = SupervisorEncodable c.state

pub supervisor_started : (image : List ℕ) (v : ℕ) → SupervisorEncodable (S.supervisor_start image v).state
unfolding S.start_by holder_byte
supervisor_started image v =
    judged image (λ a. SupervisorEncodable (S.start_by a (records_of image) v).state)
    (λ plan. choose (λ (c : SupervisorCalled). SupervisorEncodable c.state) (ltb v (supervisors_of (records_of image))) _ _
    (λ l. record { state = initial_byte (records_of image) plan v (ltb-true v (supervisors_of (records_of image)) l); noted = pow_pos 16; holder = lit< tt; last = lit< tt }) (λ l. empty))
    (λ e. empty)
  where
    empty : SupervisorEncodable S.empty_supervisor
    empty = record { state = lit< tt; noted = pow_pos 16; holder = lit< tt; last = lit< tt }

module _ (image : List ℕ) (v : ℕ) (y : Supervisor) (h : SupervisorEncodable y) where
  pub supervisor_stepped_lem : (b : List ℕ) → SupervisorEncodable (S.supervisor_step image v y b).state
  unfolding S.step_by
  supervisor_stepped_lem b = judged image (λ a. SupervisorEncodable (S.step_by a (records_of image) v y b).state) (λ plan. serves (records_of image) plan v y h b) (λ e. h)

  pub supervisor_delivered : (g : List ℕ) → SupervisorEncodable (S.supervisor_deliver image v y g).state
  unfolding S.deliver_by
  supervisor_delivered g = judged image (λ a. SupervisorEncodable (S.deliver_by a (records_of image) v y (parse g)).state) (λ plan. received (records_of image) plan v y h (parse g)) (λ e. h)
