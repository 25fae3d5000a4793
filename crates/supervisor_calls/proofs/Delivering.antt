-- A message delivered, from what the code is told.
use Rattle.std.specs.Prelude.{Option, Some, None, Result, Ok, Err}
use Rattle.refusal.specs.Refusal.{refusal}
use Rattle.refusal.specs.declared.Refusal.{Refusal}
use mathlib.Core.Path.{◌≡◌, refl, sym, ap, ◌∙◌, subst}
use mathlib.Core.List.{List}
use mathlib.Core.Bool.{Bool, true, false, cond, not, ◌&&◌, ◌||◌, true≢false}
use Prim.Native.Nat.{ℕ, ◌≤◌, ◌<◌}
use native.Mathlib.Omega.{arith}
use lib.Dec.{T, eqb, ltb}
use lib.Ieee.Fits.{and_l, and_r}
use borrow.Author.Tests.{ltb-true, eq-eqb, ne_eqb, eqb-true}
use denote.Floats.{passes as holds, is_true}
use Rattle.bits.specs.Bit.{bit, all_below}
use Rattle.records.specs.declared.Record.{Record}
use Rattle.reader.specs.Walk.{records_of}
use Rattle.rules.specs.LookUp.{modules_of, supervisors_of, supervisor_state}
use Rattle.places.specs.declared.Places.{Places}
use Rattle.places.specs.Places.{records_by}
use Rattle.checker.specs.Examined.{examined_of}
use Rattle.checker.proofs.Examining.{accepted_by, records_by_lem, call_by, refused_call}
use Rattle.accepted.proofs.Accepted.{every_plan}
use Rattle.plan.specs.Plan.{neighbour, supervisor_moved}
use Rattle.messages.specs.Message.{no_event, parse}
use Rattle.messages.specs.declared.Message.{Message}
use Rattle.messages.specs.declared.Message.TheVariants.{Bid, Permit, Release}
use Rattle.permits.specs.Names.{neighbours?, event_named, named}
use Rattle.permits.specs.Supervisor.{with_state, with_noted, with_holder, holder_fits, supervisor_fits, call_refused, after_note, applied, after_release, held_by, taken_by, deliver_in, absent, deliver_by, supervisor_deliver}
use Rattle.permits.specs.declared.Supervisor.{Supervisor}
use Rattle.permits.specs.declared.SupervisorCalled.{SupervisorCalled}
use Rattle.permits.specs.declared.Holder.{Holder}
use Rattle.permits.specs.declared.Holder.TheVariants.{Home, Out}
use Rattle.noting.specs.Notes.{put_note}
use Rattle.noting.proofs.Notes.{put_in}
use Rattle.noting.proofs.Planned.{present, lacking}

-- ---- what the names of a message promise

-- an accepted plan has at most 16 modules
pub few_modules : (image : List ℕ) {x : Result Places Refusal} {p : Places} → x ≡ examined_of image → x ≡ Ok p → modules_of (records_by image p) ≤ 16
few_modules image {x} {p} e f =
    let most : modules_of (records_of image) ≤ 16 = (every_plan image (accepted_by image e f)).sound.modules.1 in
    subst (λ (rs : List Record). modules_of rs ≤ 16) (sym (records_by_lem image e f)) most

-- a module that bids is one of 16
pub bidder_small : (rs : List Record) (g : Message) {m w : ℕ} → modules_of rs ≤ 16 → named rs g ≡ true → g ≡ Bid m w → m < 16
unfolding named
bidder_small rs g {m} {w} p n e =
    let t : T (ltb m (modules_of rs) && ltb w (supervisors_of rs) && neighbour rs m w) = holds _ (ap (named rs) (sym e) ∙ n) in
    let l : m < modules_of rs = ltb-true m (modules_of rs) (is_true _ (and_l (ltb m (modules_of rs)) (ltb w (supervisors_of rs)) (and_l (ltb m (modules_of rs) && ltb w (supervisors_of rs)) (neighbour rs m w) t))) in
    omega arith

-- the holder of a state that fits is a neighbour
holder_near : (rs : List Record) (v : ℕ) (y : Supervisor) (m : ℕ) → supervisor_fits rs v y ≡ true → held_by y.holder m ≡ true → neighbours? rs m v ≡ true
unfolding supervisor_fits holder_fits held_by
holder_near rs v y m f h = go y.holder (and_r (a && b) (holder_fits rs v y.holder) (and_l (a && b && holder_fits rs v y.holder) (ltb y.last 16) (holds _ f))) h
  where
    a : Bool
    a = supervisor_state rs v y.state

    b : Bool
    b = all_below (λ n. not (bit y.noted n) || neighbours? rs n v) 16

    go : (o : Holder) → T (holder_fits rs v o) → held_by o m ≡ true → neighbours? rs m v ≡ true
    go Home t q = absurd (true≢false (sym q))
    go (Out n) t q = ap (λ (i : ℕ). neighbours? rs i v) (sym (eqb-true n m q)) ∙ is_true _ t

-- ---- what a message names

pub release_asked : (rs : List Record) {m w e : ℕ} {g : Message} {b : Bool} → g ≡ Release m w e → b ≡ named rs (Release m w e) → b ≡ named rs g
release_asked rs h f = f ∙ ap (named rs) (sym h)

pub release_named : (rs : List Record) (v : ℕ) (y : Supervisor) {m w e : ℕ} {g : Message} {b a : Bool} → supervisor_fits rs v y ≡ true → g ≡ Release m w e → b ≡ held_by y.holder m
    → (eqb w v && b) ≡ true → a ≡ event_named rs m w e → (eqb e 255 || a) ≡ named rs g
unfolding named
release_named rs v y {m} {w} {e} {b = b} f h k q i =
    let t : T (eqb w v && b) = holds _ q in
    let here : w ≡ v = eqb-true w v (is_true _ (and_l (eqb w v) b t)) in
    let near : neighbours? rs m w ≡ true = ap (neighbours? rs m) here ∙ holder_near rs v y m f (sym k ∙ is_true _ (and_r (eqb w v) b t)) in
    ap (λ (c : Bool). eqb e 255 || c) i ∙ sym (ap (λ (c : Bool). c && (eqb e no_event || event_named rs m w e)) near) ∙ ap (named rs) (sym h)

-- ---- a bid noted

pub after_note_lem : (y : Supervisor) (m : ℕ) {n : ℕ} → m < 16 → n ≡ put_note y.noted m true → with_noted y n ≡ after_note y m
after_note_lem y m l e = ap (with_noted y) (put_in y.noted m true l e)

-- ---- a release's event applied

module _ (rs : List Record) (v st e : ℕ) where
  pub applied_none : e ≡ 255 → st ≡ applied rs v st e
  unfolding applied
  applied_none h = simp (eq-eqb e 255 h)

  pub applied_moves : {s : ℕ} → (e ≡ 255 → ⊥) → s ≡ supervisor_moved rs v st e → s ≡ applied rs v st e
  unfolding applied
  applied_moves h f = f ∙ simp (ne_eqb e 255 h)

pub after_release_lem : (rs : List Record) (v : ℕ) (y : Supervisor) (e : ℕ) {st : ℕ} {r : Supervisor} → st ≡ applied rs v y.state e → r ≡ with_holder (with_state y st) Home → r ≡ after_release rs v y e
after_release_lem rs v y e f h = h ∙ ap (λ (s : ℕ). with_holder (with_state y s) Home) f

pub held_arm : (h : Holder) (m : ℕ) {x : Holder} {t : Bool} → h ≡ x → t ≡ held_by x m → t ≡ held_by h m
held_arm h m e f = f ∙ ap (λ (z : Holder). held_by z m) (sym e)

-- ---- a message whose names are the plan's

abbrev due : Bool → Supervisor → Supervisor → SupervisorCalled
due t after y = cond t (record { answer = Ok tt; state = after }) (call_refused y 12 0)

module _ (rs : List Record) (v : ℕ) (y : Supervisor) (g : Message) {r : SupervisorCalled} {s : Supervisor} {b : Bool} where
  pub bid_by : {m w : ℕ} → g ≡ Bid m w → s ≡ after_note y m → b ≡ bit y.noted m → r ≡ due (eqb w v && not b) s y → r ≡ taken_by rs v y g
  unfolding taken_by
  bid_by e f h k = k ∙ rw (e, f, h)

  pub release_by : {m w e : ℕ} → g ≡ Release m w e → s ≡ after_release rs w y e → b ≡ held_by y.holder m → r ≡ due (eqb w v && b) s y → r ≡ taken_by rs v y g
  unfolding taken_by
  release_by {m} {w} {e} i f h k = k ∙ rw (i, f, h) (go (eqb w v) refl)
    where
      -- the supervisor that it names is this one where it is taken
      go : (t : Bool) → eqb w v ≡ t → due (t && held_by y.holder m) (after_release rs w y e) y ≡ due (t && held_by y.holder m) (after_release rs v y e) y
      go true q = ap (λ (x : ℕ). due (held_by y.holder m) (after_release rs x y e) y) (eqb-true w v q)
      go false q = refl

pub permit_by : (rs : List Record) (v : ℕ) (y : Supervisor) (g : Message) {r : SupervisorCalled} {w m k : ℕ} → g ≡ Permit w m k → r ≡ call_refused y 12 0 → r ≡ taken_by rs v y g
unfolding taken_by
permit_by rs v y g e k = k ∙ rw e

-- ---- what the bytes are

module _ (rs : List Record) (v : ℕ) (y : Supervisor) (p : Option Message) {r : SupervisorCalled} where
  pub misshapen_by : p ≡ None → r ≡ call_refused y 10 0 → r ≡ deliver_in rs v y p
  unfolding deliver_in
  misshapen_by e k = k ∙ rw e

  module _ {g : Message} {t : Bool} (e : p ≡ Some g) (f : t ≡ named rs g) where
    pub named_by : t ≡ true → r ≡ taken_by rs v y g → r ≡ deliver_in rs v y p
    unfolding deliver_in
    named_by q k = k ∙ rw e (simp (sym f ∙ q))

    pub unnamed_by : t ≡ false → r ≡ call_refused y 11 0 → r ≡ deliver_in rs v y p
    unfolding deliver_in
    unnamed_by q k = k ∙ rw e (simp (sym f ∙ q))

pub absent_arm : (y : Supervisor) (p : Option Message) {x : Option Message} {r : SupervisorCalled} → p ≡ x → r ≡ absent y x → r ≡ absent y p
absent_arm y p e k = k ∙ ap (absent y) (sym e)

-- ---- the whole call

module _ (image : List ℕ) (v : ℕ) (y : Supervisor) (bytes : List ℕ) {d : Result Places Refusal} (e : d ≡ examined_of image) where
  pub deliver_refused : {n o : ℕ} {r : SupervisorCalled} → d ≡ Err (refusal n o) → r ≡ call_refused y n o → r ≡ supervisor_deliver image v y bytes
  unfolding deliver_by
  deliver_refused f h = h ∙ refused_call image e (λ w rs. deliver_by w rs v y (parse bytes)) f

  module _ {q : Places} {k : ℕ} {p : Option Message} (f : d ≡ Ok q) (c : k ≡ supervisors_of (records_by image q)) (i : p ≡ parse bytes) where
    abbrev rs : List Record
    rs = records_by image q

    by : deliver_by (Ok tt) rs v y (parse bytes) ≡ supervisor_deliver image v y bytes
    by = call_by image e (λ w rs. deliver_by w rs v y (parse bytes)) f

    pub deliver_absent : {r : SupervisorCalled} → k ≤ v → r ≡ absent y p → r ≡ supervisor_deliver image v y bytes
    unfolding deliver_by
    deliver_absent l h = h ∙ simp (lacking rs v c l, i) refl ∙ by

    module _ {t : Bool} (l : v < k) (g : t ≡ supervisor_fits (records_by image q) v y) where
      pub deliver_unfit : {r : SupervisorCalled} → t ≡ false → r ≡ call_refused y 9 0 → r ≡ supervisor_deliver image v y bytes
      unfolding deliver_by
      deliver_unfit z h = h ∙ simp (present rs v c l, sym g ∙ z) refl ∙ by

      pub deliver_fit : {r : SupervisorCalled} → t ≡ true → r ≡ deliver_in (records_by image q) v y p → r ≡ supervisor_deliver image v y bytes
      unfolding deliver_by
      deliver_fit z h = h ∙ simp (present rs v c l, sym g ∙ z, i) refl ∙ by
