-- A message delivered, from what the code is told.
use Rattle.std.specs.Prelude.{Option, Some, None, Result, Ok, Err}
use Rattle.refusal.specs.Refusal.{refusal}
use Rattle.refusal.specs.declared.Refusal.{Refusal}
use mathlib.Core.Path.{◌≡◌, refl, sym, ap, ◌∙◌}
use mathlib.Core.List.{List}
use mathlib.Core.Bool.{Bool, true, false, cond, not, ◌&&◌, true≢false}
use Prim.Native.Nat.{ℕ, ◌≤◌, ◌<◌}
use native.Mathlib.Omega.{arith}
use lib.Bits.{bit_or}
use lib.Dec.{eqb, ltb}
use borrow.Author.Tests.{lt-ltb, eqb-true}
use Rattle.bits.specs.Bit.{bit, put_bit}
use Rattle.bits.proofs.Least.{least_some}
use Rattle.bits.proofs.Mask.{mask_bit}
use Rattle.records.specs.declared.Record.{Record}
use Rattle.rules.specs.LookUp.{modules_of, supervisors_of}
use Rattle.places.specs.declared.Places.{Places}
use Rattle.places.specs.Places.{records_by}
use Rattle.checker.specs.Examined.{examined_of}
use Rattle.checker.proofs.Examining.{call_by, refused_call}
use Rattle.plan.specs.Plan.{neighbour, neighbours}
use Rattle.messages.specs.Message.{parse}
use Rattle.messages.specs.declared.Message.{Message}
use Rattle.messages.specs.declared.Message.TheVariants.{Bid, Permit, Release}
use Rattle.permits.specs.Names.{neighbours?, named}
use Rattle.permits.specs.Module.{with_permits, with_bid, missing_in, fits_in, call_refused, is_for, bid_with, after_permit, taken_by, deliver_in, absent, deliver_by, module_deliver}
use Rattle.permits.specs.declared.Module.{Module}
use Rattle.permits.specs.declared.ModuleCalled.{ModuleCalled}
use Rattle.holding.proofs.Held.{missing_is}
use Rattle.holding.proofs.Judged.{lacking, unfit, fit}

-- ---- a permit of supervisor v for module n, with the mask k

and_parts : (a b : Bool) → (a && b) ≡ true → (a ≡ true) × (b ≡ true)
and_parts true true e = (refl, refl)
and_parts true false e = absurd (true≢false (sym e))
and_parts false b e = absurd (true≢false (sym e))

and_both : (a b c : Bool) → (a && (b && c)) ≡ true → c ≡ true
and_both true true c e = e
and_both true false c e = absurd (true≢false (sym e))
and_both false b c e = absurd (true≢false (sym e))

-- the supervisor that a bid is with is one of 32
pub permit_small : (n m v : ℕ) (b : Bool) (adjacent held : ℕ) {r : Option ℕ} {w : ℕ} → r ≡ missing_in adjacent held → r ≡ Some w → (eqb n m && (b && eqb w v)) ≡ true → v < 32
unfolding missing_in
permit_small n m v b adjacent held {w = w} e f t =
    let s : w ≡ v = eqb-true w v (and_both (eqb n m) b (eqb w v) t) in
    omega (arith, (least_some (λ u. bit adjacent u && not (bit held u)) 32 w (sym ((sym f) ∙ e))).below)

-- no bid is with the supervisor where none is missing
no_bid : (a b : Bool) → (a && (b && false)) ≡ false
no_bid true true = refl
no_bid true false = refl
no_bid false b = refl

module _ (adjacent m : ℕ) (x : Module) (v n k : ℕ) (r : Option ℕ) (e : r ≡ missing_in adjacent x.held) where
  -- the test of the bid by what the code found
  tested : (rs : List Record) → adjacent ≡ neighbours rs m → (eqb n m && bid_with rs m x v) ≡ (eqb n m && (x.bid && is_for r v))
  unfolding bid_with
  tested rs q = ap (λ (o : Option ℕ). eqb n m && (x.bid && is_for o v)) (sym (e ∙ missing_is adjacent x.held rs m q))

  taken : (rs : List Record) → adjacent ≡ neighbours rs m → (t : Bool) → (eqb n m && (x.bid && is_for r v)) ≡ t
      → cond t (record { answer = Ok tt; state = after_permit x v k }) (call_refused x 12 0) ≡ taken_by rs m x (Permit v n k)
  unfolding taken_by
  taken rs q t f = sym (simp (tested rs q ∙ f))

  pub permit_none : {c : ModuleCalled} → r ≡ None → c ≡ call_refused x 12 0 → (rs : List Record) → adjacent ≡ neighbours rs m → c ≡ taken_by rs m x (Permit v n k)
  unfolding is_for
  permit_none f g rs q = g ∙ taken rs q false (ap (λ (y : Option ℕ). eqb n m && (x.bid && is_for y v)) f ∙ no_bid (eqb n m) x.bid)

  module _ {w : ℕ} (f : r ≡ Some w) where
    found : (t : Bool) → (eqb n m && (x.bid && eqb w v)) ≡ t → (eqb n m && (x.bid && is_for r v)) ≡ t
    unfolding is_for
    found t q = ap (λ (y : Option ℕ). eqb n m && (x.bid && is_for y v)) f ∙ q

    pub permit_taken : {h : ℕ} {s : Module} → (eqb n m && (x.bid && eqb w v)) ≡ true → h ≡ put_bit x.held v true
        → s ≡ with_bid (with_permits x h (bit_or x.received k)) false → (rs : List Record) → adjacent ≡ neighbours rs m
        → (record { answer = Ok tt; state = s }) ≡ taken_by rs m x (Permit v n k)
    permit_taken t g e rs q =
        ap (λ (y : Module). record { answer = Ok tt; state = y }) (e ∙ ap (λ (y : ℕ). with_bid (with_permits x y (bit_or x.received k)) false) g)
        ∙ taken rs q true (found true t)

    pub permit_other : {c : ModuleCalled} → (eqb n m && (x.bid && eqb w v)) ≡ false → c ≡ call_refused x 12 0 → (rs : List Record) → adjacent ≡ neighbours rs m → c ≡ taken_by rs m x (Permit v n k)
    permit_other t g rs q = g ∙ taken rs q false (found false t)

-- ---- what a message names

pub counted_in : (rs : List Record) (m : ℕ) {k : ℕ} → k ≡ modules_of rs → m < k → m < modules_of rs
counted_in rs m e l = omega arith

pub permit_asked : (rs : List Record) {v n k : ℕ} {g : Message} {b : Bool} → g ≡ Permit v n k → b ≡ named rs (Permit v n k) → b ≡ named rs g
permit_asked rs h f = f ∙ ap (named rs) (sym h)

-- a permit for this module, of one of 32 supervisors
module _ (rs : List Record) (m adjacent : ℕ) {v n k : ℕ} {g : Message} (e : adjacent ≡ neighbours rs m) (l : m < modules_of rs) (h : g ≡ Permit v n k) where
  pub permit_named : {b : Bool} → (eqb n m && ltb v 32) ≡ true → b ≡ bit adjacent v → b ≡ named rs g
  unfolding named
  permit_named q f =
      let s = and_parts (eqb n m) (ltb v 32) q in
      f ∙ ap (λ (a : ℕ). bit a v) e ∙ mask_bit (λ u. ltb u (supervisors_of rs) && neighbour rs m u) 32 v
      ∙ ap (λ (a : Bool). a && (ltb v (supervisors_of rs) && neighbour rs m v)) s.1
      ∙ ap (λ (a : Bool). a && ltb v (supervisors_of rs) && neighbour rs m v) (sym (lt-ltb m (modules_of rs) l))
      ∙ ap (λ (i : ℕ). neighbours? rs i v) (sym (eqb-true n m s.0))
      ∙ ap (named rs) (sym h)

-- ---- a message

module _ (adjacent m : ℕ) (x : Module) {g : Message} {c : ModuleCalled} where
  pub take_bid : {n v : ℕ} → g ≡ Bid n v → c ≡ call_refused x 12 0 → (rs : List Record) → adjacent ≡ neighbours rs m → c ≡ taken_by rs m x g
  unfolding taken_by
  take_bid e f rs q = f ∙ ap (taken_by rs m x) (sym e)

  pub take_release : {n v o : ℕ} → g ≡ Release n v o → c ≡ call_refused x 12 0 → (rs : List Record) → adjacent ≡ neighbours rs m → c ≡ taken_by rs m x g
  unfolding taken_by
  take_release e f rs q = f ∙ ap (taken_by rs m x) (sym e)

  pub take_permit : {v n k : ℕ} → g ≡ Permit v n k → ((rs : List Record) → adjacent ≡ neighbours rs m → c ≡ taken_by rs m x (Permit v n k)) → (rs : List Record) → adjacent ≡ neighbours rs m
      → c ≡ taken_by rs m x g
  take_permit e f rs q = f rs q ∙ ap (taken_by rs m x) (sym e)

module _ (rs : List Record) (m adjacent : ℕ) (x : Module) {p : Option Message} where
  pub deliver_fitting_misshapen : {c : ModuleCalled} → p ≡ None → c ≡ call_refused x 10 0 → c ≡ deliver_in rs m x p
  unfolding deliver_in
  deliver_fitting_misshapen e f = f ∙ ap (deliver_in rs m x) (sym e)

  module _ {g : Message} {t : Bool} (e : p ≡ Some g) (f : t ≡ named rs g) where
    hears : cond t (taken_by rs m x g) (call_refused x 11 0) ≡ deliver_in rs m x p
    unfolding deliver_in
    hears = ap (λ (b : Bool). cond b (taken_by rs m x g) (call_refused x 11 0)) f ∙ ap (deliver_in rs m x) (sym e)

    pub deliver_fitting_named : {c : ModuleCalled} → adjacent ≡ neighbours rs m → t ≡ true → ((rs : List Record) → adjacent ≡ neighbours rs m → c ≡ taken_by rs m x g) → c ≡ deliver_in rs m x p
    deliver_fitting_named q h u = u rs q ∙ ap (λ (b : Bool). cond b (taken_by rs m x g) (call_refused x 11 0)) (sym h) ∙ hears

    pub deliver_fitting_unnamed : {c : ModuleCalled} → t ≡ false → c ≡ call_refused x 11 0 → c ≡ deliver_in rs m x p
    deliver_fitting_unnamed h u = u ∙ ap (λ (b : Bool). cond b (taken_by rs m x g) (call_refused x 11 0)) (sym h) ∙ hears

pub absent_misshapen : (x : Module) {p : Option Message} {c : ModuleCalled} → p ≡ None → c ≡ call_refused x 10 0 → c ≡ absent x p
unfolding absent
absent_misshapen x e f = f ∙ ap (absent x) (sym e)

pub absent_whole : (x : Module) {p : Option Message} {g : Message} {c : ModuleCalled} → p ≡ Some g → c ≡ call_refused x 11 0 → c ≡ absent x p
unfolding absent
absent_whole x e f = f ∙ ap (absent x) (sym e)

-- ---- of an accepted plan

module _ (rs : List Record) (m : ℕ) (x : Module) {k : ℕ} {c : ModuleCalled} (e : k ≡ modules_of rs) where
  pub deliver_absent : (p : Option Message) → k ≤ m → c ≡ absent x p → c ≡ deliver_by (Ok tt) rs m x p
  unfolding deliver_by
  deliver_absent p l h = h ∙ lacking rs m x (deliver_in rs m x p) (call_refused x 9 0) (absent x p) e l

  module _ {t : Bool} {adjacent : ℕ} (l : m < k) (n : adjacent ≡ neighbours rs m) (f : t ≡ fits_in rs m adjacent x) where
    pub deliver_unfit : (p : Option Message) → t ≡ false → c ≡ call_refused x 9 0 → c ≡ deliver_by (Ok tt) rs m x p
    unfolding deliver_by
    deliver_unfit p q h = h ∙ unfit rs m x (deliver_in rs m x p) (call_refused x 9 0) (absent x p) e l n f q

    pub deliver_fit : (p : Option Message) → t ≡ true → c ≡ deliver_in rs m x p → c ≡ deliver_by (Ok tt) rs m x p
    unfolding deliver_by
    deliver_fit p q h = h ∙ fit rs m x (deliver_in rs m x p) (call_refused x 9 0) (absent x p) e l n f q

-- ---- the image as it was examined

module _ (image : List ℕ) (m : ℕ) (x : Module) (bytes : List ℕ) {d : Result Places Refusal} {c : ModuleCalled} (e : d ≡ examined_of image) where
  pub deliver_accepted : {q : Places} {p : Option Message} → d ≡ Ok q → p ≡ parse bytes → c ≡ deliver_by (Ok tt) (records_by image q) m x p → c ≡ module_deliver image m x bytes
  deliver_accepted {q} f g h = h ∙ ap (deliver_by (Ok tt) (records_by image q) m x) g ∙ call_by image e (λ v rs. deliver_by v rs m x (parse bytes)) f

  pub deliver_refused : {n o : ℕ} → d ≡ Err (refusal n o) → c ≡ call_refused x n o → c ≡ module_deliver image m x bytes
  unfolding deliver_by
  deliver_refused f h = h ∙ refused_call image e (λ v rs. deliver_by v rs m x (parse bytes)) f
