-- The response, the tick and the start, from what the code is told.
use Rattle.std.specs.Prelude.{Result, Ok, Err, ⊤}
use Rattle.refusal.specs.Refusal.{refusal}
use Rattle.refusal.specs.declared.Refusal.{Refusal}
use mathlib.Core.Path.{◌≡◌, refl, sym, ap, ◌∙◌}
use mathlib.Core.List.{List}
use mathlib.Core.Bool.{Bool, true, false, not, ◌&&◌, ◌||◌, true≢false}
use Prim.Native.Nat.{ℕ, ◌≤◌, ◌<◌}
use native.Mathlib.Omega.{arith}
use lib.Dec.{eqb}
use borrow.Author.Tests.{lt-ltb, le-ltb, eqb-true}
use Rattle.records.specs.declared.Record.{Record}
use Rattle.reader.specs.Walk.{records_of}
use Rattle.rules.specs.LookUp.{modules_of}
use Rattle.rules.specs.Check.{verdict_of}
use Rattle.places.specs.declared.Places.{Places}
use Rattle.places.specs.Places.{records_by}
use Rattle.checker.specs.Examined.{examined_of}
use Rattle.checker.proofs.Examining.{call_by, refused_call}
use Rattle.plan.specs.Plan.{neighbours}
use Rattle.modules.specs.declared.Replied.{Replied}
use Rattle.modules.specs.Procedure.{called_by, respond_of, tick_of}
use Rattle.modules.specs.Fits.{own_fits}
use Rattle.water.specs.declared.Flow.{Flow}
use Rattle.permits.specs.Module.{fits_in, module_fits, call_refused, with_own, reply_by, empty_module, start_module, start_by, module_start, module_respond, module_tick}
use Rattle.permits.specs.declared.Module.{Module}
use Rattle.permits.specs.declared.ModuleCalled.{ModuleCalled}
use Rattle.holding.proofs.Held.{held_none}
use Rattle.holding.proofs.Judged.{lacking, unfit, fit}

-- ---- the fit

-- without permits and a bid it is the same with any neighbours
module _ (rs : List Record) (m : ℕ) (x : Module) where
  alike : (a b : Bool) → eqb x.held 0 ≡ a → x.bid ≡ b → (a && not b) ≡ true → (j : ℕ) → fits_in rs m j x ≡ ((not (eqb x.held 0) || eqb x.received 0) && true && own_fits rs m x.own)
  unfolding fits_in
  alike true false h q t j = simp (sym (held_none j x.held (eqb-true x.held 0 h)), q)
  alike true true h q t j = absurd (true≢false (sym t))
  alike false b h q t j = absurd (true≢false (sym t))

  pub fits_without : {t : Bool} → (eqb x.held 0 && not x.bid) ≡ true → t ≡ fits_in rs m 0 x → t ≡ module_fits rs m x
  fits_without q f = f ∙ alike (eqb x.held 0) x.bid refl refl q 0 ∙ sym (alike (eqb x.held 0) x.bid refl refl q (neighbours rs m))

  pub fits_with : {t : Bool} {adjacent : ℕ} → adjacent ≡ neighbours rs m → t ≡ fits_in rs m adjacent x → t ≡ module_fits rs m x
  fits_with n f = f ∙ ap (λ (j : ℕ). fits_in rs m j x) n

-- ---- of an accepted plan

-- the answer to a reply, and the state with its own part
abbrev replied : Module → Replied → ModuleCalled
replied x r = record { answer = called_by r.reply; state = with_own x r.own }

module _ (rs : List Record) (m : ℕ) (x : Module) {k : ℕ} {c : ModuleCalled} (e : k ≡ modules_of rs) where
  pub reply_absent : (r : Replied) → k ≤ m → c ≡ call_refused x 11 0 → c ≡ reply_by (Ok tt) rs m x r
  unfolding reply_by
  reply_absent r l h = h ∙ lacking rs m x (replied x r) (call_refused x 9 0) (call_refused x 11 0) e l

  module _ {t : Bool} (l : m < k) (f : t ≡ module_fits rs m x) where
    pub reply_unfit : (r : Replied) → t ≡ false → c ≡ call_refused x 9 0 → c ≡ reply_by (Ok tt) rs m x r
    unfolding reply_by
    reply_unfit r q h = h ∙ unfit rs m x (replied x r) (call_refused x 9 0) (call_refused x 11 0) e l refl f q

pub reply_fit : (rs : List Record) (m : ℕ) (x : Module) (r : Replied) {k : ℕ} {a : Result ⊤ Refusal} {t : Bool} → k ≡ modules_of rs → m < k → t ≡ module_fits rs m x → t ≡ true → a ≡ called_by r.reply
    → (record { answer = a; state = with_own x r.own }) ≡ reply_by (Ok tt) rs m x r
unfolding reply_by
reply_fit rs m x r e l f q h =
    ap (λ (y : Result ⊤ Refusal). record { answer = y; state = with_own x r.own }) h ∙ fit rs m x (replied x r) (call_refused x 9 0) (call_refused x 11 0) e l refl f q

-- ---- the image as it was examined

module _ (image : List ℕ) (m : ℕ) {d : Result Places Refusal} (e : d ≡ examined_of image) where
  module _ (x : Module) where
    pub respond_accepted : (k : ℕ) {p : Places} {r : Replied} {c : ModuleCalled} → d ≡ Ok p → r ≡ respond_of (records_by image p) m k x.own
        → c ≡ reply_by (Ok tt) (records_by image p) m x r → c ≡ module_respond image m x k
    respond_accepted k {p} f g h =
        h ∙ ap (reply_by (Ok tt) (records_by image p) m x) g ∙ call_by image e (λ v rs. reply_by v rs m x (respond_of rs m k x.own)) f

    pub tick_accepted : (w : Flow) {p : Places} {r : Replied} {c : ModuleCalled} → d ≡ Ok p → r ≡ tick_of (records_by image p) w x.own
        → c ≡ reply_by (Ok tt) (records_by image p) m x r → c ≡ module_tick image m x w
    tick_accepted w {p} f g h =
        h ∙ ap (reply_by (Ok tt) (records_by image p) m x) g ∙ call_by image e (λ v rs. reply_by v rs m x (tick_of rs w x.own)) f

    pub reply_refused : (s : Replied) {n o : ℕ} {c : ModuleCalled} → d ≡ Err (refusal n o) → c ≡ call_refused x n o → c ≡ reply_by (verdict_of image) (records_of image) m x s
    unfolding reply_by
    reply_refused s f h = h ∙ refused_call image e (λ v rs. reply_by v rs m x s) f

  -- the start
  pub start_refused : {n o : ℕ} {x : Module} {c : ModuleCalled} → d ≡ Err (refusal n o) → x ≡ empty_module → c ≡ call_refused x n o → c ≡ module_start image m
  unfolding start_by
  start_refused {n = n} {o = o} f u h = h ∙ ap (λ (y : Module). call_refused y n o) u ∙ refused_call image e (λ v rs. start_by v rs m) f

  module _ {p : Places} {k : ℕ} (f : d ≡ Ok p) (c : k ≡ modules_of (records_by image p)) where
    by : start_by (Ok tt) (records_by image p) m ≡ module_start image m
    by = call_by image e (λ v rs. start_by v rs m) f

    pub start_absent : {x : Module} {r : ModuleCalled} → k ≤ m → x ≡ empty_module → r ≡ call_refused x 11 0 → r ≡ module_start image m
    unfolding start_by
    start_absent l u h =
        let n : modules_of (records_by image p) ≤ m = omega arith in
        h ∙ simp (le-ltb m (modules_of (records_by image p)) n, u) refl ∙ by

    pub start_done : {x : Module} → m < k → x ≡ start_module (records_by image p) m → (record { answer = Ok tt; state = x }) ≡ module_start image m
    unfolding start_by
    start_done l u =
        let n : m < modules_of (records_by image p) = omega arith in
        simp (lt-ltb m (modules_of (records_by image p)) n, u) refl ∙ by
