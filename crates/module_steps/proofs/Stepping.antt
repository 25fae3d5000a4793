-- The step, from what the code is told.
use Rattle.std.specs.Prelude.{Option, Result, Ok, Err}
use Rattle.refusal.specs.Refusal.{refusal}
use Rattle.refusal.specs.declared.Refusal.{Refusal}
use mathlib.Core.Path.{◌≡◌, refl, sym, ap, ap₂, ◌∙◌, subst}
use mathlib.Core.List.{List}
use mathlib.Core.Bool.{Bool, true, false, cond, not}
use Prim.Native.Nat.{ℕ, ◌*◌, ◌≤◌, ◌<◌}
use native.Mathlib.Omega.{arith}
use lib.Count.{ones}
use lib.Dec.{lit≤}
use lib.ListN.{length}
use borrow.Author.Tests.{le-ltb, not-true, not-false}
use Rattle.bits.proofs.Mask.{mask_small}
use Rattle.records.specs.declared.Record.{Record}
use Rattle.rules.specs.LookUp.{modules_of}
use Rattle.places.specs.declared.Places.{Places}
use Rattle.places.specs.Places.{records_by}
use Rattle.checker.specs.Examined.{examined_of}
use Rattle.checker.proofs.Examining.{call_by, refused_call}
use Rattle.plan.specs.Plan.{neighbours}
use Rattle.modules.specs.declared.Turned.{Turned}
use Rattle.modules.specs.Turn.{turn_of}
use Rattle.messages.specs.Message.{release_size, message_bytes, short, written}
use Rattle.messages.specs.Write.{Wrote}
use Rattle.messages.specs.declared.Message.TheVariants.{Bid}
use Rattle.messages.proofs.Writing.{turned_round, start_fits, put_start, put_short}
use Rattle.permits.specs.Module.{fits_in, releases, takes_turn, bids_to, choice, turn_taken, after_turn, after_bid, sent_by, answer_by, state_by, StepCall, step_refused, step_in, step_by, module_step}
use Rattle.permits.specs.Step.{bytes_of_messages, Gave}
use Rattle.permits.specs.declared.Module.{Module}
use Rattle.permits.specs.declared.ModuleStepped.{ModuleStepped}
use Rattle.permits.specs.declared.Stepped.{Stepped}
use Rattle.permits.specs.declared.Stepped.TheVariants.{Turns, Bids, Waits}
use Rattle.permits.proofs.Stepping.{gives}
use Rattle.module_steps.specs.Choice.{choice_of}
use Rattle.module_steps.specs.declared.Chosen.{Chosen}
use Rattle.module_steps.specs.declared.Chosen.TheVariants.{Turn as ChosenTurn, Bid as ChosenBid, Wait}
use Rattle.releasing.specs.Released.{release_bytes, Released}
use Rattle.releasing.proofs.Releasing.{sent_count}
use Rattle.holding.proofs.Judged.{lacking, unfit, fit}

refuses : (x : Module) (b : List ℕ) (n o : ℕ) {r : ModuleStepped} → r ≡ (record { answer = Err (refusal n o); state = x }) → Gave (step_refused x b n o) r.answer r.state b
refuses x b n o e = record { answer = ap (λ (z : ModuleStepped). z.answer) e; state = ap (λ (z : ModuleStepped). z.state) e; buffer = refl }

-- ---- a turn: f is whether its releases were written

module _ (rs : List Record) (m adjacent : ℕ) (x : Module) (b : List ℕ) {t : Turned} {f : Bool} {after : List ℕ} (e : t ≡ turn_of rs m x.received x.own) (q : adjacent ≡ neighbours rs m)
    (w : Released rs m adjacent t.turn b f after) where
  did : t.turn ≡ (turn_taken rs m x).turn
  did = ap (λ (y : Turned). y.turn) e

  abbrev released : List ℕ
  released = bytes_of_messages (releases rs m (turn_taken rs m x).turn 32)

  bytes_are : release_bytes rs m adjacent t.turn ≡ released
  bytes_are = ap₂ (λ (n : ℕ) (d : Option ℕ). release_bytes rs m n d) q did

  room : short released b ≡ not f
  room = turned_round (short released b) f (w.answer ∙ ap (λ (l : List ℕ). not (short l b)) bytes_are)

  wrote : after ≡ cond f (written released b) b
  wrote = w.buffer ∙ ap (λ (l : List ℕ). cond f (written l b) b) bytes_are

  count : length released ≡ release_size * ones (neighbours rs m)
  count = sent_count rs m (neighbours rs m) (turn_taken rs m x).turn (mask_small _ 32 32 (lit≤ tt))

  pub turn_short : {r : ModuleStepped} → f ≡ false → r ≡ (record { answer = Err (refusal 15 0); state = x }) → Gave (step_in rs m x b takes_turn) r.answer r.state after
  unfolding step_in sent_by
  turn_short {r} h g =
      simp (room ∙ ap not h)
      (subst (Gave (step_refused x b 15 0) r.answer r.state) (sym (wrote ∙ ap (λ (y : Bool). cond y (written released b) b) h)) (refuses x b 15 0 g))

  pub turn_taken_lem : {n : ℕ} → f ≡ true → n ≡ release_size * ones adjacent
      → Gave (step_in rs m x b takes_turn) (Ok (Turns t.turn n)) (after_turn x t.own) after
  unfolding step_in sent_by answer_by state_by
  turn_taken_lem h g =
      simp (room ∙ ap not h)
      (record {
        answer = ap₂ (λ (y : Option ℕ) (k : ℕ). (Ok (Turns y k))) did (g ∙ ap (λ (k : ℕ). release_size * ones k) q ∙ sym count);
        state = ap (λ (y : Turned). after_turn x y.own) e;
        buffer = wrote ∙ ap (λ (y : Bool). cond y (written released b) b) h;
      })

-- ---- a bid: t is what the writer of messages answered

module _ (m v : ℕ) (x : Module) (b : List ℕ) {t : Bool} {after : List ℕ} (w : Wrote (Bid m v) 0 b t after) where
  abbrev bytes : List ℕ
  bytes = message_bytes (Bid m v)

  tested : not (short bytes b) ≡ t
  tested = sym (w.answer ∙ start_fits bytes b)

  pub bid_made : {l : ℕ} → t ≡ true → l ≡ length (message_bytes (Bid m v)) → (rs : List Record)
      → Gave (step_in rs m x b (bids_to v)) (Ok (Bids v l)) (after_bid x) after
  unfolding step_in sent_by answer_by state_by bytes_of_messages message_bytes
  bid_made h f rs =
      let z : short bytes b ≡ false = not-true (short bytes b) (tested ∙ h) in
      simp z (record { answer = ap (λ (n : ℕ). Ok (Bids v n)) f; state = refl; buffer = w.buffer ∙ put_start bytes b z })

  pub bid_short : {r : ModuleStepped} → t ≡ false → r ≡ (record { answer = Err (refusal 15 0); state = x }) → (rs : List Record) → Gave (step_in rs m x b (bids_to v)) r.answer r.state after
  unfolding step_in sent_by bytes_of_messages message_bytes
  bid_short {r} h f rs =
      let z : short bytes b ≡ true = not-false (short bytes b) (tested ∙ h) in
      simp z (subst (Gave (step_refused x b 15 0) r.answer r.state) (sym (w.buffer ∙ put_short bytes b z)) (refuses x b 15 0 f))

-- ---- what follows from the choice

module _ (rs : List Record) (m : ℕ) (x : Module) (b : List ℕ) {o : Chosen} (e : choice_of o ≡ choice rs m x) where
  acts : {c : Chosen} {a : Result Stepped Refusal} {s : Module} {after : List ℕ} → o ≡ c → Gave (step_in rs m x b (choice_of c)) a s after → Gave (step_in rs m x b (choice rs m x)) a s after
  acts f g = gives (ap (step_in rs m x b) (ap choice_of (sym f) ∙ e)) g

  pub act_turn : {a : Result Stepped Refusal} {s : Module} {after : List ℕ} → o ≡ ChosenTurn → Gave (step_in rs m x b takes_turn) a s after → Gave (step_in rs m x b (choice rs m x)) a s after
  act_turn f g = acts f g

  pub act_bid : {v : ℕ} {a : Result Stepped Refusal} {s : Module} {after : List ℕ} → o ≡ ChosenBid v → ((rs : List Record) → Gave (step_in rs m x b (bids_to v)) a s after) → Gave (step_in rs m x b (choice rs m x)) a s after
  act_bid f g = acts f (g rs)

  pub act_wait : o ≡ Wait → Gave (step_in rs m x b (choice rs m x)) (Ok Waits) x b
  unfolding step_in sent_by answer_by state_by bytes_of_messages
  act_wait f = acts f (simp (le-ltb (length b) 0 (omega arith)) (record { answer = refl; state = refl; buffer = refl }))

-- ---- the whole call

module _ (image : List ℕ) (m : ℕ) (x : Module) (b : List ℕ) {d : Result Places Refusal} (e : d ≡ examined_of image) where
  pub step_refused_by : {why : Refusal} {r : ModuleStepped} → d ≡ Err why → r ≡ (record { answer = Err why; state = x }) → Gave (module_step image m x b) r.answer r.state b
  unfolding step_by
  step_refused_by {why} f h = gives (refused_call image e (λ v rs. step_by v rs m x b) f) (refuses x b why.number why.offset h)

  module _ {p : Places} {k : ℕ} (f : d ≡ Ok p) (c : k ≡ modules_of (records_by image p)) where
    abbrev rs : List Record
    rs = records_by image p

    by : step_by (Ok tt) rs m x b ≡ module_step image m x b
    by = call_by image e (λ v rs. step_by v rs m x b) f

    abbrev acted : StepCall
    acted = step_in rs m x b (choice rs m x)

    pub step_absent : {r : ModuleStepped} → k ≤ m → r ≡ (record { answer = Err (refusal 11 0); state = x }) → Gave (module_step image m x b) r.answer r.state b
    unfolding step_by
    step_absent l h = gives (lacking rs m x acted (step_refused x b 9 0) (step_refused x b 11 0) c l ∙ by) (refuses x b 11 0 h)

    module _ {t : Bool} {adjacent : ℕ} (l : m < k) (n : adjacent ≡ neighbours (records_by image p) m) (g : t ≡ fits_in (records_by image p) m adjacent x) where
      pub step_unfit : {r : ModuleStepped} → t ≡ false → r ≡ (record { answer = Err (refusal 9 0); state = x }) → Gave (module_step image m x b) r.answer r.state b
      unfolding step_by
      step_unfit q h = gives (unfit rs m x acted (step_refused x b 9 0) (step_refused x b 11 0) c l n g q ∙ by) (refuses x b 9 0 h)

      pub step_fit : {a : Result Stepped Refusal} {s : Module} {after : List ℕ} → t ≡ true → Gave (step_in (records_by image p) m x b (choice (records_by image p) m x)) a s after → Gave (module_step image m x b) a s after
      unfolding step_by
      step_fit q h = gives (fit rs m x acted (step_refused x b 9 0) (step_refused x b 11 0) c l n g q ∙ by) h
