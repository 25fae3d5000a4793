-- What the steps of a procedure answer, from what the code is told.
use Prim.Native.Nat.{ℕ, suc, ◌+◌, ◌-◌, ◌*◌, ◌%◌, ◌^◌, ◌≤◌, ◌<◌}
use native.Mathlib.Omega.{arith}
use native.Mathlib.Numerals.{add-one}
use mathlib.Core.Path.{◌≡◌, sym, ap, ap₂, ◌∙◌}
use mathlib.Core.List.{List}
use mathlib.Core.Bool.{Bool, true, false, cond, not, ◌&&◌}
use lib.Dec.{eqb, ltb}
use lib.Bits.{bit_or, bit_and}
use lib.Ieee.{Float}
use borrow.Author.Tests.{lt-ltb, le-ltb, lt-leb, le-leb, ne_eqb, not-true, not-false}
use Rattle.bits.proofs.Laws.{shl_one}
use Rattle.litres.specs.Eighths.{litres_ok}
use Rattle.records.specs.declared.Record.{Record}
use Rattle.records.specs.declared.Record.TheVariants.{Step}
use Rattle.reader.specs.Find.{found}
use Rattle.plan.specs.Plan.{counts, procedure_step, operation_of, operand_of}
use Rattle.water.specs.Water.{flow_ok, no_water, water_of, added, reached, running, Summed, Compared}
use Rattle.water.specs.declared.Water.{Water}
use Rattle.water.specs.declared.Flow.{Flow}
use Rattle.water.specs.declared.Flow.TheVariants.{Litres, NoSensor}
use Rattle.water.proofs.Laws.{reading_exact}
use Rattle.modules.specs.declared.Own.{Own}
use Rattle.modules.specs.declared.Procedure.{Procedure}
use Rattle.modules.specs.declared.StepFields.{StepFields}
use Rattle.modules.specs.Queue.{full, queued}
use Rattle.modules.specs.Own.{with_procedure, with_outputs}
use Rattle.modules.specs.Procedure.{idle, arrive_at, advanced, counted, with_water, output_on, output_off, metered, performed, ticked, taken, refused, tick_of}
use Rattle.modules.specs.StepFields.{step_fields_of}
use Rattle.modules.proofs.Steps.{step_counts}

-- ---- arriving at a step

module _ (rs : List Record) (e i : ℕ) {w : StepFields} (p : w ≡ step_fields_of rs e i) where
  pub arrived_by : {v : Water} → w.present ≡ true → v ≡ cond (eqb w.operation 4) (water_of w.operand) no_water
      → record { running = true; event = e; index = i; count = 0; water = v } ≡ arrive_at rs e i
  unfolding arrive_at
  arrived_by {v} h q =
      simp (sym (ap (λ (u : StepFields). u.present) p) ∙ h)
      (ap (λ (u : Water). record { running = true; event = e; index = i; count = 0; water = u })
      (q ∙ ap (λ (u : StepFields). cond (eqb u.operation 4) (water_of u.operand) no_water) p))

  pub arrived_idle : {q : Procedure} → w.present ≡ false → q ≡ idle → q ≡ arrive_at rs e i
  unfolding arrive_at
  arrived_idle h q = simp (sym (ap (λ (u : StepFields). u.present) p) ∙ h) q

pub advanced_by : (rs : List Record) (own : Own) {p : Procedure} → p ≡ arrive_at rs own.procedure.event (own.procedure.index + 1) → with_procedure own p ≡ advanced rs own
advanced_by rs own h = ap (with_procedure own) (h ∙ ap (arrive_at rs own.procedure.event) (add-one own.procedure.index))

-- the index after a change elsewhere
pub kept_small : (own : Own) (o : ℕ) {next : Own} → next ≡ with_outputs own o → own.procedure.index < 64 → next.procedure.index < 64
kept_small own o p h = omega (arith, ap (λ (n : Own). n.procedure.index) p)

-- ---- outputs

module _ (own : Own) (x : ℕ) {on : Bool} (h : x < 32) where
  pub on_by : on ≡ true → with_outputs own (bit_or own.outputs ((1 * 2 ^ x) % 2 ^ 32)) ≡ with_outputs own (cond on (output_on own.outputs x) (output_off own.outputs x))
  on_by q = rw (q, shl_one 32 x h)

  pub off_by : on ≡ false → with_outputs own (bit_and own.outputs (2 ^ 32 - 1 - (1 * 2 ^ x) % 2 ^ 32)) ≡ with_outputs own (cond on (output_on own.outputs x) (output_off own.outputs x))
  off_by q = rw (q, shl_one 32 x h)

-- ---- waits

module _ (rs : List Record) (x : ℕ) (own : Own) where
  abbrev n : ℕ
  n = own.procedure.count

  pub wait_goes : n + 1 < x
      → with_procedure own (record { running = true; event = own.procedure.event; index = own.procedure.index; count = n + 1; water = own.procedure.water })
      ≡ cond (ltb (suc n) x) (counted own) (advanced rs own)
  wait_goes h = rw (lt-ltb (suc n) x (omega arith), add-one n)

  pub wait_ends : {r : Own} → x ≤ n + 1 → r ≡ advanced rs own → r ≡ cond (ltb (suc n) x) (counted own) (advanced rs own)
  wait_ends h q = simp (le-ltb (suc n) x (omega arith)) q

module _ (rs : List Record) (x : ℕ) (f : Flow) (own : Own) {b : Bool} (p : b ≡ running x own.procedure.water) where
  pub pour_none : b ≡ false → own ≡ cond (running x own.procedure.water) (metered rs f own) own
  pour_none h = simp (sym p ∙ h)

  module _ (h : b ≡ true) (k : flow_ok f ≡ true) {v : Water} (s : Summed own.procedure.water f v) {t : Bool} (c : Compared v t) where
    exact : (v ≡ added own.procedure.water f) × (t ≡ reached (added own.procedure.water f))
    exact = reading_exact x own.procedure.water v f t (sym p ∙ h) k s c

    picked : (r : Own) → r ≡ cond t (advanced rs own) (with_water own v) → r ≡ cond (running x own.procedure.water) (metered rs f own) own
    picked r q =
        q ∙ ap₂ (λ (b : Bool) (u : Water). cond b (advanced rs own) (with_water own u)) exact.1 exact.0
        ∙ sym (ap (λ (b : Bool). cond b (metered rs f own) own) (sym p ∙ h))

    pub pour_ends : {r : Own} → t ≡ true → r ≡ advanced rs own → r ≡ cond (running x own.procedure.water) (metered rs f own) own
    pour_ends {r} q z = picked r (z ∙ sym (ap (λ (b : Bool). cond b (advanced rs own) (with_water own v)) q))

    pub pour_goes : t ≡ false → with_water own v ≡ cond (running x own.procedure.water) (metered rs f own) own
    pour_goes q = picked (with_water own v) (sym (ap (λ (b : Bool). cond b (advanced rs own) (with_water own v)) q))

-- ---- respond

module _ (rs : List Record) (x : ℕ) (own : Own) where
  pub answer_full : 8 ≤ own.length → own ≡ cond (full own) own (advanced rs (queued own x))
  answer_full h = simp (le-leb 8 own.length h)

  pub answer_queued : {next r : Own} → own.length < 8 → next ≡ queued own x → r ≡ advanced rs next → r ≡ cond (full own) own (advanced rs (queued own x))
  answer_queued h p q = simp (lt-leb 8 own.length h) (q ∙ ap (advanced rs) p)

-- ---- the operations

module _ (rs : List Record) (o x : ℕ) (f : Flow) (own : Own) {r : Own} where
  pub performs_on : {next : Own} → o ≡ 1 → next ≡ with_outputs own (output_on own.outputs x) → r ≡ advanced rs next → r ≡ performed rs o x f own
  unfolding performed
  performs_on q p h = h ∙ ap (advanced rs) p ∙ rw q

  pub performs_off : {next : Own} → o ≡ 2 → next ≡ with_outputs own (output_off own.outputs x) → r ≡ advanced rs next → r ≡ performed rs o x f own
  unfolding performed
  performs_off q p h = h ∙ ap (advanced rs) p ∙ rw q

  pub performs_wait : o ≡ 3 → r ≡ cond (ltb (suc own.procedure.count) x) (counted own) (advanced rs own) → r ≡ performed rs o x f own
  unfolding performed
  performs_wait q h = h ∙ rw q

  pub performs_pour : o ≡ 4 → r ≡ cond (running x own.procedure.water) (metered rs f own) own → r ≡ performed rs o x f own
  unfolding performed
  performs_pour q h = h ∙ rw q

  pub performs_answer : (o ≡ 1 → ⊥) → (o ≡ 2 → ⊥) → (o ≡ 3 → ⊥) → (o ≡ 4 → ⊥) → r ≡ cond (full own) own (advanced rs (queued own x)) → r ≡ performed rs o x f own
  unfolding performed
  performs_answer a b c d h = h ∙ simp (ne_eqb o 1 a, ne_eqb o 2 b, ne_eqb o 3 c, ne_eqb o 4 d)

-- ---- a tick

module _ (rs : List Record) (f : Flow) (own : Own) {w : StepFields} (p : w ≡ step_fields_of rs own.procedure.event own.procedure.index) where
  ran : ticked rs f own ≡ cond (own.procedure.running && w.present) (performed rs w.operation w.operand f own) own
  ran = ap (λ (u : StepFields). cond (own.procedure.running && u.present) (performed rs u.operation u.operand f own) own) (sym p)

  runs : not own.procedure.running ≡ false → (b : Bool) → w.present ≡ b → (own.procedure.running && w.present) ≡ b
  runs n b h = ap₂ ◌&&◌ (not-false own.procedure.running n) h

  pub ticked_by : {r : Own} → not own.procedure.running ≡ false → w.present ≡ true → r ≡ performed rs w.operation w.operand f own → r ≡ ticked rs f own
  ticked_by n h q = q ∙ sym (ran ∙ ap (λ (b : Bool). cond b (performed rs w.operation w.operand f own) own) (runs n true h))

  pub ticked_none : not own.procedure.running ≡ false → w.present ≡ false → own ≡ ticked rs f own
  ticked_none n h = sym (ran ∙ ap (λ (b : Bool). cond b (performed rs w.operation w.operand f own) own) (runs n false h))

  pub may_perform : w.present ≡ true → counts (Step own.procedure.event own.procedure.index w.operation w.operand) ≡ true
  may_perform h =
      ap (λ (u : StepFields). counts (Step own.procedure.event own.procedure.index u.operation u.operand)) p
      ∙ step_counts rs own.procedure.event own.procedure.index (sym (ap (λ (u : StepFields). u.present) p) ∙ h)

-- no procedure, no step
pub ticked_idle : (rs : List Record) (f : Flow) (own : Own) → not own.procedure.running ≡ true → own ≡ ticked rs f own
ticked_idle rs f own n =
    sym (ap (λ (b : Bool). cond (b && found (procedure_step rs own.procedure.event own.procedure.index)) (performed rs (operation_of rs own.procedure.event own.procedure.index) (operand_of rs own.procedure.event own.procedure.index) f own) own) (not-true own.procedure.running n))

-- litres are taken or refused as they are judged
module _ (f : Flow) {x : Float} (e : f ≡ Litres x) {b : Bool} (p : b ≡ litres_ok x) where
  judged : b ≡ flow_ok f
  unfolding flow_ok
  judged = p ∙ sym (ap flow_ok e)

  pub litres_ok_lem : b ≡ true → flow_ok f ≡ true
  litres_ok_lem h = sym judged ∙ h

  pub litres_taken : (rs : List Record) (own : Own) {next : Own} → b ≡ true → next ≡ ticked rs (Litres x) own → taken next ≡ tick_of rs f own
  unfolding tick_of
  litres_taken rs own h q = simp (litres_ok_lem h) (ap taken (q ∙ ap (λ (g : Flow). ticked rs g own) (sym e)))

  pub litres_refused : (rs : List Record) (own : Own) → b ≡ false → refused 14 own ≡ tick_of rs f own
  unfolding tick_of
  litres_refused rs own h = simp (sym judged ∙ h)

-- and without a sensor there is nothing to judge
module _ (f : Flow) (e : f ≡ NoSensor) where
  pub no_sensor_ok : flow_ok f ≡ true
  unfolding flow_ok
  no_sensor_ok = ap flow_ok e

  pub no_sensor_taken : (rs : List Record) (own : Own) {next : Own} → next ≡ ticked rs f own → taken next ≡ tick_of rs f own
  unfolding tick_of
  no_sensor_taken rs own q = simp no_sensor_ok (ap taken q)
