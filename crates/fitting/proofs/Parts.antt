-- The parts of a fit together, from what the code is told of each.
use Prim.Native.Nat.{ℕ, ◌≤◌, ◌<◌}
use mathlib.Core.Path.{◌≡◌, sym, ap, ap₂, ◌∙◌}
use mathlib.Core.List.{List}
use mathlib.Core.Bool.{Bool, false, cond, not, ◌&&◌}
use lib.ListN.{take, drop}
use lib.Dec.{eqb, ltb, leb}
use borrow.Author.Tests.{le-leb, lt-leb}
use Rattle.records.specs.declared.Record.{Record}
use Rattle.rules.specs.LookUp.{module_state}
use Rattle.plan.specs.Plan.{own_event, own_uncontrollable}
use Rattle.water.specs.Water.{water_zero, running}
use Rattle.modules.specs.declared.Own.{Own}
use Rattle.modules.specs.declared.Procedure.{Procedure}
use Rattle.modules.specs.declared.StepFields.{StepFields}
use Rattle.modules.specs.StepFields.{step_fields_of}
use Rattle.modules.specs.Fits.{every, queue_fits, idle_fits, step_fits, procedure_fits, own_fits, own_empty}

module _ (rs : List Record) (m : ℕ) where
  module _ (own : Own) {n : ℕ} (e : n ≡ own.length) where
    pub queue_by : {a b : Bool} → n ≤ 8 → a ≡ every (own_uncontrollable rs m) (take n own.queue) → b ≡ every (λ x. eqb x 0) (drop n own.queue) → (a && b) ≡ queue_fits rs m own
    unfolding queue_fits
    queue_by h p q =
        ap₂ ◌&&◌ p q ∙ ap (λ (l : Bool). l && every (own_uncontrollable rs m) (take n own.queue) && every (λ x. eqb x 0) (drop n own.queue)) (sym (le-leb n 8 h))
        ∙ ap (λ (k : ℕ). leb k 8 && every (own_uncontrollable rs m) (take k own.queue) && every (λ x. eqb x 0) (drop k own.queue)) e

    pub queue_over : 8 < n → false ≡ queue_fits rs m own
    unfolding queue_fits
    queue_over h =
        ap (λ (l : Bool). l && every (own_uncontrollable rs m) (take n own.queue) && every (λ x. eqb x 0) (drop n own.queue)) (sym (lt-leb n 8 h))
        ∙ ap (λ (k : ℕ). leb k 8 && every (own_uncontrollable rs m) (take k own.queue) && every (λ x. eqb x 0) (drop k own.queue)) e

  pub step_by_lem : (p : Procedure) {w : StepFields} {a b c : Bool} → w ≡ step_fields_of rs p.event p.index → a ≡ own_event rs m p.event
      → b ≡ cond (eqb w.operation 3) (ltb p.count w.operand) (eqb p.count 0) → c ≡ cond (eqb w.operation 4) (running w.operand p.water) (water_zero p.water)
      → (w.present && a && b && c) ≡ step_fits rs m p
  unfolding step_fits
  step_by_lem p {w} e x y z =
      rw (x, y, z)
      (ap (λ (u : StepFields). u.present && own_event rs m p.event && cond (eqb u.operation 3) (ltb p.count u.operand) (eqb p.count 0) && cond (eqb u.operation 4) (running u.operand p.water) (water_zero p.water)) e)

  pub fits_by : (own : Own) {a b c : Bool} → a ≡ module_state rs m own.state → b ≡ queue_fits rs m own → c ≡ procedure_fits rs m own.procedure → (a && b && c) ≡ own_fits rs m own
  unfolding own_fits
  fits_by own x y z = rw (x, y, z)

pub empty_by : (own : Own) {a b : Bool} → a ≡ every (λ x. eqb x 0) own.queue → b ≡ idle_fits own.procedure
    → (eqb own.state 0 && eqb own.length 0 && a && not own.procedure.running && b && eqb own.outputs 0) ≡ own_empty own
unfolding own_empty
empty_by own x y = rw (x, y)
