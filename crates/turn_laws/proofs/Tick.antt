-- A tick keeps the state, the fit and the queue's eight cells.
use Prim.Native.Nat.{ℕ, suc, ◌≤◌}
use mathlib.Core.Path.{◌≡◌, refl, sym, ap, ◌∙◌, subst}
use mathlib.Core.List.{List}
use mathlib.Core.Bool.{Bool, true, false, cond, not, ◌&&◌}
use lib.Dec.{T, eqb, ltb, lt→ltb}
use lib.Ieee.Fits.{and_i, eq→eqb}
use borrow.Author.Tests.{eqb-true}
use denote.Floats.{passes as holds}
use Rattle.records.specs.declared.Record.{Record}
use Rattle.reader.specs.Find.{found}
use Rattle.rules.specs.LookUp.{events_of, owner_of, controllable}
use Rattle.plan.specs.Plan.{own_event, own_uncontrollable, procedure_step}
use Rattle.accepted.specs.Plan.{Sound}
use Rattle.water.specs.Water.{flow_ok, added, reached, water_zero, running}
use Rattle.water.specs.declared.Flow.{Flow}
use Rattle.water.specs.declared.Water.{Water}
use Rattle.modules.specs.declared.Own.{Own}
use Rattle.modules.specs.declared.Procedure.{Procedure}
use Rattle.modules.specs.Queue.{full, queued}
use Rattle.modules.specs.Own.{with_procedure, with_outputs}
use Rattle.modules.specs.Procedure.{advanced, counted, with_water, output_on, output_off, metered, performed, ticked, taken, refused, tick_of}
use Rattle.modules.specs.Fits.{own_fits, queue_fits}
use Rattle.turn_laws.specs.Laws.{EightCells, operation_at, operand_at, AtStep}
use Rattle.turn_laws.proofs.Water.{goes_on}
use Rattle.turn_laws.proofs.Procedure.{if_so, so, Parts, StepParts, parts, whole, step_parts, step_whole, with_procedure_lem, arrives, at_step, litres_range, last_operation}
use Rattle.turn_laws.proofs.Respond.{queued_cells, queued_parts}

module _ (rs : List Record) (own : Own) where
  -- the step's operation and operand, the ticks counted and the water
  abbrev o : ℕ
  o = operation_at rs own.procedure

  abbrev x : ℕ
  x = operand_at rs own.procedure

  abbrev n : ℕ
  n = own.procedure.count

  abbrev w : Water
  w = own.procedure.water

  abbrev Runs : Type 0
  Runs = own.procedure.running ≡ true

  -- what holds of each own part that a tick can lead to holds after it: unchanged, on to the next step, one tick more, a reading more, a
  -- response queued
  tick_cases : (f : Flow) (P : Own → Type 0)
      → P own
      → (Runs → (outputs : ℕ) → P (advanced rs (with_outputs own outputs)))
      → (Runs → eqb o 3 ≡ true → ltb (suc n) x ≡ true → P (counted own))
      → (Runs → eqb o 4 ≡ true → flow_ok f ≡ true → reached (added w f) ≡ false → P (with_water own (added w f)))
      → (Runs → eqb o 1 ≡ false → eqb o 2 ≡ false → eqb o 3 ≡ false → eqb o 4 ≡ false → full own ≡ false → P (advanced rs (queued own x)))
      → P (tick_of rs f own).own
  unfolding tick_of performed
  tick_cases f P stay next wait pour respond = reading (flow_ok f) refl
    where
      waited : Runs → eqb o 3 ≡ true → (b : Bool) → ltb (suc n) x ≡ b → P (cond b (counted own) (advanced rs own))
      waited r c true q = wait r c q
      waited r c false q = next r own.outputs

      ends : Runs → eqb o 4 ≡ true → flow_ok f ≡ true → (b : Bool) → reached (added w f) ≡ b → P (cond b (advanced rs own) (with_water own (added w f)))
      ends r d k true q = next r own.outputs
      ends r d k false q = pour r d k q

      pours : Runs → eqb o 4 ≡ true → flow_ok f ≡ true → (b : Bool) → P (cond b (metered rs f own) own)
      pours r d k true = ends r d k (reached (added w f)) refl
      pours r d k false = stay

      responded : Runs → eqb o 1 ≡ false → eqb o 2 ≡ false → eqb o 3 ≡ false → eqb o 4 ≡ false → (b : Bool) → full own ≡ b → P (cond b own (advanced rs (queued own x)))
      responded r a b c d true q = stay
      responded r a b c d false q = respond r a b c d q

      operation : Runs → flow_ok f ≡ true → (a b c d : Bool) → eqb o 1 ≡ a → eqb o 2 ≡ b → eqb o 3 ≡ c → eqb o 4 ≡ d
          → P (cond a (advanced rs (with_outputs own (output_on own.outputs x)))
          (cond b (advanced rs (with_outputs own (output_off own.outputs x)))
          (cond c (cond (ltb (suc n) x) (counted own) (advanced rs own))
          (cond d (cond (running x w) (metered rs f own) own)
          (cond (full own) own (advanced rs (queued own x)))))))
      operation r k true b c d ea eb ec ed = next r (output_on own.outputs x)
      operation r k false true c d ea eb ec ed = next r (output_off own.outputs x)
      operation r k false false true d ea eb ec ed = waited r ec (ltb (suc n) x) refl
      operation r k false false false true ea eb ec ed = pours r ed k (running x w)
      operation r k false false false false ea eb ec ed = responded r ea eb ec ed (full own) refl

      run : flow_ok f ≡ true → (b c : Bool) → own.procedure.running ≡ b → P (cond (b && c) (performed rs o x f own) own)
      run k true true r = operation r k (eqb o 1) (eqb o 2) (eqb o 3) (eqb o 4) refl refl refl refl
      run k true false r = stay
      run k false c r = stay

      reading : (b : Bool) → flow_ok f ≡ b → P (cond b (taken (ticked rs f own)) (refused 14 own)).own
      reading true k = run k own.procedure.running (found (procedure_step rs own.procedure.event own.procedure.index)) refl
      reading false k = stay

  pub tick_state : (f : Flow) → (tick_of rs f own).own.state ≡ own.state
  tick_state f = tick_cases f (λ a. a.state ≡ own.state) refl (λ r y. refl) (λ r c q. refl) (λ r d k q. refl) (λ r a b c d q. refl)

  pub tick_cells : (f : Flow) → own.length ≤ 8 → EightCells own → EightCells (tick_of rs f own).own
  tick_cells f h p = tick_cases f EightCells p (λ r y. p) (λ r c q. p) (λ r d k q. p) (λ r a b c d q. queued_cells own x q h)

  module _ (plan : Sound rs) (m : ℕ) (t : T (own_fits rs m own)) where
    clauses : Parts rs m own
    clauses = parts rs m own t

    module _ (r : Runs) where
      now : StepParts rs m own.procedure
      now = step_parts rs m own.procedure r clauses.procedure

      here : AtStep rs m own.procedure
      here = at_step rs plan m own.procedure r clauses.procedure

      -- on to the next step of the event
      moves_on : (own' : Own) → own'.procedure.event ≡ own.procedure.event → Parts rs m own' → T (own_fits rs m (advanced rs own'))
      moves_on own' e a =
          whole rs m (advanced rs own') (with_procedure_lem rs m own' (advanced rs own').procedure a
          (arrives rs plan m own'.procedure.event (suc own'.procedure.index) (subst (λ (k : ℕ). T (own_event rs m k)) (sym e) now.own_event_lem)))

      -- the same step with another count or water
      stays_at : (p : Procedure) → p.running ≡ true → StepParts rs m p → T (own_fits rs m (with_procedure own p))
      stays_at p e s = whole rs m (with_procedure own p) (with_procedure_lem rs m own p clauses (step_whole rs m p e s))

      counted_fits : eqb o 3 ≡ true → ltb (suc n) x ≡ true → T (own_fits rs m (counted own))
      counted_fits c q =
          stays_at (counted own).procedure refl (record {
            there = now.there;
            own_event_lem = now.own_event_lem;
            ticks = so (eqb o 3) (ltb (suc n) x) (eqb (suc n) 0) c (holds _ q);
            water = now.water;
          })

      metered_fits : (f : Flow) → eqb o 4 ≡ true → flow_ok f ≡ true → reached (added w f) ≡ false → T (own_fits rs m (with_water own (added w f)))
      metered_fits f d k q =
          let before : T (running x w) = if_so (eqb o 4) (running x w) (water_zero w) d now.water in
          let after : T (running x (added w f)) = goes_on x w f (litres_range o x here.step.operand (eqb-true o 4 d)) before (holds _ k) q in
          stays_at (with_water own (added w f)).procedure refl (record {
            there = now.there;
            own_event_lem = now.own_event_lem;
            ticks = now.ticks;
            water = so (eqb o 4) (running x (added w f)) (water_zero (added w f)) d after;
          })

      response_own : o ≡ 5 → T (own_uncontrollable rs m x)
      response_own e =
          let l = here.step.respond e in
          let a : T (ltb x (events_of rs)) = lt→ltb x (events_of rs) l.event in
          let b : T (eqb (owner_of rs x) m) = eq→eqb (l.same_owner ∙ here.owner) in
          let c : T (not (controllable rs x)) = holds _ (ap not l.class) in
          search and_i

    pub tick_fits : (f : Flow) → T (own_fits rs m (tick_of rs f own).own)
    unfolding queue_fits
    tick_fits f =
        tick_cases f (λ a. T (own_fits rs m a)) t
        (λ r y. moves_on r (with_outputs own y) refl (record { state = clauses.state; queue = clauses.queue; procedure = clauses.procedure }))
        counted_fits
        (λ r. metered_fits r f)
        (λ r a b c d q. moves_on r (queued own x) refl (queued_parts own x q rs m (response_own r (last_operation o x (here r).step.operand a b c d)) clauses))
