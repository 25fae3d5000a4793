-- The own part's clauses apart, and a procedure that arrives at a step or is idle fits.
use Prim.Native.Nat.{ℕ, ◌≤◌, ◌<◌}
use native.Mathlib.Omega.{arith}
use mathlib.Core.Path.{◌≡◌, refl, sym, subst}
use mathlib.Core.List.{List}
use mathlib.Core.Bool.{Bool, true, false, cond}
use lib.Dec.{T, eqb, ltb, leb→le, lt→ltb, ltb→lt, eqb→eq}
use lib.Ieee.Fits.{and_i}
use borrow.Author.Tests.{eqb-true, eq-eqb}
use denote.Floats.{passes as holds}
use Rattle.records.specs.Range.{operand_in_range}
use Rattle.litres.specs.Eighths.{target_ok}
use Rattle.records.specs.declared.Record.{Record}
use Rattle.reader.specs.Find.{found}
use Rattle.rules.specs.LookUp.{module_state, owner_of}
use Rattle.plan.specs.Plan.{own_event, procedure_step, operation_of, operand_of}
use Rattle.accepted.specs.Plan.{StepLaw, Sound}
use Rattle.rules.proofs.Valid.{both}
use Rattle.water.specs.Water.{no_water, water_of, water_zero, running}
use Rattle.modules.specs.declared.Own.{Own}
use Rattle.modules.specs.declared.Procedure.{Procedure}
use Rattle.modules.specs.Own.{with_procedure}
use Rattle.modules.specs.Procedure.{idle, arrive_at}
use Rattle.modules.specs.Fits.{queue_fits, idle_fits, step_fits, procedure_fits, own_fits}
use Rattle.turn_laws.specs.Laws.{operation_at, operand_at, AtStep}
use Rattle.turn_laws.proofs.Found.{step_law}
use Rattle.water.proofs.Laws.{total_small}
use Rattle.turn_laws.proofs.Water.{water_zero_none, starts}

-- a test chosen by another one
pub cond_holds : (a b c : Bool) → (a ≡ true → T b) → (a ≡ false → T c) → T (cond a b c)
cond_holds true b c f g = f refl
cond_holds false b c f g = g refl

pub if_so : (a b c : Bool) → a ≡ true → T (cond a b c) → T b
if_so a b c e t = subst (λ (x : Bool). T (cond x b c)) e t

pub so : (a b c : Bool) → a ≡ true → T b → T (cond a b c)
so a b c e t = subst (λ (x : Bool). T (cond x b c)) (sym e) t

-- ---- operands

pub wait_range : (o x : ℕ) → operand_in_range o x ≡ true → o ≡ 3 → (1 ≤ x) × (x ≤ 65535)
unfolding operand_in_range
wait_range o x r e =
    let t : T (operand_in_range 3 x) = subst (λ (k : ℕ). T (operand_in_range k x)) e (holds _ r) in
    (leb→le 1 x (search both), leb→le x 65535 (search both))

pub litres_range : (o x : ℕ) → operand_in_range o x ≡ true → o ≡ 4 → T (target_ok x)
unfolding operand_in_range
litres_range o x r e = subst (λ (k : ℕ). T (operand_in_range k x)) e (holds _ r)

-- what is no operation from 1 to 4 is 5
pub last_operation : (o x : ℕ) → operand_in_range o x ≡ true → eqb o 1 ≡ false → eqb o 2 ≡ false → eqb o 3 ≡ false → eqb o 4 ≡ false → o ≡ 5
unfolding operand_in_range
last_operation o x r a b c d = eqb-true o 5 (simp (a, b, c, d) at r)

-- a wait's count is below its operand, and another step's is 0
ticks_small : (o x n : ℕ) → operand_in_range o x ≡ true → T (cond (eqb o 3) (ltb n x) (eqb n 0)) → n < 65535
ticks_small o x n r t = go (eqb o 3) refl t
  where
    go : (b : Bool) → eqb o 3 ≡ b → T (cond b (ltb n x) (eqb n 0)) → n < 65535
    go true q u = omega (arith, ltb→lt n x u, wait_range o x r (eqb-true o 3 q))
    go false q u = omega (arith, eqb→eq n 0 u)

-- ---- the clauses

pub record Parts (rs : List Record) (m : ℕ) (own : Own) : Type 0 where
  pub state : T (module_state rs m own.state)
  pub queue : T (queue_fits rs m own)
  pub procedure : T (procedure_fits rs m own.procedure)

pub record StepParts (rs : List Record) (m : ℕ) (p : Procedure) : Type 0 where
  pub there : T (found (procedure_step rs p.event p.index))
  pub own_event_lem : T (own_event rs m p.event)
  pub ticks : T (cond (eqb (operation_at rs p) 3) (ltb p.count (operand_at rs p)) (eqb p.count 0))
  pub water : T (cond (eqb (operation_at rs p) 4) (running (operand_at rs p) p.water) (water_zero p.water))

module _ (rs : List Record) (m : ℕ) where
  pub parts : (own : Own) → T (own_fits rs m own) → Parts rs m own
  unfolding own_fits
  parts own t = record { state = search both; queue = search both; procedure = search both }

  pub whole : (own : Own) → Parts rs m own → T (own_fits rs m own)
  unfolding own_fits
  whole own p =
      let a = p.state in
      let b = p.queue in
      let c = p.procedure in
      search and_i

  pub step_parts : (p : Procedure) → p.running ≡ true → T (procedure_fits rs m p) → StepParts rs m p
  unfolding procedure_fits step_fits
  step_parts p e f =
      let t : T (step_fits rs m p) = if_so p.running (step_fits rs m p) (idle_fits p) e f in
      record { there = search both; own_event_lem = search both; ticks = search both; water = search both }

  pub step_whole : (p : Procedure) → p.running ≡ true → StepParts rs m p → T (procedure_fits rs m p)
  unfolding procedure_fits step_fits
  step_whole p e s =
      let a = s.there in
      let b = s.own_event_lem in
      let c = s.ticks in
      let d = s.water in
      let t : T (step_fits rs m p) = search and_i in
      so p.running (step_fits rs m p) (idle_fits p) e t

  pub idle_fits_lem : T (procedure_fits rs m idle)
  unfolding procedure_fits idle_fits
  idle_fits_lem = water_zero_none

  pub with_procedure_lem : (own : Own) (p : Procedure) → Parts rs m own → T (procedure_fits rs m p) → Parts rs m (with_procedure own p)
  unfolding queue_fits
  with_procedure_lem own p a t = record { state = a.state; queue = a.queue; procedure = t }

module _ (rs : List Record) (plan : Sound rs) (m : ℕ) where
  pub arrives : (e i : ℕ) → T (own_event rs m e) → T (procedure_fits rs m (arrive_at rs e i))
  unfolding arrive_at
  arrives e i t = go (found (procedure_step rs e i)) refl
    where
      o : ℕ
      o = operation_of rs e i

      x : ℕ
      x = operand_of rs e i

      begun : Procedure
      begun = record { running = true; event = e; index = i; count = 0; water = cond (eqb o 4) (water_of x) no_water }

      begins : (r : operand_in_range o x ≡ true) (b : Bool) → eqb o 4 ≡ b → T (cond b (running x (cond b (water_of x) no_water)) (water_zero (cond b (water_of x) no_water)))
      begins r true q = starts x (litres_range o x r (eqb-true o 4 q))
      begins r false q = water_zero_none

      go : (b : Bool) → found (procedure_step rs e i) ≡ b → T (procedure_fits rs m (cond b begun idle))
      go true f =
          let r : operand_in_range o x ≡ true = (step_law rs plan e i (holds _ f)).operand in
          step_whole rs m begun refl (record {
            there = holds _ f;
            own_event_lem = t;
            ticks = cond_holds (eqb o 3) (ltb 0 x) true (λ q. lt→ltb 0 x (wait_range o x r (eqb-true o 3 q)).0) (λ q. tt);
            water = begins r (eqb o 4) refl;
          })
      go false f = idle_fits_lem rs m

  pub at_step : (p : Procedure) → p.running ≡ true → T (procedure_fits rs m p) → AtStep rs m p
  at_step p e f =
      let s = step_parts rs m p e f in
      let o : ℕ = operation_at rs p in
      let x : ℕ = operand_at rs p in
      let l : StepLaw rs p.event p.index o x = step_law rs plan p.event p.index s.there in
      let own : T (own_event rs m p.event) = s.own_event_lem in
      record {
        owner = eqb→eq (owner_of rs p.event) m (search both);
        step = l;
        ticks = ticks_small o x p.count l.operand s.ticks;
        eighths = λ q. let t = litres_range o x l.operand q in total_small x p.water (if_so (eqb o 4) (running x p.water) (water_zero p.water) (eq-eqb o 4 q) s.water);
      }
