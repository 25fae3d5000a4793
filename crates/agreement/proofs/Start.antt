-- The starting states of the calls and of the rules are the same.
use mathlib.Core.Path.{◌≡◌, refl, sym, ap, ◌∙◌, subst}
use mathlib.Core.Bool.{Bool, true, false, cond}
use mathlib.Core.List.{List}
use Prim.Native.Nat.{ℕ, ◌+◌, ◌≤◌, ◌<◌}
use native.Mathlib.Omega.{arith}
use lib.Dec.{eqb, ltb}
use lib.Ieee.{round}
use borrow.Author.Tests.{lt-ltb, ltb-true}
use Rattle.records.specs.declared.Record.{Record}
use Rattle.reader.specs.Walk.{records_of}
use Rattle.litres.specs.Eighths.{eighths, is_eighths, count}
use Rattle.rules.specs.LookUp.{modules_of, supervisors_of, supervisor_state}
use Rattle.rules.specs.Check.{IsPlan}
use Rattle.plan.specs.Plan.{supervisor_initial}
use Rattle.modules.specs.declared.Own.{Own}
use Rattle.modules.specs.Turn.{start_own, empty_own}
use Rattle.modules.specs.Fits.{every, idle_fits, own_fits, own_empty}
use Rattle.device_states.specs.States as States
use Rattle.device.specs.Device as Dev
use Rattle.device_states.specs.declared.Device.{Device}
use Rattle.permits.specs.Module as M
use Rattle.permits.specs.Supervisor as S
use Rattle.permits.specs.declared.Module.{Module}
use Rattle.permits.specs.declared.Supervisor.{Supervisor}
use Rattle.protocol.specs.Plan.{Laws}
use Rattle.protocol.specs.System as P
use Rattle.agreement.specs.PlanOf.{plan_of}
use Rattle.agreement.specs.System as A
use Rattle.words.proofs.Lists.{from_at, from_length}
use Rattle.agreement.specs.Compared.{out_to}
use Rattle.agreement.proofs.Device.{Same, OwnSlot, StateSlot, fits_of}
use Rattle.agreement.proofs.Fit.{few_modules, SameModule, SameSupervisor, few}
use Rattle.agreement.proofs.Simulation.{Sim}

empty_is : own_empty empty_own ≡ true
unfolding own_empty every idle_fits is_eighths count eighths round
empty_is = refl

module _ (image : List ℕ) (plan : IsPlan image) (L : Laws (plan_of (records_of image))) where
  abbrev rs : List Record
  rs = records_of image

  -- ---- the systems
  module_start_lem : (m : ℕ) → m < modules_of rs → (M.module_start image m).state ≡ M.start_module rs m
  unfolding M.start_by
  module_start_lem m l = rw (plan, lt-ltb m (modules_of rs) l)

  supervisor_start_lem : (v : ℕ) → v < supervisors_of rs → (S.supervisor_start image v).state ≡ S.start_supervisor rs v
  unfolding S.start_by
  supervisor_start_lem v l = rw (plan, lt-ltb v (supervisors_of rs) l)

  pub start_sim : Sim rs (A.start image) (P.start_system (plan_of rs))
  unfolding A.start A.under_way P.start_system plan_of out_to
  start_sim = record {
    modules = λ m l. subst (λ (x : Module). SameModule x ((P.start_system (plan_of rs)).module_at m)) (sym (module_start_lem m l)) (record { own = refl; held = refl; received = refl; bid = refl });
    supervisors = λ v l. subst (λ (y : Supervisor). SameSupervisor y ((P.start_system (plan_of rs)).supervisor_at v)) (sym (supervisor_start_lem v l)) (record { state = refl; noted = refl; holder = refl; last = refl });
    wire = refl;
  }

  -- ---- the one device
  device_is : (Dev.start_call image).device ≡ States.start_device rs
  unfolding Dev.start_by
  device_is = rw plan

  own_at_lem : (m : ℕ) → m < 16 → States.own_at (States.start_device rs) m ≡ cond (ltb m (modules_of rs)) (start_own rs m) empty_own
  unfolding States.start_slot
  own_at_lem m l = from_at (λ n. cond (ltb n (modules_of rs)) (start_own rs n) empty_own) 0 16 m empty_own l ∙ ap (λ (n : ℕ). cond (ltb n (modules_of rs)) (start_own rs n) empty_own) (let e : 0 + m ≡ m = omega arith in e)

  state_at_lem : (v : ℕ) → v < 32 → States.state_at (States.start_device rs) v ≡ cond (ltb v (supervisors_of rs)) (supervisor_initial rs v) 0
  unfolding States.start_state
  state_at_lem v l = from_at (λ n. cond (ltb n (supervisors_of rs)) (supervisor_initial rs n) 0) 0 32 v 0 l ∙ ap (λ (n : ℕ). cond (ltb n (supervisors_of rs)) (supervisor_initial rs n) 0) (let e : 0 + v ≡ v = omega arith in e)

  own_fits_lem : (m : ℕ) → m < 16 → OwnSlot rs (States.start_device rs) m ≡ true
  own_fits_lem m l = ap (λ (o : Own). cond (ltb m (modules_of rs)) (own_fits rs m o) (own_empty o)) (own_at_lem m l) ∙ go (ltb m (modules_of rs)) refl
    where
      go : (b : Bool) → ltb m (modules_of rs) ≡ b → cond b (own_fits rs m (cond b (start_own rs m) empty_own)) (own_empty (cond b (start_own rs m) empty_own)) ≡ true
      go true q = unfold plan_of in (L.start_fits m (ltb-true m (modules_of rs) q))
      go false q = empty_is

  state_fits : (v : ℕ) → v < 32 → StateSlot rs (States.start_device rs) v ≡ true
  state_fits v l = ap (λ (x : ℕ). cond (ltb v (supervisors_of rs)) (supervisor_state rs v x) (eqb x 0)) (state_at_lem v l) ∙ go (ltb v (supervisors_of rs)) refl
    where
      go : (b : Bool) → ltb v (supervisors_of rs) ≡ b → cond b (supervisor_state rs v (cond b (supervisor_initial rs v) 0)) (eqb (cond b (supervisor_initial rs v) 0) 0) ≡ true
      go true q = unfold plan_of in (L.supervisor_start_lem v (ltb-true v (supervisors_of rs) q))
      go false q = refl

  start_device_lem : Same rs (States.start_device rs) (P.start_device (plan_of rs))
  unfolding P.start_device plan_of States.start_slot States.start_state
  start_device_lem = record {
    owns = λ m l. own_at_lem m (let k : modules_of rs ≤ 16 = few_modules rs L in omega arith) ∙ ap (λ (b : Bool). cond b (start_own rs m) empty_own) (lt-ltb m (modules_of rs) l);
    states = λ v l. state_at_lem v (let k : supervisors_of rs ≤ 32 = few rs L in omega arith) ∙ ap (λ (b : Bool). cond b (supervisor_initial rs v) 0) (lt-ltb v (supervisors_of rs) l);
    slots = from_length (λ n. cond (ltb n (modules_of rs)) (start_own rs n) empty_own) 0 16;
    fits = fits_of rs (States.start_device rs) own_fits_lem state_fits;
  }

  pub start_same : Same rs (Dev.start_call image).device (P.start_device (plan_of rs))
  start_same = subst (λ (d : Device). Same rs d (P.start_device (plan_of rs))) (sym device_is) start_device_lem
