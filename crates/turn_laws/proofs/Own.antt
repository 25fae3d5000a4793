-- The own part at the start fits, and the sizes in one that fits.
use Prim.Native.Nat.{ℕ, ◌≤◌, ◌<◌}
use native.Mathlib.Omega.{arith}
use mathlib.Core.Path.{◌≡◌, ap}
use mathlib.Core.List.{List}
use lib.Dec.{T, ltb→lt}
use denote.Floats.{passes as holds}
use Rattle.records.specs.Key.{key_of}
use Rattle.records.specs.declared.Record.{Record}
use Rattle.records.specs.declared.Record.TheVariants.{Module}
use Rattle.rules.specs.LookUp.{field2, field_of, modules_of, module_in}
use Rattle.accepted.specs.Plan.{Sound}
use Rattle.accepted.proofs.Look.{found_field}
use Rattle.modules.specs.declared.Own.{Own}
use Rattle.modules.specs.Turn.{start_own}
use Rattle.modules.specs.Fits.{every, queue_fits, own_fits}
use Rattle.turn_laws.specs.Laws.{Sizes}
use Rattle.turn_laws.proofs.Found.{module_law}
use Rattle.turn_laws.proofs.Plan.{module_start_lem}
use Rattle.turn_laws.proofs.Queue.{short}
use Rattle.turn_laws.proofs.Procedure.{parts, whole, idle_fits_lem, at_step}

module _ (rs : List Record) (plan : Sound rs) (m : ℕ) where
  pub start_fits : m < modules_of rs → T (own_fits rs m (start_own rs m))
  unfolding start_own queue_fits every
  start_fits h = whole rs m (start_own rs m) (record { state = holds _ (module_start_lem rs plan m h); queue = tt; procedure = idle_fits_lem rs m })

  states : m < modules_of rs → field_of field2 (module_in rs m) ≤ 32
  unfolding key_of field_of field2
  states h =
      let r = plan.the_module m h in
      let e : field_of field2 (module_in rs m) ≡ r.states = ap (field_of field2) (plan.finds (Module m r.states r.initial) r.listed) in
      omega (arith, r.states_most)

  pub sizes : (own : Own) → T (own_fits rs m own) → Sizes rs m own
  sizes own t =
      let a = parts rs m own t in
      let below : own.state < field_of field2 (module_in rs m) = ltb→lt own.state (field_of field2 (module_in rs m)) a.state in
      let number : m < modules_of rs = (module_law rs plan m (found_field field2 own.state (module_in rs m) below)).number in
      record {
        number = number;
        state = omega (arith, below, states number);
        responses = short rs m own a.queue;
        step = λ r. at_step rs plan m own.procedure r a.procedure;
      }
