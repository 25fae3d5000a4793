-- A turn: what it does, by which bits of the mask it goes, and that it keeps the fit and the queue's eight cells.
use Rattle.std.specs.Prelude.{Option, Some, None, is_some}
use Prim.Native.Nat.{ℕ, ◌<◌}
use native.Mathlib.Omega.{arith}
use mathlib.Core.Path.{◌≡◌, refl, sym, ap, ◌∙◌, subst}
use mathlib.Core.Logic.{inl, inr}
use mathlib.Core.List.{List}
use mathlib.Core.Bool.{Bool, true, false, cond, not, ◌&&◌, false≢true}
use lib.ListN.{length}
use lib.Dec.{T, eqb, ltb, ltb→lt, lt→ltb}
use lib.Ieee.Fits.{and_l, and_i, eq→eqb}
use borrow.Author.Tests.{not-true, lt-ltb}
use Rattle.bits.specs.Bit.{bit}
use denote.Floats.{passes as holds, is_true}
use Rattle.records.specs.declared.Record.{Record}
use Rattle.rules.specs.LookUp.{modules_of, events_of, module_state, owner_of, controllable}
use Rattle.plan.specs.Plan.{module_move, own_event, own_uncontrollable}
use Rattle.accepted.specs.Plan.{Sound}
use Rattle.rules.proofs.Valid.{both}
use Rattle.modules.specs.declared.Own.{Own}
use Rattle.modules.specs.declared.Turned.{Turned}
use Rattle.modules.specs.Queue.{queue_of, response_at, with_queue, without}
use Rattle.modules.specs.Procedure.{arrive_at}
use Rattle.modules.specs.Turn.{moved, has_move, first_usable, by_response, by_command, enabled, chosen, by_choice, turn_on, turn_of}
use Rattle.modules.specs.Fits.{queue_fits, own_fits}
use Rattle.turn_laws.specs.Laws.{own_fits_at, EightCells, TurnOk, Response, Command}
use Rattle.turn_laws.proofs.Found.{module_move_lem}
use Rattle.bits.proofs.Least.{Lowest}
use Rattle.modules.proofs.Chosen.{FirstUsable, usable_first, usable_none, chosen_lowest, chosen_same}
use Rattle.modules.proofs.Queue.{cells_length, without_length}
use Rattle.turn_laws.proofs.Queue.{without_fits, response_own, in_cells, queue_of_lem}
use Rattle.turn_laws.proofs.Procedure.{Parts, parts, whole, arrives}

-- ---- whether the module has a move by a response

-- it is below 64
pub move_below : (rs : List Record) (m st e : ℕ) → has_move rs m st e ≡ true → e < 64
unfolding has_move
move_below rs m st e h = ltb→lt e 64 (and_l (ltb e 64) _ (holds _ h))

module _ (rs : List Record) (plan : Sound rs) (m st e : ℕ) where
  -- an event of the plan is below 64
  pub has_move_lem : has_move rs m st e ≡ is_some (module_move rs m st e)
  unfolding has_move
  has_move_lem = go (module_move rs m st e) refl
    where
      neither : (b : Bool) → (b && false) ≡ false
      neither true = refl
      neither false = refl

      go : (o : Option ℕ) → module_move rs m st e ≡ o → (ltb e 64 && is_some o) ≡ is_some o
      go (Some to) g =
          let l : e < 64 = omega (arith, (module_move_lem rs plan m st e to g).event, plan.events.1) in
          ap (λ (b : Bool). b && true) (lt-ltb e 64 l)
      go None g = neither (ltb e 64)

  no_move : has_move rs m st e ≡ false → module_move rs m st e ≡ None
  no_move h = go (module_move rs m st e) refl (sym has_move_lem ∙ h)
    where
      go : (o : Option ℕ) → module_move rs m st e ≡ o → is_some (module_move rs m st e) ≡ false → module_move rs m st e ≡ None
      go (Some to) g f = absurd (false≢true (sym f ∙ ap is_some g))
      go None g f = g

-- ---- a turn

module _ (rs : List Record) (m : ℕ) (own : Own) where
  -- what holds of each thing that a turn can do holds of the turn: a response fires, a command fires, nothing. Above this crate a turn is known by
  -- this and by `TurnLaws`, and its definition stays shut.
  pub turn_cases : (k : ℕ) (P : Turned → Type 0)
      → ((i st : ℕ) → FirstUsable rs m own i → module_move rs m own.state (response_at own i) ≡ Some st
      → P (record { turn = Some (response_at own i); own = moved (with_queue own (without i (queue_of own))) st own.procedure }))
      → ((e st : ℕ) → first_usable rs m own ≡ None → own.procedure.running ≡ false → Lowest (enabled rs m k own.state) 64 e → module_move rs m own.state e ≡ Some st
      → P (record { turn = Some e; own = moved own st (arrive_at rs e 0) }))
      → P (record { turn = None; own = own })
      → P (turn_of rs m k own)
  unfolding turn_of turn_on by_response by_choice by_command
  turn_cases k P response command nothing = queue (first_usable rs m own) refl
    where
      fires : (i : ℕ) → FirstUsable rs m own i → (o : Option ℕ) → module_move rs m own.state (response_at own i) ≡ o → P (by_response own i o)
      fires i h (Some st) g = response i st h g
      fires i h None g = nothing

      commands : (e : ℕ) → first_usable rs m own ≡ None → own.procedure.running ≡ false → Lowest (enabled rs m k own.state) 64 e
          → (o : Option ℕ) → module_move rs m own.state e ≡ o → P (by_command rs own e o)
      commands e h r l (Some st) g = command e st h r l g
      commands e h r l None g = nothing

      chooses : first_usable rs m own ≡ None → own.procedure.running ≡ false → (o : Option ℕ) → chosen rs m k own ≡ o → P (by_choice rs m own o)
      chooses h r (Some e) g = commands e h r (chosen_lowest rs m k own e g) (module_move rs m own.state e) refl
      chooses h r None g = nothing

      rests : first_usable rs m own ≡ None → (b : Bool) → own.procedure.running ≡ b
          → P (cond b (record { turn = None; own = own }) (by_choice rs m own (chosen rs m k own)))
      rests h true r = nothing
      rests h false r = chooses h r (chosen rs m k own) refl

      queue : (o : Option ℕ) → first_usable rs m own ≡ o → P (turn_on rs m k own o)
      queue (Some i) h = fires i (usable_first rs m own i h) (module_move rs m own.state (response_at own i)) refl
      queue None h = rests h own.procedure.running refl

  pub turn_cells : (k : ℕ) → EightCells own → EightCells (turn_of rs m k own).own
  turn_cells k p =
      turn_cases k (λ t. EightCells t.own)
      (λ i st h g. cells_length (without i (queue_of own)) (omega (arith, without_length (queue_of own) i, in_cells own p)))
      (λ e st h r l g. p) p

  module _ (plan : Sound rs) where
    -- a listed move is by an own event
    by_own : (e st : ℕ) → module_move rs m own.state e ≡ Some st → owner_of rs e ≡ m
    by_own e st g = (module_move_lem rs plan m own.state e st g).own_event_lem

    pub turn_same : (k k' : ℕ) → ((e : ℕ) → owner_of rs e ≡ m → bit k e ≡ bit k' e) → turn_of rs m k own ≡ turn_of rs m k' own
    unfolding turn_of turn_on enabled
    turn_same k k' h = queue (first_usable rs m own)
      where
        unlisted : (a b c : Bool) → (a && false && b) ≡ (a && false && c)
        unlisted true b c = refl
        unlisted false b c = refl

        able : (e : ℕ) (o : Option ℕ) → module_move rs m own.state e ≡ o → (controllable rs e && is_some o && not (bit k e)) ≡ (controllable rs e && is_some o && not (bit k' e))
        able e (Some st) g = ap (λ (b : Bool). controllable rs e && true && not b) (h e (by_own e st g))
        able e None g = unlisted (controllable rs e) (not (bit k e)) (not (bit k' e))

        queue : (o : Option ℕ) → turn_on rs m k own o ≡ turn_on rs m k' own o
        queue (Some i) = refl
        queue None =
            ap (λ (o : Option ℕ). cond own.procedure.running (record { turn = None; own = own }) (by_choice rs m own o))
            (chosen_same rs m k own k' (λ e l. able e (module_move rs m own.state e) refl))

    pub turn_fits : (k : ℕ) → T (own_fits rs m own) → T (own_fits rs m (turn_of rs m k own).own)
    unfolding queue_fits
    turn_fits k t =
        turn_cases k (λ y. T (own_fits rs m y.own))
        (λ i st h g. whole rs m (moved (with_queue own (without i (queue_of own))) st own.procedure)
        (record { state = leads (response_at own i) st g; queue = without_fits rs m own i a.queue; procedure = a.procedure }))
        (λ e st h r l g. whole rs m (moved own st (arrive_at rs e 0)) (record { state = leads e st g; queue = a.queue; procedure = arrives rs plan m e 0 (mine e st g) }))
        t
      where
        a : Parts rs m own
        a = parts rs m own t

        leads : (e st : ℕ) → module_move rs m own.state e ≡ Some st → T (module_state rs m st)
        leads e st g = holds _ (lt-ltb st _ (module_move_lem rs plan m own.state e st g).to)

        mine : (e st : ℕ) → module_move rs m own.state e ≡ Some st → T (own_event rs m e)
        mine e st g =
            let l : T (ltb e (events_of rs)) = lt→ltb e (events_of rs) (module_move_lem rs plan m own.state e st g).event in
            let o : T (eqb (owner_of rs e) m) = eq→eqb (by_own e st g) in
            search and_i

    -- a chosen event is controllable and in no mask
    able_parts : (k e : ℕ) → enabled rs m k own.state e ≡ true → (controllable rs e ≡ true) × (bit k e ≡ false)
    unfolding enabled
    able_parts k e a =
        let t : T (enabled rs m k own.state e) = holds _ a in
        (is_true (controllable rs e) (search both), not-true (bit k e) (is_true (not (bit k e)) (search both)))

    pub response : (k e : ℕ) → (turn_of rs m k own).turn ≡ Some e → controllable rs e ≡ false → Response rs m own e (turn_of rs m k own).own
    response k e is off =
        turn_cases k (λ t. t.turn ≡ Some e → Response rs m own e t.own)
        (λ i st h g s. record {
          index = i;
          queued = h.below;
          is = cc;
          unusable = λ j l. no_move rs plan m own.state (response_at own j) (h.first j l);
          others = queue_of_lem own (without i (queue_of own));
          procedure = refl;
        })
        (λ d st h r l g s. let i : d ≡ e = cc in absurd (false≢true (sym off ∙ ap (controllable rs) (sym i) ∙ (able_parts k d l.passes).0)))
        (λ s. let z : ◌≡◌ {A = ℕ} 0 1 = cc in absurd (omega arith))
        is

    -- a response that has a move is uncontrollable
    module _ (fits : own_fits_at rs m own ≡ true) where
      uncontrolled : (i st : ℕ) → FirstUsable rs m own i → module_move rs m own.state (response_at own i) ≡ Some st → controllable rs (response_at own i) ≡ false
      uncontrolled i st h g =
          let e : ℕ = response_at own i in
          let below : ltb m (modules_of rs) ≡ true = lt-ltb m (modules_of rs) (module_move_lem rs plan m own.state e st g).owner in
          let t : own_fits rs m own ≡ true = subst (λ (b : Bool). cond b (own_fits rs m own) true ≡ true) below fits in
          let u : T (own_uncontrollable rs m e) = response_own rs m own i h.below (parts rs m own (holds _ t)).queue in
          not-true (controllable rs e) (is_true (not (controllable rs e)) (search both))

      pub turn_ok : (k : ℕ) → TurnOk rs m k own (turn_of rs m k own)
      turn_ok k =
          turn_cases k (TurnOk rs m k own)
          (λ i st h g. record { moved = g; free = inl (uncontrolled i st h g) })
          (λ e st h r l g. record { moved = g; free = inr (able_parts k e l.passes).1 })
          refl

      pub command : (k e : ℕ) → (turn_of rs m k own).turn ≡ Some e → controllable rs e ≡ true → Command rs m k own e
      command k e is on =
          turn_cases k (λ t. t.turn ≡ Some e → Command rs m k own e)
          (λ i st h g s. let d : response_at own i ≡ e = cc in absurd (false≢true (sym (uncontrolled i st h g) ∙ ap (controllable rs) d ∙ on)))
          (λ d st h r l g s. let i : d ≡ e = cc in subst (Command rs m k own) i (record { unusable = unheard h; idle = r; able = l.passes; lowest = l.first }))
          (λ s. let z : ◌≡◌ {A = ℕ} 0 1 = cc in absurd (omega arith))
          is
        where
          unheard : first_usable rs m own ≡ None → (j : ℕ) → j < length (queue_of own) → module_move rs m own.state (response_at own j) ≡ None
          unheard h j l = no_move rs plan m own.state (response_at own j) (usable_none rs m own h j l)
