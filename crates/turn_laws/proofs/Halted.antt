-- A halted module stays as it is.
use Rattle.std.specs.Prelude.{None, is_some}
use Prim.Native.Nat.{ℕ}
use mathlib.Core.Path.{◌≡◌, refl, ap, ◌∙◌}
use mathlib.Core.Logic.{inl, inr}
use mathlib.Core.List.{List}
use mathlib.Core.Bool.{Bool, true, false, cond, not, ◌&&◌}
use lib.ListN.{length}
use borrow.Author.Tests.{le-leb}
use Rattle.bits.specs.Bit.{bit}
use Rattle.bits.proofs.Least.{least_absent}
use Rattle.records.specs.declared.Record.{Record}
use Rattle.reader.specs.Find.{found}
use Rattle.plan.specs.Plan.{has_command, own_uncontrollable, procedure_step}
use Rattle.accepted.specs.Plan.{Sound}
use Rattle.water.specs.Water.{flow_ok}
use Rattle.water.specs.declared.Flow.{Flow}
use Rattle.modules.specs.declared.Own.{Own}
use Rattle.modules.specs.Queue.{queue_of, response_at, full}
use Rattle.modules.specs.Procedure.{performed, ticked, tick_of, respond_of}
use Rattle.modules.specs.Turn.{has_move, first_usable, enabled, chosen, by_choice, turn_on, turn_of}
use Rattle.turn_laws.specs.Laws.{OnlyResponses, Halted, operand_at}
use Rattle.turn_laws.proofs.Turn.{has_move_lem}

-- a test of which both answers are the same
same_both : (b : Bool) {A : Type 0} (x : A) → cond b x x ≡ x
same_both true x = refl
same_both false x = refl

module _ (rs : List Record) (plan : Sound rs) (m : ℕ) (own : Own) (h : Halted rs m own) where
  none_usable : first_usable rs m own ≡ None
  unfolding first_usable
  none_usable =
      least_absent (λ j. has_move rs m own.state (response_at own j)) (length (queue_of own))
      (λ j l. has_move_lem rs plan m own.state (response_at own j) ∙ ap is_some (h.without_move j l))

  is_full : full own ≡ true
  is_full = le-leb 8 own.length h.full

  -- no command is chosen where none has a move
  no_choice : ((e : ℕ) → has_command rs m own.state e ≡ false) → (k : ℕ) → chosen rs m k own ≡ None
  unfolding chosen enabled
  no_choice f k = least_absent (enabled rs m k own.state) 64 (λ e l. ap (λ (b : Bool). b && not (bit k e)) (f e))

  pub halted_turn : (k : ℕ) → turn_of rs m k own ≡ record { turn = None; own = own }
  unfolding turn_of turn_on by_choice
  halted_turn k = ap (turn_on rs m k own) none_usable ∙ go h.only
    where
      go : OnlyResponses rs m own → turn_on rs m k own None ≡ record { turn = None; own = own }
      go (inl (r, o)) = simp r
      go (inr (r, f)) = simp (r, no_choice f k)

  pub halted_respond : (e : ℕ) → (respond_of rs m e own).own ≡ own
  unfolding respond_of
  halted_respond e = go (own_uncontrollable rs m e) refl
    where
      go : (b : Bool) → own_uncontrollable rs m e ≡ b → (respond_of rs m e own).own ≡ own
      go true u = simp (u, is_full)
      go false u = simp u

  -- the respond step does not end
  waits : (f : Flow) → performed rs 5 (operand_at rs own.procedure) f own ≡ own
  unfolding performed
  waits f = simp is_full

  stays : (f : Flow) → OnlyResponses rs m own → ticked rs f own ≡ own
  stays f (inl (r, o)) =
      ap (λ (x : ℕ). cond (own.procedure.running && there) (performed rs x (operand_at rs own.procedure) f own) own) o
      ∙ ap (λ (y : Own). cond (own.procedure.running && there) y own) (waits f) ∙ same_both (own.procedure.running && there) own
    where
      there : Bool
      there = found (procedure_step rs own.procedure.event own.procedure.index)
  stays f (inr (r, g)) = simp r

  pub halted_tick : (f : Flow) → (tick_of rs f own).own ≡ own
  unfolding tick_of
  halted_tick f = go (flow_ok f) refl
    where
      go : (b : Bool) → flow_ok f ≡ b → (tick_of rs f own).own ≡ own
      go true u = simp u (stays f h.only)
      go false u = simp u
