-- The plan of an accepted image has the laws that the rules of permits ask.
use Rattle.std.specs.Prelude.{Option, Some, None}
use mathlib.Core.Path.{◌≡◌, sym, ap, ◌∙◌}
use mathlib.Core.Bool.{Bool, true, cond}
use mathlib.Core.List.{List}
use Prim.Native.Nat.{ℕ, ◌<◌}
use borrow.Author.Tests.{lt-ltb}
use Rattle.records.specs.declared.Record.{Record}
use Rattle.rules.specs.LookUp.{modules_of, supervisors_of, supervisor_state}
use Rattle.plan.specs.Plan.{supervisor_initial}
use Rattle.modules.specs.declared.Own.{Own}
use Rattle.modules.specs.Turn.{turn_of, start_own}
use Rattle.modules.specs.Fits.{own_fits}
use Rattle.turn_laws.specs.Laws.{TurnLaws, own_fits_at, state_fits_at, Did}
use Rattle.protocol.specs.Plan.{Laws, OwnLaws, TurnLaw}
use Rattle.agreement.specs.PlanOf.{plan_of}

module _ (rs : List Record) (T : TurnLaws rs) where
  -- of a module and a supervisor of the plan
  here : (m : ℕ) (own : Own) → m < modules_of rs → own_fits_at rs m own ≡ own_fits rs m own
  here m own l = ap (λ (b : Bool). cond b (own_fits rs m own) true) (lt-ltb m (modules_of rs) l)

  there : (v st : ℕ) → v < supervisors_of rs → state_fits_at rs v st ≡ supervisor_state rs v st
  there v st l = ap (λ (b : Bool). cond b (supervisor_state rs v st) true) (lt-ltb v (supervisors_of rs) l)

  turn_law : (m k : ℕ) (own after : Own) (t : Option ℕ) → Did rs m k own t after → TurnLaw (plan_of rs) m k own t after
  unfolding plan_of
  turn_law m k own after (Some e) d = record { listed = d.moved; free = d.free }
  turn_law m k own after None d = d

  own_laws : (m : ℕ) (own : Own) → m < modules_of rs → own_fits rs m own ≡ true → OwnLaws (plan_of rs) m own
  unfolding plan_of
  own_laws m own l h = record {
    turn_law = λ k. turn_law m k own (turn_of rs m k own).own (turn_of rs m k own).turn (T.turn_ok m k own (here m own l ∙ h));
    turn_same = λ k k' f. T.turn_same m k k' own f;
    turn_fits = λ k. sym (here m _ l) ∙ T.turn_fits m k own (here m own l ∙ h);
    respond_state = λ e. T.respond_state m e own;
    respond_fits = λ e. sym (here m _ l) ∙ T.respond_fits m e own (here m own l ∙ h);
    tick_state = λ f. T.tick_state f own;
    tick_fits = λ f. sym (here m _ l) ∙ T.tick_fits m f own (here m own l ∙ h);
  }

  pub laws : Laws (plan_of rs)
  unfolding plan_of
  laws = record {
    few_modules = T.few_modules;
    few_supervisors = T.few_supervisors;
    few_events = T.few_events;
    owner_below = T.event_owner;
    move_event = λ m x e y h. (T.module_move_lem m x e y h).event;
    move_owner = T.own_move;
    alphabet_event = T.alphabet_event;
    alphabet_supervisor = T.alphabet_supervisor;
    shown_alphabet = T.shown_in_alphabet;
    shown_controllable = T.shown_controllable;
    shown_below = T.shown_small;
    start_state_lem = λ m l. T.start_state_lem m;
    start_fits = λ m l. sym (here m (start_own rs m) l) ∙ T.start_fits m;
    own_laws = own_laws;
    supervisor_start_lem = λ v l. sym (there v (supervisor_initial rs v) l) ∙ T.supervisor_start_lem v;
    supervisor_moves = λ v x e y h. sym (there v y (T.supervisor_move_lem v x e y h).supervisor) ∙ T.supervisor_moved v x e y h;
  }
