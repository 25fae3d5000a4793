-- The laws of `specs/Laws.antt`, of every accepted plan.
use Prim.Native.Nat.{ℕ}
use mathlib.Core.Path.{◌≡◌, refl, subst}
use mathlib.Core.List.{List}
use mathlib.Core.Bool.{Bool, true, cond}
use lib.Dec.{T, ltb}
use borrow.Author.Tests.{ltb-true}
use denote.Floats.{passes as holds, is_true}
use Rattle.records.specs.declared.Record.{Record}
use Rattle.reader.specs.Walk.{records_of}
use Rattle.roundtrip.specs.Fits.{AllFit, Bytes}
use Rattle.roundtrip.proofs.AllFit.{all_fit}
use Rattle.rules.specs.LookUp.{modules_of}
use Rattle.rules.specs.Check.{IsPlan}
use Rattle.accepted.specs.Plan.{Sound}
use Rattle.accepted.proofs.Accepted.{every_plan}
use Rattle.modules.specs.declared.Own.{Own}
use Rattle.modules.specs.Turn.{start_own}
use Rattle.modules.specs.Fits.{own_fits}
use Rattle.turn_laws.specs.Laws.{own_fits_at, TurnLaws}
use Rattle.turn_laws.proofs.Plan.{asked}
use Rattle.turn_laws.proofs.Found as found
use Rattle.turn_laws.proofs.Plan as plan
use Rattle.turn_laws.proofs.Queue as queue
use Rattle.turn_laws.proofs.Procedure as procedure
use Rattle.turn_laws.proofs.Own as own
use Rattle.turn_laws.proofs.Turn as turn
use Rattle.turn_laws.proofs.Halted as halted
use Rattle.turn_laws.proofs.Respond as respond
use Rattle.turn_laws.proofs.Tick as tick

-- what keeps the fit of a module that the plan has
kept : (rs : List Record) (m : ℕ) (a b : Own) → (T (own_fits rs m a) → T (own_fits rs m b)) → own_fits_at rs m a ≡ true → own_fits_at rs m b ≡ true
kept rs m a b f e =
    asked (ltb m (modules_of rs)) (own_fits rs m b)
    (λ h. is_true (own_fits rs m b) (f (holds _ (subst (λ (t : Bool). cond t (own_fits rs m a) true ≡ true) h e))))

pub turn_laws : (rs : List Record) → Sound rs → AllFit rs → TurnLaws rs
unfolding start_own
turn_laws rs s w = record {
  few_modules = s.modules.1;
  few_supervisors = s.supervisors;
  few_events = s.events.1;
  own_move = λ m x e y q. (found.module_move_lem rs s m x e y q).own_event_lem;
  has_move_lem = turn.has_move_lem rs s;
  module_move_lem = found.module_move_lem rs s;
  supervisor_move_lem = found.supervisor_move_lem rs s;
  shown_in_alphabet = plan.shown_in_alphabet rs s w;
  shown_controllable = plan.shown_controllable rs s w;
  shown_small = plan.shown_small rs s w;
  alphabet_event = plan.alphabet_event rs s w;
  alphabet_supervisor = plan.alphabet_supervisor rs s;
  event_owner = plan.event_owner rs s;
  supervisor_start_lem = plan.supervisor_start_lem rs s;
  supervisor_moved = plan.supervisor_moved rs s;
  step_listed = found.step_listed rs s;
  step_law = λ e i f. found.step_law rs s e i (holds _ f);
  start_state_lem = λ m. refl;
  start_fits = λ m. asked (ltb m (modules_of rs)) (own_fits rs m (start_own rs m)) (λ h. is_true _ (own.start_fits rs s m (ltb-true m (modules_of rs) h)));
  turn_ok = λ m k a f. turn.turn_ok rs m a s f k;
  turn_same = λ m k k' a. turn.turn_same rs m a s k k';
  turn_fits = λ m k a. kept rs m a _ (turn.turn_fits rs m a s k);
  response = λ m k a e. turn.response rs m a s k e;
  command = λ m k a e f. turn.command rs m a s f k e;
  respond_state = respond.respond_state rs;
  respond_fits = λ m e a. kept rs m a _ (respond.respond_fits rs m e a);
  tick_state = λ f a. tick.tick_state rs a f;
  tick_fits = λ m f a. kept rs m a _ (λ t. tick.tick_fits rs a s m t f);
  halted_turn = λ m k a h. halted.halted_turn rs s m a h k;
  halted_respond = λ m e a h. halted.halted_respond rs s m a h e;
  halted_tick = λ m f a h. halted.halted_tick rs s m a h f;
  sizes = λ m a t. own.sizes rs s m a (holds _ t);
  start_cells = λ m. refl;
  turn_cells = λ m k a. turn.turn_cells rs m a k;
  respond_cells = respond.respond_cells rs;
  tick_cells = λ f a. tick.tick_cells rs a f;
  queue_of_lem = queue.queue_of_lem;
  queue_length = queue.queue_length;
  queue_cells = λ m a t. queue.queue_cells rs m a (procedure.parts rs m a (holds _ t)).queue;
  queued_last = λ m e a t p. queue.queued_last rs m a (procedure.parts rs m a (holds _ t)).queue p e;
  taken_out = λ m i a t p. queue.taken_out rs m a (procedure.parts rs m a (holds _ t)).queue p i;
}

-- the records of an accepted image of bytes
pub plan_laws : (s : List ℕ) → Bytes s → IsPlan s → TurnLaws (records_of s)
plan_laws s g accepted = turn_laws (records_of s) (every_plan s accepted).sound (all_fit s g)
