-- What a refused call leaves of a module on many devices.
use Rattle.std.specs.Prelude.{Option, Some, None, Result, Ok, Err, ⊤}
use Rattle.refusal.specs.Refusal.{refusal}
use Rattle.refusal.specs.declared.Refusal.{Refusal}
use Prim.Native.Nat.{ℕ}
use mathlib.Core.Path.{◌≡◌, refl, ap}
use mathlib.Core.List.{List}
use mathlib.Core.Bool.{Bool, true, false, cond, ◌&&◌}
use lib.Dec.{eqb, ltb}
use borrow.Author.Tests.{ltb-false}
use Rattle.records.specs.declared.Record.{Record}
use Rattle.reader.specs.Walk.{records_of}
use Rattle.rules.specs.LookUp.{modules_of}
use Rattle.rules.specs.Check.{verdict_of}
use Rattle.modules.specs.declared.Replied.{Replied}
use Rattle.messages.specs.Message.{short, written, parse}
use Rattle.messages.specs.declared.Message.{Message}
use Rattle.messages.specs.declared.Message.TheVariants.{Bid, Permit, Release}
use Rattle.permits.specs.Names.{named}
use Rattle.permits.specs.Module.{Choice, takes_turn, waits, bids_to, choice, module_fits, sent_by, step_bytes, answer_by, state_by, step_refused, step_in, step_by, bid_with, taken_by, deliver_in, absent, deliver_by, with_own, reply_by, start_by}
use Rattle.permits.specs.Step.{bytes_of_messages}
use Rattle.permits.specs.Numbers.{stepped_bytes}
use Rattle.permits.specs.declared.Module.{Module}
use Rattle.permits.specs.declared.ModuleCalled.{ModuleCalled}
use Rattle.permits.specs.declared.Stepped.{Stepped}
use Rattle.refusals.specs.Table as Table
use Rattle.refusals.specs.Table.{CallKind, Gives}
use Rattle.refusals.specs.Refusals.{OffsetRight, CheckAnswer, CallAnswer, StepAnswer, OwnCall, StepBytes, ModuleStep, ModuleCall, Modules}
use Rattle.refusals.proofs.Table.{Within, passed}
use Rattle.refusals.proofs.Cases.{either, at_zero, accepts, refuses, taken, same, untouched, put, done, call_refused, takes, turns_down, refused, replied}
use Rattle.refusals.proofs.Checked.{checked}
use Rattle.refusals.proofs.Device.{own_respond_lem, own_tick_lem}

start : (v : Result ⊤ Refusal) (rs : List Record) (m : ℕ) → CheckAnswer v → CallAnswer Table.start (start_by v rs m).answer
unfolding start_by
start (Ok u) rs m j = either (λ (c : ModuleCalled). CallAnswer Table.start c.answer) (ltb m (modules_of rs)) (done Table.start) (call_refused Table.start 11 0 refl (at_zero 11))
start (Err e) rs m j = call_refused Table.start e.number e.offset (passed Table.check Table.start refl e.number (j.numbered e refl)) j.offset_right

-- the answer of an accepted step
accepted : (rs : List Record) (m : ℕ) (x : Module) (c : Choice) → StepAnswer (answer_by rs m x c)
unfolding answer_by
accepted rs m x takes_turn = accepts Table.module_step _
accepted rs m x (bids_to v) = accepts Table.module_step _
accepted rs m x waits = accepts Table.module_step _

step_bytes_lem : (a : Result Stepped Refusal) → StepBytes a
step_bytes_lem a = record { turned = λ t k e. ap stepped_bytes e; bids = λ v k e. ap stepped_bytes e; waiting = λ e. ap stepped_bytes e }

module _ (rs : List Record) (m : ℕ) (x : Module) where
  -- ---- a step
  module _ (b : List ℕ) where
    step_refused_lem : (n o : ℕ) → Gives Table.module_step n → OffsetRight n o → ModuleStep x b (step_refused x b n o)
    step_refused_lem n o t p =
        record {
          answer = refuses Table.module_step (refusal n o) t p;
          state = same n x;
          bytes = step_bytes_lem _;
          buffer = untouched n b;
        }

    step_in_lem : (c : Choice) (q : Bool) → short (step_bytes rs m x c) b ≡ q
        → ModuleStep x b (cond q (step_refused x b 15 0) (record { answer = answer_by rs m x c; state = state_by rs m x c; buffer = written (step_bytes rs m x c) b }))
    unfolding answer_by sent_by bytes_of_messages
    step_in_lem c true e = step_refused_lem 15 0 refl (at_zero 15)
    step_in_lem takes_turn false e = record { answer = accepted rs m x takes_turn; state = taken x _; bytes = step_bytes_lem _; buffer = put _ (step_bytes rs m x takes_turn) b refl (ltb-false _ _ e) }
    step_in_lem (bids_to v) false e = record { answer = accepted rs m x (bids_to v); state = taken x _; bytes = step_bytes_lem _; buffer = put _ (step_bytes rs m x (bids_to v)) b refl (ltb-false _ _ e) }
    step_in_lem waits false e = record { answer = accepted rs m x waits; state = taken x _; bytes = step_bytes_lem _; buffer = put 0 (step_bytes rs m x waits) b refl (ltb-false _ _ e) }

    step_by_lem : (v : Result ⊤ Refusal) → CheckAnswer v → ModuleStep x b (step_by v rs m x b)
    unfolding step_by step_in
    step_by_lem (Ok u) j =
        either (ModuleStep x b) (ltb m (modules_of rs))
        (either (ModuleStep x b) (module_fits rs m x) (step_in_lem (choice rs m x) _ refl) (step_refused_lem 9 0 refl (at_zero 9)))
        (step_refused_lem 11 0 refl (at_zero 11))
    step_by_lem (Err e) j = step_refused_lem e.number e.offset (passed Table.check Table.module_step refl e.number (j.numbered e refl)) j.offset_right

  -- ---- a delivery
  take : (g : Message) → ModuleCall Table.deliver x (taken_by rs m x g)
  unfolding taken_by
  take (Bid n v) = refused Table.deliver x 12 refl
  take (Permit v n k) = either (ModuleCall Table.deliver x) (eqb n m && bid_with rs m x v) (takes Table.deliver x _) (refused Table.deliver x 12 refl)
  take (Release n v e) = refused Table.deliver x 12 refl

  deliver_in_lem : (p : Option Message) → ModuleCall Table.deliver x (deliver_in rs m x p)
  unfolding deliver_in
  deliver_in_lem None = refused Table.deliver x 10 refl
  deliver_in_lem (Some g) = either (ModuleCall Table.deliver x) (named rs g) (take g) (refused Table.deliver x 11 refl)

  to_absent : (p : Option Message) → ModuleCall Table.deliver x (absent x p)
  unfolding absent
  to_absent None = refused Table.deliver x 10 refl
  to_absent (Some g) = refused Table.deliver x 11 refl

  deliver_by_lem : (v : Result ⊤ Refusal) (p : Option Message) → CheckAnswer v → ModuleCall Table.deliver x (deliver_by v rs m x p)
  unfolding deliver_by
  deliver_by_lem (Ok u) p j =
      either (ModuleCall Table.deliver x) (ltb m (modules_of rs)) (either (ModuleCall Table.deliver x) (module_fits rs m x) (deliver_in_lem p) (refused Table.deliver x 9 refl)) (to_absent p)
  deliver_by_lem (Err e) p j = turns_down Table.deliver x e.number e.offset (passed Table.check Table.deliver refl e.number (j.numbered e refl)) j.offset_right

  -- ---- a response and a tick
  module _ (c own : CallKind) (all-turn : Within Table.turn c) (all_own : Within own c) where
    reply_by_lem : (v : Result ⊤ Refusal) (r : Replied) → OwnCall own x.own r → CheckAnswer v → ModuleCall c x (reply_by v rs m x r)
    unfolding reply_by
    reply_by_lem (Ok u) r k j =
        either (ModuleCall c x) (ltb m (modules_of rs))
        (either (ModuleCall c x) (module_fits rs m x)
        (replied c x (with_own x) x.own r.own r.reply refl (λ n e. passed own c all_own n (k.numbered n e)) k.state) (refused c x 9 (passed Table.turn c all-turn 9 refl)))
        (refused c x 11 (passed Table.turn c all-turn 11 refl))
    reply_by_lem (Err e) r k j = turns_down c x e.number e.offset (passed Table.turn c all-turn e.number (passed Table.check Table.turn refl e.number (j.numbered e refl))) j.offset_right

pub modules : Modules
modules =
    record {
      start = λ s m. start (verdict_of s) (records_of s) m (checked s);
      step = λ s m x b. step_by_lem (records_of s) m x b (verdict_of s) (checked s);
      deliver = λ s m x bytes. deliver_by_lem (records_of s) m x (verdict_of s) (parse bytes) (checked s);
      respond = λ s m x e. reply_by_lem (records_of s) m x Table.respond Table.own_respond refl refl (verdict_of s) _ (own_respond_lem (records_of s) m e x.own) (checked s);
      tick = λ s m x f. reply_by_lem (records_of s) m x Table.tick Table.own_tick refl refl (verdict_of s) _ (own_tick_lem (records_of s) f x.own) (checked s);
    }
