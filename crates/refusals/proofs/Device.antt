-- What a refused call leaves of a module's own part, and of one device.
use Rattle.std.specs.Prelude.{Option, Some, None, Result, Ok, Err, ⊤}
use Rattle.refusal.specs.Refusal.{refusal}
use Rattle.refusal.specs.declared.Refusal.{Refusal}
use Prim.Native.Nat.{ℕ, zero, suc}
use native.Mathlib.Omega.{arith}
use mathlib.Core.Path.{◌≡◌, refl, ap, subst}
use mathlib.Core.Logic.{◌≢◌}
use mathlib.Core.List.{List}
use lib.Seq.{set-get_or}
use lib.Dec.{ltb}
use Rattle.records.specs.declared.Record.{Record}
use Rattle.reader.specs.Walk.{records_of}
use Rattle.rules.specs.LookUp.{modules_of}
use Rattle.rules.specs.Check.{verdict_of}
use Rattle.plan.specs.Plan.{own_uncontrollable}
use Rattle.water.specs.Water.{flow_ok}
use Rattle.water.specs.declared.Flow.{Flow}
use Rattle.modules.specs.Queue.{full}
use Rattle.modules.specs.Numbers.{reply_number}
use Rattle.modules.specs.Procedure.{taken as took, refused as denied, respond_of, tick_of}
use Rattle.modules.specs.Turn.{empty_own}
use Rattle.modules.specs.declared.Own.{Own}
use Rattle.modules.specs.declared.Replied.{Replied}
use Rattle.device_states.specs.States.{own_at, with_own, device_fits}
use Rattle.device.specs.Device.{device_number, turn_refused, turn_in, turn_by, reply_in, reply_by, start_by}
use Rattle.device.specs.Numbers.{turning_event}
use Rattle.device_states.specs.declared.Device.{Device}
use Rattle.refusals.specs.Table as Table
use Rattle.refusals.specs.Table.{CallKind, Gives}
use Rattle.refusals.specs.Refusals.{IsRefusal, OffsetRight, CheckAnswer, CallAnswer, HeldAlone, OwnCall, DeviceTurn, DeviceCall, OwnPart, OneDevice}
use Rattle.refusals.proofs.Table.{Within, passed}
use Rattle.refusals.proofs.Cases.{either, never, at_zero, accepts, refuses, taken, same, done, call_refused, turns_down, replied}
use Rattle.refusals.proofs.Checked.{checked}

-- ---- the own part: 11 and 13 of a response, 14 of a tick

own_taken : (c : CallKind) (own after : Own) → OwnCall c own (took after)
own_taken c own after = record { numbered = λ n e. absurd (never (cc)); number_is = λ n e. ap reply_number e; accepted = λ e. refl; state = taken own after }

own_refused : (c : CallKind) (n : ℕ) (own : Own) → Gives c n → OwnCall c own (denied n own)
own_refused c n own t = record { numbered = λ k e. subst (Gives c) (ap reply_number e) t; number_is = λ k e. ap reply_number e; accepted = λ e. ap reply_number e; state = same n own }

pub own_respond_lem : (rs : List Record) (m e : ℕ) (own : Own) → OwnCall Table.own_respond own (respond_of rs m e own)
unfolding respond_of
own_respond_lem rs m e own =
    either (OwnCall Table.own_respond own) (own_uncontrollable rs m e)
    (either (OwnCall Table.own_respond own) (full own) (own_refused Table.own_respond 13 own refl) (own_taken Table.own_respond own _))
    (own_refused Table.own_respond 11 own refl)

pub own_tick_lem : (rs : List Record) (f : Flow) (own : Own) → OwnCall Table.own_tick own (tick_of rs f own)
unfolding tick_of
own_tick_lem rs f own = either (OwnCall Table.own_tick own) (flow_ok f) (own_taken Table.own_tick own _) (own_refused Table.own_tick 14 own refl)

pub own_part : OwnPart
own_part = record { respond = own_respond_lem; tick = own_tick_lem }

-- ---- one device

-- the event that fired
event_of : (a : Result (Option ℕ) Refusal) → HeldAlone turning_event (λ e. Ok (Some e)) a
event_of a = record { is = λ k e. ap turning_event e; otherwise = go a }
  where
    go : (a : Result (Option ℕ) Refusal) → ((k : ℕ) → a ≢ Ok (Some k)) → turning_event a ≡ None
    go (Ok (Some k)) h = absurd (h k refl)
    go (Ok None) h = refl
    go (Err e) h = refl

start : (v : Result ⊤ Refusal) (rs : List Record) → CheckAnswer v → CallAnswer Table.device_start (start_by v rs).answer
unfolding start_by
start (Ok u) rs j = done Table.device_start
start (Err e) rs j = call_refused Table.device_start e.number e.offset (j.numbered e refl) j.offset_right

module _ (rs : List Record) (d : Device) (m : ℕ) where
  -- 9 or 11, or 0
  abbrev OfDevice : ℕ → Type 0
  OfDevice n = IsRefusal n → Gives Table.turn n

  its_number : OfDevice (device_number rs d m)
  its_number = either OfDevice (device_fits rs d) (either OfDevice (ltb m (modules_of rs)) (λ t. absurd (t refl)) (λ t. refl)) (λ t. refl)

  turn_refused_lem : (e : Refusal) → Gives Table.turn e.number → OffsetRight e.number e.offset → DeviceTurn d (turn_refused d e)
  turn_refused_lem e t p = record { answer = refuses Table.turn e t p; state = same e.number d; event = event_of (Err e) }

  turn_in_lem : (n : ℕ) → OfDevice n → DeviceTurn d (turn_in rs d m n)
  unfolding turn_in
  turn_in_lem zero h =
      record {
        answer = accepts Table.turn _;
        state = taken d _;
        event = event_of _;
      }
  turn_in_lem (suc n) h = turn_refused_lem (refusal (suc n) 0) (h (λ e. omega arith)) (at_zero (suc n))

  turn_by_lem : (v : Result ⊤ Refusal) → CheckAnswer v → DeviceTurn d (turn_by v rs d m)
  unfolding turn_by
  turn_by_lem (Ok u) j = turn_in_lem (device_number rs d m) its_number
  turn_by_lem (Err e) j = turn_refused_lem e (passed Table.check Table.turn refl e.number (j.numbered e refl)) j.offset_right

  -- a reply has the numbers of a turn, and those of the own part
  module _ (c own : CallKind) (all-turn : Within Table.turn c) (all_own : Within own c) (r : Replied) (k : OwnCall own (own_at d m) r) where
    reply_in_lem : (n : ℕ) → OfDevice n → DeviceCall c d (reply_in d m n r)
    unfolding reply_in
    reply_in_lem zero h = replied c d (with_own d m) (own_at d m) r.own r.reply again (λ n e. passed own c all_own n (k.numbered n e)) k.state
      where
        again : with_own d m (own_at d m) ≡ d
        again = ap (λ (l : List Own). record { modules = l; supervisors = d.supervisors }) (set-get_or d.modules m empty_own)
    reply_in_lem (suc n) h = turns_down c d (suc n) 0 (passed Table.turn c all-turn (suc n) (h (λ e. omega arith))) (at_zero (suc n))

    reply_by_lem : (v : Result ⊤ Refusal) → CheckAnswer v → DeviceCall c d (reply_by v rs d m r)
    unfolding reply_by
    reply_by_lem (Ok u) j = reply_in_lem (device_number rs d m) its_number
    reply_by_lem (Err e) j = turns_down c d e.number e.offset (passed Table.turn c all-turn e.number (passed Table.check Table.turn refl e.number (j.numbered e refl))) j.offset_right

pub one_device : OneDevice
one_device =
    record {
      start = λ s. start (verdict_of s) (records_of s) (checked s);
      turn = λ s d m. turn_by_lem (records_of s) d m (verdict_of s) (checked s);
      respond = λ s d m e. reply_by_lem (records_of s) d m Table.respond Table.own_respond refl refl _ (own_respond_lem (records_of s) m e (own_at d m)) (verdict_of s) (checked s);
      tick = λ s d m f. reply_by_lem (records_of s) d m Table.tick Table.own_tick refl refl _ (own_tick_lem (records_of s) f (own_at d m)) (verdict_of s) (checked s);
    }
