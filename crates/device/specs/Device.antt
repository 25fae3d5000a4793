-- Document 01, "Turns on one device": the whole calls of the one-device controller. "Every call with an image checks it first." Then 9 is
-- judged of the whole state, 11 of the module's number, and the call's own numbers last.
use Rattle.refusal.specs.Refusal.{refusal}
use Rattle.refusal.specs.declared.Refusal.{Refusal}
use Rattle.std.specs.Prelude.{ℕ, zero, suc, List, cond, set, ltb, Result, Ok, Err, ⊤}
use Rattle.records.specs.declared.Record.{Record}
use Rattle.reader.specs.Walk.{records_of}
use Rattle.rules.specs.LookUp.{modules_of, supervisors_of}
use Rattle.rules.specs.Check.{verdict_of}
use Rattle.water.specs.declared.Flow.{Flow}
use Rattle.modules.specs.declared.Turned.{Turned}
use Rattle.modules.specs.declared.Replied.{Replied}
use Rattle.modules.specs.Procedure.{called_by, tick_of, respond_of}
use Rattle.modules.specs.Turn.{turn_of}
use Rattle.device_states.specs.States.{own_at, state_at, device_fits, shown_by, with_own, states_after, empty_device, start_device}
use Rattle.device_states.specs.declared.Device.{Device}
use Rattle.device.specs.declared.DeviceTurned.{DeviceTurned}
use Rattle.device.specs.declared.DeviceCalled.{DeviceCalled}

-- a turn of a module of the plan
unfoldable pub turned : List Record → Device → ℕ → Turned
turned rs d m = turn_of rs m (shown_by rs (state_at d) (supervisors_of rs)) (own_at d m)

unfoldable pub after_turn : List Record → Device → ℕ → Turned → Device
after_turn rs d m t = record { modules = set d.modules m t.own; supervisors = states_after rs d.supervisors t.turn }

-- the number of a call, "the smallest number that applies", and 0 where none does: 9, then 11
abbrev pub device_number : List Record → Device → ℕ → ℕ
device_number rs d m = cond (device_fits rs d) (cond (ltb m (modules_of rs)) 0 11) 9

-- a turn
abbrev pub turn_refused : Device → Refusal → DeviceTurned
turn_refused d e = record { answer = Err e; device = d }

unfoldable pub turn_in : List Record → Device → ℕ → ℕ → DeviceTurned
turn_in rs d m zero = record { answer = Ok (turned rs d m).turn; device = after_turn rs d m (turned rs d m) }
turn_in rs d m (suc n) = turn_refused d (refusal (suc n) 0)

unfoldable pub turn_by : Result ⊤ Refusal → List Record → Device → ℕ → DeviceTurned
turn_by (Ok u) rs d m = turn_in rs d m (device_number rs d m)
turn_by (Err e) rs d m = turn_refused d e

abbrev pub turn_call : List ℕ → Device → ℕ → DeviceTurned
turn_call image d m = turn_by (verdict_of image) (records_of image) d m

-- a response and a tick of a module's own part
abbrev pub call_refused : Device → Refusal → DeviceCalled
call_refused d e = record { answer = Err e; device = d }

unfoldable pub reply_in : Device → ℕ → ℕ → Replied → DeviceCalled
reply_in d m zero r = record { answer = called_by r.reply; device = with_own d m r.own }
reply_in d m (suc n) r = call_refused d (refusal (suc n) 0)

unfoldable pub reply_by : Result ⊤ Refusal → List Record → Device → ℕ → Replied → DeviceCalled
reply_by (Ok u) rs d m r = reply_in d m (device_number rs d m) r
reply_by (Err e) rs d m r = call_refused d e

abbrev pub respond_call : List ℕ → Device → ℕ → ℕ → DeviceCalled
respond_call image d m e = reply_by (verdict_of image) (records_of image) d m (respond_of (records_of image) m e (own_at d m))

abbrev pub tick_call : List ℕ → Device → ℕ → Flow → DeviceCalled
tick_call image d m f = reply_by (verdict_of image) (records_of image) d m (tick_of (records_of image) f (own_at d m))

-- the start
unfoldable pub start_by : Result ⊤ Refusal → List Record → DeviceCalled
start_by (Ok u) rs = record { answer = Ok tt; device = start_device rs }
start_by (Err e) rs = call_refused empty_device e

abbrev pub start_call : List ℕ → DeviceCalled
start_call image = start_by (verdict_of image) (records_of image)
