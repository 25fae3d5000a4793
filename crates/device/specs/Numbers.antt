-- What a turn's answer says beside its number and offset.
use Rattle.refusal.specs.declared.Refusal.{Refusal}
use Rattle.std.specs.Prelude.{ℕ, Option, None, Result, Ok, Err}

-- "turn 1 event 2" and "turn 0 none": the event that fired
abbrev pub turning_event : Result (Option ℕ) Refusal → Option ℕ
turning_event (Ok t) = t
turning_event (Err e) = None
