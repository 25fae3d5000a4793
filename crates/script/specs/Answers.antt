-- Document 01, "The two-valve sheet": the lines that the listing program prints, each with its line feed.
use Rattle.refusal.specs.Refusal.{refused_number}
use Rattle.refusal.specs.declared.Refusal.{Refusal}
use Rattle.std.specs.Prelude.{ℕ, List, ◌++◌, map, take, Option, Some, None, Result, Ok, Err, ⊤}
use Rattle.modules.specs.declared.Own.{Own}
use Rattle.device_states.specs.declared.Device.{Device}
use Rattle.texts.specs.Ascii.{ascii}
use Rattle.texts.specs.Numbers.{spaced, spaced_all}

-- "Header: modules, supervisors, events."
unfoldable pub header_line : ℕ → ℕ → ℕ → List ℕ
header_line m v e = ascii "plan" ++ spaced m ++ spaced v ++ spaced e ++ ascii "\n"

-- "and, alone, `plan refused N at B`"
unfoldable pub plan_refused_line : ℕ → ℕ → List ℕ
plan_refused_line n o = ascii "plan refused" ++ spaced n ++ ascii " at" ++ spaced o ++ ascii "\n"

-- "`refused N`"
unfoldable pub refused_line : ℕ → List ℕ
refused_line n = ascii "refused" ++ spaced n ++ ascii "\n"

-- "turn 1 event 2", "turn 0 none"
unfoldable pub turn_line : ℕ → Result (Option ℕ) Refusal → List ℕ
turn_line m (Ok (Some e)) = ascii "turn" ++ spaced m ++ ascii " event" ++ spaced e ++ ascii "\n"
turn_line m (Ok None) = ascii "turn" ++ spaced m ++ ascii " none\n"
turn_line m (Err e) = refused_line (refused_number {X = Option ℕ} (Err e))

-- "response 1 queued 3"
unfoldable pub response_line : ℕ → ℕ → Result ⊤ Refusal → List ℕ
response_line m e (Ok u) = ascii "response" ++ spaced m ++ ascii " queued" ++ spaced e ++ ascii "\n"
response_line m e (Err why) = refused_line (refused_number {X = ⊤} (Err why))

abbrev pub states_of : List Own → List ℕ
states_of ws = map (λ (w : Own). w.state) ws

-- a word, and the states of the first m modules and v supervisors
unfoldable pub states_row : List ℕ → Device → ℕ → ℕ → List ℕ
states_row word d m v = word ++ spaced_all (take m (states_of d.modules)) ++ spaced_all (take v d.supervisors) ++ ascii "\n"

-- "Last line: module states, then supervisor states."
abbrev pub states_line : Device → ℕ → ℕ → List ℕ
states_line d m v = states_row (ascii "states") d m v
