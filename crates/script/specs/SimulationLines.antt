-- The lines that the simulation prints, each with its line feed: what a step, a delivery or a tick got, and a message sent, by its bytes.
use Rattle.refusal.specs.Refusal.{refused_number}
use Rattle.refusal.specs.declared.Refusal.{Refusal}
use Rattle.std.specs.Prelude.{ℕ, List, ◌++◌, Some, None, Result, Ok, Err, ⊤}
use Rattle.device_states.specs.declared.Device.{Device}
use Rattle.permits.specs.declared.Stepped.{Stepped}
use Rattle.permits.specs.declared.Stepped.TheVariants.{Turns, Bids, Waits}
use Rattle.permits.specs.declared.Served.{Served}
use Rattle.permits.specs.declared.Served.TheVariants.{Sends, Waits as ServedWaits}
use Rattle.texts.specs.Ascii.{ascii}
use Rattle.texts.specs.Digits.{hexes}
use Rattle.texts.specs.Numbers.{spaced}
use Rattle.script.specs.Answers.{refused_line, states_row}

unfoldable pub sent_line : List ℕ → List ℕ
sent_line bs = ascii "sent " ++ hexes bs ++ ascii "\n"

unfoldable pub delivered_line : List ℕ → List ℕ
delivered_line bs = ascii "delivered " ++ hexes bs ++ ascii "\n"

unfoldable pub tick_line : ℕ → Result ⊤ Refusal → List ℕ
tick_line m (Ok u) = ascii "tick" ++ spaced m ++ ascii "\n"
tick_line m (Err e) = refused_line (refused_number {X = ⊤} (Err e))

unfoldable pub stepped_line : ℕ → Result Stepped Refusal → List ℕ
stepped_line m (Ok (Turns (Some e) k)) = ascii "module" ++ spaced m ++ ascii " event" ++ spaced e ++ ascii "\n"
stepped_line m (Ok (Turns None k)) = ascii "module" ++ spaced m ++ ascii " none\n"
stepped_line m (Ok (Bids v k)) = ascii "module" ++ spaced m ++ ascii " bids" ++ spaced v ++ ascii "\n"
stepped_line m (Ok Waits) = ascii "module" ++ spaced m ++ ascii " waits\n"
stepped_line m (Err e) = refused_line (refused_number {X = Stepped} (Err e))

unfoldable pub served_line : ℕ → Result Served Refusal → List ℕ
served_line v (Ok (Sends m k)) = ascii "supervisor" ++ spaced v ++ ascii " permits" ++ spaced m ++ ascii "\n"
served_line v (Ok ServedWaits) = ascii "supervisor" ++ spaced v ++ ascii " waits\n"
served_line v (Err e) = refused_line (refused_number {X = Served} (Err e))

-- no message stands at the index
unfoldable pub nothing_line : List ℕ
nothing_line = ascii "nothing\n"

-- the states of the one device
abbrev pub device_line : Device → ℕ → ℕ → List ℕ
device_line d m v = states_row (ascii "device") d m v
