-- The bytes that a step wrote "from the buffer's start".
use Rattle.refusal.specs.declared.Refusal.{Refusal}
use Rattle.std.specs.Prelude.{ℕ, Result, Ok, Err}
use Rattle.permits.specs.declared.Stepped.{Stepped}
use Rattle.permits.specs.declared.Stepped.TheVariants.{Turns, Bids, Waits}
use Rattle.permits.specs.declared.Served.{Served}
use Rattle.permits.specs.declared.Served.TheVariants.{Sends, Waits as ServedWaits}

abbrev pub stepped_bytes : Result Stepped Refusal → ℕ
stepped_bytes (Ok (Turns t n)) = n
stepped_bytes (Ok (Bids v n)) = n
stepped_bytes (Ok Waits) = 0
stepped_bytes (Err e) = 0

abbrev pub served_bytes : Result Served Refusal → ℕ
served_bytes (Ok (Sends m n)) = n
served_bytes (Ok ServedWaits) = 0
served_bytes (Err e) = 0
