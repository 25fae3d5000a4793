-- Document 01, "Numbers for what is turned down": the number of a response or a tick; what is taken has number 0.
use Rattle.std.specs.Prelude.{ℕ, Result, Ok, Err, ⊤}

abbrev pub reply_number : Result ⊤ ℕ → ℕ
reply_number (Ok u) = 0
reply_number (Err n) = n
