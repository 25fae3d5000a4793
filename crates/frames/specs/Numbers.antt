-- The bytes that the reader of a frame wrote "from the buffer's start", and the address that it answers, 0 where it answers none.
use Rattle.refusal.specs.declared.Refusal.{Refusal}
use Rattle.std.specs.Prelude.{ℕ, Result, Ok, Err}

abbrev pub unframed_length : Result (ℕ × ℕ) Refusal → ℕ
unframed_length (Ok (a, k)) = k
unframed_length (Err e) = 0

abbrev pub unframed_address : Result (ℕ × ℕ) Refusal → ℕ
unframed_address (Ok (a, k)) = a
unframed_address (Err e) = 0
