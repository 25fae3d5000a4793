-- The writer of one message into a lent buffer at an offset.
use Rattle.std.specs.Prelude.{ℕ, ◌≡◌, List, Bool}
use Rattle.messages.specs.Message.{message_bytes, fits_at, put_at}
use Rattle.messages.specs.declared.Message.{Message}

-- the whole answer, whether there is room, and the final contents of the buffer b
pub record Wrote (g : Message) (at : ℕ) (b : List ℕ) (fits : Bool) (after : List ℕ) : Type 0 where
  pub answer : fits ≡ fits_at (message_bytes g) at b
  pub buffer : after ≡ put_at (message_bytes g) at b
