-- What the steps of a module and of a supervisor share. Document 01, "Buyer's note": "For every input, refusals too, each public function states
-- its complete answer and the final contents of lent memory".
use Rattle.std.specs.Prelude.{ℕ, ◌≡◌, List, [], ◌∷◌, ◌++◌}
use Rattle.messages.specs.Message.{message_bytes}
use Rattle.messages.specs.declared.Message.{Message}

-- the messages that a step sends, one after another
unfoldable pub bytes_of_messages : List Message → List ℕ
bytes_of_messages [] = []
bytes_of_messages (g ∷ gs) = message_bytes g ++ bytes_of_messages gs

-- a whole call: its answer, the state after it, and the buffer's final contents
pub record Call (A S : Type 0) : Type 0 where
  pub answer : A
  pub state : S
  pub buffer : List ℕ

-- what a step gives back is that call's: a and s are its answer and state, after is the buffer that was lent
pub record Gave {A S : Type 0} (call : Call A S) (a : A) (s : S) (after : List ℕ) : Type 0 where
  pub answer : a ≡ call.answer
  pub state : s ≡ call.state
  pub buffer : after ≡ call.buffer
