-- Document 01, "Permits and messages": "releases all in ascending order".
use Rattle.std.specs.Prelude.{ℕ, ◌≡◌, List, Bool, cond, not, Option}
use Rattle.records.specs.declared.Record.{Record}
use Rattle.messages.specs.Message.{short, written}
use Rattle.permits.specs.Module.{releases_in}
use Rattle.permits.specs.Step.{bytes_of_messages}

-- the bytes of the releases to all supervisors of a mask
abbrev pub release_bytes : List Record → ℕ → ℕ → Option ℕ → List ℕ
release_bytes rs m mask t = bytes_of_messages (releases_in rs m mask t 32)

-- whether there is room for them, and the final contents of the buffer b
pub record Released (rs : List Record) (m mask : ℕ) (t : Option ℕ) (b : List ℕ) (fits : Bool) (after : List ℕ) : Type 0 where
  pub answer : fits ≡ not (short (release_bytes rs m mask t) b)
  pub buffer : after ≡ cond fits (written (release_bytes rs m mask t) b) b
