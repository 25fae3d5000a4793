-- How far whole records go that are faultless and no end record, where what is remembered stands in the bytes of a check's state.
use Rattle.std.specs.Prelude.{ℕ, List}
use Rattle.words.specs.Word.{put_at}
use Rattle.judge.specs.Past.{past_from}
use Rattle.judge.specs.declared.Past.{Past}
use Rattle.context_bytes.specs.Encoding.{context_bytes, context_at}

-- from the offset i of the bytes s, with what the bytes b remember
abbrev pub past_in : List ℕ → ℕ → List ℕ → Past
past_in s i b = past_from s i (context_at b)

-- the bytes b after that: they remember what is remembered where the records stop, and a flag that is none becomes 0; without room for it they stay
abbrev pub past_bytes : List ℕ → ℕ → List ℕ → List ℕ
past_bytes s i b = put_at (context_bytes (past_in s i b).context) 23 b
