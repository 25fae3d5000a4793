-- The writer of one record. Document 01, "Numbers for what is turned down": "The writer of one record gives 5 or 15 only, at offset 0."
-- 15 is "output buffer shorter than the answer"; "An accepted call writes its answer from the buffer's start and nothing else."
use Rattle.refusal.specs.Refusal.{refusal}
use Rattle.refusal.specs.declared.Refusal.{Refusal}
use Rattle.std.specs.Prelude.{ℕ, ◌≡◌, List, cond, length, ltb, Result, Ok, Err}
use Rattle.words.specs.Word.{written}
use Rattle.records.specs.Kinds.{size_of}
use Rattle.records.specs.Bytes.{bytes_of}
use Rattle.records.specs.Range.{in_range}
use Rattle.records.specs.declared.Record.{Record}

-- the length written, or the number and the offset
unfoldable pub answer_of : Record → List ℕ → Result ℕ Refusal
answer_of r b = cond (in_range r) (cond (ltb (length b) (size_of r)) (Err (refusal 15 0)) (Ok (size_of r))) (Err (refusal 5 0))

-- the buffer afterwards: the record's bytes from its start and the rest as it was; as it came, if the record is refused
abbrev pub buffer_by : Result ℕ Refusal → Record → List ℕ → List ℕ
buffer_by (Ok n) r b = written (bytes_of r) b
buffer_by (Err e) r b = b

-- the whole answer and the final contents of the buffer
pub record Wrote (r : Record) (b : List ℕ) (w : Result ℕ Refusal) (after : List ℕ) : Type 0 where
  pub answer : w ≡ answer_of r b
  pub buffer : after ≡ buffer_by w r b
