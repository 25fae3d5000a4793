-- Demand 2: "An accepted plan, taken apart into records and written, yields its own bytes". Number 15 of document 01: "output
-- buffer shorter than the answer"; "An accepted call writes its answer from the buffer's start and nothing else."
use Rattle.refusal.specs.Refusal.{refusal}
use Rattle.refusal.specs.declared.Refusal.{Refusal}
use Rattle.std.specs.Prelude.{ℕ, ◌≡◌, List, cond, length, ltb, Result, Ok, Err, ⊤}
use Rattle.words.specs.Word.{written}
use Rattle.records.specs.Bytes.{bytes_of_all}
use Rattle.reader.specs.Walk.{records_of}
use Rattle.roundtrip.specs.Fits.{Bytes}
use Rattle.rules.specs.Check.{verdict_of, IsPlan}

-- the plan's records as bytes, one after another
abbrev pub plan_bytes : List ℕ → List ℕ
plan_bytes s = bytes_of_all (records_of s)

-- "An accepted plan, taken apart into records and written, yields its own bytes"
abbrev pub OwnBytes : Type 0
OwnBytes = (s : List ℕ) → Bytes s → IsPlan s → plan_bytes s ≡ s

-- the check's own number and offset, or 15, or the length written
unfoldable pub answer_by : Result ⊤ Refusal → List ℕ → List ℕ → Result ℕ Refusal
answer_by (Ok u) s b = cond (ltb (length b) (length (plan_bytes s))) (Err (refusal 15 0)) (Ok (length (plan_bytes s)))
answer_by (Err e) s b = Err e

-- the buffer afterwards
unfoldable pub buffer_by : Result ℕ Refusal → List ℕ → List ℕ → List ℕ
buffer_by (Ok n) s b = written (plan_bytes s) b
buffer_by (Err e) s b = b

-- the whole answer and the final contents of the buffer
pub record Rewrote (s b : List ℕ) (r : Result ℕ Refusal) (after : List ℕ) : Type 0 where
  pub answer : r ≡ answer_by (verdict_of s) s b
  pub buffer : after ≡ buffer_by r s b
