-- The call that prints a plan. Document 01, number 15: "output buffer shorter than the answer"; "An accepted call writes its answer from the
-- buffer's start and nothing else."
use Rattle.refusal.specs.Refusal.{refusal}
use Rattle.refusal.specs.declared.Refusal.{Refusal}
use Rattle.std.specs.Prelude.{ℕ, ◌≡◌, List, cond, length, ltb, Result, Ok, Err, ⊤}
use Rattle.words.specs.Word.{written}
use Rattle.reader.specs.Walk.{records_of}
use Rattle.rules.specs.Check.{verdict_of}
use Rattle.paper.specs.Paper.{page_set_of}

-- the page set of an image
abbrev pub plan_page_set : List ℕ → List ℕ
plan_page_set s = page_set_of (records_of s)

-- the check's own number and offset, then 15, then the length written
unfoldable pub answer_by : Result ⊤ Refusal → List ℕ → List ℕ → Result ℕ Refusal
answer_by (Ok u) s b = cond (ltb (length b) (length (plan_page_set s))) (Err (refusal 15 0)) (Ok (length (plan_page_set s)))
answer_by (Err e) s b = Err e

-- the buffer afterwards
unfoldable pub buffer_by : Result ℕ Refusal → List ℕ → List ℕ → List ℕ
buffer_by (Ok n) s b = written (plan_page_set s) b
buffer_by (Err e) s b = b

-- the whole answer and the final contents of the buffer
pub record PagesAs (s b : List ℕ) (r : Result ℕ Refusal) (after : List ℕ) : Type 0 where
  pub answer : r ≡ answer_by (verdict_of s) s b
  pub buffer : after ≡ buffer_by r s b
