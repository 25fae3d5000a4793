-- include/pewterslug.h, from which the quotations of this file are: "An answer is one number. Bits 0..7 are the refusal's number, 0 if the call is
-- accepted. Of a refused call bits 32..63 are the byte offset. Of an accepted one bits 8..15 say what was done, bits 16..23 of what, and bits 32..63
-- how many bytes were written (for a read record or message: how many it has). All other bits are 0."
use Rattle.refusal.specs.Refusal.{refused_number, refused_offset, written_length}
use Rattle.refusal.specs.declared.Refusal.{Refusal}
use Rattle.std.specs.Prelude.{ℕ, ◌+◌, ◌*◌, ◌%◌, ◌≡◌, List, [], cond, length, eqb, ltb, Option, Some, None, Result, Ok, Err, ⊤}
use Rattle.messages.specs.Message.{written}
use Rattle.permits.specs.declared.Stepped.{Stepped}
use Rattle.permits.specs.declared.Stepped.TheVariants.{Turns, Bids, Waits}
use Rattle.permits.specs.declared.Served.{Served}
use Rattle.permits.specs.declared.Served.TheVariants.{Sends, Waits as ServedWaits}

-- An offset or a length has 32 bits; of one past them, which only bytes longer than any plan can have, the lower 32 stand.
unfoldable pub packed : ℕ → ℕ → ℕ → ℕ → ℕ
packed number did value size = number + 256 * did + 65536 * value + 4294967296 * (size % 4294967296)

-- a refusal's number n at the byte offset o
abbrev pub refused : ℕ → ℕ → ℕ
refused n o = packed n 0 0 o

-- what was done, of what, and how many bytes were written
abbrev pub done : ℕ → ℕ → ℕ → ℕ
done did value size = packed 0 did value size

-- PEWTERSLUG_DONE, 0: "taken; the value is 0"
unfoldable pub called_answer : Result ⊤ Refusal → ℕ
called_answer (Ok u) = done 0 0 0
called_answer (Err e) = refused (refused_number {X = ⊤} (Err e)) (refused_offset {X = ⊤} (Err e))

-- PEWTERSLUG_DONE, of a call that writes so many bytes
unfoldable pub length_answer : Result ℕ Refusal → ℕ
length_answer (Ok n) = done 0 0 (written_length (Ok n))
length_answer (Err e) = refused (refused_number {X = ℕ} (Err e)) (refused_offset {X = ℕ} (Err e))

-- PEWTERSLUG_EVENT, 1: "a turn: an event fired, the value is the event"; PEWTERSLUG_NONE, 3: "a turn: none". 2 stood for a turn that
-- document 02, 2.5, took out, and is not given again.
unfoldable pub turn_answer : Option ℕ → ℕ → ℕ
turn_answer (Some e) size = done 1 e size
turn_answer None size = done 3 0 size

unfoldable pub turning_answer : Result (Option ℕ) Refusal → ℕ
turning_answer (Ok t) = turn_answer t 0
turning_answer (Err e) = refused (refused_number {X = Option ℕ} (Err e)) (refused_offset {X = Option ℕ} (Err e))

-- PEWTERSLUG_BIDS, 4: "a module bids, the value is the supervisor"; PEWTERSLUG_WAITS, 6: "a step that waits"
unfoldable pub stepped_answer : Result Stepped Refusal → ℕ
stepped_answer (Ok (Turns t size)) = turn_answer t size
stepped_answer (Ok (Bids v size)) = done 4 v size
stepped_answer (Ok Waits) = done 6 0 0
stepped_answer (Err e) = refused (refused_number {X = Stepped} (Err e)) (refused_offset {X = Stepped} (Err e))

-- PEWTERSLUG_SENDS, 5: "a supervisor sends its permit, the value is the module"
unfoldable pub served_answer : Result Served Refusal → ℕ
served_answer (Ok (Sends m size)) = done 5 m size
served_answer (Ok ServedWaits) = done 6 0 0
served_answer (Err e) = refused (refused_number {X = Served} (Err e)) (refused_offset {X = Served} (Err e))

-- ---- a whole call

-- its answer and the final contents of the state and of the buffer that are lent to it, [] where it has none
pub record Answer : Type 0 where
  pub number : ℕ
  pub state : List ℕ
  pub buffer : List ℕ

-- what a function gives: the number r, and the lent bytes afterwards
pub record Answered (a : Answer) (r : ℕ) (s b : List ℕ) : Type 0 where
  pub answer : r ≡ a.number
  pub state : s ≡ a.state
  pub buffer : b ≡ a.buffer

-- "A refused call leaves every lent byte as it was": the call has the number n, and its state is `after` if it is accepted
unfoldable pub lent_after : ℕ → List ℕ → List ℕ → List ℕ
lent_after n after before = cond (eqb n 0) after before

-- a start, whose state has so many bytes: the refusal's number, then 15, document 01's "output buffer shorter than the answer"; an accepted one
-- writes the state from the buffer's start
unfoldable pub start_answer : ℕ → Result ⊤ Refusal → List ℕ → List ℕ → Answer
start_answer size (Ok u) bytes b =
    cond (ltb (length b) size) (record { number = refused 15 0; state = []; buffer = b })
    (record { number = done 0 0 size; state = []; buffer = written bytes b })
start_answer size (Err e) bytes b = record { number = refused (refused_number {X = ⊤} (Err e)) (refused_offset {X = ⊤} (Err e)); state = []; buffer = b }
