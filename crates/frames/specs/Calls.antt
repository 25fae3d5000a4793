-- The calls of document 02, 2.6: "The writer is given the address and the reader answers it with the message". Document 01, number 15: "output buffer
-- shorter than the answer"; "An accepted call writes its answer from the buffer's start and nothing else."
use Rattle.refusal.specs.Refusal.{refusal}
use Rattle.refusal.specs.declared.Refusal.{Refusal}
use Rattle.std.specs.Prelude.{ℕ, zero, suc, ◌≡◌, List, cond, length, Result, Ok, Err}
use Rattle.messages.specs.Message.{short, written}
use Rattle.frames.specs.Frame.{frame_of, write_number, address_in, message_in, read_number}

-- ---- the writer

-- the frame f, by its number: the number, then 15, then the length written
unfoldable pub framed_by : ℕ → List ℕ → List ℕ → Result ℕ Refusal
framed_by zero f b = cond (short f b) (Err (refusal 15 0)) (Ok (length f))
framed_by (suc n) f b = Err (refusal (suc n) 0)

abbrev pub write_answer : ℕ → List ℕ → List ℕ → Result ℕ Refusal
write_answer a g b = framed_by (write_number a g) (frame_of a g) b

-- the buffer afterwards
unfoldable pub write_buffer : Result ℕ Refusal → List ℕ → List ℕ → List ℕ
write_buffer (Ok n) f b = written f b
write_buffer (Err e) f b = b

-- the whole answer and the final contents of the buffer
pub record FramedAs (a : ℕ) (g b : List ℕ) (r : Result ℕ Refusal) (after : List ℕ) : Type 0 where
  pub answer : r ≡ write_answer a g b
  pub buffer : after ≡ write_buffer r (frame_of a g) b

-- ---- the reader

-- the message g of the frame f, by the frame's number
unfoldable pub unframed_by : ℕ → ℕ → List ℕ → List ℕ → Result (ℕ × ℕ) Refusal
unframed_by zero a g b = cond (short g b) (Err (refusal 15 0)) (Ok (a, length g))
unframed_by (suc n) a g b = Err (refusal (suc n) 0)

abbrev pub read_answer : List ℕ → List ℕ → Result (ℕ × ℕ) Refusal
read_answer f b = unframed_by (read_number f) (address_in f) (message_in f) b

unfoldable pub read_buffer : Result (ℕ × ℕ) Refusal → List ℕ → List ℕ → List ℕ
read_buffer (Ok (a, n)) g b = written g b
read_buffer (Err e) g b = b

pub record UnframedAs (f b : List ℕ) (r : Result (ℕ × ℕ) Refusal) (after : List ℕ) : Type 0 where
  pub answer : r ≡ read_answer f b
  pub buffer : after ≡ read_buffer r (message_in f) b
