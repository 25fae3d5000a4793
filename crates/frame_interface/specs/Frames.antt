-- Document 02, 2.6, over lent bytes. The quotations are from include/pewterslug.h.
use Rattle.refusal.specs.Refusal.{refused_number, refused_offset}
use Rattle.refusal.specs.declared.Refusal.{Refusal}
use Rattle.std.specs.Prelude.{ℕ, List, [], Result, Ok, Err}
use Rattle.frames.specs.Frame.{frame_of, message_in}
use Rattle.frames.specs.Calls.{write_answer, write_buffer, read_answer, read_buffer}
use Rattle.frames.specs.Numbers.{unframed_length, unframed_address}
use Rattle.packing.specs.Answer.{Answer, refused, done, length_answer}

unfoldable pub write_frame_by : Result ℕ Refusal → ℕ → List ℕ → List ℕ → Answer
write_frame_by r a g b = record { number = length_answer r; state = []; buffer = write_buffer r (frame_of a g) b }

-- "Writes the frame of one message to an address."
abbrev pub write_frame_bytes : ℕ → List ℕ → List ℕ → Answer
write_frame_bytes a g b = write_frame_by (write_answer a g b) a g b

-- "the value is its address and the length that of its message, which is written into the buffer"
unfoldable pub unframed_answer : Result (ℕ × ℕ) Refusal → ℕ
unframed_answer (Ok (a, n)) = done 0 (unframed_address (Ok (a, n))) (unframed_length (Ok (a, n)))
unframed_answer (Err e) = refused (refused_number {X = ℕ × ℕ} (Err e)) (refused_offset {X = ℕ × ℕ} (Err e))

unfoldable pub read_frame_by : Result (ℕ × ℕ) Refusal → List ℕ → List ℕ → Answer
read_frame_by r f b = record { number = unframed_answer r; state = []; buffer = read_buffer r (message_in f) b }

-- "Reads a frame"
abbrev pub read_frame_bytes : List ℕ → List ℕ → Answer
read_frame_bytes f b = read_frame_by (read_answer f b) f b
