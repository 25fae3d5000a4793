-- Frames over lent bytes, from what the code is told.
use Rattle.std.specs.Prelude.{Result}
use Rattle.refusal.specs.declared.Refusal.{Refusal}
use mathlib.Core.Path.{◌≡◌, refl, ap, ◌∙◌}
use mathlib.Core.List.{List, []}
use Prim.Native.Nat.{ℕ}
use Rattle.frames.specs.Frame.{frame_of, message_in}
use Rattle.frames.specs.Calls.{write_buffer, FramedAs, read_buffer, UnframedAs}
use Rattle.packing.specs.Answer.{Answered, length_answer}
use Rattle.frame_interface.specs.Frames.{write_frame_by, write_frame_bytes, unframed_answer, read_frame_by, read_frame_bytes}

pub written_by : (a : ℕ) (g b : List ℕ) {x : ℕ} {r : Result ℕ Refusal} {after : List ℕ} → FramedAs a g b r after → x ≡ length_answer r → Answered (write_frame_bytes a g b) x [] after
unfolding write_frame_by
written_by a g b v w =
    record { answer = w ∙ ap length_answer v.answer; state = refl; buffer = v.buffer ∙ ap (λ (y : Result ℕ Refusal). write_buffer y (frame_of a g) b) v.answer }

pub read_by_lem : (f b : List ℕ) {x : ℕ} {r : Result (ℕ × ℕ) Refusal} {after : List ℕ} → UnframedAs f b r after → x ≡ unframed_answer r → Answered (read_frame_bytes f b) x [] after
unfolding read_frame_by
read_by_lem f b v w =
    record { answer = w ∙ ap unframed_answer v.answer; state = refl; buffer = v.buffer ∙ ap (λ (y : Result (ℕ × ℕ) Refusal). read_buffer y (message_in f) b) v.answer }
