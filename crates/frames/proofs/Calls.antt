-- The answers of the two calls, from what their code is told.
use Rattle.std.specs.Prelude.{Ok, Err}
use Rattle.refusal.specs.Refusal.{refusal}
use mathlib.Core.Path.{◌≡◌, refl, sym, ap, ◌∙◌}
use mathlib.Core.List.{List}
use Prim.Native.Nat.{ℕ, zero, suc, ◌+◌, ◌-◌, ◌≤◌, ◌<◌}
use native.Mathlib.Omega.{arith}
use lib.ListN.{length}
use borrow.Author.Tests.{lt-ltb, le-ltb}
use Rattle.words.specs.Word.{put_at, written}
use Rattle.messages.proofs.Writing.{put_start}
use Rattle.frames.specs.Frame.{frame_of, write_number, address_in, message_in, read_number}
use Rattle.frames.specs.Calls.{framed_by, write_answer, write_buffer, FramedAs, unframed_by, read_answer, read_buffer, UnframedAs}
use Rattle.frames.proofs.Frame.{length_frame}

-- ---- writing

framed_refused : (n : ℕ) (f b : List ℕ) → (n ≡ 0 → ⊥) → Err (refusal n 0) ≡ framed_by n f b
unfolding framed_by
framed_refused zero f b h = absurd (h refl)
framed_refused (suc n) f b h = refl

framed_short : (f b : List ℕ) → length b < length f → Err (refusal 15 0) ≡ framed_by 0 f b
unfolding framed_by
framed_short f b l = simp (lt-ltb (length b) (length f) l)

framed_whole : (f b : List ℕ) → length f ≤ length b → Ok (length f) ≡ framed_by 0 f b
unfolding framed_by
framed_whole f b l = simp (le-ltb (length b) (length f) l)

module _ (a : ℕ) (g b : List ℕ) {n : ℕ} (e : n ≡ write_number a g) where
  -- the number that the answer is made of
  by_number : {k : ℕ} → n ≡ k → framed_by k (frame_of a g) b ≡ write_answer a g b
  by_number h = ap (λ (x : ℕ). framed_by x (frame_of a g) b) (sym h ∙ e)

  pub not_written : (n ≡ 0 → ⊥) → FramedAs a g b (Err (refusal n 0)) b
  unfolding write_buffer
  not_written h = record { answer = framed_refused n (frame_of a g) b h ∙ by_number refl; buffer = refl }

  no_room : n ≡ 0 → length b < length g + 4 → FramedAs a g b (Err (refusal 15 0)) b
  unfolding write_buffer
  no_room h l = record { answer = framed_short (frame_of a g) b (omega (arith, length_frame a g)) ∙ by_number h; buffer = refl }

  pub no_room_4 : n ≡ 0 → length b < 4 → FramedAs a g b (Err (refusal 15 0)) b
  no_room_4 h l = no_room h (omega arith)

  pub no_room_behind : n ≡ 0 → 4 ≤ length b → length b - 4 < length g → FramedAs a g b (Err (refusal 15 0)) b
  no_room_behind h k l = no_room h (omega arith)

  pub frame_written : {after : List ℕ} → n ≡ 0 → 4 ≤ length b → length g ≤ length b - 4 → after ≡ written (frame_of a g) b → FramedAs a g b (Ok (length g + 4)) after
  unfolding write_buffer
  frame_written h k l p =
      record {
        answer = ap Ok (sym (length_frame a g)) ∙ framed_whole (frame_of a g) b (omega (arith, length_frame a g)) ∙ by_number h;
        buffer = p;
      }

-- ---- reading

unframed_refused : (n a : ℕ) (g b : List ℕ) → (n ≡ 0 → ⊥) → Err (refusal n 0) ≡ unframed_by n a g b
unfolding unframed_by
unframed_refused zero a g b h = absurd (h refl)
unframed_refused (suc n) a g b h = refl

unframed_short : (a : ℕ) (g b : List ℕ) → length b < length g → Err (refusal 15 0) ≡ unframed_by 0 a g b
unfolding unframed_by
unframed_short a g b l = simp (lt-ltb (length b) (length g) l)

unframed_whole : (a : ℕ) (g b : List ℕ) → length g ≤ length b → Ok (a, length g) ≡ unframed_by 0 a g b
unfolding unframed_by
unframed_whole a g b l = simp (le-ltb (length b) (length g) l)

module _ (f b : List ℕ) {n : ℕ} (e : n ≡ read_number f) where
  pub not_read : (n ≡ 0 → ⊥) → UnframedAs f b (Err (refusal n 0)) b
  unfolding read_buffer
  not_read h =
      record {
        answer = unframed_refused n (address_in f) (message_in f) b h ∙ ap (λ (x : ℕ). unframed_by x (address_in f) (message_in f) b) e;
        buffer = refl;
      }

  module _ {g : List ℕ} (m : g ≡ message_in f) (h : n ≡ 0) where
    -- the number and the message that the answer is made of
    by_message : unframed_by 0 (address_in f) g b ≡ read_answer f b
    by_message = ap (λ (x : List ℕ). unframed_by 0 (address_in f) x b) m ∙ ap (λ (x : ℕ). unframed_by x (address_in f) (message_in f) b) (sym h ∙ e)

    pub no_room_message : length b < length g → UnframedAs f b (Err (refusal 15 0)) b
    unfolding read_buffer
    no_room_message l = record { answer = unframed_short (address_in f) g b l ∙ by_message; buffer = refl }

    pub message_read : {a : ℕ} {after : List ℕ} → a ≡ address_in f → length g ≤ length b → after ≡ put_at g 0 b → UnframedAs f b (Ok (a, length g)) after
    unfolding read_buffer
    message_read k l p =
        record {
          answer = ap (λ (x : ℕ). (Ok (x, length g))) k ∙ unframed_whole (address_in f) g b l ∙ by_message;
          buffer = p ∙ put_start g b (le-ltb (length b) (length g) l) ∙ ap (λ (x : List ℕ). written x b) m;
        }
