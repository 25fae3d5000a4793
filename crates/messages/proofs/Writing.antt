-- Laws of a message's bytes in a buffer.
use mathlib.Core.Path.{◌≡◌, refl, sym, ap, ◌∙◌}
use mathlib.Core.List.{List, [], ◌∷◌, ◌++◌}
use mathlib.Core.Bool.{Bool, true, false, not}
use Prim.Native.Nat.{ℕ, ◌+◌, ◌-◌, ◌≤◌, ◌<◌}
use native.Mathlib.Nat.{zero-add}
use native.Mathlib.Omega.{arith}
use native.Mathlib.Numerals.{towards_suc}
use lib.ListN.{length, drop}
use lib.Seq.{sets, sets-eq, length-sets}
use borrow.Author.Tests.{ltb-true, ltb-false}
use Rattle.words.specs.Word.{word_bytes}
use Rattle.words.proofs.Laws.{put_room}
use Rattle.messages.specs.Message.{permit_size, message_bytes, fits_at, put_at, short, written}
use Rattle.messages.specs.Write.{Wrote}
use Rattle.messages.specs.declared.Message.{Message}
use Rattle.messages.specs.declared.Message.TheVariants.{Permit}
pub use Rattle.words.proofs.Laws.{fits, fits_not, put_sets, put_not}

-- a message is as long as the case that it is
pub length_as : {g h : Message} → g ≡ h → length (message_bytes g) ≡ length (message_bytes h)
length_as e = ap (λ (x : Message). length (message_bytes x)) e

-- at 0 a message fits that is not too long
pub start_fits : (bytes b : List ℕ) → fits_at bytes 0 b ≡ not (short bytes b)
start_fits bytes b = go (short bytes b) refl
  where
    go : (t : Bool) → short bytes b ≡ t → fits_at bytes 0 b ≡ not t
    go true h = let l : length b < length bytes = ltb-true (length b) (length bytes) h in fits_not bytes 0 b (omega arith)
    go false h = let l : length bytes ≤ length b = ltb-false (length b) (length bytes) h in fits bytes 0 b (omega arith)

-- and is written from the buffer's start
pub put_start : (bytes b : List ℕ) → short bytes b ≡ false → put_at bytes 0 b ≡ written bytes b
put_start bytes b h =
    let l : length bytes ≤ length b = ltb-false (length b) (length bytes) h in
    let w : 0 + length bytes ≤ length b = omega arith in
    put_sets bytes 0 b w ∙ sets-eq bytes b 0 w ∙ ap (λ (j : ℕ). bytes ++ drop j b) (zero-add (length bytes))

pub put_short : (bytes b : List ℕ) → short bytes b ≡ true → put_at bytes 0 b ≡ b
put_short bytes b h =
    let l : length b < length bytes = ltb-true (length b) (length bytes) h in
    put_not bytes 0 b (omega arith)

-- a negated test the other way round
pub turned_round : (s t : Bool) → t ≡ not s → s ≡ not t
turned_round true t e = ap not (sym e)
turned_round false t e = ap not (sym e)

-- from what the code of `put_message` is told: the case h that the message is
module _ (g : Message) (at : ℕ) (b : List ℕ) {h : Message} (e : g ≡ h) where
  pub whole_put : {s : List ℕ} → at + length (message_bytes g) ≤ length b → s ≡ put_at (message_bytes h) at b → s ≡ sets b at (message_bytes g)
  whole_put room w =
      let r : at + length (message_bytes h) ≤ length b = omega (arith, length_as e) in
      w ∙ put_sets (message_bytes h) at b r ∙ ap (λ (x : Message). sets b at (message_bytes x)) (sym e)

pub permit_put : (g : Message) (at : ℕ) (b : List ℕ) {v m k : ℕ} {s t : List ℕ} → g ≡ Permit v m k → at + length (message_bytes g) ≤ length b
    → s ≡ put_at (0x02 ∷ v ∷ m ∷ []) at b → t ≡ put_at (word_bytes k) (at + 3) s → t ≡ sets b at (message_bytes g)
unfolding message_bytes word_bytes
permit_put g at b {v} {m} {k} {s} e room w f =
    let l : length (message_bytes g) ≡ permit_size = length_as e in
    let z : s ≡ sets b at (0x02 ∷ v ∷ m ∷ []) = w ∙ put_sets (0x02 ∷ v ∷ m ∷ []) at b (omega arith) in
    let n : length s ≡ length b = ap length z ∙ length-sets b at (0x02 ∷ v ∷ m ∷ []) in
    f ∙ put_room s (at + 3) k (omega arith) ∙ ap (λ (x : List ℕ). sets x (at + 3) (word_bytes k)) z
    ∙ rw e (simp towards_suc)

-- from what the code of `write` is told: the message's length n
module _ (g : Message) (at : ℕ) (b : List ℕ) {n : ℕ} (e : n ≡ length (message_bytes g)) where
  pub wrote_by : {s : List ℕ} → n ≤ length b → at ≤ length b - n → s ≡ sets b at (message_bytes g) → Wrote g at b true s
  wrote_by h l f =
      let w : at + length (message_bytes g) ≤ length b = omega arith in
      record { answer = sym (fits (message_bytes g) at b w); buffer = f ∙ sym (put_sets (message_bytes g) at b w) }

  far_by : length b < at + length (message_bytes g) → Wrote g at b false b
  far_by h = record { answer = sym (fits_not (message_bytes g) at b h); buffer = sym (put_not (message_bytes g) at b h) }

  pub late_by : n ≤ length b → length b - n < at → Wrote g at b false b
  late_by h l = far_by (omega arith)

  pub long_by : length b < n → Wrote g at b false b
  long_by h = far_by (omega arith)
