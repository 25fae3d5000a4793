-- Laws of a record's bytes in a buffer.
use Rattle.std.specs.Prelude.{Ok, Err}
use Rattle.refusal.specs.Refusal.{refusal}
use mathlib.Core.Path.{◌≡◌, refl, sym, ap, ◌∙◌, subst}
use mathlib.Core.List.{List, [], ◌∷◌, ◌++◌}
use mathlib.Core.Bool.{Bool, true, false}
use Prim.Native.Nat.{ℕ, suc, ◌+◌, ◌≤◌, ◌<◌}
use native.Mathlib.Nat.{zero-add}
use native.Mathlib.Numerals.{add-one}
use native.Mathlib.Omega.{arith}
use lib.ListN.{length, drop}
use lib.Seq.{sets, sets-eq, length-sets}
use borrow.Author.Tests.{lt-ltb, le-ltb}
use Rattle.words.specs.Word.{put_at, word_bytes}
use Rattle.words.proofs.Laws.{put_sets, put_room}
use Rattle.records.specs.Kinds.{body_len, kind_of, size_by, size_of}
use Rattle.records.specs.Bytes.{bytes_of}
use Rattle.records.specs.Range.{in_range}
use Rattle.records.specs.declared.Record.{Record}
use Rattle.records.specs.declared.Record.TheVariants.{Head, Event, Module, ModuleMove, Supervisor, SupervisorMove, Disabling, Step, Marking, End}
use Rattle.writer.specs.Write.{Wrote, answer_of}

pub length_bytes : (r : Record) → length (bytes_of r) ≡ size_of r
unfolding bytes_of word_bytes body_len kind_of
length_bytes (Head m v e) = refl
length_bytes (Event n o c) = refl
length_bytes (Module n st i) = refl
length_bytes (ModuleMove m f e t) = refl
length_bytes (Supervisor n st i a) = refl
length_bytes (SupervisorMove v f e t) = refl
length_bytes (Disabling v st m) = refl
length_bytes (Step e i o x) = refl
length_bytes (Marking m st) = refl
length_bytes End = refl

-- from what the code of `put_record` is told: the case t that the record is
module _ (r : Record) (b : List ℕ) {t : Record} (e : r ≡ t) where
  room : size_of r ≤ length b → length (bytes_of t) ≤ length b
  room h = subst (λ (n : ℕ). n ≤ length b) (sym (length_bytes t ∙ ap size_of (sym e))) h

  pub whole_put : {s : List ℕ} → size_of r ≤ length b → s ≡ put_at (bytes_of t) 0 b → s ≡ sets b 0 (bytes_of r)
  whole_put h w =
      let l = room h in
      w ∙ put_sets (bytes_of t) 0 b (omega arith) ∙ ap (λ (x : Record). sets b 0 (bytes_of x)) (sym e)

-- bytes and then a number's eight bytes
word_put : (q b : List ℕ) (o x : ℕ) {s u : List ℕ} → length q ≡ o → o + 8 ≤ length b → s ≡ put_at q 0 b → u ≡ put_at (word_bytes x) o s → u ≡ sets (sets b 0 q) o (word_bytes x)
word_put q b o x {s} l h w f =
    let z : s ≡ sets b 0 q = w ∙ put_sets q 0 b (omega arith) in
    let n : length s ≡ length b = ap length z ∙ length-sets b 0 q in
    f ∙ put_room s o x (omega arith) ∙ ap (λ (y : List ℕ). sets y o (word_bytes x)) z

module _ (r : Record) (b : List ℕ) {s u : List ℕ} where
  pub supervisor_put : {n st i x : ℕ} → r ≡ Supervisor n st i x → size_of r ≤ length b → s ≡ put_at (0x14 ∷ n ∷ st ∷ i ∷ []) 0 b → u ≡ put_at (word_bytes x) 4 s
      → u ≡ sets b 0 (bytes_of r)
  unfolding bytes_of word_bytes
  supervisor_put {n} {st} {i} {x} e h w f = word_put (0x14 ∷ n ∷ st ∷ i ∷ []) b 4 x refl (room r b e h) w f ∙ ap (λ (y : Record). sets b 0 (bytes_of y)) (sym e)

  pub disabling_put : {v st x : ℕ} → r ≡ Disabling v st x → size_of r ≤ length b → s ≡ put_at (0x16 ∷ v ∷ st ∷ []) 0 b → u ≡ put_at (word_bytes x) 3 s → u ≡ sets b 0 (bytes_of r)
  unfolding bytes_of word_bytes
  disabling_put {v} {st} {x} e h w f = word_put (0x16 ∷ v ∷ st ∷ []) b 3 x refl (room r b e h) w f ∙ ap (λ (y : Record). sets b 0 (bytes_of y)) (sym e)

  pub step_put : {v i o x : ℕ} → r ≡ Step v i o x → size_of r ≤ length b → s ≡ put_at (0x17 ∷ v ∷ i ∷ o ∷ []) 0 b → u ≡ put_at (word_bytes x) 4 s → u ≡ sets b 0 (bytes_of r)
  unfolding bytes_of word_bytes
  step_put {v} {i} {o} {x} e h w f = word_put (0x17 ∷ v ∷ i ∷ o ∷ []) b 4 x refl (room r b e h) w f ∙ ap (λ (y : Record). sets b 0 (bytes_of y)) (sym e)

-- from what the code of `write` is told: its test t of the range, the kind k and the size n of that kind's records
module _ (r : Record) {k n : ℕ} where
  size_of_lem : k ≡ kind_of r → n ≡ size_by k → n ≡ size_of r
  size_of_lem e f = f ∙ ap (λ (x : ℕ). size_by x) e

  pub room_by : {m : ℕ} → k ≡ kind_of r → n ≡ size_by k → n ≤ m → size_of r ≤ m
  room_by {m = m} e f h = subst (λ (x : ℕ). x ≤ m) (size_of_lem e f) h

pub out_by : (r : Record) (b : List ℕ) {t : Bool} → t ≡ in_range r → t ≡ false → Wrote r b (Err (refusal 5 0)) b
unfolding answer_of
out_by r b e f =
    let a : in_range r ≡ false = cc in
    record { answer = simp a; buffer = refl }

module _ (r : Record) (b : List ℕ) {t : Bool} {k n : ℕ} where
  pub short_by : t ≡ in_range r → t ≡ true → k ≡ kind_of r → n ≡ size_by k → length b < n → Wrote r b (Err (refusal 15 0)) b
  unfolding answer_of
  short_by p q e f h =
      let a : in_range r ≡ true = cc in
      let z : length b < size_of r = subst (λ (x : ℕ). length b < x) (size_of_lem r e f) h in
      record { answer = simp (a, lt-ltb (length b) (size_of r) z); buffer = refl }

  pub wrote_by : {s : List ℕ} → t ≡ in_range r → t ≡ true → k ≡ kind_of r → n ≡ size_by k → n ≤ length b → s ≡ sets b 0 (bytes_of r)
      → Wrote r b (Ok n) s
  unfolding answer_of
  wrote_by p q e f h v =
      let a : in_range r ≡ true = cc in
      let d : n ≡ size_of r = size_of_lem r e f in
      let z : size_of r ≤ length b = subst (λ (x : ℕ). x ≤ length b) d h in
      let w : 0 + length (bytes_of r) ≤ length b = omega (arith, length_bytes r) in
      record {
        answer = simp (a, le-ltb (length b) (size_of r) z) (ap Ok d);
        buffer = v ∙ sets-eq (bytes_of r) b 0 w ∙ ap (λ (j : ℕ). bytes_of r ++ drop j b) (zero-add (length (bytes_of r)));
      }
