-- A record of a kind and its body: every kind of the table, and every body by its bytes.
use mathlib.Core.Path.{◌≡◌, refl, sym, ap, subst}
use mathlib.Core.List.{List, [], ◌∷◌, ◌++◌}
use mathlib.Core.Bool.{Bool, true, false}
use Prim.Native.Nat.{ℕ, zero, suc, ◌+◌, ◌/◌, ◌%◌, ◌≤◌}
use native.Mathlib.Omega.{arith}
use lib.ListN.{length, get_or, take, drop}
use lib.Dec.{eqb}
use borrow.Author.Tests.{eqb-true}
use Rattle.words.specs.Word.{word_at, word_bytes, append_byte}
use Rattle.words.proofs.Laws.{word_read}
use Rattle.records.specs.Kinds.{body_len, no_len, kind_of}
use Rattle.records.specs.Bytes.{bytes_of}
use Rattle.records.specs.declared.Record.{Record}
use Rattle.records.specs.declared.Record.TheVariants.{Head, Event, Module, ModuleMove, Supervisor, SupervisorMove, Disabling, Step, Marking, End}
use Rattle.records.proofs.Table.{kinds}
use Rattle.reader.specs.Read.{record_of}
use Rattle.roundtrip.specs.Fits.{Byte, Word, Fits, Bytes}

-- from a record to its bytes and back
module _ (t : List ℕ) where
  pub kind_first : (r : Record) → bytes_of r ++ t ≡ kind_of r ∷ (drop 1 (bytes_of r) ++ t)
  unfolding bytes_of kind_of
  kind_first (Head m v e) = refl
  kind_first (Event n o c) = refl
  kind_first (Module n st i) = refl
  kind_first (ModuleMove m f e to) = refl
  kind_first (Supervisor n st i a) = refl
  kind_first (SupervisorMove v f e to) = refl
  kind_first (Disabling v st m) = refl
  kind_first (Step e i o x) = refl
  kind_first (Marking m st) = refl
  kind_first End = refl

  pub body_read_lem : (r : Record) → Fits r → record_of (kind_of r) (drop 1 (bytes_of r) ++ t) ≡ r
  unfolding bytes_of kind_of record_of word_at
  body_read_lem (Head m v e) h = refl
  body_read_lem (Event n o c) h = refl
  body_read_lem (Module n st i) h = refl
  body_read_lem (ModuleMove m f e to) h = refl
  body_read_lem (Supervisor n st i a) h = ap (Supervisor n st i) (word_read a t h.3)
  body_read_lem (SupervisorMove v f e to) h = refl
  body_read_lem (Disabling v st m) h = ap (Disabling v st) (word_read m t h.2)
  body_read_lem (Step e i o x) h = ap (Step e i o) (word_read x t h.3)
  body_read_lem (Marking m st) h = refl
  body_read_lem End h = refl

pub known : (r : Record) → body_len (kind_of r) ≡ no_len → ⊥
unfolding body_len kind_of
known (Head m v e) u = omega arith
known (Event n o c) u = omega arith
known (Module n st i) u = omega arith
known (ModuleMove m f e t) u = omega arith
known (Supervisor n st i a) u = omega arith
known (SupervisorMove v f e t) u = omega arith
known (Disabling v st m) u = omega arith
known (Step e i o x) u = omega arith
known (Marking m st) u = omega arith
known End u = omega arith

-- the eight bytes of the number that eight bytes are, and its size
module _ (s : List ℕ) (o : ℕ) (g : Bytes s) where
  pub word_written : word_bytes (word_at s o)
      ≡ get_or s o 0 ∷ get_or s (o + 1) 0 ∷ get_or s (o + 2) 0 ∷ get_or s (o + 3) 0 ∷ get_or s (o + 4) 0 ∷ get_or s (o + 5) 0 ∷ get_or s (o + 6) 0 ∷ get_or s (o + 7) 0 ∷ []
  unfolding word_bytes word_at
  word_written = digits (g o) (g (o + 1)) (g (o + 2)) (g (o + 3)) (g (o + 4)) (g (o + 5)) (g (o + 6)) (g (o + 7))
    where
      digits : {a b c d e f h i : ℕ} → Byte a → Byte b → Byte c → Byte d → Byte e → Byte f → Byte h → Byte i
          → word_bytes (append_byte (append_byte (append_byte (append_byte (append_byte (append_byte (append_byte a b) c) d) e) f) h) i) ≡ a ∷ b ∷ c ∷ d ∷ e ∷ f ∷ h ∷ i ∷ []
      digits {a} {b} {c} {d} {e} {f} {h} {i} la lb lc ld le lf lh li =
          let x : ℕ = append_byte (append_byte (append_byte (append_byte (append_byte (append_byte (append_byte a b) c) d) e) f) h) i in
          let ea : x / 0x100000000000000 % 256 ≡ a = omega arith in
          let eb : x / 0x1000000000000 % 256 ≡ b = omega arith in
          let ec : x / 0x10000000000 % 256 ≡ c = omega arith in
          let ed : x / 0x100000000 % 256 ≡ d = omega arith in
          let ee : x / 0x1000000 % 256 ≡ e = omega arith in
          let ef : x / 0x10000 % 256 ≡ f = omega arith in
          let eh : x / 0x100 % 256 ≡ h = omega arith in
          let ei : x % 256 ≡ i = omega arith in
          cc

  pub word_small : Word (word_at s o)
  unfolding word_at
  word_small = omega (arith, g o, g (o + 1), g (o + 2), g (o + 3), g (o + 4), g (o + 5), g (o + 6), g (o + 7))

-- the first n elements, one by one
abbrev firsts : ℕ → (ℕ → ℕ) → List ℕ
firsts zero f = []
firsts (suc n) f = f 0 ∷ firsts n (λ j. f (suc j))

taken : (n : ℕ) (b : List ℕ) → n ≤ length b → take n b ≡ firsts n (λ j. get_or b j 0)
taken zero b h = refl
taken (suc n) [] h = absurd (omega arith)
taken (suc n) (x ∷ b) h = ap (λ (l : List ℕ). x ∷ l) (taken n b (omega arith))

-- from a kind and a body to the record and back
pub record Same (k : ℕ) (b : List ℕ) (r : Record) : Type 0 where
  pub kind : kind_of r ≡ k
  pub bytes : bytes_of r ≡ k ∷ take (body_len k) b
  pub fits : Fits r

pub same : (k : ℕ) (b : List ℕ) → (body_len k ≡ no_len → ⊥) → body_len k ≤ length b → Bytes b → Same k b (record_of k b)
unfolding kind_of bytes_of body_len record_of
same k b u h g =
    kinds (λ k. body_len k ≤ length b → Same k b (record_of k b)) k u
    (λ l. record { kind = refl; bytes = all 0x10 3 l; fits = (g 0, g 1, g 2) })
    (λ l. record { kind = refl; bytes = all 0x11 3 l; fits = (g 0, g 1, g 2) })
    (λ l. record { kind = refl; bytes = all 0x12 3 l; fits = (g 0, g 1, g 2) })
    (λ l. record { kind = refl; bytes = all 0x13 4 l; fits = (g 0, g 1, g 2, g 3) })
    (λ l. record { kind = refl; bytes = rw (word_written b 3 g) (all 0x14 11 l); fits = (g 0, g 1, g 2, word_small b 3 g) })
    (λ l. record { kind = refl; bytes = all 0x15 4 l; fits = (g 0, g 1, g 2, g 3) })
    (λ l. record { kind = refl; bytes = rw (word_written b 2 g) (all 0x16 10 l); fits = (g 0, g 1, word_small b 2 g) })
    (λ l. record { kind = refl; bytes = rw (word_written b 3 g) (all 0x17 11 l); fits = (g 0, g 1, g 2, word_small b 3 g) })
    (λ l. record { kind = refl; bytes = all 0x18 2 l; fits = (g 0, g 1) })
    (λ l. record { kind = refl; bytes = all 0x1f 0 l; fits = tt })
    h
  where
    all : (k n : ℕ) → n ≤ length b → k ∷ firsts n (λ j. get_or b j 0) ≡ k ∷ take n b
    all k n l = ap (λ (t : List ℕ). k ∷ t) (sym (taken n b l))
