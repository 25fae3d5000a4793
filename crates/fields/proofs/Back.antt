-- Fields are read back as they were written, and written as they were read.
use mathlib.Core.Path.{◌≡◌, refl, sym, ap, ap₂, ◌∙◌, subst}
use mathlib.Core.List.{List, [], ◌∷◌, ◌++◌}
use mathlib.Core.Bool.{Bool, true, false, not, ◌&&◌, true≢false}
use Prim.Native.Nat.{ℕ, zero, suc, ◌+◌, ◌*◌, ◌/◌, ◌%◌, ◌^◌, ◌<◌}
use native.Mathlib.Nat.{add-zero, add-suc, suc-add, zero-add}
use native.Mathlib.Numerals.{towards_suc}
use native.Mathlib.Omega.{arith}
use lib.ListN.{length, get_or}
use lib.Dec.{T}
use lib.Ieee.{Float, binary64, is_nan, to_bits, of_bits, nan_bits}
use lib.Ieee.Bits.{of_bits-to_bits, to_bits-of_bits, to_bits-lt, nan_bits_is}
use borrow.Author.Tests.{ltb-true, not-true}
use Rattle.roundtrip.specs.Fits.{Byte, Bytes}
use Rattle.roundtrip.proofs.Shape.{word_written, word_small}
use Rattle.words.specs.Word.{quad_at, quad_bytes, word_at, word_bytes, append_byte}
use Rattle.words.proofs.Laws.{word_read}
use Rattle.fields.specs.Fields.{bytes_from, half_bytes, half_at, flag_byte, flag_of, is_flag, float_bytes, float_at, is_float, Number}

-- ---- bytes from an offset

from_cons : (x : ℕ) (b : List ℕ) (o n : ℕ) → bytes_from (x ∷ b) (suc o) n ≡ bytes_from b o n
unfolding bytes_from
from_cons x b o zero = refl
from_cons x b o (suc n) = ap (λ (r : List ℕ). get_or b o 0 ∷ r) (from_cons x b (suc o) n)

pub from_all : (b : List ℕ) → bytes_from b 0 (length b) ≡ b
unfolding bytes_from
from_all [] = refl
from_all (x ∷ b) = ap (λ (r : List ℕ). x ∷ r) (from_cons x b 0 (length b) ∙ from_all b)

pub from_add : (b : List ℕ) (o m n : ℕ) → bytes_from b o (m + n) ≡ bytes_from b o m ++ bytes_from b (o + m) n
unfolding bytes_from
from_add b o zero n = ap₂ (bytes_from b) (sym (add-zero o)) (zero-add n)
from_add b o (suc m) n =
    ap (bytes_from b o) (suc-add m n) ∙ ap (λ (r : List ℕ). get_or b o 0 ∷ r) (from_add b (suc o) m n ∙ ap (λ (k : ℕ). bytes_from b (suc o) m ++ bytes_from b k n) (suc-add o m ∙ sym (add-suc o m)))

-- ---- fields written as they were read

pub and_left : (a b : Bool) → (a && b) ≡ true → a ≡ true
and_left true b h = refl
and_left false b h = h

pub and_right : (a b : Bool) → (a && b) ≡ true → b ≡ true
and_right true b h = h
and_right false b h = absurd (true≢false (sym h))

pub flag_written : (x : ℕ) → is_flag x ≡ true → flag_byte (flag_of x) ≡ x
flag_written zero h = refl
flag_written (suc zero) h = refl
flag_written (suc (suc x)) h = absurd (let l : suc (suc x) < 2 = ltb-true (suc (suc x)) 2 h in omega arith)

module _ (s : List ℕ) (g : Bytes s) (o : ℕ) where
  pub half_written : half_bytes (half_at s o) ≡ bytes_from s o 2
  unfolding half_bytes half_at bytes_from
  half_written = digits (g o) (g (o + 1)) ∙ simp towards_suc
    where
      digits : {a b : ℕ} → Byte a → Byte b → half_bytes (append_byte a b) ≡ a ∷ b ∷ []
      digits {a} {b} p q =
          let d : (a * 256 + b) / 0x100 % 256 ≡ a = omega arith in
          let e : (a * 256 + b) % 256 ≡ b = omega arith in
          simp (d, e)

  pub quad_written : quad_bytes (quad_at s o) ≡ bytes_from s o 4
  unfolding quad_bytes quad_at bytes_from
  quad_written = digits (g o) (g (o + 1)) (g (o + 2)) (g (o + 3)) ∙ simp towards_suc
    where
      digits : {a b c d : ℕ} → Byte a → Byte b → Byte c → Byte d → quad_bytes (append_byte (append_byte (append_byte a b) c) d) ≡ a ∷ b ∷ c ∷ d ∷ []
      digits {a} {b} {c} {d} p q r t =
          let x = ((a * 256 + b) * 256 + c) * 256 + d in
          let e1 : x / 0x1000000 % 256 ≡ a = omega arith in
          let e2 : x / 0x10000 % 256 ≡ b = omega arith in
          let e3 : x / 0x100 % 256 ≡ c = omega arith in
          let e4 : x % 256 ≡ d = omega arith in
          simp (e1, e2, e3, e4)

  pub word_from : word_bytes (word_at s o) ≡ bytes_from s o 8
  unfolding bytes_from
  word_from = word_written s o g ∙ simp towards_suc

  pub float_written : is_float s o ≡ true → float_bytes (float_at s o) ≡ bytes_from s o 8
  float_written h =
      let k : is_nan (float_at s o) ≡ false = sym (nan_bits_is binary64 (word_at s o)) ∙ not-true (nan_bits binary64 (word_at s o)) h in
      ap word_bytes (to_bits-of_bits binary64 (word_at s o) (word_small s o g) (subst (λ (t : Bool). T (not t)) (sym k) tt)) ∙ word_from

-- ---- fields read as they were written

pub flag_read : (r : Bool) → flag_of (flag_byte r) ≡ r
flag_read true = refl
flag_read false = refl

pub flag_is : (r : Bool) → is_flag (flag_byte r) ≡ true
flag_is true = refl
flag_is false = refl

pub half_read : (x : ℕ) (t : List ℕ) → x < 2 ^ 16 → half_at (half_bytes x ++ t) 0 ≡ x
unfolding half_at half_bytes
half_read x t h = omega arith

module _ (x : Float) (n : Number x) where
  float_word : (t : List ℕ) → word_at (float_bytes x ++ t) 0 ≡ to_bits binary64 x
  float_word t = word_read (to_bits binary64 x) t (to_bits-lt binary64 x n.fit)

  pub float_read : (t : List ℕ) → float_at (float_bytes x ++ t) 0 ≡ x
  float_read t = ap (of_bits binary64) (float_word t) ∙ of_bits-to_bits binary64 x n.fit

  pub float_is : (t : List ℕ) → is_float (float_bytes x ++ t) 0 ≡ true
  float_is t = ap not (nan_bits_is binary64 (word_at (float_bytes x ++ t) 0) ∙ ap is_nan (float_read t) ∙ n.number)
