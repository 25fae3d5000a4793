-- The fields of a state in its bytes, as include/pewterslug.h lays them out; the quotations are from it. "Multi-byte values in states, messages and
-- plans are big-endian." Bytes past the end count as 0.
use Rattle.std.specs.Prelude.{ℕ, zero, suc, ◌+◌, ◌/◌, ◌%◌, ◌≡◌, List, [], ◌∷◌, Bool, false, cond, not, get_or, T, eqb, ltb, Float}
use Rattle.std.specs.Float.{binary64}
use Rattle.std.specs.Float.Ieee.{to_bits, of_bits, nan_bits, fits, is_nan}
use Rattle.words.specs.Word.{append_byte, word_at, word_bytes}

-- the n bytes at an offset
unfoldable pub bytes_from : List ℕ → ℕ → ℕ → List ℕ
bytes_from s o zero = []
bytes_from s o (suc n) = get_or s o 0 ∷ bytes_from s (suc o) n

-- a number of two bytes and the number that the two bytes at an offset are
unfoldable pub half_bytes : ℕ → List ℕ
half_bytes x = x / 0x100 % 256 ∷ x % 256 ∷ []

unfoldable pub half_at : List ℕ → ℕ → ℕ
half_at s o = append_byte (get_or s o 0) (get_or s (o + 1) 0)

-- a flag: "1 while .., else 0"
abbrev pub flag_byte : Bool → ℕ
flag_byte b = cond b 1 0

abbrev pub flag_of : ℕ → Bool
flag_of x = eqb x 1

-- "a flag other than 0 and 1 .. stand for no state"
abbrev pub is_flag : ℕ → Bool
is_flag x = ltb x 2

-- "f64 bits"
abbrev pub float_bytes : Float → List ℕ
float_bytes x = word_bytes (to_bits binary64 x)

abbrev pub float_at : List ℕ → ℕ → Float
float_at s o = of_bits binary64 (word_at s o)

-- "f64 bits of a NaN stand for no state"
abbrev pub is_float : List ℕ → ℕ → Bool
is_float s o = not (nan_bits binary64 (word_at s o))

-- a number that an f64 can be
pub record Number (x : Float) : Type 0 where
  pub fit : T (fits binary64 x)
  pub number : is_nan x ≡ false
