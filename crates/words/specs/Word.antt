-- Bytes put into a list, bytes that are 0, and numbers of four and of eight bytes. Document 01: "Multi-byte values are big-endian".
use Rattle.std.specs.Prelude.{ℕ, ◌+◌, ◌*◌, ◌/◌, ◌%◌, List, [], ◌∷◌, ◌++◌, Bool, true, cond, ◌&&◌, length, get_or, take, drop, eqb, leb}

-- whether every byte is 0
unfoldable pub all_zero : List ℕ → Bool
all_zero [] = true
all_zero (x ∷ s) = eqb x 0 && all_zero s

-- whether there is room for bytes at an offset of a buffer
unfoldable pub fits_at : List ℕ → ℕ → List ℕ → Bool
fits_at bytes at buffer = leb (at + length bytes) (length buffer)

-- the bytes put there, if there is room; else the buffer stays
unfoldable pub put_at : List ℕ → ℕ → List ℕ → List ℕ
put_at bytes at buffer = cond (fits_at bytes at buffer) (take at buffer ++ bytes ++ drop (at + length bytes) buffer) buffer

-- "An accepted call writes its answer from the buffer's start and nothing else."
abbrev pub written : List ℕ → List ℕ → List ℕ
written answer buffer = answer ++ drop (length answer) buffer

-- a number with one byte appended
abbrev pub append_byte : ℕ → ℕ → ℕ
append_byte a b = a * 256 + b

-- the number that the four bytes at an offset are; bytes past the end count as 0
unfoldable pub quad_at : List ℕ → ℕ → ℕ
quad_at s o = append_byte (append_byte (append_byte (get_or s o 0) (get_or s (o + 1) 0)) (get_or s (o + 2) 0)) (get_or s (o + 3) 0)

-- a number's four bytes, the highest first
unfoldable pub quad_bytes : ℕ → List ℕ
quad_bytes x = x / 0x1000000 % 256 ∷ x / 0x10000 % 256 ∷ x / 0x100 % 256 ∷ x % 256 ∷ []

-- the number that the eight bytes at an offset are
unfoldable pub word_at : List ℕ → ℕ → ℕ
word_at s o =
    append_byte (append_byte (append_byte (append_byte (append_byte (append_byte (append_byte (get_or s o 0) (get_or s (o + 1) 0)) (get_or s (o + 2) 0)) (get_or s (o + 3) 0)) (get_or s (o + 4) 0)) (get_or s (o + 5) 0)) (get_or s (o + 6) 0)) (get_or s (o + 7) 0)

-- a number's eight bytes
unfoldable pub word_bytes : ℕ → List ℕ
word_bytes x =
    x / 0x100000000000000 % 256 ∷ x / 0x1000000000000 % 256 ∷ x / 0x10000000000 % 256 ∷ x / 0x100000000 % 256
    ∷ x / 0x1000000 % 256 ∷ x / 0x10000 % 256 ∷ x / 0x100 % 256 ∷ x % 256 ∷ []
