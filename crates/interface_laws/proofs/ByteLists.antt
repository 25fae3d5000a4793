-- Lists of bytes: the empty one, one byte more, two joined, zeros, those that a function gives.
use mathlib.Core.List.{List, [], ◌∷◌, ◌++◌}
use mathlib.Core.Bool.{Bool, true, false}
use Prim.Native.Nat.{ℕ, zero, suc, ◌/◌, ◌%◌}
use native.Mathlib.Omega.{arith}
use lib.ListN.{replicate}
use lib.Dec.{lit<}
use Rattle.roundtrip.specs.Fits.{Byte, Bytes}
use Rattle.words.specs.Word.{quad_bytes, word_bytes}
use Rattle.fields.specs.Fields.{half_bytes, flag_byte}
use Rattle.words.specs.Lists.{list_from}

pub bytes_none : Bytes []
bytes_none zero = lit< tt
bytes_none (suc j) = lit< tt

pub bytes_more : (a : ℕ) (l : List ℕ) → Byte a → Bytes l → Bytes (a ∷ l)
bytes_more a l h t zero = h
bytes_more a l h t (suc j) = t j

pub bytes_joined : (a b : List ℕ) → Bytes a → Bytes b → Bytes (a ++ b)
bytes_joined [] b h t = t
bytes_joined (x ∷ a) b h t = bytes_more x (a ++ b) (h 0) (bytes_joined a b (λ j. h (suc j)) t)

pub bytes_zeros : (n : ℕ) → Bytes (replicate n 0)
bytes_zeros zero = bytes_none
bytes_zeros (suc n) = bytes_more 0 (replicate n 0) (lit< tt) (bytes_zeros n)

pub bytes_listed : (f : ℕ → ℕ) → ((v : ℕ) → Byte (f v)) → (i n : ℕ) → Bytes (list_from f i n)
unfolding list_from
bytes_listed f h i zero = bytes_none
bytes_listed f h i (suc n) = bytes_more (f i) (list_from f (suc i) n) (h i) (bytes_listed f h (suc i) n)

-- ---- numbers of several bytes

last : (x : ℕ) → Byte (x % 256)
last x = omega arith

abbrev four_of : ℕ → ℕ → ℕ → ℕ → List ℕ
four_of a b c d = a % 256 ∷ b % 256 ∷ c % 256 ∷ d % 256 ∷ []

four : (a b c d : ℕ) → Bytes (four_of a b c d)
four a b c d zero = last a
four a b c d (suc zero) = last b
four a b c d (suc (suc zero)) = last c
four a b c d (suc (suc (suc zero))) = last d
four a b c d (suc (suc (suc (suc j)))) = bytes_none j

pub half_bytes_lem : (x : ℕ) → Bytes (half_bytes x)
unfolding half_bytes
half_bytes_lem x zero = last (x / 0x100)
half_bytes_lem x (suc zero) = last x
half_bytes_lem x (suc (suc j)) = bytes_none j

pub quad_bytes_lem : (x : ℕ) → Bytes (quad_bytes x)
unfolding quad_bytes
quad_bytes_lem x = four (x / 0x1000000) (x / 0x10000) (x / 0x100) x

pub word_bytes_lem : (x : ℕ) → Bytes (word_bytes x)
unfolding word_bytes
word_bytes_lem x =
    bytes_joined (four_of (x / 0x100000000000000) (x / 0x1000000000000) (x / 0x10000000000) (x / 0x100000000)) (four_of (x / 0x1000000) (x / 0x10000) (x / 0x100) x)
    (four (x / 0x100000000000000) (x / 0x1000000000000) (x / 0x10000000000) (x / 0x100000000)) (four (x / 0x1000000) (x / 0x10000) (x / 0x100) x)

pub flag_byte_lem : (b : Bool) → Byte (flag_byte b)
flag_byte_lem true = lit< tt
flag_byte_lem false = lit< tt
