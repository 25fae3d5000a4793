-- Numbers and bytes in hexadecimal digits, as they are printed.
use Rattle.std.specs.Prelude.{ℕ, zero, suc, ◌/◌, ◌%◌, List, [], ◌∷◌, ◌++◌}
use Prim.Native.Char.{code}
use Rattle.lines.specs.Hex.{hex_digit}

-- the last k digits of a number
unfoldable pub hex_digits : ℕ → ℕ → List ℕ
hex_digits zero x = []
hex_digits (suc k) x = hex_digits k (x / 16) ++ (hex_digit (x % 16) ∷ [])

-- each byte by two digits
unfoldable pub hexes : List ℕ → List ℕ
hexes [] = []
hexes (b ∷ bs) = hex_digits 2 b ++ hexes bs

-- a buffer's bytes, or `-` for none
unfoldable pub buffer_text : List ℕ → List ℕ
buffer_text [] = code "-" ∷ []
buffer_text (b ∷ bs) = hexes (b ∷ bs)
