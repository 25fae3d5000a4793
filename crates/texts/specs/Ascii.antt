-- The bytes of a quoted text, and of a number in decimal.
use Rattle.std.specs.Prelude.{ℕ, zero, suc, ◌+◌, ◌/◌, ◌%◌, List, [], ◌∷◌, ◌++◌, cond, ltb}
use Prim.Native.Char.{code}
use Prim.Native.String.{String}

-- each character is one byte, its ASCII code
unfoldable pub ascii : String → List ℕ
ascii String.[] = []
ascii (String.◌∷◌ c s) = code c ∷ ascii s

-- the last digits of n, at most k of them: of a number below 10 ^ k all, without leading zeros
unfoldable pub digits : ℕ → ℕ → List ℕ
digits zero n = []
digits (suc k) n = cond (ltb n 10) ((code "0" + n) ∷ []) (digits k (n / 10) ++ ((code "0" + n % 10) ∷ []))

-- "decimal numbers without leading zeros": 20 digits hold every number below 2 ^ 64
abbrev pub decimal : ℕ → List ℕ
decimal n = digits 20 n
