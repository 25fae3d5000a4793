-- The length that `word_counts` reads from standard input, one decimal line (docs/DECISIONS.md, 89), in the form that document 01 gives the numbers of
-- a script: "decimal numbers without leading zeros, .. and a line feed (the last may lack it)". What is no such line is 10.
use Rattle.std.specs.Prelude.{ℕ, ◌-◌, ◌^◌, cond, List, [], ◌∷◌, eqb, ltb, Option, Some, None}
use Prim.Native.Char.{code}
use Rattle.lines.specs.Number.{begins, number_from}

-- a line without its line feed, if it has one at the end
unfoldable pub line_in : List ℕ → List ℕ
line_in [] = []
line_in (b ∷ []) = cond (eqb b (code "\n")) [] (b ∷ [])
line_in (b ∷ c ∷ bs) = b ∷ line_in (c ∷ bs)

-- a number of more than 64 bits is taken as the largest of 64: both are above 40
unfoldable pub capped : ℕ → ℕ
capped x = cond (ltb x (2 ^ 64)) x (2 ^ 64 - 1)

unfoldable pub length_by : Option ℕ → Option ℕ
length_by (Some x) = Some (capped x)
length_by None = None

-- the length that the bytes of the whole input are
unfoldable pub length_in : List ℕ → Option ℕ
length_in bs = cond (begins (line_in bs)) (length_by (number_from 0 (line_in bs))) None

-- document 01, 10: "message or script line misshapen"
abbrev pub length_number : Option ℕ → ℕ
length_number (Some n) = 0
length_number None = 10
