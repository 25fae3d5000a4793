-- Document 01, "The two-valve sheet": "A script line is its letter and decimal numbers without leading zeros, one space before each, and a line
-- feed (the last may lack it); any other is 10", and "numbers over 255 are 10". A simulation's reading may be up to 65,535.
use Rattle.std.specs.Prelude.{ℕ, suc, ◌+◌, ◌*◌, ◌-◌, List, [], ◌∷◌, Bool, true, false, cond, not, ◌&&◌, get_or, eqb, leb, Option, Some, None}
use Prim.Native.Char.{code}

abbrev pub digit : ℕ → Bool
digit b = leb (code "0") b && leb b (code "9")

-- the number that bytes make behind the digits of n, if all are digits
unfoldable pub number_from : ℕ → List ℕ → Option ℕ
number_from n [] = Some n
number_from n (b ∷ bs) = cond (digit b) (number_from (n * 10 + (b - code "0")) bs) None

-- "without leading zeros": a digit alone, or the first of several, which is not 0
unfoldable pub begins : List ℕ → Bool
begins [] = false
begins (b ∷ []) = true
begins (b ∷ c ∷ bs) = not (eqb b (code "0"))

-- a number over the limit is none
unfoldable pub up_to : ℕ → Option ℕ → Option ℕ
up_to limit (Some n) = cond (leb n limit) (Some n) None
up_to limit None = None

-- "decimal numbers without leading zeros"
unfoldable pub number_up_to : ℕ → List ℕ → Option ℕ
number_up_to limit bs = cond (begins bs) (up_to limit (number_from 0 bs)) None

-- "numbers over 255 are 10"
unfoldable pub number_of : List ℕ → Option ℕ
number_of bs = number_up_to 255 bs

-- the place of the first space, or the length
unfoldable pub space_in : List ℕ → ℕ
space_in [] = 0
space_in (b ∷ bs) = cond (eqb b (code " ")) 0 (suc (space_in bs))

-- the letter and its space
abbrev pub starts : ℕ → List ℕ → Bool
starts l bs = eqb (get_or bs 0 0) l && eqb (get_or bs 1 0) (code " ")
