-- The first usable response, as the code looks for it: by the mask of the state's moves.
use Rattle.std.specs.Prelude.{ℕ, List, Bool, length, get_or, Option}
use Rattle.bits.specs.Bit.{bit, least}

-- whether the response at an index of the queue q is one of the moves
unfoldable pub is_usable : ℕ → List ℕ → ℕ → Bool
is_usable moves q i = bit moves (get_or q i 0)

-- the first such index
abbrev pub first_among : ℕ → List ℕ → Option ℕ
first_among moves q = least (is_usable moves q) (length q)
