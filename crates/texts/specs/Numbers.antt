-- Numbers in decimal, as they are printed behind a word.
use Rattle.std.specs.Prelude.{ℕ, List, [], ◌∷◌, ◌++◌}
use Prim.Native.Char.{code}
use Rattle.texts.specs.Ascii.{decimal}

-- a number with the space before it
abbrev pub spaced : ℕ → List ℕ
spaced n = code " " ∷ decimal n

-- several, each with its own
unfoldable pub spaced_all : List ℕ → List ℕ
spaced_all [] = []
spaced_all (n ∷ ns) = spaced n ++ spaced_all ns
