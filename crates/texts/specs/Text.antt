-- A line of output as a value: its bytes from the start of an array of 328, zeros after them, and how many they are.
use Rattle.std.specs.Prelude.{ℕ, ◌+◌, ◌-◌, List, [], ◌∷◌, ◌++◌, cond, length, set, replicate, ltb}
use Rattle.texts.specs.declared.Text.{Text}

-- the text of bytes for which there is room
unfoldable pub text_of : List ℕ → Text
text_of bs = record { bytes = bs ++ replicate (328 - length bs) 0; length = length bs }

-- what the code makes a text of: one with a byte more, if there is room
unfoldable pub pushed : Text → ℕ → Text
pushed t b = cond (ltb t.length 328) (record { bytes = set t.bytes t.length b; length = t.length + 1 }) t

-- and with several more
unfoldable pub appended : Text → List ℕ → Text
appended t [] = t
appended t (b ∷ bs) = appended (pushed t b) bs

-- the text of bytes; of more than 328 the first 328
abbrev pub cut : List ℕ → Text
cut bs = appended (text_of []) bs
