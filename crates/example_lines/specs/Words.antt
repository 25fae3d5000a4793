-- The lines of the stored examples. A line ends at a line feed. It is a word and its arguments, one space before each. A number is decimal digits; a
-- mask and the bits of a float are hexadecimal ones, with capital letters.
use Rattle.std.specs.Prelude.{ℕ, ◌+◌, ◌-◌, ◌*◌, ◌^◌, cond, ◌&&◌, List, [], ◌∷◌, take, drop, ◌==◌, nat_le, nat_lt, slice_index}
use Prim.Native.Char.{code}
use Rattle.std.specs.List.{position_or_len}

-- where the line ends that begins at an offset of a text: at its line feed, or at the text's end
abbrev pub line_end : List ℕ → ℕ → ℕ
line_end s from = from + position_or_len (λ b. b == (code "\n")) (drop from s)

-- and that line, without its line feed
abbrev pub line_at : List ℕ → ℕ → List ℕ
line_at s from = take (position_or_len (λ b. b == (code "\n")) (drop from s)) (drop from s)

-- how many spaces a byte is, and a line has
unfoldable pub space_of : ℕ → ℕ
space_of b = cond (b == (code " ")) 1 0

unfoldable pub spaces_in : List ℕ → ℕ
spaces_in [] = 0
spaces_in (b ∷ s) = space_of b + spaces_in s

-- the line from the word on that stands behind k spaces
unfoldable pub word_from : ℕ → List ℕ → List ℕ
word_from k [] = []
word_from k (b ∷ s) = cond (k == 0) (b ∷ s) (word_from (k - space_of b) s)

-- a byte from there on, or 0 past the end
abbrev pub letter_in : ℕ → ℕ → List ℕ → ℕ
letter_in k j s = slice_index (word_from k s) j

-- the value of a hexadecimal digit, and 16 of any other byte
unfoldable pub digit_of : ℕ → ℕ
digit_of b = cond (nat_le (code "0") b && nat_le b (code "9")) (b - code "0") (cond (nat_le (code "A") b && nat_le b (code "F")) (b - code "A" + 10) 16)

-- n with one digit more; one for which 64 bits have no room is left out
unfoldable pub longer : ℕ → ℕ → ℕ → ℕ
longer base n d = cond (nat_lt (n * base + d) (2 ^ 64)) (n * base + d) n

-- the number that digits make behind those of n, up to the first other byte
unfoldable pub number_from : ℕ → ℕ → List ℕ → ℕ
number_from base n [] = n
number_from base n (b ∷ s) = cond (nat_lt (digit_of b) base) (number_from base (longer base n (digit_of b)) s) n

-- the decimal number, and the hexadecimal one, that stand behind k spaces
abbrev pub number_in : ℕ → List ℕ → ℕ
number_in k s = number_from 10 0 (word_from k s)

abbrev pub bits_in : ℕ → List ℕ → ℕ
bits_in k s = number_from 16 0 (word_from k s)
