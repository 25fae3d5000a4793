-- What is kept of an input that comes in pieces.
use Rattle.std.specs.Prelude.{ℕ, ◌+◌, ◌*◌, ◌-◌, ◌≡◌, Bool, true, false, cond, not, ◌&&◌, List, [], ◌∷◌, ◌++◌, eqb, Option, Some, None}
use Prim.Native.Char.{code}
use Rattle.lines.specs.Number.{digit}
use Rattle.length_input.specs.declared.Input.{Input}
use Rattle.length_input.specs.declared.Input.TheVariants.{Empty, Digits, Ended, Misshapen}
use Rattle.length_input.specs.Length.{capped, length_in, length_number}

-- no byte yet
abbrev pub begun : Input
begun = Empty

-- the first byte is a digit
unfoldable pub first_byte : ℕ → Input
first_byte b = cond (digit b) (Digits (b - code "0")) Misshapen

-- behind the digits of n comes the line feed, or a digit: "without leading zeros", so none behind 0
unfoldable pub next_byte : ℕ → ℕ → Input
next_byte n b = cond (eqb b (code "\n")) (Ended n) (cond (not (eqb n 0) && digit b) (Digits (capped (n * 10 + (b - code "0")))) Misshapen)

-- one byte more; there is one line
unfoldable pub with_byte : Input → ℕ → Input
with_byte Empty b = first_byte b
with_byte (Digits n) b = next_byte n b
with_byte (Ended n) b = Misshapen
with_byte Misshapen b = Misshapen

unfoldable pub with_bytes : Input → List ℕ → Input
with_bytes i [] = i
with_bytes i (b ∷ bs) = with_bytes (with_byte i b) bs

-- the length, as if the input ended here
unfoldable pub length_of : Input → Option ℕ
length_of Empty = None
length_of (Digits n) = Some n
length_of (Ended n) = Some n
length_of Misshapen = None

-- whether it is one
abbrev pub is_length : Input → Bool
is_length Empty = false
is_length (Digits n) = true
is_length (Ended n) = true
is_length Misshapen = false

-- the answer, and its number by the input alone
pub record LengthAs (i : Input) (r : Option ℕ) : Type 0 where
  pub answer : r ≡ length_of i
  pub number : length_number r ≡ cond (is_length i) 0 10

-- a piece behind another is both in one
abbrev pub InPieces : Type 0
InPieces = (i : Input) (bs cs : List ℕ) → with_bytes (with_bytes i bs) cs ≡ with_bytes i (bs ++ cs)

-- bytes taken one after the other and then read are the length that they are, whatever they are
abbrev pub TakenWhole : Type 0
TakenWhole = (bs : List ℕ) → length_of (with_bytes begun bs) ≡ length_in bs
