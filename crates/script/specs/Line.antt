-- Document 01, "The two-valve sheet": "`t M` is a turn of module M, `r M E` a queued response E. .. A script line is its letter and decimal
-- numbers without leading zeros, one space before each, and a line feed (the last may lack it); any other is 10", and "numbers over 255 are 10".
use Rattle.std.specs.Prelude.{ℕ, ◌+◌, ◌≡◌, List, Bool, true, false, cond, ◌&&◌, take, drop, Option, Some, None}
use Prim.Native.Char.{code}
use Rattle.lines.specs.declared.Partial.{Partial}
use Rattle.lines.specs.Number.{number_of, space_in, starts}
use Rattle.lines.specs.Partial.{partly, TakenWhole}
use Rattle.script.specs.declared.Line.{Line}
use Rattle.script.specs.declared.Line.TheVariants.{Turn, Response, Misshapen}

abbrev pub turn_by : Option ℕ → Line
turn_by (Some m) = Turn m
turn_by None = Misshapen

abbrev pub response_by : Option ℕ → Option ℕ → Line
response_by (Some m) (Some e) = Response m e
response_by (Some m) None = Misshapen
response_by None e = Misshapen

-- `M E`
unfoldable pub pair_of : List ℕ → Line
pair_of bs = response_by (number_of (take (space_in bs) bs)) (number_of (drop (space_in bs + 1) bs))

-- the bytes of a line without its line feed
unfoldable pub line_of : List ℕ → Line
line_of bs =
    cond (starts (code "t") bs) (turn_by (number_of (drop 2 bs)))
    (cond (starts (code "r") bs) (pair_of (drop 2 bs)) Misshapen)

-- the line so far, as if it ended here
abbrev pub parsed_of : Partial → Line
parsed_of p = partly line_of Misshapen p

-- "any other is 10"; 0 for a line
abbrev pub line_number : Line → ℕ
line_number (Turn m) = 0
line_number (Response m e) = 0
line_number Misshapen = 10

-- whether a number stands there
abbrev pub given : Option ℕ → Bool
given (Some n) = true
given None = false

-- whether bytes are `M E`, and whether they are a line
unfoldable pub is_pair : List ℕ → Bool
is_pair bs = given (number_of (take (space_in bs) bs)) && given (number_of (drop (space_in bs + 1) bs))

unfoldable pub is_line : List ℕ → Bool
is_line bs = cond (starts (code "t") bs) (given (number_of (drop 2 bs))) (starts (code "r") bs && is_pair (drop 2 bs))

-- the whole answer r: its case with its numbers, and the number of that case, 0 if shaped, else 10
pub record LineAs (line : Line) (shaped : Bool) (r : Line) : Type 0 where
  pub answer : r ≡ line
  pub number : line_number r ≡ cond shaped 0 10

-- whatever the bytes of a line are, taking them one after the other and then parsing gives the line
abbrev pub LineTaken : Type 0
LineTaken = TakenWhole line_of Misshapen
