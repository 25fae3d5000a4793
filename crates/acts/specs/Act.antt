-- The script of the simulation. A line is a letter and decimal numbers without leading zeros, one space before each: `m M` a step of module M,
-- `s V` a step of supervisor V, `d K` the delivery of the K-th message under way, `r M E` a response, `k M N` a tick with a reading of N
-- eighths of a litre, `k M -` a tick where no sensor is fitted. Any other line is misshapen, as are numbers over 255, a reading's over 65,535.
use Rattle.std.specs.Prelude.{ℕ, ◌+◌, ◌≡◌, List, Bool, true, false, cond, ◌&&◌, ◌||◌, length, get_or, take, drop, eqb, Option, Some, None}
use Prim.Native.Char.{code}
use Rattle.lines.specs.declared.Partial.{Partial}
use Rattle.lines.specs.Number.{number_up_to, number_of, space_in, starts}
use Rattle.lines.specs.Partial.{partly, TakenWhole}
use Rattle.script.specs.declared.Line.{Line}
use Rattle.script.specs.declared.Line.TheVariants.{Turn, Response as PairOf, Misshapen as NoPair}
use Rattle.script.specs.Line.{pair_of, given, is_pair}
use Rattle.acts.specs.declared.Act.{Act}
use Rattle.acts.specs.declared.Act.TheVariants.{Module, Supervisor, Delivery, Response, Tick, Unfitted, Misshapen}
use Rattle.acts.specs.declared.Reading.{Reading}
use Rattle.acts.specs.declared.Reading.TheVariants.{Eighths, NoSensor, Misshapen as NoReading}

abbrev pub reading_by : Option ℕ → Reading
reading_by (Some n) = Eighths n
reading_by None = NoReading

-- `N`, up to 65,535 eighths, or `-`
unfoldable pub reading_of : List ℕ → Reading
reading_of bs = cond (eqb (length bs) 1 && eqb (get_or bs 0 0) (code "-")) NoSensor (reading_by (number_up_to 65535 bs))

abbrev pub module_by : Option ℕ → Act
module_by (Some m) = Module m
module_by None = Misshapen

abbrev pub supervisor_by : Option ℕ → Act
supervisor_by (Some v) = Supervisor v
supervisor_by None = Misshapen

abbrev pub delivery_by : Option ℕ → Act
delivery_by (Some k) = Delivery k
delivery_by None = Misshapen

-- the two numbers of a response are those of the listing
abbrev pub response_by : Line → Act
response_by (PairOf m e) = Response m e
response_by (Turn m) = Misshapen
response_by NoPair = Misshapen

abbrev pub tick_by : Option ℕ → Reading → Act
tick_by (Some m) (Eighths n) = Tick m n
tick_by (Some m) NoSensor = Unfitted m
tick_by (Some m) NoReading = Misshapen
tick_by None r = Misshapen

-- `M N` or `M -`
unfoldable pub tick_of : List ℕ → Act
tick_of bs = tick_by (number_of (take (space_in bs) bs)) (reading_of (drop (space_in bs + 1) bs))

-- the bytes of a line without its line feed
unfoldable pub act_of : List ℕ → Act
act_of bs =
    cond (starts (code "m") bs) (module_by (number_of (drop 2 bs)))
    (cond (starts (code "s") bs) (supervisor_by (number_of (drop 2 bs)))
    (cond (starts (code "d") bs) (delivery_by (number_of (drop 2 bs)))
    (cond (starts (code "r") bs) (response_by (pair_of (drop 2 bs)))
    (cond (starts (code "k") bs) (tick_of (drop 2 bs)) Misshapen))))

-- the line so far, as if it ended here
abbrev pub parsed_act : Partial → Act
parsed_act p = partly act_of Misshapen p

-- 10 is "script line misshapen"; 0 for a line
abbrev pub act_number : Act → ℕ
act_number (Module m) = 0
act_number (Supervisor v) = 0
act_number (Delivery k) = 0
act_number (Response m e) = 0
act_number (Tick m n) = 0
act_number (Unfitted m) = 0
act_number Misshapen = 10

-- whether a reading stands there
abbrev pub has_reading : Reading → Bool
has_reading (Eighths n) = true
has_reading NoSensor = true
has_reading NoReading = false

-- whether bytes are `M N` or `M -`, and whether they are a line
unfoldable pub is_tick : List ℕ → Bool
is_tick bs = given (number_of (take (space_in bs) bs)) && has_reading (reading_of (drop (space_in bs + 1) bs))

unfoldable pub is_act : List ℕ → Bool
is_act bs =
    cond (starts (code "m") bs || (starts (code "s") bs || starts (code "d") bs)) (given (number_of (drop 2 bs)))
    (cond (starts (code "r") bs) (is_pair (drop 2 bs)) (starts (code "k") bs && is_tick (drop 2 bs)))

-- the whole answer r: its case with its numbers, and the number of that case, by whether the bytes are a line
pub record ActAs (p : Partial) (r : Act) : Type 0 where
  pub answer : r ≡ parsed_act p
  pub number : act_number r ≡ cond (partly is_act false p) 0 10

-- whatever the bytes of a line are, taking them one after the other and then parsing gives the line
abbrev pub ActTaken : Type 0
ActTaken = TakenWhole act_of Misshapen
