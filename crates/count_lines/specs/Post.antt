-- What the private functions of this crate leave. Steps of the proof: they need not be read.
use Rattle.std.specs.Prelude.{ℕ, ◌+◌, ◌≤◌, ◌<◌, ◌≡◌, List, ◌++◌, length, drop, Option, Some, None}
use Rattle.count_lines.specs.Lines.{number_line}

-- the length of a text, if there is room for it
pub data Measures (text : List ℕ) (room : ℕ) : Option ℕ → Type 0 where
  too_long : room < length text → Measures text room None
  fitting : {n : ℕ} → length text ≤ room → n ≡ length text → Measures text room (Some n)

-- the line of x from r up to the end in the buffer b; what stands before it is not told
pub record Puts (x end : ℕ) (b : List ℕ) (r : ℕ) (b' : List ℕ) : Type 0 where
  pub start : r + length (number_line x) ≡ end
  pub line : drop r b' ≡ number_line x ++ drop end b
  pub size : length b' ≡ length b
