-- The parts of an answer are found in it, as `pewterslug_number` and the others of include/pewterslug.h take them.
use Rattle.std.specs.Prelude.{ℕ, ◌/◌, ◌%◌, ◌<◌, ◌≡◌}
use Rattle.packing.specs.Answer.{packed}

pub record Parts (n d v s : ℕ) : Type 0 where
  pub number : packed n d v s % 256 ≡ n
  pub did : packed n d v s / 256 % 256 ≡ d
  pub value : packed n d v s / 65536 % 256 ≡ v
  pub other : packed n d v s / 16777216 % 256 ≡ 0
  pub size : packed n d v s / 4294967296 ≡ s % 4294967296

abbrev pub Unpacked : Type 0
Unpacked = (n d v s : ℕ) → n < 256 → d < 256 → v < 256 → Parts n d v s
