-- Litres as whole numbers of eighths. Document 01, "Plan records", operation 4: "wait litres (f64 bits, a multiple of 1/8 from 0.125
-- to 131,072)"; "Procedures and water": "Litres are from 0 to 64, a multiple of 1/8, not minus zero, infinite or NaN".
use Rattle.std.specs.Prelude.{ℕ, ◌*◌, ◌/◌, ◌%◌, ◌^◌, Bool, false, not, ◌&&◌, leb, eqb, Float}
use Rattle.std.specs.Float.{nan, inf, fin, binary64}
use Rattle.std.specs.Float.Ieee.{up, down, round, of_bits}

-- the f64 nearest to n / 8, which is n / 8 itself below 2 ^ 53 (`value` of `proofs/Laws.antt`)
unfoldable pub eighths : ℕ → Float
unfolding round
eighths n = round binary64 false n 8

-- x is n / 8 or minus n / 8 for a whole number n
abbrev pub finite_eighths : Float → Bool
finite_eighths nan = false
finite_eighths (inf s) = false
finite_eighths (fin s m e) = eqb (m * up e * 8 % down e) 0

-- x is n / 8 for a whole number n, with the sign clear: no NaN, no infinity, no minus zero. `fin s m e` is the finite f64 m * 2 ^ e, negative where s
-- is true; 2 ^ e is the fraction up e / down e.
unfoldable pub is_eighths : Float → Bool
is_eighths nan = false
is_eighths (inf s) = false
is_eighths (fin s m e) = not s && eqb (m * up e * 8 % down e) 0

-- the number of whole eighths in a finite value, rounded down, and 0 for others; the sign is not looked at
unfoldable pub count : Float → ℕ
count nan = 0
count (inf s) = 0
count (fin s m e) = m * up e * 8 / down e

-- a reading in litres: from 0 to 64, in eighths
abbrev pub litres_ok : Float → Bool
litres_ok x = is_eighths x && leb (count x) 512

-- the bits of a target: from 0.125 to 131,072 litres, in eighths
abbrev pub target_ok : ℕ → Bool
target_ok b = is_eighths (of_bits binary64 b) && leb 1 (count (of_bits binary64 b)) && leb (count (of_bits binary64 b)) (2 ^ 20)
