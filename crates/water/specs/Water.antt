-- Document 01, "Procedures and water".
use Rattle.std.specs.Prelude.{ℕ, ◌+◌, ◌^◌, ◌<◌, ◌≡◌, Bool, true, cond, ◌&&◌, T, eqb, leb, ltb, Float}
use Rattle.std.specs.Float.{binary64}
use Rattle.std.specs.Float.Ieee.{of_bits, add, le}
use Rattle.litres.specs.Eighths.{eighths, is_eighths, count, litres_ok, target_ok}
use Rattle.water.specs.declared.Water.{Water}
use Rattle.water.specs.declared.Flow.{Flow}
use Rattle.water.specs.declared.Flow.TheVariants.{Litres, NoSensor}

-- "Each tick brings a flow reading: litres, or the word that no sensor is fitted. Litres are from 0 to 64, a multiple of 1/8, not minus
-- zero, infinite or NaN"
unfoldable pub flow_ok : Flow → Bool
flow_ok (Litres x) = litres_ok x
flow_ok NoSensor = true

-- target and total where no litres step runs
abbrev pub no_water : Water
no_water = record { target = eighths 0; total = eighths 0 }

-- "The water total of a running litres step is one small record of target and total"; "The total starts at 0". The target's bits are the
-- plan's; bits that are no target give no water.
unfoldable pub water_of : ℕ → Water
water_of bits = cond (target_ok bits) (record { target = of_bits binary64 bits; total = eighths 0 }) no_water

-- "The total .. equals the exact sum in eighths"; "Without a sensor the total stays."
unfoldable pub added : Water → Flow → Water
added w (Litres x) = record { target = w.target; total = eighths (count w.total + count x) }
added w NoSensor = w

-- "the step ends when it reaches the target"
abbrev pub reached : Water → Bool
reached w = leb (count w.target) (count w.total)

-- "fields not used there 0", by their bits
abbrev pub is_zero : Float → Bool
is_zero x = is_eighths x && eqb (count x) 0

abbrev pub water_zero : Water → Bool
water_zero w = is_zero w.target && is_zero w.total

-- "the target being the plan's and the .. total from 0 to below it, a total a multiple of 1/8 and not minus zero"
abbrev pub running : ℕ → Water → Bool
running bits w =
    target_ok bits && is_eighths w.target && eqb (count w.target) (count (of_bits binary64 bits))
    && is_eighths w.total && ltb (count w.total) (count w.target)

-- ---- the same in f64

-- the f64 sum of total and reading
unfoldable pub sum : Water → Flow → Water
sum w (Litres x) = record { target = w.target; total = add binary64 w.total x }
sum w NoSensor = w

-- the eighths that a reading brings
abbrev pub reading_eighths : Flow → ℕ
reading_eighths (Litres x) = count x
reading_eighths NoSensor = 0

-- r is the water with the reading added in f64, which of a total in eighths is `added`; and there the counts of eighths add up, without
-- rounding, as long as the total is below the largest target
pub record Summed (w : Water) (f : Flow) (r : Water) : Type 0 where
  pub is : r ≡ sum w f
  pub exact : T (is_eighths w.total) → T (flow_ok f) → r ≡ added w f
  pub whole : T (is_eighths w.total) → T (flow_ok f) → count w.total < 2 ^ 20 → count r.total ≡ count w.total + reading_eighths f

-- b tells whether the total is at or above the target in f64, and in eighths that is whether the target is reached
pub record Compared (w : Water) (b : Bool) : Type 0 where
  pub is : b ≡ le w.target w.total
  pub exact : T (is_eighths w.target) → T (is_eighths w.total) → b ≡ reached w
