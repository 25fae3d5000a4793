-- Masks of events and of modules. Document 01, "Plan records": "Bit e of a mask stands for event e."
use Rattle.std.specs.Prelude.{ℕ, zero, suc, ◌+◌, ◌-◌, ◌/◌, ◌%◌, ◌^◌, Bool, true, false, cond, not, ◌&&◌, ◌||◌, eqb, ltb, Option, Some, None}
use Rattle.std.specs.Int.Bits.{bit_and, bit_or}

-- bit e of the mask m
unfoldable pub bit : ℕ → ℕ → Bool
bit m e = eqb (m / 2 ^ e % 2) 1

-- the test p holds at every number below n
unfoldable pub all_below : (ℕ → Bool) → ℕ → Bool
all_below p zero = true
all_below p (suc n) = p n && all_below p n

-- every event of the mask m, of 64 bits, passes the test p
abbrev pub every_event : ℕ → (ℕ → Bool) → Bool
every_event m p = all_below (λ e. not (bit m e) || p e) 64

-- the mask m, of 64 bits, with bit e on or off; no bit at 64 or above
unfoldable pub put_bit : ℕ → ℕ → Bool → ℕ
put_bit m e on = cond (ltb e 64) (cond on (bit_or m (2 ^ e)) (bit_and m (2 ^ 64 - 1 - 2 ^ e))) m

-- what was found, or else n where the test is passed there
unfoldable pub or_else : Option ℕ → Bool → ℕ → Option ℕ
or_else (Some i) t n = Some i
or_else None true n = Some n
or_else None false n = None

-- the lowest number below n that passes the test p
unfoldable pub least : (ℕ → Bool) → ℕ → Option ℕ
least p zero = None
least p (suc n) = or_else (least p n) (p n) n

-- "cyclically after the last served": the k-th of the 16 modules after it, counted from 0
unfoldable pub module_after : ℕ → ℕ → ℕ
module_after last k = (last + suc k) % 16

-- some number below n passes the test p
unfoldable pub some_below : (ℕ → Bool) → ℕ → Bool
some_below p zero = false
some_below p (suc n) = p n || some_below p n

-- the mask of the numbers below n that pass the test p
unfoldable pub mask_of : (ℕ → Bool) → ℕ → ℕ
mask_of p zero = 0
mask_of p (suc n) = cond (p n) (bit_or (mask_of p n) (2 ^ n)) (mask_of p n)
