-- A reading of whole eighths, as the code makes it: the whole number times 0.125.
use Prim.Native.Nat.{ℕ, ◌*◌, ◌^◌, ◌<◌}
use native.Mathlib.Nat.{mul-one, mul_assoc, mul-pos, lt_of_lt_of_le}
use native.Mathlib.Omega.{arith}
use mathlib.Core.Path.{◌≡◌, sym, ap₂, ◌∙◌}
use mathlib.Core.Bool.{Bool, false}
use lib.IntN.{pos}
use lib.Dec.{lit<, lit≤}
use lib.Pow.{shl_lt}
use mir.Syntax.{w16}
use mir.Val.{Fits}
use lib.Ieee.{nan, inf, Float, fin, unlike, binary64, up, down, round, mul, of_int, of_bits}
use lib.Ieee.Exact.{HasValue, round_exact}
use lib.Ieee.Fits.{down_pos}
use lib.Ieee.Scale.{round_same}
use Rattle.litres.specs.Eighths.{eighths}
use Rattle.litres.proofs.Laws.{value_0·125}

-- a / c of n times b / d of 1 / 8 is n / 8
cross : (a c b d n : ℕ) → a * 1 ≡ n * c → b * 8 ≡ 1 * d → a * b * 8 ≡ n * (c * d)
cross a c b d n e f =
    mul_assoc a b 8 ∙ ap₂ (λ (x y : ℕ). x * y) (sym (mul-one a) ∙ e) (f ∙ one d) ∙ mul_assoc n c d
  where
    one : (d : ℕ) → 1 * d ≡ d
    one d = omega arith

product : (x y : Float) (n : ℕ) → HasValue x false n 1 → HasValue y false 1 8 → mul binary64 x y ≡ eighths n
unfolding mul eighths
product nan y n h g = elim h [ ]
product (inf _) y n h g = elim h [ ]
product (fin s m e) nan n h g = elim g [ ]
product (fin s m e) (inf _) n h g = elim g [ ]
product (fin s m e) (fin t k d) n h g =
    ap₂ (λ (a b : Bool). round binary64 (unlike a b) (m * up e * (k * up d)) (down e * down d)) h.0 g.0
    ∙ round_same binary64 false (m * up e * (k * up d)) (down e * down d) n 8 (mul-pos (down_pos e) (down_pos d)) (lit< tt)
    (cross (m * up e) (down e) (k * up d) (down d) n h.1 g.1)

whole : (n : ℕ) → n < 2 ^ 53 → HasValue (of_int binary64 (pos n)) false n 1
unfolding of_int
whole n h = round_exact binary64 false n 1 n 1074 (lit< tt) h (lt_of_lt_of_le (shl_lt 53 1074 h) (lit≤ tt)) (sym (mul-one (n * 2 ^ 1074)))

pub reading_is : (n : ℕ) → Fits w16 n → mul binary64 (of_int binary64 (pos n)) (of_bits binary64 0x3fc0_0000_0000_0000) ≡ eighths n
reading_is n h = product (of_int binary64 (pos n)) (of_bits binary64 0x3fc0_0000_0000_0000) n (whole n (omega arith)) value_0·125
