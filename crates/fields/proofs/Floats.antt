-- Laws of the bits of an f64.
use mathlib.Core.Path.{◌≡◌, refl, sym, ap, ◌∙◌, subst}
use mathlib.Core.Bool.{Bool, true, false, not, true≢false}
use Prim.Native.Nat.{ℕ}
use lib.Dec.{T}
use lib.Ieee.{Float, nan, inf, fin, binary64, eq, ne, is_nan, to_bits, of_bits, nan_bits}
use lib.Ieee.Bits.{nan_bits_is}
use lib.Ieee.Compare.{differs_from_itself}

pub self_number : (x : Float) → eq x x ≡ true → T (not (is_nan x))
unfolding eq is_nan
self_number nan h = true≢false (sym h)
self_number (inf s) h = tt
self_number (fin s m e) h = tt

pub self_nan : (x : Float) → eq x x ≡ false → 0x7ff8_0000_0000_0000 ≡ to_bits binary64 x
unfolding ne to_bits
self_nan x h =
    let is : x ≡ nan = differs_from_itself x (subst (λ (b : Bool). T (not b)) (sym h) tt) in
    ap (to_bits binary64) (sym is)

only_nan : (x : Float) → is_nan x ≡ true → nan ≡ x
unfolding is_nan
only_nan nan h = refl
only_nan (inf s) h = absurd (true≢false (sym h))
only_nan (fin s m e) h = absurd (true≢false (sym h))

pub bits_nan : (b : ℕ) → nan_bits binary64 b ≡ true → nan ≡ of_bits binary64 b
bits_nan b h = only_nan (of_bits binary64 b) (sym (nan_bits_is binary64 b) ∙ h)

pub bits_number : (b : ℕ) → nan_bits binary64 b ≡ false → T (not (nan_bits binary64 b))
bits_number b h = subst (λ (t : Bool). T (not t)) (sym h) tt
