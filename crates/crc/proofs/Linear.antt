-- Shifts are linear, so that eight shifts of a number are those of its low byte, added to the rest of it: what the table is for.
use mathlib.Core.Path.{◌≡◌, refl, sym, ap, ap₂, ◌∙◌}
use mathlib.Core.Bool.{Bool, true, false, cond}
use Prim.Native.Nat.{ℕ, zero, suc, ◌+◌, ◌*◌, ◌/◌, ◌%◌, ◌^◌, ◌<◌}
use native.Mathlib.Nat.{mod-lt, mul-one, zero-lt-suc}
use native.Mathlib.Omega.{arith}
use lib.Arith.{bin_ind}
use lib.Pow.{split, pow_pos}
use lib.Bits.{bit_xor, differ, xor_step, xor_zero_r, xor_comm, xor_shr, xor_mod, xor_shifted, shifted_half, shifted_even}
use lib.Dec.{eqb}
use Rattle.crc.specs.Crc.{polynomial, shifted, shifts}

two : 0 < 2
two = zero-lt-suc 1

-- ---- bits

differ_assoc : (x y z : ℕ) → x < 2 → y < 2 → z < 2 → differ (differ x y) z ≡ differ x (differ y z)
differ_assoc zero y z a b c = refl
differ_assoc (suc zero) zero z a b c = refl
differ_assoc (suc zero) (suc zero) zero a b c = refl
differ_assoc (suc zero) (suc zero) (suc zero) a b c = refl
differ_assoc (suc zero) (suc zero) (suc (suc z)) a b c = absurd (omega arith)
differ_assoc (suc zero) (suc (suc y)) z a b c = absurd (omega arith)
differ_assoc (suc (suc x)) y z a b c = absurd (omega arith)

xor_bit : (x y : ℕ) → x < 2 → y < 2 → bit_xor x y ≡ differ x y
xor_bit zero y a b = refl
xor_bit (suc zero) zero a b = refl
xor_bit (suc zero) (suc zero) a b = refl
xor_bit (suc zero) (suc (suc y)) a b = absurd (omega arith)
xor_bit (suc (suc x)) y a b = absurd (omega arith)

xor_half : (a b : ℕ) → bit_xor a b / 2 ≡ bit_xor (a / 2) (b / 2)
xor_half a b = xor_shr a b 1

xor_low : (a b : ℕ) → bit_xor a b % 2 ≡ differ (a % 2) (b % 2)
xor_low a b = xor_mod a b 1 ∙ xor_bit (a % 2) (b % 2) (mod-lt a two) (mod-lt b two)

xor_assoc : (a b c : ℕ) → bit_xor (bit_xor a b) c ≡ bit_xor a (bit_xor b c)
xor_assoc =
    bin_ind (λ (n : ℕ). (b c : ℕ) → bit_xor (bit_xor n b) c ≡ bit_xor n (bit_xor b c)) (λ b c. refl)
    (λ n ih b c.
    xor_step (bit_xor n b) c
    ∙ ap₂ (λ (x y : ℕ). bit_xor x (c / 2) * 2 + differ y (c % 2)) (xor_half n b) (xor_low n b)
    ∙ ap₂ (λ (x y : ℕ). x * 2 + y) (ih (b / 2) (c / 2)) (differ_assoc (n % 2) (b % 2) (c % 2) (mod-lt n two) (mod-lt b two) (mod-lt c two))
    ∙ sym (ap₂ (λ (x y : ℕ). bit_xor (n / 2) x * 2 + differ (n % 2) y) (xor_half b c) (xor_low b c))
    ∙ sym (xor_step n (bit_xor b c)))

four : (a b c d : ℕ) → bit_xor (bit_xor a b) (bit_xor c d) ≡ bit_xor (bit_xor a c) (bit_xor b d)
four a b c d =
    xor_assoc a b (bit_xor c d)
    ∙ ap (bit_xor a) (sym (xor_assoc b c d) ∙ ap (λ (x : ℕ). bit_xor x d) (xor_comm b c) ∙ xor_assoc c b d)
    ∙ sym (xor_assoc a c (bit_xor b d))

-- ---- shifts

-- what a bit that goes out adds
poly : ℕ → ℕ
poly d = cond (eqb d 1) polynomial 0

shifted_is : (c : ℕ) → shifted c ≡ bit_xor (c / 2) (poly (c % 2))
unfolding shifted poly
shifted_is c = go (eqb (c % 2) 1)
  where
    go : (b : Bool) → cond b (bit_xor (c / 2) polynomial) (c / 2) ≡ bit_xor (c / 2) (cond b polynomial 0)
    go true = refl
    go false = sym (xor_zero_r (c / 2))

poly_xor : (x y : ℕ) → x < 2 → y < 2 → poly (differ x y) ≡ bit_xor (poly x) (poly y)
unfolding poly
poly_xor zero y a b = refl
poly_xor (suc zero) zero a b = refl
poly_xor (suc zero) (suc zero) a b = refl
poly_xor (suc zero) (suc (suc y)) a b = absurd (omega arith)
poly_xor (suc (suc x)) y a b = absurd (omega arith)

shifted_xor : (a b : ℕ) → shifted (bit_xor a b) ≡ bit_xor (shifted a) (shifted b)
shifted_xor a b =
    shifted_is (bit_xor a b)
    ∙ ap₂ bit_xor (xor_half a b) (ap poly (xor_low a b) ∙ poly_xor (a % 2) (b % 2) (mod-lt a two) (mod-lt b two))
    ∙ four (a / 2) (b / 2) (poly (a % 2)) (poly (b % 2))
    ∙ sym (ap₂ bit_xor (shifted_is a) (shifted_is b))

shifts_xor : (k a b : ℕ) → shifts k (bit_xor a b) ≡ bit_xor (shifts k a) (shifts k b)
unfolding shifts
shifts_xor zero a b = refl
shifts_xor (suc k) a b = ap (shifts k) (shifted_xor a b) ∙ shifts_xor k (shifted a) (shifted b)

shifts_over : (k a : ℕ) → shifts k (a * 2 ^ k) ≡ a
unfolding shifts shifted
shifts_over zero a = mul-one a
shifts_over (suc k) a = ap (shifts k) (simp (shifted_even a k) (shifted_half a k)) ∙ shifts_over k a

-- eight shifts of a number, by its low byte's entry
pub by_entry : (x : ℕ) → shifts 8 x ≡ bit_xor (x / 256) (shifts 8 (x % 256))
by_entry x =
    ap (shifts 8) (sym (xor_shifted (x / 2 ^ 8) 8 (x % 2 ^ 8) (mod-lt x (pow_pos 8)) ∙ split x 8))
    ∙ shifts_xor 8 (x / 2 ^ 8 * 2 ^ 8) (x % 2 ^ 8)
    ∙ ap (λ (y : ℕ). bit_xor y (shifts 8 (x % 2 ^ 8))) (shifts_over 8 (x / 2 ^ 8))
