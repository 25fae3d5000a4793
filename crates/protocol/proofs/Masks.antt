-- A mask's bits after one is put on or off, and of the union of two masks.
use Prim.Native.Nat.{ℕ, ◌+◌, ◌^◌, ◌≤◌, ◌<◌}
use native.Mathlib.Nat.{add-zero}
use native.Mathlib.Decide.{ℕ_discrete, dec_lt}
use native.Mathlib.Omega.{arith}
use mathlib.Core.Path.{◌≡◌, refl, sym, ap, ◌∙◌}
use mathlib.Core.Logic.{◌⊎◌, inl, inr}
use mathlib.Core.Bool.{Bool, true, false, ◌||◌}
use lib.Dec.{eqb}
use lib.Bits.{bit_or}
use borrow.Author.Tests.{ne_eqb, lt-ltb}
use Rattle.bits.specs.Bit.{bit, put_bit}
use Rattle.bits.proofs.Laws.{bit_or_lem, bit_pow, bit_above, put_bits, put_fits}
use Rattle.protocol.proofs.Tools.{eqb_self, digit, digit_true}

-- ---- a bit put on
on_bits : (k i j : ℕ) → i < 64 → bit (put_bit k i true) j ≡ (bit k j || eqb j i)
unfolding put_bit
on_bits k i j h = rw (lt-ltb i 64 h) (bit_or_lem k (2 ^ i) j ∙ ap (λ (b : Bool). bit k j || b) (bit_pow i j))

pub put_on : (k i j : ℕ) → i < 64 → bit k i ≡ false → digit (bit (put_bit k i true) j) ≡ digit (bit k j) + digit (eqb i j)
put_on k i j h e = go (ℕ_discrete i j)
  where
    go : Dec (i ≡ j) → digit (bit (put_bit k i true) j) ≡ digit (bit k j) + digit (eqb i j)
    go (yes p) = rw (← p) (rw (on_bits k i i h, e, eqb_self i))
    go (no q) = rw (on_bits k i j h, ne_eqb i j q, ne_eqb j i (λ r. q (sym r))) (rest (bit k j))
      where
        rest : (b : Bool) → digit (b || false) ≡ digit b + 0
        rest true = refl
        rest false = refl

pub put_self : (k i : ℕ) → i < 64 → bit k i ≡ false → bit (put_bit k i true) i ≡ true
put_self k i h e = digit_true (bit (put_bit k i true) i) (omega (arith, put_on k i i h e, ap digit (eqb_self i)))

pub put_keep : (k i j : ℕ) → i < 64 → bit k i ≡ false → bit k j ≡ true → bit (put_bit k i true) j ≡ true
put_keep k i j h e b = digit_true (bit (put_bit k i true) j) (omega (arith, put_on k i j h e, ap digit b))

pub put_cases : (k i j : ℕ) → i < 64 → bit k i ≡ false → bit (put_bit k i true) j ≡ true → (i ≡ j) ⊎ (bit k j ≡ true)
put_cases k i j h e b = go (ℕ_discrete i j)
  where
    go : Dec (i ≡ j) → (i ≡ j) ⊎ (bit k j ≡ true)
    go (yes p) = inl p
    go (no q) = inr (digit_true (bit k j) (omega (arith, put_on k i j h e, ap digit b, ap digit (ne_eqb i j q))))

-- ---- a bit put off
pub put_off : (k i j : ℕ) → k < 2 ^ 64 → i < 64 → bit k i ≡ true → digit (bit (put_bit k i false) j) + digit (eqb i j) ≡ digit (bit k j)
put_off k i j f h e = go (dec_lt j 64) (ℕ_discrete i j)
  where
    go : Dec (j < 64) → Dec (i ≡ j) → digit (bit (put_bit k i false) j) + digit (eqb i j) ≡ digit (bit k j)
    go (yes l) (yes p) = rw (← p) (rw (put_bits k i false i f h h, e, eqb_self i))
    go (yes l) (no q) = rw (put_bits k i false j f h l, ne_eqb i j q, ne_eqb j i (λ r. q (sym r))) (add-zero (digit (bit k j)))
    go (no l) (yes p) = absurd (l (rw (← p) h))
    go (no l) (no q) =
        let o : 64 ≤ j = omega arith in
        rw (bit_above 64 (put_bit k i false) j (put_fits k i false f) o, bit_above 64 k j f o, ne_eqb i j q)

-- ---- the union of two masks
pub or_left : (a b e : ℕ) → bit a e ≡ true → bit (bit_or a b) e ≡ true
or_left a b e h = bit_or_lem a b e ∙ ap (λ (x : Bool). x || bit b e) h

pub or_right : (a b e : ℕ) → bit b e ≡ true → bit (bit_or a b) e ≡ true
or_right a b e h = bit_or_lem a b e ∙ ap (λ (x : Bool). bit a e || x) h ∙ last (bit a e)
  where
    last : (x : Bool) → (x || true) ≡ true
    last true = refl
    last false = refl

pub or_cases : (a b e : ℕ) → bit (bit_or a b) e ≡ true → (bit a e ≡ true) ⊎ (bit b e ≡ true)
or_cases a b e h = go (bit a e) refl
  where
    go : (x : Bool) → bit a e ≡ x → (bit a e ≡ true) ⊎ (bit b e ≡ true)
    go true p = inl p
    go false p = inr (sym (bit_or_lem a b e ∙ ap (λ (x : Bool). x || bit b e) p) ∙ h)
