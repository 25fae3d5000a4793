-- One byte more, as the code takes it.
use Rattle.std.specs.Prelude.{Option}
use Prim.Native.Nat.{ℕ, min, ◌+◌, ◌*◌, ◌-◌, ◌^◌, ◌≤◌, ◌<◌}
use mathlib.Core.Path.{◌≡◌, refl, ap, ◌∙◌}
use mathlib.Core.Bool.{Bool, true, false, cond}
use native.Mathlib.Omega.{arith}
use lib.Dec.{ltb}
use borrow.Author.Tests.{lt-ltb, le-ltb, ltb-true, ltb-false, le-leb, lt-leb, eq-eqb, ne_eqb}
use Rattle.lines.specs.Number.{digit}
use Rattle.length_input.specs.declared.Input.{Input}
use Rattle.length_input.specs.declared.Input.TheVariants.{Empty, Digits, Ended, Misshapen}
use Rattle.length_input.specs.Length.{capped, length_number}
use Rattle.length_input.specs.Input.{first_byte, next_byte, length_of, LengthAs}

-- ---- at most 64 bits

pub capped_low : (x : ℕ) → x < 2 ^ 64 → capped x ≡ x
unfolding capped
capped_low x h = simp (lt-ltb x (2 ^ 64) h)

pub capped_high : (x : ℕ) → 2 ^ 64 ≤ x → capped x ≡ 18446744073709551615
unfolding capped
capped_high x h = simp (le-ltb x (2 ^ 64) h)

pub capped_is : (x : ℕ) → min x 18446744073709551615 ≡ capped x
unfolding capped
capped_is x = go (ltb x (2 ^ 64)) refl
  where
    go : (t : Bool) → ltb x (2 ^ 64) ≡ t → min x 18446744073709551615 ≡ cond t x 18446744073709551615
    go true e = let h = ltb-true x (2 ^ 64) e in omega arith
    go false e = let h = ltb-false x (2 ^ 64) e in omega arith

-- ---- digits

module _ (b : ℕ) where
  pub is_digit : 48 ≤ b → b ≤ 57 → digit b ≡ true
  is_digit h k = simp (le-leb 48 b h, le-leb b 57 k)

  pub digit_low : b < 48 → digit b ≡ false
  digit_low h = simp (lt-leb 48 b h)

  pub digit_high : 57 < b → digit b ≡ false
  digit_high h = let k : 48 ≤ b = omega arith in simp (le-leb 48 b k, lt-leb b 57 h)

  -- the first byte
  pub first_none : digit b ≡ false → Misshapen ≡ first_byte b
  unfolding first_byte
  first_none e = simp e

  pub first_digit : {d : ℕ} → digit b ≡ true → d ≡ b - 48 → Digits d ≡ first_byte b
  unfolding first_byte
  first_digit h e = simp h (ap Digits e)

  -- and a later one
  module _ (n : ℕ) where
    pub next_feed : b ≡ 10 → Ended n ≡ next_byte n b
    unfolding next_byte
    next_feed e = simp (eq-eqb b 10 e)

    module _ (f : b ≡ 10 → ⊥) where
      pub next_zero : n ≡ 0 → Misshapen ≡ next_byte n b
      unfolding next_byte
      next_zero e = simp (ne_eqb b 10 f, eq-eqb n 0 e)

      module _ (z : n ≡ 0 → ⊥) where
        pub next_none : digit b ≡ false → Misshapen ≡ next_byte n b
        unfolding next_byte
        next_none e = simp (ne_eqb b 10 f, ne_eqb n 0 z, e)

        pub next_digit : {d m : ℕ} → digit b ≡ true → d ≡ b - 48 → m ≡ capped (n * 10 + d) → Digits m ≡ next_byte n b
        unfolding next_byte
        next_digit h e g = simp (ne_eqb b 10 f, ne_eqb n 0 z, h) (ap Digits (g ∙ ap (λ (y : ℕ). capped (n * 10 + y)) e))

-- ---- the length

pub length_as : (i : Input) {r : Option ℕ} → r ≡ length_of i → LengthAs i r
unfolding length_of
length_as Empty e = record { answer = e; number = ap length_number e }
length_as (Digits n) e = record { answer = e; number = ap length_number e }
length_as (Ended n) e = record { answer = e; number = ap length_number e }
length_as Misshapen e = record { answer = e; number = ap length_number e }
