-- A number of whole eighths by its bits. Assumes nothing.
use mathlib.Core.Path.{◌≡◌, refl, sym, ap, ◌∙◌}
use mathlib.Core.Bool.{Bool, true, false, cond, false≢true}
use Prim.Native.Nat.{ℕ, suc, ◌+◌, ◌-◌, ◌*◌, ◌/◌, ◌%◌, ◌^◌, ◌≤◌, ◌<◌}
use native.Mathlib.Nat.{mul-one, mul_comm, mul_assoc, mul_right_comm, mul-div_cancel, mul-mod_left, add-zero, mod-eq_of_lt, mod-lt, lt_of_lt_of_le}
use native.Mathlib.Omega.{arith}
use lib.Arith.{mod-mul}
use lib.Dec.{leb, ltb, eqb, lit<, lit≤}
use lib.Pow.{pow-add, pow_pos, pow_mono}
use lib.Ieee.{Float, nan, inf, fin, binary64, up, down, odd, of_fields, of_bits, is_nan}
use lib.Ieee.Fits.{down_pos}
use lib.Ieee.Exact.{HasValue, odd_sign}
use borrow.Author.Tests.{eq-eqb, ne_eqb, ltb-true, ltb-false}
use Rattle.litres.specs.Eighths.{finite_eighths}
use Rattle.litres.proofs.Laws.{zero_iff}

-- ---- by its value: a / c is whole in eighths where c divides a * 8

scaled : (n m k : ℕ) → 0 < m → 0 < k → n * k % (m * k) ≡ n % m * k
scaled n m k M K =
    mod-mul (n * k) M K
    ∙ ap (λ (x : ℕ). x % m * k + n * k % k) (mul-div_cancel n K)
    ∙ ap (λ (x : ℕ). n % m * k + x) (mul-mod_left n k)
    ∙ add-zero (n % m * k)

of_quotient : (p q a c : ℕ) → 0 < q → 0 < c → p * c ≡ a * q → eqb (p * 8 % q) 0 ≡ eqb (a * 8 % c) 0
of_quotient p q a c Q C h =
    let e : p * 8 * c ≡ a * 8 * q = mul_right_comm p 8 c ∙ ap (λ (x : ℕ). x * 8) h ∙ mul_right_comm a q 8 in
    zero_iff (p * 8 % q) q (a * 8 % c) c Q C
    (sym (scaled (p * 8) q c Q C) ∙ ap (λ (x : ℕ). x % (q * c)) e ∙ ap (λ (x : ℕ). a * 8 * q % x) (mul_comm q c) ∙ scaled (a * 8) c q C Q)

by_value : (x : Float) (s : Bool) (a c : ℕ) → 0 < c → HasValue x s a c → finite_eighths x ≡ eqb (a * 8 % c) 0
by_value nan s a c C v = elim v [ ]
by_value (inf _) s a c C v = elim v [ ]
by_value (fin t m e) s a c C v = of_quotient (m * up e) (down e) a c (down_pos e) C v.1

-- ---- by its digits m and their exponent: m * 2 ^ x of the least value, 2 ^ -1074

near : (m x : ℕ) → x ≤ 1071 → eqb (m * 2 ^ x * 8 % 2 ^ 1074) 0 ≡ eqb (m % 2 ^ (1071 - x)) 0
near m x h =
    let k = 1071 - x in
    let whole : 2 ^ k * (2 ^ x * 8) ≡ 2 ^ 1074 =
    ap (λ (y : ℕ). 2 ^ k * y) (sym (pow-add 2 x 3)) ∙ sym (pow-add 2 k (x + 3)) ∙ ap (λ (y : ℕ). 2 ^ y) (let z : k + (x + 3) ≡ 1074 = omega arith in z) in
    let W : 0 < 2 ^ x * 8 = let p : 0 < 2 ^ x = pow_pos x in omega arith in
    zero_iff (m * 2 ^ x * 8 % 2 ^ 1074) (2 ^ x * 8) (m % 2 ^ k) 1 W (lit< tt)
    (mul-one (m * 2 ^ x * 8 % 2 ^ 1074) ∙ ap (λ (y : ℕ). y % 2 ^ 1074) (mul_assoc m (2 ^ x) 8) ∙ ap (λ (y : ℕ). m * (2 ^ x * 8) % y) (sym whole)
    ∙ scaled m (2 ^ k) (2 ^ x * 8) (pow_pos k) W)

far : (m x : ℕ) → 1071 ≤ x → eqb (m * 2 ^ x * 8 % 2 ^ 1074) 0 ≡ true
far m x h =
    let j = x - 1071 in
    let whole : 2 ^ x * 8 ≡ 2 ^ j * 2 ^ 1074 =
    sym (pow-add 2 x 3) ∙ ap (λ (y : ℕ). 2 ^ y) (let z : x + 3 ≡ j + 1074 = omega arith in z) ∙ pow-add 2 j 1074 in
    let none : m * 2 ^ x * 8 % 2 ^ 1074 ≡ 0 =
    ap (λ (y : ℕ). y % 2 ^ 1074) (mul_assoc m (2 ^ x) 8 ∙ ap (λ (y : ℕ). m * y) whole ∙ sym (mul_assoc m (2 ^ j) (2 ^ 1074)))
    ∙ mul-mod_left (m * 2 ^ j) (2 ^ 1074) in
    eq-eqb _ _ none

fields : (s : Bool) (x f : ℕ) → suc x < 2047 → finite_eighths (of_fields binary64 s (suc x) f) ≡ eqb ((2 ^ 52 + f) * 2 ^ x * 8 % 2 ^ 1074) 0
unfolding of_fields
fields s x f h =
    let e : eqb (suc x) 2047 ≡ false = ne_eqb (suc x) 2047 (λ z. omega arith) in
    ap (λ (b : Bool). finite_eighths (cond b (cond (eqb f 0) (inf s) nan) (odd 53 s (2 ^ 52 + f) x 1074))) e
    ∙ by_value (odd 53 s (2 ^ 52 + f) x 1074) s ((2 ^ 52 + f) * 2 ^ x) (2 ^ 1074) (pow_pos 1074) (odd_sign 53 s (2 ^ 52 + f) x 1074)

-- ---- what the code tests, at the sign s, the exponent e and the digits f

none_in : (s : Bool) (f : ℕ) → f < 2 ^ 52 → finite_eighths (of_fields binary64 s 0 f) ≡ eqb f 0
unfolding of_fields
none_in s f h =
    let l : f < 2 ^ 1071 = lt_of_lt_of_le h (lit≤ tt) in
    by_value (odd 53 s f 0 1074) s (f * 2 ^ 0) (2 ^ 1074) (pow_pos 1074) (odd_sign 53 s f 0 1074)
    ∙ near f 0 (lit≤ tt) ∙ ap (λ (y : ℕ). eqb y 0) (mod-eq_of_lt l)

low_in : (s : Bool) (x f : ℕ) → suc x < 1020 → f < 2 ^ 52 → finite_eighths (of_fields binary64 s (suc x) f) ≡ false
low_in s x f h g =
    let l : 2 ^ 52 + f < 2 ^ 53 = omega arith in
    let m : 2 ^ 53 ≤ 2 ^ (1071 - x) = pow_mono (let z : 53 ≤ 1071 - x = omega arith in z) in
    fields s x f (omega arith) ∙ near (2 ^ 52 + f) x (omega arith) ∙ ap (λ (y : ℕ). eqb y 0) (mod-eq_of_lt (lt_of_lt_of_le l m))
    ∙ ne_eqb (2 ^ 52 + f) 0 (λ z. omega arith)

middle_in : (s : Bool) (x f : ℕ) → suc x < 1072 → finite_eighths (of_fields binary64 s (suc x) f) ≡ eqb ((2 ^ 52 + f) % 2 ^ (1072 - suc x)) 0
middle_in s x f h =
    fields s x f (omega arith) ∙ near (2 ^ 52 + f) x (omega arith)
    ∙ ap (λ (k : ℕ). eqb ((2 ^ 52 + f) % 2 ^ k) 0) (let z : 1071 - x ≡ 1072 - suc x = omega arith in z)

last_in : (s : Bool) (f : ℕ) → finite_eighths (of_fields binary64 s 2047 f) ≡ false
unfolding of_fields
last_in s f = go (eqb f 0)
  where
    go : (b : Bool) → finite_eighths (cond b (inf s) nan) ≡ false
    go true = refl
    go false = refl

high_in : (s : Bool) (x f : ℕ) → 1072 ≤ suc x → suc x < 2047 → finite_eighths (of_fields binary64 s (suc x) f) ≡ true
high_in s x f h g = fields s x f g ∙ far (2 ^ 52 + f) x (omega arith)

-- ---- and of the bits b

parts : (b e : ℕ) → b % 2 ^ 63 / 2 ^ 52 ≡ e → of_bits binary64 b ≡ of_fields binary64 (leb (2 ^ 63) b) e (b % 2 ^ 52)
unfolding of_bits
parts b e h = ap (λ (x : ℕ). of_fields binary64 (leb (2 ^ 63) b) x (b % 2 ^ 52)) h

digits_lt : (b : ℕ) → b % 2 ^ 52 < 2 ^ 52
digits_lt b = mod-lt b (pow_pos 52)

pub none_by : (b : ℕ) → b % 2 ^ 63 / 2 ^ 52 ≡ 0 → eqb (b % 2 ^ 52) 0 ≡ finite_eighths (of_bits binary64 b)
none_by b h = sym (ap finite_eighths (parts b 0 h) ∙ none_in (leb (2 ^ 63) b) (b % 2 ^ 52) (digits_lt b))

module _ (b : ℕ) (some : b % 2 ^ 63 / 2 ^ 52 ≡ 0 → ⊥) where
  x : ℕ
  x = b % 2 ^ 63 / 2 ^ 52 - 1

  next : b % 2 ^ 63 / 2 ^ 52 ≡ suc x
  unfolding x
  next = let z : (b % 2 ^ 63 / 2 ^ 52 ≡ 0) → ⊥ = some in omega arith

  pub low_by : b % 2 ^ 63 / 2 ^ 52 < 1020 → false ≡ finite_eighths (of_bits binary64 b)
  low_by h = sym (ap finite_eighths (parts b (suc x) next) ∙ low_in (leb (2 ^ 63) b) x (b % 2 ^ 52) (omega (arith, next)) (digits_lt b))

  pub middle_by : {k : ℕ} → b % 2 ^ 63 / 2 ^ 52 < 1072 → k ≡ 2 ^ (1072 - b % 2 ^ 63 / 2 ^ 52) → eqb ((2 ^ 52 + b % 2 ^ 52) % k) 0 ≡ finite_eighths (of_bits binary64 b)
  middle_by {k} h e =
      ap (λ (y : ℕ). eqb ((2 ^ 52 + b % 2 ^ 52) % y) 0) (e ∙ ap (λ (y : ℕ). 2 ^ (1072 - y)) next)
      ∙ sym (ap finite_eighths (parts b (suc x) next) ∙ middle_in (leb (2 ^ 63) b) x (b % 2 ^ 52) (omega (arith, next)))

  pub last_by : 1072 ≤ b % 2 ^ 63 / 2 ^ 52 → ltb (b % 2 ^ 63 / 2 ^ 52) 2047 ≡ finite_eighths (of_bits binary64 b)
  last_by h = go (ltb (b % 2 ^ 63 / 2 ^ 52) 2047) refl
    where
      most : b % 2 ^ 63 / 2 ^ 52 < 2048
      most = let z : b % 2 ^ 63 < 2 ^ 63 = mod-lt b (pow_pos 63) in omega arith

      go : (c : Bool) → ltb (b % 2 ^ 63 / 2 ^ 52) 2047 ≡ c → c ≡ finite_eighths (of_bits binary64 b)
      go true q =
          let l : b % 2 ^ 63 / 2 ^ 52 < 2047 = ltb-true _ _ q in
          sym (ap finite_eighths (parts b (suc x) next) ∙ high_in (leb (2 ^ 63) b) x (b % 2 ^ 52) (omega (arith, next)) (omega (arith, next)))
      go false q =
          let l : 2047 ≤ b % 2 ^ 63 / 2 ^ 52 = ltb-false _ _ q in
          sym (ap finite_eighths (parts b 2047 (let z : b % 2 ^ 63 / 2 ^ 52 ≡ 2047 = omega (arith, most) in z)) ∙ last_in (leb (2 ^ 63) b) (b % 2 ^ 52))

pub nan_none : (x : Float) → is_nan x ≡ true → false ≡ finite_eighths x
unfolding is_nan
nan_none nan h = refl
nan_none (inf s) h = refl
nan_none (fin s m e) h = absurd (false≢true h)
