-- The laws of `specs/Eighths.antt`. Assumes nothing.
use mathlib.Core.Path.{◌≡◌, refl, sym, ap, ◌∙◌, subst}
use Prim.Native.Nat.{ℕ, zero, suc, ◌+◌, ◌-◌, ◌*◌, ◌/◌, ◌%◌, ◌^◌, ◌≤◌, ◌<◌}
use native.Mathlib.Nat.{mul-one, one-mul, zero-mul, mul_comm, mul_assoc, mul_right_comm, mul-pos, lt_of_lt_of_le, eq_of_mul-eq-mul_right, mul-div_cancel, mul-mod_left, add-mul, div-add-mod', add-zero, mod-eq_of_lt, mod-one, mod-le, lt_of_not-le, not-le_of_lt, lt_of_le_of_lt, le_of_lt, le_of_eq, le_trans, le_of_mul-le-mul_right, mul-le-mul_right}
use native.Mathlib.Omega.{arith}
use mathlib.Core.Bool.{Bool, true, false, not, ◌&&◌, ◌||◌, cond, true≢false, false≢true}
use lib.IntN.{ℤ, pos, negsuc}
use lib.Dec.{T, leb, ltb, eqb, eqb→eq, ltb→lt, lt→ltb, leb→le, le→leb, nleb→lt, not_T, lit<, lit≤}
use lib.Pow.{pow-add, pow_pos, pow_mono, pow-lt, shl_lt, mod-pow-add}
use lib.Ieee.{neg, Float, nan, inf, fin, binary64, up, down, round, add, rem, lt, eq, le, fits, is_nan, odd, of_fields, of_bits, nan_bits, to_bits}
use lib.Ieee.Fits.{round-fits, down_pos, and_i, and_l, and_r, eq→eqb}
use lib.Ieee.Exact.{HasValue, round_exact}
use lib.Ieee.Nearest.{div_same}
use lib.Ieee.Scale.{round_same}
use lib.Ieee.Order.{transfer, le_of_values}
use lib.Ieee.Bits.{is_true, is_false, of_bits-to_bits, to_bits-lt, of_bits-fits, to_bits-of_bits, nan_bits_is, nan_bits_above}
use denote.Floats.{passes}
use lib.Ieee.Fits.{neg-fits}
use Rattle.bits.proofs.Laws.{same_test}
use Rattle.litres.specs.Eighths.{eighths, finite_eighths, is_eighths, count, litres_ok, target_ok}

-- ---- the value of `eighths n`

eighths_is : (n : ℕ) → eighths n ≡ round binary64 false n 8
unfolding eighths
eighths_is n = refl

pub value : (n : ℕ) → n < 2 ^ 53 → HasValue (eighths n) false n 8
value n h =
    subst (λ (x : Float). HasValue x false n 8) (sym (eighths_is n))
    (round_exact binary64 false n 8 n 1071 (lit< tt) h
    (lt_of_lt_of_le (shl_lt 53 1071 h) (lit≤ tt))
    (sym (mul_assoc n (2 ^ 1071) 8)))

pub eighths_fits : (n : ℕ) → T (fits binary64 (eighths n))
eighths_fits n = subst (λ (x : Float). T (fits binary64 x)) (sym (eighths_is n)) (round-fits binary64 false n 8)

-- ---- two values that fit and are the same fraction with the same sign are the same value: they have the same bits

bits_same : (s : Bool) (m : ℕ) (e : ℤ) (n : ℕ) (d : ℤ) → m * up e * down d ≡ n * up d * down e → to_bits binary64 (fin s m e) ≡ to_bits binary64 (fin s n d)
unfolding to_bits
bits_same s m e n d h =
    rw (div_same (m * up e * 2 ^ 1074) (down e) (n * up d * 2 ^ 1074) (down d) (down_pos e) (down_pos d)
    (mul_right_comm (m * up e) (2 ^ 1074) (down d) ∙ ap (λ (x : ℕ). x * 2 ^ 1074) h ∙ mul_right_comm (n * up d) (down e) (2 ^ 1074)))

-- from a / c = m * up e / down e and the same of n and d
cross : (p q r t a c : ℕ) → 0 < c → p * c ≡ a * q → r * c ≡ a * t → p * t ≡ r * q
cross p q r t a c C h k =
    eq_of_mul-eq-mul_right c C (p * t) (r * q)
    (mul_right_comm p t c ∙ ap (λ (x : ℕ). x * t) h ∙ mul_right_comm a q t ∙ ap (λ (x : ℕ). x * q) (sym k) ∙ mul_right_comm r c q)

pub unique : (x y : Float) (s : Bool) (a c : ℕ) → 0 < c → T (fits binary64 x) → T (fits binary64 y) → HasValue x s a c → HasValue y s a c → x ≡ y
unique nan y s a c C p q v w = elim v [ ]
unique (inf _) y s a c C p q v w = elim v [ ]
unique (fin t m e) nan s a c C p q v w = elim w [ ]
unique (fin t m e) (inf _) s a c C p q v w = elim w [ ]
unique (fin t m e) (fin u n d) s a c C p q v w =
    sym (of_bits-to_bits binary64 (fin t m e) p)
    ∙ ap (of_bits binary64)
    (ap (λ (b : Bool). to_bits binary64 (fin b m e)) (v.0 ∙ sym w.0)
    ∙ bits_same u m e n d (cross (m * up e) (down e) (n * up d) (down d) a c C v.1 w.1))
    ∙ of_bits-to_bits binary64 (fin u n d) q

-- ---- tests

and_or : (a b : Bool) → (a && (b || a)) ≡ a
and_or true true = refl
and_or true false = refl
and_or false b = refl

-- a float is 0 where its fraction is
pub zero_iff : (p q a c : ℕ) → 0 < q → 0 < c → p * c ≡ a * q → eqb p 0 ≡ eqb a 0
zero_iff p q a c Q C h =
    same_test (eqb p 0) (eqb a 0)
    (λ t. eq→eqb (eq_of_mul-eq-mul_right q Q a 0 (sym h ∙ ap (λ (x : ℕ). x * c) (eqb→eq p 0 t) ∙ zero-mul c ∙ sym (zero-mul q))))
    (λ t. eq→eqb (eq_of_mul-eq-mul_right c C p 0 (h ∙ ap (λ (x : ℕ). x * q) (eqb→eq a 0 t) ∙ zero-mul q ∙ sym (zero-mul c))))

zero_test : (z : Float) (s : Bool) (a c : ℕ) → 0 < c → HasValue z s a c → eq z (fin false 0 (pos 0)) ≡ eqb a 0
unfolding eq
zero_test nan s a c C v = elim v [ ]
zero_test (inf _) s a c C v = elim v [ ]
zero_test (fin true m e) s a c C v = rw (zero-mul, mul-one) (and_or (eqb (m * up e) 0) false ∙ zero_iff (m * up e) (down e) a c (down_pos e) C v.1)
zero_test (fin false m e) s a c C v = rw (zero-mul, mul-one) (and_or (eqb (m * up e) 0) true ∙ zero_iff (m * up e) (down e) a c (down_pos e) C v.1)

-- ---- the remainder by 1/8 is exact

rem_is : (s : Bool) (m : ℕ) (e : ℤ) → rem binary64 (fin s m e) (fin false 1 (negsuc 2)) ≡ round binary64 s (m * up e * 8 % down e) (down e * 8)
unfolding rem
rem_is s m e = ap (λ (d : ℕ). round binary64 s (m * up e * 8 % d) (down e * 8)) (one-mul (down e))

-- ---- the sign's bit

sign_clear : (m : ℕ) (e : ℤ) → T (fits binary64 (fin true m e)) → to_bits binary64 (fin false m e) < 2 ^ 63
unfolding to_bits
sign_clear m e h = omega (arith, to_bits-lt binary64 (fin true m e) h)

sign_set : (m : ℕ) (e : ℤ) → 2 ^ 63 ≤ to_bits binary64 (fin true m e)
unfolding to_bits
sign_set m e = omega arith

-- a fraction of 0 rounds to a zero
zero_exact : (s : Bool) (r d : ℕ) → 0 < d → r ≡ 0 → HasValue (round binary64 s r d) s r d
zero_exact s r d D z = round_exact binary64 s r d 0 0 D (lit< tt) (lit< tt) (ap (λ (x : ℕ). x * 2 ^ 1074) z ∙ sym (zero-mul d))

exponent_le : (a b : ℕ) → 2 ^ a ≤ 2 ^ b → a < suc b
exponent_le a b h = lt_of_not-le (λ (g : suc b ≤ a). not-le_of_lt (pow-lt g) h)

times_eight : (m k : ℕ) → m * 1 * 8 % 2 ^ (k + 3) ≡ m % 2 ^ k * 8
times_eight m k =
    let z : m * 1 * 8 % 8 ≡ 0 = omega arith in
    let y : m * 1 * 8 / 8 ≡ m = omega arith in
    mod-pow-add (m * 1 * 8) k 3 ∙ ap (λ (x : ℕ). m * 1 * 8 / 8 % 2 ^ k * 8 + x) z ∙ add-zero (m * 1 * 8 / 8 % 2 ^ k * 8) ∙ ap (λ (x : ℕ). x % 2 ^ k * 8) y

rem_exact : (s : Bool) (m : ℕ) (e : ℤ) → m < 2 ^ 53 → down e ≤ 2 ^ 1074 → HasValue (round binary64 s (m * up e * 8 % down e) (down e * 8)) s (m * up e * 8 % down e) (down e * 8)
rem_exact s m (pos k) h l = zero_exact s (m * 2 ^ k * 8 % 1) 8 (lit< tt) (mod-one (m * 2 ^ k * 8))
rem_exact s m (negsuc zero) h l = zero_exact s (m * 1 * 8 % 2) 16 (lit< tt) (omega arith)
rem_exact s m (negsuc (suc zero)) h l = zero_exact s (m * 1 * 8 % 4) 32 (lit< tt) (omega arith)
rem_exact s m (negsuc (suc (suc k))) h l =
    let three : suc (suc (suc k)) ≡ k + 3 = omega arith in
    let P = 2 ^ suc (suc (suc k)) in
    let r = m * 1 * 8 % P in
    let q = m % 2 ^ k in
    let j = 1074 - (k + 3) in
    let in_reach : j + (k + 3) ≡ 1074 = omega (arith, exponent_le (suc (suc (suc k))) 1074 l) in
    let is : r ≡ q * 8 = ap (λ (x : ℕ). m * 1 * 8 % 2 ^ x) three ∙ times_eight m k in
    let scale : 2 ^ j * P ≡ 2 ^ 1074 = ap (λ (x : ℕ). 2 ^ j * 2 ^ x) three ∙ sym (pow-add 2 j (k + 3)) ∙ ap (λ (x : ℕ). 2 ^ x) in_reach in
    let small : q < 2 ^ 53 = lt_of_le_of_lt (mod-le m (2 ^ k)) h in
    let j_le : 53 + j ≤ 2098 = omega arith in
    round_exact binary64 s r (P * 8) q j (mul-pos (pow_pos (suc (suc (suc k)))) (lit< tt)) small (lt_of_lt_of_le (shl_lt 53 j small) (pow_mono j_le))
    (ap (λ (x : ℕ). x * 2 ^ 1074) is ∙ mul_right_comm q 8 (2 ^ 1074) ∙ ap (λ (x : ℕ). q * x * 8) (sym scale) ∙ ap (λ (x : ℕ). x * 8) (sym (mul_assoc q (2 ^ j) P)) ∙ mul_assoc (q * 2 ^ j) P 8)

-- ---- that the remainder by 1/8 is 0 says that it is a number of whole eighths of either sign

rem_exact_of : (s : Bool) (m : ℕ) (e : ℤ) → T (fits binary64 (fin s m e)) → HasValue (round binary64 s (m * up e * 8 % down e) (down e * 8)) s (m * up e * 8 % down e) (down e * 8)
unfolding fits
rem_exact_of s zero e t = zero_exact s (0 * up e * 8 % down e) (down e * 8) (mul-pos (down_pos e) (lit< tt)) (omega (arith, mod-le (0 * up e * 8) (down e)))
rem_exact_of s (suc m) e t =
    let A : Bool = eqb (suc m % 2) 1 in
    let B : Bool = ltb (suc m) (2 ^ 53) in
    let C : Bool = leb (down e) (2 ^ 1074) in
    let D : Bool = ltb (suc m * up e) (2 ^ 1024 * down e) in
    rem_exact s (suc m) e
    (ltb→lt (suc m) (2 ^ 53) (and_r A B (and_l (A && B) C (and_l (A && B && C) D t))))
    (leb→le (down e) (2 ^ 1074) (and_r (A && B) C (and_l (A && B && C) D t)))

pub rem_test : (x : Float) → T (fits binary64 x) → eq (rem binary64 x (fin false 1 (negsuc 2))) (fin false 0 (pos 0)) ≡ finite_eighths x
unfolding eq rem
rem_test nan t = refl
rem_test (inf s) t = refl
rem_test (fin s m e) t = ap (λ (z : Float). eq z (fin false 0 (pos 0))) (rem_is s m e) ∙ zero_test (round binary64 s (m * up e * 8 % down e) (down e * 8)) s (m * up e * 8 % down e) (down e * 8) (mul-pos (down_pos e) (lit< tt)) (rem_exact_of s m e t)

flip : (m : ℕ) (e : ℤ) → T (fits binary64 (fin false m e)) → T (fits binary64 (fin true m e))
flip m e t = unfold neg in neg-fits binary64 (fin false m e) t

-- what `is_eighths` returns in each arm
pub yes_arm : (x : Float) → T (fits binary64 x) → T (finite_eighths x) → ltb (to_bits binary64 x) (2 ^ 63) ≡ is_eighths x
unfolding is_eighths
yes_arm nan t h = elim h [ ]
yes_arm (inf _) t h = elim h [ ]
yes_arm (fin true m e) t h = is_false (ltb (to_bits binary64 (fin true m e)) (2 ^ 63)) (not_T (ltb (to_bits binary64 (fin true m e)) (2 ^ 63)) (λ u. not-le_of_lt (ltb→lt (to_bits binary64 (fin true m e)) (2 ^ 63) u) (sign_set m e)))
yes_arm (fin false m e) t h = is_true (ltb (to_bits binary64 (fin false m e)) (2 ^ 63)) (lt→ltb (to_bits binary64 (fin false m e)) (2 ^ 63) (sign_clear m e (flip m e t))) ∙ sym (is_true (eqb (m * up e * 8 % down e) 0) h)

pub no_arm : (x : Float) → finite_eighths x ≡ false → is_eighths x ≡ false
unfolding is_eighths
no_arm nan h = refl
no_arm (inf s) h = refl
no_arm (fin true m e) h = refl
no_arm (fin false m e) h = h

pub not_nan : (x : Float) → T (finite_eighths x) → T (not (is_nan x))
unfolding is_nan
not_nan nan h = elim h [ ]
not_nan (inf _) h = elim h [ ]
not_nan (fin s m e) h = tt

-- ---- `is_eighths` and `count` are what they say: a value is n / 8 where its count is n

pub value_of : (x : Float) → T (is_eighths x) → HasValue x false (count x) 8
unfolding is_eighths count
value_of nan t = elim t [ ]
value_of (inf _) t = elim t [ ]
value_of (fin true m e) t = absurd t
value_of (fin false m e) t =
    let a = m * up e * 8 in
    (refl, sym (div-add-mod' a (down e)) ∙ ap (λ (x : ℕ). a / down e * down e + x) (eqb→eq (a % down e) 0 t) ∙ add-zero (a / down e * down e))

pub of_value : (x : Float) (n : ℕ) → HasValue x false n 8 → T (is_eighths x) × (count x ≡ n)
unfolding is_eighths count
of_value nan n v = elim v [ ]
of_value (inf _) n v = elim v [ ]
of_value (fin true m e) n v = absurd (true≢false v.0)
of_value (fin false m e) n v = (eq→eqb (ap (λ (x : ℕ). x % down e) v.1 ∙ mul-mod_left n (down e)), ap (λ (x : ℕ). x / down e) v.1 ∙ mul-div_cancel n (down_pos e))

pub eighths_is_eighths : (n : ℕ) → n < 2 ^ 53 → T (is_eighths (eighths n))
eighths_is_eighths n h = (of_value (eighths n) n (value n h)).0

pub count_eighths : (n : ℕ) → n < 2 ^ 53 → count (eighths n) ≡ n
count_eighths n h = (of_value (eighths n) n (value n h)).1

pub eighths_count : (x : Float) → T (fits binary64 x) → T (is_eighths x) → count x < 2 ^ 53 → x ≡ eighths (count x)
eighths_count x f t h = unique x (eighths (count x)) false (count x) 8 (lit< tt) f (eighths_fits (count x)) (value_of x t) (value (count x) h)

-- ---- the order

or_split : (p q : ℕ) → T (ltb p q || (eqb p q && true)) → p ≤ q
or_split p q t = go (ltb p q) (ltb→lt p q) (eqb p q) (eqb→eq p q) t
  where
    go : (a : Bool) → (T a → p < q) → (b : Bool) → (T b → p ≡ q) → T (a || (b && true)) → p ≤ q
    go true l b e u = le_of_lt (l tt)
    go false l true e u = le_of_eq (e tt)
    go false l false e u = absurd u

values_of_le : (x y : Float) (a b c : ℕ) → 0 < c → HasValue x false a c → HasValue y false b c → T (le x y) → a ≤ b
unfolding le
values_of_le nan y a b c C v w h = elim v [ ]
values_of_le (inf _) y a b c C v w h = elim v [ ]
values_of_le (fin false m e) nan a b c C v w h = elim w [ ]
values_of_le (fin false m e) (inf _) a b c C v w h = elim w [ ]
values_of_le (fin true m e) y a b c C v w h = absurd (true≢false v.0)
values_of_le (fin false m e) (fin true n d) a b c C v w h = absurd (true≢false w.0)
values_of_le (fin false m e) (fin false n d) a b c C v w h =
    le_of_mul-le-mul_right (transfer a b c c (m * up e) (n * up d) (down e) (down d) (down_pos e) (down_pos d) (sym v.1) (sym w.1) (or_split (m * up e * down d) (n * up d * down e) h)) C

pub le_values : (x y : Float) (a b c : ℕ) → 0 < c → HasValue x false a c → HasValue y false b c → le x y ≡ leb a b
le_values x y a b c C v w =
    same_test (le x y) (leb a b)
    (λ t. le→leb a b (values_of_le x y a b c C v w t))
    (λ t. le_of_values x y a c b c C C v w (mul-le-mul_right c (leb→le a b t)))

pub le_eighths : (t a : ℕ) → t < 2 ^ 53 → a < 2 ^ 53 → le (eighths t) (eighths a) ≡ leb t a
le_eighths t a h k = le_values (eighths t) (eighths a) t a 8 (lit< tt) (value t h) (value a k)

pub le_counts : (x y : Float) → T (is_eighths x) → T (is_eighths y) → le x y ≡ leb (count x) (count y)
le_counts x y t u = le_values x y (count x) (count y) 8 (lit< tt) (value_of x t) (value_of y u)

-- `<` and `==` of values in eighths
lt_values : (x y : Float) (a b c : ℕ) → 0 < c → HasValue x false a c → HasValue y false b c → lt x y ≡ ltb a b
unfolding lt
lt_values nan y a b c C v w = elim v [ ]
lt_values (inf _) y a b c C v w = elim v [ ]
lt_values (fin false m e) nan a b c C v w = elim w [ ]
lt_values (fin false m e) (inf _) a b c C v w = elim w [ ]
lt_values (fin true m e) y a b c C v w = absurd (true≢false v.0)
lt_values (fin false m e) (fin true n d) a b c C v w = absurd (true≢false w.0)
lt_values (fin false m e) (fin false n d) a b c C v w =
    let P = m * up e * down d in
    let Q = n * up d * down e in
    same_test (ltb P Q) (ltb a b)
    (λ t. lt→ltb a b (lt_of_not-le (λ (g : b ≤ a). not-le_of_lt (ltb→lt P Q t) (transfer (n * up d) (m * up e) (down d) (down e) b a c c C C w.1 v.1 (mul-le-mul_right c g)))))
    (λ t. lt→ltb P Q (lt_of_not-le (λ (g : Q ≤ P). not-le_of_lt (ltb→lt a b t) (le_of_mul-le-mul_right (transfer b a c c (n * up d) (m * up e) (down d) (down e) (down_pos d) (down_pos e) (sym w.1) (sym v.1) g) C))))

pub lt_counts : (x y : Float) → T (is_eighths x) → T (is_eighths y) → lt x y ≡ ltb (count x) (count y)
lt_counts x y t u = lt_values x y (count x) (count y) 8 (lit< tt) (value_of x t) (value_of y u)

-- ---- the sum

sum_values : (p q r t a b c : ℕ) → p * c ≡ a * q → r * c ≡ b * t → (p * t + r * q) * c ≡ (a + b) * (q * t)
sum_values p q r t a b c h k =
    let x : p * t * c ≡ a * (q * t) = mul_right_comm p t c ∙ ap (λ (z : ℕ). z * t) h ∙ mul_assoc a q t in
    let y : r * q * c ≡ b * (q * t) = mul_right_comm r q c ∙ ap (λ (z : ℕ). z * q) k ∙ mul_assoc b t q ∙ ap (λ (z : ℕ). b * z) (mul_comm t q) in
    add-mul (p * t) (r * q) c ∙ ap (λ (z : ℕ). z + r * q * c) x ∙ ap (λ (z : ℕ). a * (q * t) + z) y ∙ sym (add-mul a b (q * t))

add_values : (x y : Float) (a b : ℕ) → HasValue x false a 8 → HasValue y false b 8 → add binary64 x y ≡ eighths (a + b)
unfolding add eighths
add_values nan y a b v w = elim v [ ]
add_values (inf _) y a b v w = elim v [ ]
add_values (fin false m e) nan a b v w = elim w [ ]
add_values (fin false m e) (inf _) a b v w = elim w [ ]
add_values (fin true m e) y a b v w = absurd (true≢false v.0)
add_values (fin false m e) (fin true n d) a b v w = absurd (true≢false w.0)
add_values (fin false m e) (fin false n d) a b v w =
    round_same binary64 false (m * up e * down d + n * up d * down e) (down e * down d) (a + b) 8 (mul-pos (down_pos e) (down_pos d)) (lit< tt)
    (sum_values (m * up e) (down e) (n * up d) (down d) a b 8 v.1 w.1)

pub add_eighths : (a b : ℕ) → a < 2 ^ 53 → b < 2 ^ 53 → add binary64 (eighths a) (eighths b) ≡ eighths (a + b)
add_eighths a b h k = add_values (eighths a) (eighths b) a b (value a h) (value b k)

pub add_counts : (x y : Float) → T (is_eighths x) → T (is_eighths y) → add binary64 x y ≡ eighths (count x + count y)
add_counts x y t u = add_values x y (count x) (count y) (value_of x t) (value_of y u)

-- a value in eighths against a constant
pub under : (x y : Float) (n : ℕ) → is_eighths x ≡ true → HasValue y false n 8 → le x y ≡ leb (count x) n
under x y n t v = le_values x y (count x) n 8 (lit< tt) (value_of x (passes (is_eighths x) t)) v

pub over : (x y : Float) (n : ℕ) → is_eighths x ≡ true → HasValue y false n 8 → le y x ≡ leb n (count x)
over x y n t v = le_values y x n (count x) 8 (lit< tt) v (value_of x (passes (is_eighths x) t))

-- the constants 0.125, 64.0 and 131072.0, by the patterns that MIR has for them
pub value_0·125 : HasValue (of_bits binary64 0x3fc0_0000_0000_0000) false 1 8
unfolding of_bits
value_0·125 = (refl, refl)

pub value_64 : HasValue (of_bits binary64 0x4050_0000_0000_0000) false 512 8
unfolding of_bits
value_64 = (refl, refl)

pub value_131072 : HasValue (of_bits binary64 0x4100_0000_0000_0000) false (2 ^ 20) 8
unfolding of_bits
value_131072 = (refl, refl)

-- ---- bit patterns

-- up to the infinity's pattern no NaN
pub low_not_nan : (b : ℕ) → b ≤ 0x7ff0_0000_0000_0000 → T (not (nan_bits binary64 b))
low_not_nan b h =
    subst (λ (t : Bool). T (not t)) (sym (nan_bits_above binary64 b))
    (not_T (ltb 0x7ff0_0000_0000_0000 (b % 2 ^ 63)) (λ t. not-le_of_lt (ltb→lt 0x7ff0_0000_0000_0000 (b % 2 ^ 63) t) (le_trans (mod-le b (2 ^ 63)) h)))

nan_no : (x : Float) → is_nan x ≡ true → is_eighths x ≡ false
unfolding is_nan is_eighths
nan_no nan h = refl
nan_no (inf s) h = refl
nan_no (fin s m e) h = absurd (false≢true h)

odd_no : (q k : ℕ) → is_eighths (odd 53 true q k 1074) ≡ false
unfolding odd is_eighths
odd_no zero k = refl
odd_no (suc q) k = refl

cond_no : (a b : Bool) (v : Float) → is_eighths v ≡ false → is_eighths (cond a (cond b (inf true) nan) v) ≡ false
unfolding is_eighths
cond_no true true v h = refl
cond_no true false v h = refl
cond_no false b v h = h

fields_no : (x t : ℕ) → is_eighths (of_fields binary64 true x t) ≡ false
unfolding of_fields
fields_no zero t = odd_no t 0
fields_no (suc x) t = cond_no (eqb (suc x) 2047) (eqb t 0) (odd 53 true (2 ^ 52 + t) x 1074) (odd_no (2 ^ 52 + t) x)

-- above it a NaN or a sign
pub high_no : (b : ℕ) → 0x7ff0_0000_0000_0000 < b → is_eighths (of_bits binary64 b) ≡ false
unfolding of_bits
high_no b h = go (leb (2 ^ 63) b) (nleb→lt (2 ^ 63) b) refl
  where
    go : (s : Bool) → (T (not s) → b < 2 ^ 63) → leb (2 ^ 63) b ≡ s → is_eighths (of_bits binary64 b) ≡ false
    go true k e = ap (λ (s : Bool). is_eighths (of_fields binary64 s (b % 2 ^ 63 / 2 ^ 52) (b % 2 ^ 52))) e ∙ fields_no (b % 2 ^ 63 / 2 ^ 52) (b % 2 ^ 52)
    go false k e =
        nan_no (of_bits binary64 b) (sym (nan_bits_is binary64 b) ∙ nan_bits_above binary64 b ∙ ap (λ (x : ℕ). ltb 0x7ff0_0000_0000_0000 x) (mod-eq_of_lt (k tt))
        ∙ is_true (ltb 0x7ff0_0000_0000_0000 b) (lt→ltb 0x7ff0_0000_0000_0000 b h))

pub target_not_nan : (b : ℕ) → T (is_eighths (of_bits binary64 b)) → T (not (nan_bits binary64 b))
unfolding is_eighths is_nan
target_not_nan b h = subst (λ (t : Bool). T (not t)) (sym (nan_bits_is binary64 b)) (go (of_bits binary64 b) h)
  where
    go : (x : Float) → T (is_eighths x) → T (not (is_nan x))
    go nan t = elim t [ ]
    go (inf _) t = elim t [ ]
    go (fin s m e) t = tt

-- ---- what the tests mean: exactly the floats n / 8 in range

pub litres_sound : (x : Float) → T (fits binary64 x) → T (litres_ok x) → (n : ℕ) × (n ≤ 512) × (x ≡ eighths n)
litres_sound x f t =
    let a : T (is_eighths x) = and_l (is_eighths x) (leb (count x) 512) t in
    let l : count x ≤ 512 = leb→le (count x) 512 (and_r (is_eighths x) (leb (count x) 512) t) in
    (count x, l, eighths_count x f a (lt_of_le_of_lt l (lit< tt)))

pub litres_complete : (n : ℕ) → n ≤ 512 → T (litres_ok (eighths n))
litres_complete n l =
    let h : n < 2 ^ 53 = lt_of_le_of_lt l (lit< tt) in
    and_i (is_eighths (eighths n)) (leb (count (eighths n)) 512) (eighths_is_eighths n h) (subst (λ (k : ℕ). T (leb k 512)) (sym (count_eighths n h)) (le→leb n 512 l))

-- the pattern is that of n / 8 litres for an n from 1 to 2 ^ 20
target_parts : (b : ℕ) → T (target_ok b) → T (is_eighths (of_bits binary64 b)) × (1 ≤ count (of_bits binary64 b)) × (count (of_bits binary64 b) ≤ 2 ^ 20)
target_parts b t =
    let x = of_bits binary64 b in
    let A : Bool = is_eighths x in
    let B : Bool = leb 1 (count x) in
    let C : Bool = leb (count x) (2 ^ 20) in
    (and_l A B (and_l (A && B) C t), leb→le 1 (count x) (and_r A B (and_l (A && B) C t)), leb→le (count x) (2 ^ 20) (and_r (A && B) C t))

pub target_eighths : (b : ℕ) → T (target_ok b) → of_bits binary64 b ≡ eighths (count (of_bits binary64 b))
target_eighths b t = let p = target_parts b t in eighths_count (of_bits binary64 b) (of_bits-fits binary64 b) p.0 (lt_of_le_of_lt p.2 (lit< tt))

pub target_is_eighths : (b : ℕ) → T (target_ok b) → T (is_eighths (of_bits binary64 b))
target_is_eighths b t = (target_parts b t).0

pub target_sound : (b : ℕ) → b < 2 ^ 64 → T (target_ok b) → (n : ℕ) × (1 ≤ n) × (n ≤ 2 ^ 20) × (b ≡ to_bits binary64 (eighths n))
target_sound b w t =
    let p = target_parts b t in (
      count (of_bits binary64 b),
      p.1,
      p.2,
      sym (to_bits-of_bits binary64 b w (subst (λ (s : Bool). T (not s)) (nan_bits_is binary64 b) (target_not_nan b p.0))) ∙ ap (to_bits binary64) (target_eighths b t),
    )

pub target_complete : (n : ℕ) → 1 ≤ n → n ≤ 2 ^ 20 → T (target_ok (to_bits binary64 (eighths n)))
target_complete n k l =
    let h : n < 2 ^ 53 = lt_of_le_of_lt l (lit< tt) in
    subst (λ (x : Float). T (is_eighths x && leb 1 (count x) && leb (count x) (2 ^ 20))) (sym (of_bits-to_bits binary64 (eighths n) (eighths_fits n)))
    (and_i (is_eighths (eighths n) && leb 1 (count (eighths n))) (leb (count (eighths n)) (2 ^ 20))
    (and_i (is_eighths (eighths n)) (leb 1 (count (eighths n))) (eighths_is_eighths n h) (subst (λ (c : ℕ). T (leb 1 c)) (sym (count_eighths n h)) (le→leb 1 n k)))
    (subst (λ (c : ℕ). T (leb c (2 ^ 20))) (sym (count_eighths n h)) (le→leb n (2 ^ 20) l)))
