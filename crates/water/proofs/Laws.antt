-- `==` on values in eighths, and what the functions answer.
use mathlib.Core.Path.{◌≡◌, refl, sym, ap, ◌∙◌, subst}
use Prim.Native.Nat.{ℕ, ◌+◌, ◌*◌, ◌%◌, ◌^◌, ◌≤◌, ◌<◌}
use native.Mathlib.Nat.{add-zero, mul-one, zero-mul, mod-le}
use native.Mathlib.Omega.{arith}
use mathlib.Core.Bool.{Bool, true, false, not, ◌&&◌, and-true, true≢false}
use lib.Dec.{T, eqb, ltb, leb, lit<, leb→le, ltb→lt, eqb→eq}
use lib.Ieee.{Float, nan, inf, fin, binary64, up, down, of_bits, to_bits, eq, lt, add, fits, is_nan, nan_bits}
use lib.Ieee.Fits.{and_l, and_r, eq→eqb}
use borrow.Author.Tests.{ltb-false, le-ltb, eqb-true, eqb-false, eq-eqb, ne_eqb}
use denote.Floats.{passes}
use Rattle.litres.specs.Eighths.{eighths, is_eighths, count, target_ok}
use Rattle.litres.specs.Eighths.{finite_eighths}
use Rattle.litres.proofs.Laws.{yes_arm, not_nan, lt_counts, add_counts, target_is_eighths, target_not_nan, eighths_is_eighths, count_eighths}
use Rattle.water.specs.Water.{flow_ok, added, sum, reading_eighths, Summed, Compared, is_zero, reached, running}
use Rattle.water.specs.declared.Water.{Water}
use Rattle.water.specs.declared.Flow.{Flow}
use Rattle.water.specs.declared.Flow.TheVariants.{Litres, NoSensor}

ruleset both = (and_l, and_r)

-- numbers are equal where neither is below the other
by_order : (p q a b : ℕ) → ltb p q ≡ ltb a b → ltb q p ≡ ltb b a → eqb p q ≡ eqb a b
by_order p q a b h k = go (eqb a b) refl
  where
    go : (t : Bool) → eqb a b ≡ t → eqb p q ≡ t
    go true e =
        let i : a ≡ b = eqb-true a b e in
        let x = ltb-false p q (h ∙ le-ltb a b (omega arith)) in
        let y = ltb-false q p (k ∙ le-ltb b a (omega arith)) in
        eq-eqb p q (omega arith)
    go false e = ne_eqb p q (λ i. eqb-false a b e (same i))
      where
        same : p ≡ q → a ≡ b
        same i =
            let x = ltb-false a b (sym h ∙ le-ltb p q (omega arith)) in
            let y = ltb-false b a (sym k ∙ le-ltb q p (omega arith)) in
            omega arith

eq_counts : (x y : Float) → T (is_eighths x) → T (is_eighths y) → eq x y ≡ eqb (count x) (count y)
unfolding eq lt is_eighths
eq_counts nan y t u = elim t [ ]
eq_counts (inf _) y t u = elim t [ ]
eq_counts (fin false m e) nan t u = elim u [ ]
eq_counts (fin false m e) (inf _) t u = elim u [ ]
eq_counts (fin false m e) (fin true n d) t u = elim u [ ]
eq_counts (fin true m e) y t u = elim t [ ]
eq_counts (fin false m e) (fin false n d) t u =
    let P : ℕ = m * up e * down d in
    let Q : ℕ = n * up d * down e in
    and-true (eqb P Q)
    ∙ by_order P Q (count (fin false m e)) (count (fin false n d)) (lt_counts (fin false m e) (fin false n d) t u) (lt_counts (fin false n d) (fin false m e) u t)

-- ---- what the functions answer

-- 0.0 by its pattern
pub zero_is : of_bits binary64 0 ≡ eighths 0
unfolding of_bits eighths
zero_is = refl

zero_whole : T (is_eighths (eighths 0))
zero_whole = eighths_is_eighths 0 (lit< tt)

pub zero_test : (x : Float) → (is_eighths x && eq x (of_bits binary64 0)) ≡ is_zero x
zero_test x = go (is_eighths x) refl
  where
    go : (b : Bool) → is_eighths x ≡ b → (b && eq x (of_bits binary64 0)) ≡ (b && eqb (count x) 0)
    go true h =
        ap (eq x) zero_is ∙ eq_counts x (eighths 0) (passes (is_eighths x) h) zero_whole ∙ ap (eqb (count x)) (count_eighths 0 (lit< tt))
    go false h = refl

-- what `==` finds equal to 0.0 is a zero of either sign
zero_finite : (x : Float) → eq x (of_bits binary64 0) ≡ true → T (finite_eighths x)
unfolding eq of_bits
zero_finite nan h = absurd (true≢false (sym h))
zero_finite (inf s) h = absurd (true≢false (sym h))
zero_finite (fin s m e) h =
    let p : m * up e * 1 ≡ 0 * 1 * down e = eqb→eq (m * up e * 1) (0 * 1 * down e) (and_l (eqb (m * up e * 1) (0 * 1 * down e)) _ (passes _ h)) in
    let z : m * up e ≡ 0 = sym (mul-one (m * up e)) ∙ p ∙ ap (λ (x : ℕ). x * down e) (zero-mul 1) ∙ zero-mul (down e) in
    let q : 0 * 8 % down e ≤ 0 * 8 = mod-le (0 * 8) (down e) in
    eq→eqb (ap (λ (x : ℕ). x * 8 % down e) z ∙ (let r : 0 * 8 % down e ≡ 0 = omega arith in r))

module _ (x : Float) where
  pub zero_number : eq x (of_bits binary64 0) ≡ true → T (not (is_nan x))
  zero_number h = not_nan x (zero_finite x h)

  pub zero_signed : T (fits binary64 x) → eq x (of_bits binary64 0) ≡ true → ltb (to_bits binary64 x) (2 ^ 63) ≡ is_zero x
  zero_signed f h = yes_arm x f (zero_finite x h) ∙ sym (and-true (is_eighths x)) ∙ ap (λ (b : Bool). is_eighths x && b) (sym h) ∙ zero_test x

  pub zero_other : eq x (of_bits binary64 0) ≡ false → false ≡ is_zero x
  zero_other h = sym (go (is_eighths x)) ∙ ap (λ (b : Bool). is_eighths x && b) (sym h) ∙ zero_test x
    where
      go : (b : Bool) → (b && false) ≡ false
      go true = refl
      go false = refl

running_test : (bits : ℕ) (w : Water) → target_ok bits ≡ true
    → (is_eighths w.target && is_eighths w.total && eq w.target (of_bits binary64 bits) && lt w.total w.target) ≡ running bits w
running_test bits w h = go (is_eighths w.target) (is_eighths w.total) refl refl
  where
    t : Float
    t = of_bits binary64 bits

    n : Bool
    n = eqb (count w.target) (count t)

    go : (a b : Bool) → is_eighths w.target ≡ a → is_eighths w.total ≡ b
        → (a && b && eq w.target t && lt w.total w.target) ≡ (target_ok bits && a && n && b && ltb (count w.total) (count w.target))
    go false b p q = simp h
    go true false p q = simp h (ends n)
      where
        ends : (c : Bool) → false ≡ (c && false && ltb (count w.total) (count w.target))
        ends true = refl
        ends false = refl
    go true true p q =
        let i : T (is_eighths w.target) = passes _ p in
        let j : T (is_eighths w.total) = passes _ q in
        simp (h, eq_counts w.target t i (target_is_eighths bits (passes _ h)), lt_counts w.total w.target j i) (sym (ap (λ (b : Bool). b && ltb (count w.total) (count w.target)) (and-true n)))

pub running_by : (bits : ℕ) (w : Water) (o a b : Bool) → o ≡ target_ok bits → o ≡ true → a ≡ is_eighths w.target → b ≡ is_eighths w.total
    → (a && b && eq w.target (of_bits binary64 bits) && lt w.total w.target) ≡ running bits w
running_by bits w o a b h t p q = rw (p, q) (running_test bits w (sym h ∙ t))

pub target_by : (bits : ℕ) (o : Bool) → o ≡ target_ok bits → o ≡ true → T (not (nan_bits binary64 bits))
target_by bits o h t = target_not_nan bits (target_is_eighths bits (passes _ (sym h ∙ t)))

-- of a total in eighths the f64 sum is the exact one
sum_exact : (w : Water) (f : Flow) → T (is_eighths w.total) → T (flow_ok f) → sum w f ≡ added w f
unfolding sum added flow_ok
sum_exact w (Litres x) t u =
    ap (λ (s : Float). record { target = w.target; total = s }) (add_counts w.total x t (and_l (is_eighths x) (leb (count x) 512) u))
sum_exact w NoSensor t u = refl

-- and its eighths are those of both
added_counts : (w : Water) (f : Flow) → T (flow_ok f) → count w.total < 2 ^ 20 → count (added w f).total ≡ count w.total + reading_eighths f
unfolding added flow_ok
added_counts w (Litres x) u l =
    let some : count x ≤ 512 = leb→le (count x) 512 (search both) in
    count_eighths (count w.total + count x) (omega arith)
added_counts w NoSensor u l = sym (add-zero (count w.total))

summed : (w : Water) (f g : Flow) → f ≡ g → Summed w f (sum w g)
summed w f g e =
    let i : sum w g ≡ sum w f = ap (sum w) (sym e) in
    record {
      is = i;
      exact = λ t u. i ∙ sum_exact w f t u;
      whole = λ t u l. ap (λ (v : Water). count v.total) (i ∙ sum_exact w f t u) ∙ added_counts w f u l;
    }

pub summed_litres : (w : Water) (f : Flow) (x : Float) → f ≡ Litres x → Summed w f (record { target = w.target; total = add binary64 w.total x })
unfolding sum
summed_litres w f x e = summed w f (Litres x) e

pub summed_none : (w : Water) (f : Flow) → f ≡ NoSensor → Summed w f w
unfolding sum
summed_none w f e = summed w f NoSensor e

pub total_small : (bits : ℕ) (w : Water) → T (running bits w) → count w.total < 2 ^ 20
total_small bits w t =
    let top : count (of_bits binary64 bits) ≤ 2 ^ 20 = leb→le (count (of_bits binary64 bits)) (2 ^ 20) (search both) in
    let is : count w.target ≡ count (of_bits binary64 bits) = eqb→eq _ _ (search both) in
    let low : count w.total < count w.target = ltb→lt _ _ (search both) in
    omega arith

-- of the water of a running step both are exact
pub reading_exact : (bits : ℕ) (w v : Water) (f : Flow) (b : Bool) → running bits w ≡ true → flow_ok f ≡ true → Summed w f v → Compared v b
    → (v ≡ added w f) × (b ≡ reached (added w f))
unfolding added flow_ok
reading_exact bits w v f b r k s c =
    let t : T (running bits w) = passes _ r in
    let e : v ≡ added w f = s.exact (search both) (passes _ k) in
    (e, whole t f (passes _ k) (subst (λ (x : Water). Compared x b) e c))
  where
    whole : T (running bits w) → (f : Flow) → T (flow_ok f) → Compared (added w f) b → b ≡ reached (added w f)
    whole t (Litres x) u z =
        let some : count x ≤ 512 = leb→le (count x) 512 (search both) in
        z.exact (search both) (eighths_is_eighths (count w.total + count x) (omega (arith, total_small bits w t)))
    whole t NoSensor u z = z.exact (search both) (search both)
