-- The water of a litres step fits: at its start, and after a reading that does not reach the target.
use Prim.Native.Nat.{ℕ, ◌+◌, ◌^◌, ◌≤◌, ◌<◌}
use native.Mathlib.Omega.{arith}
use mathlib.Core.Path.{◌≡◌, refl, sym, ap, subst}
use mathlib.Core.Bool.{Bool, false, cond}
use denote.Floats.{is_true}
use lib.Dec.{T, ltb, eqb, eqb→eq, lt→ltb, leb→le, lit<}
use lib.Ieee.{binary64, of_bits}
use lib.Ieee.Fits.{and_i, eq→eqb}
use borrow.Author.Tests.{leb-false}
use Rattle.litres.specs.Eighths.{eighths, is_eighths, count, target_ok}
use Rattle.litres.proofs.Laws.{eighths_is_eighths, count_eighths}
use Rattle.rules.proofs.Valid.{both}
use Rattle.water.proofs.Laws.{total_small}
use Rattle.water.specs.Water.{flow_ok, no_water, water_of, added, reached, water_zero, running}
use Rattle.water.specs.declared.Water.{Water}
use Rattle.water.specs.declared.Flow.{Flow}
use Rattle.water.specs.declared.Flow.TheVariants.{Litres, NoSensor}

pub water_zero_none : T (water_zero no_water)
water_zero_none =
    let a : T (is_eighths (eighths 0)) = eighths_is_eighths 0 (lit< tt) in
    let b : T (eqb (count (eighths 0)) 0) = eq→eqb (count_eighths 0 (lit< tt)) in
    search and_i

-- a total of n eighths below the target
runs : (x : ℕ) (w : Water) (n : ℕ) → T (target_ok x) → T (is_eighths w.target) → count w.target ≡ count (of_bits binary64 x) → n < 2 ^ 53 → n < count w.target
    → T (running x (record { target = w.target; total = eighths n }))
runs x w n z t q s l =
    let a : T (eqb (count w.target) (count (of_bits binary64 x))) = eq→eqb q in
    let b : T (is_eighths (eighths n)) = eighths_is_eighths n s in
    let c : T (ltb (count (eighths n)) (count w.target)) = subst (λ (k : ℕ). T (ltb k (count w.target))) (sym (count_eighths n s)) (lt→ltb n (count w.target) l) in
    search and_i

pub starts : (x : ℕ) → T (target_ok x) → T (running x (water_of x))
starts x t =
    subst (λ (w : Water). T (running x w)) (sym is)
    (runs x (record { target = of_bits binary64 x; total = eighths 0 }) 0 t (search both) refl (lit< tt) (leb→le 1 (count (of_bits binary64 x)) (search both)))
  where
    is : water_of x ≡ record { target = of_bits binary64 x; total = eighths 0 }
    is = unfold water_of in ap (λ (b : Bool). cond b (record { target = of_bits binary64 x; total = eighths 0 }) no_water) (is_true (target_ok x) t)

pub goes_on : (x : ℕ) (w : Water) (f : Flow) → T (target_ok x) → T (running x w) → T (flow_ok f) → reached (added w f) ≡ false → T (running x (added w f))
unfolding flow_ok added
goes_on x w (Litres y) t r ok q =
    let some : count y ≤ 512 = leb→le (count y) 512 (search both) in
    let l : count w.total < 2 ^ 20 = total_small x w r in
    let n : ℕ = count w.total + count y in
    let s : n < 2 ^ 53 = omega arith in
    let below : count (eighths n) < count w.target = leb-false (count w.target) (count (eighths n)) q in
    runs x w n t (search both) (eqb→eq _ _ (search both)) s (subst (λ (k : ℕ). k < count w.target) (count_eighths n s) below)
goes_on x w NoSensor t r ok q = r
