-- How many records of a kind there are, from what the code is told.
use mathlib.Core.Path.{◌≡◌, refl, sym, ap, subst}
use mathlib.Core.List.{List}
use mathlib.Core.Bool.{Bool, true, false, cond}
use Prim.Native.Nat.{ℕ, suc, ◌+◌, ◌-◌, ◌*◌, ◌/◌, ◌≤◌, ◌<◌}
use native.Mathlib.Nat.{zero-div, suc-mul, mul-le-mul_right, div-mul-le_self}
use native.Mathlib.Omega.{arith}
use lib.ListN.{length}
use lib.Dec.{leb}
use borrow.Author.Tests.{le-leb, lt-leb, leb-true}
use Rattle.records.specs.Kinds.{body_len}
use Rattle.places.specs.Places.{begin_of, end_of, count_of}
use Rattle.places.specs.Runs.{run_by, run_of, Inside}
use Rattle.places.specs.declared.Places.{Places}
use Rattle.places.specs.declared.Run.{Run}

-- z is the size that the code has read off the table
module _ (s : List ℕ) (b e z : ℕ) {y : ℕ} (q : z ≡ y) where
  pub run_whole : e ≤ length s → record { begin = b; size = z; count = (e - b) / z } ≡ run_by s b e y
  unfolding run_by
  run_whole l = rw q (simp (le-leb _ _ l))

  pub run_none : e < b → record { begin = b; size = z; count = 0 } ≡ run_by s b e y
  unfolding run_by
  run_none l =
      let w : e - b ≡ 0 = omega arith in
      rw q (rw w (go (leb e (length s))))
    where
      go : (t : Bool) → ◌≡◌ {A = Run} (record { begin = b; size = y; count = 0 }) (record { begin = b; size = y; count = cond t (0 / y) 0 })
      go true = simp zero-div
      go false = refl

  pub run_past : length s < e → record { begin = b; size = z; count = 0 } ≡ run_by s b e y
  unfolding run_by
  run_past l = rw q (simp (lt-leb _ _ l))

pub counts : (s : List ℕ) (p : Places) (k : ℕ) {r : Run} → r ≡ run_of s p k → r.count ≡ count_of s p k
unfolding count_of run_of run_by
counts s p k e = ap (λ (r : Run). r.count) e

module _ (s : List ℕ) (b e z : ℕ) (l : 0 < z) where
  inside : (i : ℕ) → i < (run_by s b e z).count → b + i * z + z ≤ length s
  unfolding run_by
  inside i = go (leb e (length s)) refl
    where
      go : (t : Bool) → leb e (length s) ≡ t → i < cond t ((e - b) / z) 0 → b + i * z + z ≤ length s
      go true w h =
          let f : e ≤ length s = leb-true _ _ w in
          let m : suc i * z ≤ (e - b) / z * z = mul-le-mul_right z h in
          omega (arith, suc-mul i z, div-mul-le_self (e - b) z)
      go false w h = absurd (omega arith)

-- the records of a kind lie within the image
pub inside_by : (s : List ℕ) (p : Places) (k : ℕ) {r : Run} → r ≡ run_of s p k → Inside s r k
unfolding run_of run_by
inside_by s p k e =
    let l : 0 < suc (body_len k) = omega arith in
    subst (λ (r : Run). Inside s r k) (sym e) (record { size = refl; within = inside s (begin_of p k) (end_of p k) (suc (body_len k)) l })
