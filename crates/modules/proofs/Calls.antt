-- What calls of a closure give that it leaves as it was, and that acts as a function: the array made by one at each index, and the test of each
-- number of a range.
use Prim.Native.Nat.{ℕ, zero, suc, ◌+◌, ◌<◌}
use native.Mathlib.Nat.{zero-add}
use native.Mathlib.Numerals.{add-one}
use native.Mathlib.Omega.{arith}
use mathlib.Core.Path.{◌≡◌, refl, sym, ap, ap₂, ◌∙◌, subst}
use mathlib.Core.List.{List, ◌∷◌}
use mathlib.Core.Bool.{Bool, true, false, ◌&&◌}
use lib.ListN.{length, get_or, drop, drop_of_length-le}
use lib.Seq.{drop-cons}
use denote.Param.Members.{Mut, Called}
use Rattle.std.specs.declared.ops.Range.{Range}
use Rattle.std.specs.Array.{IsFromFnResult, IsFromFnResultFrom}
use Rattle.std.specs.Bool.{MatchBool}
use Rattle.std.specs.Iterator.{ChecksAll}
use Rattle.std.specs.List.{range_with_len, AllWithin, HoldsAt}
use Rattle.std.proofs.iter.Yields.{nat_range_steps}
use Rattle.std.proofs.lemmas.Iterator.{cases_from_all, YieldsList-from_range}
use Rattle.std.proofs.lemmas.List.FromFn.{length-range_with_len, get_or-range_with_len}
use Rattle.bits.specs.Bit.{all_below}
use Rattle.bits.proofs.Below.{one_fails}
use Rattle.words.specs.Lists.{list_from}

module _ {F A : Type 0} (g : Mut F (ℕ × Unit {0}) A) (h : ℕ → A) (f : F) (same : (i : ℕ) (y : A) (q : F) → Called g f (i, tt) y q → (q ≡ f) × (y ≡ h i)) (ys : List A) where
  made_from : (p : F) (i n : ℕ) → p ≡ f → i + n ≡ length ys → IsFromFnResultFrom g p ys i n → drop i ys ≡ list_from h i n
  unfolding list_from
  made_from p i zero e l r = drop_of_length-le ys {i = i} (omega arith)
  made_from p i (suc n) e l r =
      let s = same i r.1 r.0 (subst (λ (k : F). Called g k (i, tt) r.1 r.0) e r.3) in
      drop-cons ys i r.1 (omega arith) ∙ ap₂ (λ (x : A) (k : List A). x ∷ k) (r.2.0 ∙ s.1)
      (ap (λ (k : ℕ). drop k ys) (sym (add-one i)) ∙ made_from r.0 (i + 1) n s.0 (omega arith) r.4 ∙ ap (λ (k : ℕ). list_from h k n) (add-one i))

  pub made : (n : ℕ) → IsFromFnResult g f ys n → ys ≡ list_from h 0 n
  made n r = made_from f 0 n refl (omega (arith, r.long)) r.each

-- a test that every number below n passes, or that one of them fails
every_below : (p : ℕ → Bool) (n : ℕ) → ((k : ℕ) → k < n → p k ≡ true) → true ≡ all_below p n
unfolding all_below
every_below p zero h = refl
every_below p (suc n) h = ap₂ ◌&&◌ (sym (h n (omega arith))) (every_below p n (λ k l. h k (omega arith)))

module _ {F : Type 0} (g : Mut F (ℕ × Unit {0}) Bool) (p : ℕ → Bool) (f : F) (n : ℕ) (same : (i : ℕ) (y : Bool) (q : F) → Called g f (i, tt) y q → (q ≡ f) × (i < n → y ≡ p i)) where
  abbrev gives : Bool → ℕ → Type 0
  gives b i = i < n → p i ≡ b

  tested_by : (r : Bool) → MatchBool r (AllWithin (gives true) (range_with_len 0 n) 0 (length (range_with_len 0 n))) ((k : ℕ) × (k < length (range_with_len 0 n)) × HoldsAt (gives false) (range_with_len 0 n) k) → r ≡ all_below p n
  tested_by true m =
      every_below p n
      (λ k l. let e : get_or (range_with_len 0 n) k 0 ≡ k = get_or-range_with_len 0 n k 0 l ∙ zero-add k in
      subst (gives true) e (m k 0 (omega arith) (omega (arith, length-range_with_len 0 n))) l)
  tested_by false m =
      let l : m.0 < n = omega (arith, m.1, length-range_with_len 0 n) in
      let e : get_or (range_with_len 0 n) m.0 0 ≡ m.0 = get_or-range_with_len 0 n m.0 0 l ∙ zero-add m.0 in
      one_fails p n m.0 (sym (subst (gives false) e (m.2 0) l)) refl l

  pub tested : (r : Bool) (s u : Range ℕ) → s ≡ record { start = 0; end = n } → ChecksAll nat_range_steps g s f r u → r ≡ all_below p n
  tested r s u e c =
      tested_by r
      (cases_from_all u f r (gives true) (gives false) c (YieldsList-from_range 0 n n e (omega arith))
      (λ x q k. let w = same x true q k in (w.0, λ l. sym (w.1 l))) (λ x q k. λ l. sym ((same x false q k).1 l)))
