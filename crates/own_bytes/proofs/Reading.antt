-- An own part is read from its bytes alone, one that fits has no NaN, and bytes that are all 0 are an empty one.
use mathlib.Core.Path.{◌≡◌, refl, ap, ap₂, ◌∙◌}
use mathlib.Core.List.{List, [], ◌∷◌}
use mathlib.Core.Bool.{Bool, true, false, cond, ◌&&◌}
use Prim.Native.Nat.{ℕ, zero, suc, ◌+◌, ◌≤◌, ◌<◌}
use native.Mathlib.Omega.{arith}
use lib.ListN.{length, get_or, take}
use lib.Dec.{T, eqb, lit<}
use lib.Seq.{get_or-take}
use lib.Ieee.{of_bits, nan_bits}
use lib.Ieee.Bits.{is_true}
use Rattle.litres.specs.Eighths.{is_eighths, count}
use Rattle.litres.proofs.Laws.{target_not_nan}
use Rattle.words.specs.Word.{all_zero, quad_at, word_at}
use Rattle.records.specs.declared.Record.{Record}
use Rattle.rules.proofs.Valid.{both}
use Rattle.plan.specs.Plan.{operation_of, operand_of}
use Rattle.water.specs.Water.{water_zero, running}
use Rattle.modules.specs.Fits.{every, idle_fits, step_fits, procedure_fits, own_fits, own_empty}
use Rattle.modules.specs.declared.Own.{Own}
use Rattle.modules.specs.declared.Procedure.{Procedure}
use Rattle.fields.specs.Fields.{bytes_from, half_at, is_flag, is_float}
use Rattle.fields.proofs.Back.{and_left, and_right}
use borrow.Author.Tests.{eqb-true, lt-ltb, le-ltb}
use Rattle.own_bytes.specs.Own.{own_size, procedure_of, own_of, is_own, unfit_own, own_read, own_stands}

-- ---- the same bytes

module _ (b c : List ℕ) (same : (i : ℕ) → i < own_size → get_or b i 0 ≡ get_or c i 0) where
  word_same : (o : ℕ) → o + 8 ≤ own_size → word_at b o ≡ word_at c o
  unfolding word_at
  word_same o h =
      simp (same o (omega arith), same (o + 1) (omega arith), same (o + 2) (omega arith), same (o + 3) (omega arith), same (o + 4) (omega arith), same (o + 5) (omega arith), same (o + 6) (omega arith), same (o + 7) (omega arith))

  from_same : (n o : ℕ) → o + n ≤ own_size → bytes_from b o n ≡ bytes_from c o n
  unfolding bytes_from
  from_same zero o h = refl
  from_same (suc n) o h = ap₂ ◌∷◌ (same o (omega arith)) (from_same n (suc o) (omega arith))

  half_same : half_at b 13 ≡ half_at c 13
  unfolding half_at
  half_same = simp (same 13 (lit< tt), same 14 (lit< tt))

  quad_same : quad_at b 31 ≡ quad_at c 31
  unfolding quad_at
  quad_same = simp (same 31 (lit< tt), same 32 (lit< tt), same 33 (lit< tt), same 34 (lit< tt))

  pub is_same : is_own b ≡ is_own c
  unfolding is_own
  is_same = simp (same 10 (lit< tt), word_same 15 (omega arith), word_same 23 (omega arith))

  pub own_same : own_of b ≡ own_of c
  unfolding own_of procedure_of
  own_same =
      simp (same 0 (lit< tt), same 1 (lit< tt), from_same 8 2 (omega arith), same 10 (lit< tt), same 11 (lit< tt), same 12 (lit< tt), half_same, word_same 15 (omega arith), word_same 23 (omega arith), quad_same)

-- ---- a slice of just those bytes

module _ (b : List ℕ) where
  pub is_short : length b < own_size → false ≡ own_stands b
  unfolding own_stands
  is_short h = simp (lt-ltb (length b) own_size h)

  pub is_window : {r : Bool} → own_size ≤ length b → r ≡ is_own (take own_size b) → r ≡ own_stands b
  unfolding own_stands
  is_window h e = simp (le-ltb (length b) own_size h) (e ∙ is_same (take own_size b) b (λ i k. get_or-take own_size b i 0 k))

  pub own_short : {r : Own} → length b < own_size → r ≡ unfit_own → r ≡ own_read b
  unfolding own_read
  own_short h e = simp (lt-ltb (length b) own_size h) e

  pub own_window : {r : Own} → own_size ≤ length b → r ≡ own_of (take own_size b) → r ≡ own_read b
  unfolding own_read
  own_window h e = simp (le-ltb (length b) own_size h) (e ∙ own_same (take own_size b) b (λ i k. get_or-take own_size b i 0 k))

  -- bytes that are enough
  pub stands_all : own_size ≤ length b → own_stands b ≡ is_own b
  unfolding own_stands
  stands_all h = simp (le-ltb (length b) own_size h)

  pub read_all : own_size ≤ length b → own_read b ≡ own_of b
  unfolding own_read
  read_all h = simp (le-ltb (length b) own_size h)

-- ---- an own part that fits, or is empty, has no NaN

module _ (p : Procedure) where
  abbrev pub Whole : Type 0
  Whole = T (is_eighths p.water.target) × T (is_eighths p.water.total)

  idle_whole : T (idle_fits p) → Whole
  unfolding idle_fits
  idle_whole t = (search both, search both)

  pub fits_whole : (rs : List Record) (m : ℕ) → T (procedure_fits rs m p) → Whole
  unfolding procedure_fits step_fits
  fits_whole rs m = go p.running
    where
      pours : (b : Bool) (x : ℕ) → T (cond b (running x p.water) (water_zero p.water)) → Whole
      pours true x t = (search both, search both)
      pours false x t = (search both, search both)

      go : (b : Bool) → T (cond b (step_fits rs m p) (idle_fits p)) → Whole
      go true t = pours (eqb (operation_of rs p.event p.index) 4) (operand_of rs p.event p.index) (search both)
      go false t = idle_whole t

-- so that of its bytes only the flag is left to judge
module _ (b : List ℕ) where
  pub flag_fails : is_flag (get_or b 10 0) ≡ false → is_own b ≡ false
  unfolding is_own
  flag_fails f = ap (λ (t : Bool). t && is_float b 15 && is_float b 23) f

  module _ (f : is_flag (get_or b 10 0) ≡ true) where
    whole_stands : Whole (procedure_of b) → is_own b ≡ true
    unfolding is_own procedure_of
    whole_stands w =
        let target : is_float b 15 ≡ true = is_true (is_float b 15) (target_not_nan (word_at b 15) w.0) in
        let total : is_float b 23 ≡ true = is_true (is_float b 23) (target_not_nan (word_at b 23) w.1) in
        simp (f, target, total)

    pub fits_stands : (rs : List Record) (m : ℕ) → T (own_fits rs m (own_of b)) → is_own b ≡ true
    unfolding own_fits own_of
    fits_stands rs m t = whole_stands (fits_whole (procedure_of b) rs m (search both))

    pub empty_stands : T (own_empty (own_of b)) → is_own b ≡ true
    unfolding own_empty own_of
    empty_stands t = whole_stands (idle_whole (procedure_of b) (search both))

-- ---- bytes that are 0

pub zero_at : (s : List ℕ) → all_zero s ≡ true → (i : ℕ) → get_or s i 0 ≡ 0
unfolding all_zero
zero_at [] h i = refl
zero_at (x ∷ s) h zero = eqb-true x 0 (and_left (eqb x 0) (all_zero s) h)
zero_at (x ∷ s) h (suc i) = zero_at s (and_right (eqb x 0) (all_zero s) h) i

-- they stand for an own part, and for an empty one
module _ (b : List ℕ) (h : (i : ℕ) → i < own_size → get_or b i 0 ≡ 0) where
  pub zeros_stand : is_own b ≡ true
  zeros_stand = is_same b [] h ∙ (unfold is_own word_at nan_bits in refl)

  pub zeros_empty : own_empty (own_of b) ≡ true
  zeros_empty = ap own_empty (own_same b [] h) ∙ (unfold own_empty own_of procedure_of bytes_from half_at quad_at word_at idle_fits every is_eighths count of_bits in refl)
