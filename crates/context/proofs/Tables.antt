-- A table and a mask after one entry more.
use Rattle.std.proofs.Common.{◌≡◌, ℕ, ◌^◌, ◌<◌, ◌≤◌, Bool, true, false, cond, eqb, ltb, List, length, get_or, set, sym, refl, ap, ◌∙◌, arith, length-set, get_or-set_other, get_or-set_same, ltb-false, eqb-true}
use borrow.Author.Tests.{eqb-false}
use Rattle.bits.specs.Bit.{bit, put_bit}
use Rattle.bits.proofs.Laws.{put_at, put_fits}
use Rattle.context.specs.Context.{with_entry, with_bit}

pub with_entry_length : (k : ℕ) (t : List ℕ) (i x : ℕ) → length t ≡ k → length (with_entry k t i x) ≡ k
unfolding with_entry
with_entry_length k t i x h = go (ltb i k)
  where
    go : (b : Bool) → length (cond b (set t i x) t) ≡ k
    go true = length-set t i x ∙ h
    go false = h

-- the entry at j: x where j is i, else as it was
pub with_entry_at : (k : ℕ) (t : List ℕ) (i x j : ℕ) → length t ≡ k → j < k → get_or (with_entry k t i x) j 0 ≡ cond (eqb i j) x (get_or t j 0)
unfolding with_entry
with_entry_at k t i x j h l = go (ltb i k) refl (eqb i j) refl
  where
    go : (b : Bool) → ltb i k ≡ b → (d : Bool) → eqb i j ≡ d → get_or (cond b (set t i x) t) j 0 ≡ cond d x (get_or t j 0)
    go true p true q = let e : i ≡ j = eqb-true i j q in ap (λ (n : ℕ). get_or (set t i x) n 0) (sym e) ∙ get_or-set_same t i x 0 (omega arith)
    go true p false q = get_or-set_other t i j x 0 (λ e. eqb-false i j q (sym e))
    go false p true q = let e : i ≡ j = eqb-true i j q in let g : k ≤ i = ltb-false i k p in absurd (omega arith)
    go false p false q = refl

pub with_bit_fits : (k m i : ℕ) (on : Bool) → m < 2 ^ 64 → with_bit k m i on < 2 ^ 64
unfolding with_bit
with_bit_fits k m i on h = go (ltb i k)
  where
    go : (b : Bool) → cond b (put_bit m i on) m < 2 ^ 64
    go true = put_fits m i on h
    go false = h

-- the bit at j: on or off where j is i, else as it was
pub with_bit_at : (k m i : ℕ) (on : Bool) (j : ℕ) → k ≤ 64 → m < 2 ^ 64 → j < k → bit (with_bit k m i on) j ≡ cond (eqb i j) on (bit m j)
unfolding with_bit
with_bit_at k m i on j w h l = go (ltb i k) refl (eqb i j) refl
  where
    go : (b : Bool) → ltb i k ≡ b → (d : Bool) → eqb i j ≡ d → bit (cond b (put_bit m i on) m) j ≡ cond d on (bit m j)
    go true p d q = put_at m i on j h (omega arith) ∙ ap (λ (t : Bool). cond t on (bit m j)) q
    go false p true q = let e : i ≡ j = eqb-true i j q in let g : k ≤ i = ltb-false i k p in absurd (omega arith)
    go false p false q = refl
