-- The notes of 16 modules: one put, and all rotated by the place last served.
use mathlib.Core.Path.{◌≡◌, refl, sym, ap, ap₂, ◌∙◌}
use mathlib.Core.Bool.{Bool, true, false, ◌&&◌, ◌||◌, and-true, or-false}
use Prim.Native.Nat.{ℕ, zero, suc, ◌+◌, ◌-◌, ◌*◌, ◌/◌, ◌%◌, ◌^◌, ◌≤◌, ◌<◌}
use native.Mathlib.Nat.{not-suc-le-zero, le_of_suc-le-suc, pow-suc, mul_assoc, lt_of_le_of_lt}
use native.Mathlib.Omega.{arith}
use lib.Bits.{bit_and, bit_or, and_le_l, and_le_r, or_lt}
use lib.Dec.{eqb, ltb, lit<, lit≤}
use lib.Pow.{shr-shr, shl-shr, shl_exact, pow-lt}
use borrow.Author.Tests.{ne_eqb, lt-ltb, le-ltb, ltb-true, ltb-false}
use Rattle.bits.specs.Bit.{bit, put_bit, least}
use Rattle.bits.proofs.Laws.{bit_low, bit_up, bit_or_lem, bit_and_lem, bit_above, bit_low_ones}
use Rattle.bits.proofs.Least.{least_same, least_more}
use Rattle.permits.specs.Supervisor.{module_after}
use Rattle.noting.specs.Notes.{put_note}

-- a note put below k leaves a mask of k bits
pub put_small : (k m e : ℕ) (on : Bool) → k ≤ 64 → m < 2 ^ k → e < k → put_bit m e on < 2 ^ k
unfolding put_bit
put_small k m e true l p h = simp (lt-ltb e 64 (omega arith)) (or_lt k m (2 ^ e) p (pow-lt h))
put_small k m e false l p h = simp (lt-ltb e 64 (omega arith)) (lt_of_le_of_lt (and_le_l m (2 ^ 64 - 1 - 2 ^ e)) p)

module _ (noted m : ℕ) (on : Bool) where
  pub put_by : {n : ℕ} → m < 16 → n ≡ put_bit noted m on → n ≡ put_note noted m on
  unfolding put_note
  put_by l e = e ∙ simp (lt-ltb m 16 l)

  pub put_past : 16 ≤ m → noted ≡ put_note noted m on
  unfolding put_note
  put_past l = simp (le-ltb m 16 l)

  pub put_in : {n : ℕ} → m < 16 → n ≡ put_note noted m on → n ≡ put_bit noted m on
  unfolding put_note
  put_in l e = e ∙ simp (lt-ltb m 16 l)

-- ---- shifts

bit_shr : (m s e : ℕ) → bit (m / 2 ^ s) e ≡ bit m (s + e)
unfolding bit
bit_shr m s e = ap (λ (x : ℕ). eqb (x % 2) 1) (shr-shr m s e)

bit_shl : (m s e : ℕ) → bit (m * 2 ^ s) (s + e) ≡ bit m e
bit_shl m s e = sym (bit_shr (m * 2 ^ s) s e) ∙ ap (λ (x : ℕ). bit x e) (shl-shr m s)

doubled : (m s : ℕ) → m * 2 ^ suc s ≡ m * 2 ^ s * 2
doubled m s = ap (λ (x : ℕ). m * x) (pow-suc 2 s) ∙ sym (mul_assoc m (2 ^ s) 2)

bit_shl_low : (m s e : ℕ) → e < s → bit (m * 2 ^ s) e ≡ false
bit_shl_low m zero e h = absurd (not-suc-le-zero h)
bit_shl_low m (suc s) zero h = ap (λ (x : ℕ). bit x zero) (doubled m s) ∙ bit_low (m * 2 ^ s * 2) ∙ ne_eqb (m * 2 ^ s * 2 % 2) 1 (λ q. omega arith)
bit_shl_low m (suc s) (suc e) h =
    ap (λ (x : ℕ). bit x (suc e)) (doubled m s) ∙ bit_up (m * 2 ^ s * 2) e ∙ ap (λ (x : ℕ). bit x e) (let q : m * 2 ^ s * 2 / 2 ≡ m * 2 ^ s = omega arith in q)
    ∙ bit_shl_low m s e (le_of_suc-le-suc h)

-- ---- the mask rotated

module _ (n : ℕ) (p : n < 2 ^ 16) where
  -- a mask of 16 bits twice has each bit again 16 places up
  twice_bit : (j : ℕ) → j < 32 → bit (bit_or n (n * 2 ^ 16)) j ≡ bit n (j % 16)
  twice_bit j h = bit_or_lem n (n * 2 ^ 16) j ∙ go (ltb j 16) refl
    where
      go : (t : Bool) → ltb j 16 ≡ t → (bit n j || bit (n * 2 ^ 16) j) ≡ bit n (j % 16)
      go true l =
          let k : j < 16 = ltb-true j 16 l in
          ap (λ (b : Bool). bit n j || b) (bit_shl_low n 16 j k) ∙ or-false (bit n j) ∙ ap (bit n) (let q : j ≡ j % 16 = omega arith in q)
      go false l =
          let k : 16 ≤ j = ltb-false j 16 l in
          let q : j ≡ 16 + j % 16 = omega arith in
          ap (λ (b : Bool). b || bit (n * 2 ^ 16) j) (bit_above 16 n j p k) ∙ ap (bit (n * 2 ^ 16)) q ∙ bit_shl n 16 (j % 16)

  -- what the code of `rotated` computes
  abbrev round : ℕ → ℕ
  round last = bit_and (bit_or n (n * 2 ^ 16 % 2 ^ 64) / 2 ^ (last + 1)) (2 ^ 16 - 1)

  rotated_bit : (last : ℕ) → last < 16 → (k : ℕ) → k < 16 → bit (round last) k ≡ bit n (module_after last k)
  unfolding module_after
  rotated_bit last h k l =
      let s : n * 2 ^ 16 % 2 ^ 64 ≡ n * 2 ^ 16 = shl_exact 16 16 64 p (lit≤ tt) in
      bit_and_lem (bit_or n (n * 2 ^ 16 % 2 ^ 64) / 2 ^ (last + 1)) (2 ^ 16 - 1) k
      ∙ ap₂ ◌&&◌ (ap (λ (x : ℕ). bit (bit_or n x / 2 ^ (last + 1)) k) s ∙ bit_shr (bit_or n (n * 2 ^ 16)) (last + 1) k) (bit_low_ones 16 k ∙ lt-ltb k 16 l)
      ∙ and-true (bit (bit_or n (n * 2 ^ 16)) (last + 1 + k)) ∙ twice_bit (last + 1 + k) (omega arith)
      ∙ ap (λ (x : ℕ). bit n (x % 16)) (let q : last + 1 + k ≡ last + suc k = omega arith in q)

  pub rotated_by : (last : ℕ) → last < 16 → least (bit (round last)) 64 ≡ least (λ k. bit n (module_after last k)) 16
  rotated_by last h =
      least_more (bit (round last)) 16 48 (λ j l. bit_above 16 (round last) j (lt_of_le_of_lt (and_le_r (bit_or n (n * 2 ^ 16 % 2 ^ 64) / 2 ^ (last + 1)) (2 ^ 16 - 1)) (lit< tt)) l)
      ∙ least_same (bit (round last)) (λ k. bit n (module_after last k)) 16 (rotated_bit last h)
