-- The kinds of the table, one by one.
use mathlib.Core.Path.{◌≡◌, refl, sym, subst}
use mathlib.Core.Bool.{Bool, true, false}
use Prim.Native.Nat.{ℕ}
use lib.Dec.{eqb}
use borrow.Author.Tests.{eqb-true}
use Rattle.records.specs.Kinds.{body_len, no_len}

-- what holds of every kind of the table holds of a known one
module _ (P : ℕ → Type 0) (k : ℕ) where
  is : (c : ℕ) → P c → (eqb k c ≡ false → P k) → P k
  is c p f = go (eqb k c) refl
    where
      go : (b : Bool) → eqb k c ≡ b → P k
      go true e = subst P (sym (eqb-true k c e)) p
      go false e = f e

  pub kinds : (body_len k ≡ no_len → ⊥) → P 0x10 → P 0x11 → P 0x12 → P 0x13 → P 0x14 → P 0x15 → P 0x16 → P 0x17 → P 0x18 → P 0x1f → P k
  unfolding body_len
  kinds u a b c d e f g h j i =
      is 0x10 a (λ na. is 0x11 b (λ nb. is 0x12 c (λ nc. is 0x13 d (λ nd. is 0x14 e (λ ne. is 0x15 f (λ nf. is 0x16 g (λ ng. is 0x17 h (λ nh. is 0x18 j (λ nj. is 0x1f i (λ ni.
      absurd (u (simp (na, nb, nc, nd, ne, nf, ng, nh, nj, ni)))))))))))))
