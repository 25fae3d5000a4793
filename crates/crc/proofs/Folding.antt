-- A fold over bytes, and shifts one after another.
use mathlib.Core.Path.{◌≡◌, refl, sym, ap, ◌∙◌}
use mathlib.Core.List.{List, [], ◌∷◌}
use Prim.Native.Nat.{ℕ, suc, ◌+◌, ◌-◌, ◌≤◌, ◌<◌}
use native.Mathlib.Omega.{arith}
use Rattle.std.specs.List.{fold}
use Rattle.crc.specs.Crc.{shifted, shifts, entry_of, crc_byte, crc_from}

pub folds : (c : ℕ) (s : List ℕ) → fold crc_byte c s ≡ crc_from c s
unfolding crc_from
folds c [] = refl
folds c (b ∷ s) = folds (crc_byte c b) s

-- of eight shifts of b, i are made
module _ (b c i : ℕ) (f : shifts (8 - i) c ≡ entry_of b) where
  pub shifts_on : {d : ℕ} → i < 8 → d ≡ shifted c → shifts (8 - (i + 1)) d ≡ entry_of b
  unfolding shifts
  shifts_on {d} h e =
      let n : 8 - i ≡ suc (8 - (i + 1)) = omega arith in
      ap (shifts (8 - (i + 1))) e ∙ sym (ap (λ (k : ℕ). shifts k c) n) ∙ f

  pub shifts_done : 8 ≤ i → c ≡ entry_of b
  unfolding shifts
  shifts_done h =
      let n : 8 - i ≡ 0 = omega arith in
      sym (ap (λ (k : ℕ). shifts k c) n) ∙ f
