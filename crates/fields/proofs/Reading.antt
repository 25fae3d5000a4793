-- The numbers that bytes are, past the end.
use mathlib.Core.Path.{◌≡◌}
use mathlib.Core.List.{List}
use Prim.Native.Nat.{ℕ, ◌+◌, ◌≤◌}
use native.Mathlib.Omega.{arith}
use lib.ListN.{length, get_or, get_or-eq_default}
use Rattle.fields.specs.Fields.{half_at}

module _ (s : List ℕ) (o : ℕ) (h : length s ≤ o) where
  past : (k : ℕ) → get_or s (o + k) 0 ≡ 0
  past k = get_or-eq_default s 0 (omega arith)

  pub half_none : 0 ≡ half_at s o
  unfolding half_at
  half_none = let e : get_or s o 0 ≡ 0 = get_or-eq_default s 0 h in simp (e, past 1)
