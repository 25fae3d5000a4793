-- A test of every member, as the library has it.
use Prim.Native.Nat.{ℕ}
use mathlib.Core.Path.{◌≡◌, refl, ap}
use mathlib.Core.List.{List, [], ◌∷◌}
use mathlib.Core.Bool.{Bool, ◌&&◌}
use Rattle.std.specs.List.{list_all}
use Rattle.modules.specs.Fits.{every}

pub all_every : (p : ℕ → Bool) (l : List ℕ) → list_all p l ≡ every p l
unfolding every
all_every p [] = refl
all_every p (x ∷ l) = ap (λ (b : Bool). p x && b) (all_every p l)
