-- Document 01, "The two-valve sheet": plan P, 82 bytes.
use Rattle.std.specs.Prelude.{ℕ, List, [], ◌∷◌}

unfoldable pub plan_p : List ℕ
plan_p =
    0x10 ∷ 2 ∷ 1 ∷ 4
    ∷ 0x11 ∷ 0 ∷ 0 ∷ 1 ∷ 0x11 ∷ 1 ∷ 0 ∷ 0 ∷ 0x11 ∷ 2 ∷ 1 ∷ 1 ∷ 0x11 ∷ 3 ∷ 1 ∷ 0
    ∷ 0x12 ∷ 0 ∷ 2 ∷ 0 ∷ 0x12 ∷ 1 ∷ 2 ∷ 0
    ∷ 0x13 ∷ 0 ∷ 0 ∷ 0 ∷ 1 ∷ 0x13 ∷ 0 ∷ 1 ∷ 1 ∷ 0 ∷ 0x13 ∷ 1 ∷ 0 ∷ 2 ∷ 1 ∷ 0x13 ∷ 1 ∷ 1 ∷ 3 ∷ 0
    ∷ 0x14 ∷ 0 ∷ 2 ∷ 0 ∷ 0 ∷ 0 ∷ 0 ∷ 0 ∷ 0 ∷ 0 ∷ 0 ∷ 0x0d
    ∷ 0x15 ∷ 0 ∷ 0 ∷ 2 ∷ 1 ∷ 0x15 ∷ 0 ∷ 1 ∷ 3 ∷ 0
    ∷ 0x16 ∷ 0 ∷ 0 ∷ 0 ∷ 0 ∷ 0 ∷ 0 ∷ 0 ∷ 0 ∷ 0 ∷ 1
    ∷ 0x1f ∷ []
