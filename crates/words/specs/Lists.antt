-- Lists of a function's values.
use Rattle.std.specs.Prelude.{ℕ, zero, suc, List, [], ◌∷◌, ◌++◌, drop}

-- the list f i, f (i + 1), .. of n members
unfoldable pub list_from : {A : Type 0} → (ℕ → A) → ℕ → ℕ → List A
list_from f i zero = []
list_from f i (suc n) = f i ∷ list_from f (suc i) n

-- the first n members of a list are f 0, f 1, .., the others as they were
abbrev pub front : {A : Type 0} → (ℕ → A) → ℕ → List A → List A
front f n l = list_from f 0 n ++ drop n l
