-- What the rules are written with: a function changed at one number, a member taken out of a list. `Demand` of crate agreement names `update`,
-- `Picked` and `pick`; the rest is a step of its proof.
use Rattle.std.specs.Prelude.{ℕ, zero, suc, Bool, false, cond, List, [], ◌∷◌, eqb, Option, Some, None}

-- f, but v at i
unfoldable pub update : {A : Type 0} → (ℕ → A) → ℕ → A → ℕ → A
update f i v j = cond (eqb i j) v (f j)

-- an optional number is there and is n
unfoldable pub is_number : Option ℕ → ℕ → Bool
is_number None n = false
is_number (Some k) n = eqb k n

-- a member of a list, and the list without it
pub record Picked (A : Type 0) : Type 0 where
  pub item : A
  pub rest : List A

module _ {A : Type 0} where
  unfoldable pub behind : A → Option (Picked A) → Option (Picked A)
  behind a None = None
  behind a (Some p) = Some (record { item = p.item; rest = a ∷ p.rest })

  -- the member at an index
  unfoldable pub pick : ℕ → List A → Option (Picked A)
  pick k [] = None
  pick zero (a ∷ l) = Some (record { item = a; rest = l })
  pick (suc k) (a ∷ l) = behind a (pick k l)
