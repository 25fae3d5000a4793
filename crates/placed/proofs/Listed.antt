-- Lists of the records f m, f (m + 1), .. by their index.
use Prim.Native.Nat.{ℕ, zero, suc, ◌+◌, ◌≤◌, ◌<◌}
use native.Mathlib.Nat.{eq-or-lt_of_le}
use native.Mathlib.Omega.{arith}
use mathlib.Core.Path.{◌≡◌, refl, sym, ap, subst}
use mathlib.Core.Logic.{◌⊎◌, inl, inr}
use mathlib.Core.List.Memᴰ
use mathlib.Core.List.{List, ◌∷◌, ◌++◌}
use mathlib.Core.Bool.{Bool, true}
use Rattle.records.specs.Key.{key_of}
use Rattle.records.specs.declared.Record.{Record}
use Rattle.places.specs.Places.{picked}
use Rattle.accepted.specs.Plan.{◌∈◌}
use Rattle.accepted.proofs.Order.{Precedes}
use Rattle.placed.proofs.Ascending.{Ascends}
use Rattle.placed.proofs.Runs.{listed}

module _ (f : ℕ → Record) where
  pub in_listed : (m n i : ℕ) → m ≤ i → i < m + n → f i ∈ listed f m n
  unfolding listed
  in_listed m zero i h k = absurd (omega arith)
  in_listed m (suc n) i h k = go (eq-or-lt_of_le h) (λ l. in_listed (suc m) n i l (omega arith))
    where
      go : (m ≡ i) ⊎ (m < i) → (suc m ≤ i → f i ∈ listed f (suc m) n) → f i ∈ listed f m (suc n)
      go (inl e) g = Memᴰ.head (ap f (sym e))
      go (inr l) g = Memᴰ.tail (g l)

  -- where a record of the list stands
  pub index_of : (m n : ℕ) (r : Record) → r ∈ listed f m n → (i : ℕ) × (i < m + n) × (f i ≡ r)
  unfolding listed
  index_of m zero r h = absurd (Memᴰ.not-nil h)
  index_of m (suc n) r h = go (Memᴰ.cases_cons h) (index_of (suc m) n r)
    where
      go : (r ≡ f m) ⊎ (r ∈ listed f (suc m) n) → (r ∈ listed f (suc m) n → (i : ℕ) × (i < suc m + n) × (f i ≡ r)) → (i : ℕ) × (i < m + suc n) × (f i ≡ r)
      go (inl e) g = (m, omega arith, sym e)
      go (inr l) g = let x = g l in (x.0, (let y = x.1 in omega arith), x.2)

  pub listed_ascends : (m n : ℕ) (rs : List Record) → Ascends (listed f m n ++ rs) → (i j : ℕ) → m ≤ i → i < j → j < m + n → Precedes (key_of (f i)) (key_of (f j))
  unfolding listed Ascends
  listed_ascends m zero rs c i j h k l = absurd (omega arith)
  listed_ascends m (suc n) rs c i j h k l = go (eq-or-lt_of_le h) (λ g. listed_ascends (suc m) n rs c.1 i j g k (omega arith))
    where
      go : (m ≡ i) ⊎ (m < i) → (suc m ≤ i → Precedes (key_of (f i)) (key_of (f j))) → Precedes (key_of (f i)) (key_of (f j))
      go (inl e) g =
          subst (λ (x : ℕ). Precedes (key_of (f x)) (key_of (f j))) e
          (c.0 (f j) (Memᴰ.append_left rs (in_listed (suc m) n j (omega arith) (omega arith))))
      go (inr q) g = g q

  -- where each passes the test, all are picked
  pub all_picked : (t : ℕ → Bool) (m n : ℕ) → ((i : ℕ) → i < m + n → t i ≡ true) → picked t f m n ≡ listed f m n
  unfolding picked listed
  all_picked t m zero h = refl
  all_picked t m (suc n) h = simp (h m (omega arith)) (ap (λ (rs : List Record). f m ∷ rs) (all_picked t (suc m) n (λ i l. h i (omega arith))))
