-- Laws of the generic definitions, and the tools of the proofs: tests, optional numbers, weighted counts of a list, all members of a list.
use Rattle.std.specs.Prelude.{Option, Some, None, is_some}
use Prim.Native.Nat.{ℕ, zero, suc, ◌+◌, ◌≤◌}
use native.Mathlib.Nat.{not-suc-le-zero}
use native.Mathlib.Decide.{ℕ_discrete}
use native.Mathlib.Omega.{arith}
use mathlib.Core.Path.{◌≡◌, refl, sym, ap, ◌∙◌, subst}
use mathlib.Core.Logic.{◌≢◌, ◌⊎◌, inl, inr}
use mathlib.Core.Bool.{Bool, true, false, ◌&&◌, true≢false, false≢true}
use mathlib.Core.List.{List, [], ◌∷◌, ◌++◌}
use lib.Dec.{eqb}
use borrow.Author.Tests.{eq-eqb, ne_eqb, eqb-true}
use Rattle.protocol.specs.Generic.{update, Picked, behind, pick}

-- ---- tests
pub clash {ℓ} : {A : Type ℓ} {b : Bool} → b ≡ true → b ≡ false → A
clash p q = absurd (true≢false (sym p ∙ q))

-- the two cases of a test, with the equation
pub either_way : (b : Bool) → (b ≡ true) ⊎ (b ≡ false)
either_way true = inl refl
either_way false = inr refl

pub bool_ext : (a b : Bool) → (a ≡ true → b ≡ true) → (b ≡ true → a ≡ true) → a ≡ b
bool_ext true b f g = sym (f refl)
bool_ext false true f g = g refl
bool_ext false false f g = refl

pub and_true : (a b : Bool) → a && b ≡ true → (a ≡ true) × (b ≡ true)
and_true true b e = (refl, e)
and_true false b e = absurd (false≢true e)

pub and_intro : {a b : Bool} → a ≡ true → b ≡ true → a && b ≡ true
and_intro p q = rw (p, q)

pub eqb_self : (n : ℕ) → eqb n n ≡ true
eqb_self n = eq-eqb n n refl

-- a test as 1 or 0
abbrev pub digit : Bool → ℕ
digit true = 1
digit false = 0

digit_most : (b : Bool) → digit b ≤ 1
digit_most true = omega arith
digit_most false = omega arith

pub digit_true : (b : Bool) → 1 ≤ digit b → b ≡ true
digit_true true h = refl
digit_true false h = absurd (not-suc-le-zero h)

pub digit_false : (b : Bool) → digit b ≡ 0 → b ≡ false
digit_false true h = let z : ⊥ = omega arith in absurd z
digit_false false h = refl

-- ---- optional numbers

-- 1 where the number is there and is n
abbrev pub one_at : Option ℕ → ℕ → ℕ
one_at None n = 0
one_at (Some k) n = digit (eqb k n)

pub one_at_most : (o : Option ℕ) (n : ℕ) → one_at o n ≤ 1
one_at_most None n = omega arith
one_at_most (Some k) n = digit_most (eqb k n)

pub one_at_some : (o : Option ℕ) (n : ℕ) → 1 ≤ one_at o n → o ≡ Some n
one_at_some None n h = absurd (not-suc-le-zero h)
one_at_some (Some k) n h = ap {B = Option ℕ} Some (eqb-true k n (digit_true (eqb k n) h))

pub one_at_is : (o : Option ℕ) (n : ℕ) → o ≡ Some n → one_at o n ≡ 1
one_at_is o n e = rw e (ap digit (eqb_self n))

pub is_some_is : (o : Option ℕ) → is_some o ≡ true → (i : ℕ) × (o ≡ Some i)
is_some_is None e = absurd (false≢true e)
is_some_is (Some i) e = (i, refl)

-- ---- a function changed at one number
module _ {A : Type 0} where
  pub update_same : (f : ℕ → A) (i : ℕ) (v : A) → update f i v i ≡ v
  unfolding update
  update_same f i v = rw (eqb_self i)

  pub update_other : (f : ℕ → A) (i : ℕ) (v : A) (j : ℕ) → i ≢ j → update f i v j ≡ f j
  unfolding update
  update_other f i v j h = rw (ne_eqb i j h)

  -- what holds at i of v, and at every other j of f j, holds everywhere of the changed function
  pub update_each {ℓ} : (Q : ℕ → A → Type ℓ) (f : ℕ → A) (i : ℕ) (v : A) → Q i v → ((j : ℕ) → i ≢ j → Q j (f j)) → (j : ℕ) → Q j (update f i v j)
  update_each Q f i v h k j = go (ℕ_discrete i j)
    where
      go : Dec (i ≡ j) → Q j (update f i v j)
      go (yes p) = subst (λ (n : ℕ). Q n (update f i v n)) p (subst (λ (a : A). Q i a) (sym (update_same f i v)) h)
      go (no q) = subst (λ (a : A). Q j a) (sym (update_other f i v j q)) (k j q)

-- ---- weighted counts of a list
module _ {A : Type 0} where
  unfoldable pub count : (A → ℕ) → List A → ℕ
  count f [] = 0
  count f (a ∷ l) = f a + count f l

  pub count_nil : (f : A → ℕ) → count f [] ≡ 0
  unfolding count
  count_nil f = refl

  pub count_cons : (f : A → ℕ) (a : A) (l : List A) → count f (a ∷ l) ≡ f a + count f l
  unfolding count
  count_cons f a l = refl

  pub count_append : (f : A → ℕ) (l r : List A) → count f (l ++ r) ≡ count f l + count f r
  unfolding count
  count_append f [] r = omega arith
  count_append f (a ∷ l) r = omega (arith, count_append f l r)

  pub count_one : (f : A → ℕ) (l : List A) (a : A) → count f (l ++ (a ∷ [])) ≡ count f l + f a
  unfolding count
  count_one f l a = omega (arith, count_append f l (a ∷ []))

  -- every member
  pub data All (Q : A → Type 0) : List A → Type 0 where
    nil : All Q []
    cons : {a : A} {l : List A} → Q a → All Q l → All Q (a ∷ l)

  pub All-append : {Q : A → Type 0} {l r : List A} → All Q l → All Q r → All Q (l ++ r)
  All-append nil h = h
  All-append (cons p t) h = cons p (All-append t h)

  -- l is r with a put in somewhere
  pub data Inserted (a : A) : List A → List A → Type 0 where
    here : {r : List A} → Inserted a (a ∷ r) r
    there : {b : A} {l r : List A} → Inserted a l r → Inserted a (b ∷ l) (b ∷ r)

  behind_inserted : (b : A) (l : List A) (o : Option (Picked A)) (p : Picked A) → ((q : Picked A) → o ≡ Some q → Inserted q.item l q.rest) → behind b o ≡ Some p
      → Inserted p.item (b ∷ l) p.rest
  unfolding behind
  behind_inserted b l None p h e = let z : ◌≡◌ {A = ℕ} 0 1 = cc in absurd (omega arith)
  behind_inserted b l (Some q) p h e =
      let f : p ≡ record { item = q.item; rest = b ∷ q.rest } = cc in
      subst (λ (x : Picked A). Inserted x.item (b ∷ l) x.rest) (sym f) (there (h q refl))

  pub pick_inserted : (k : ℕ) (l : List A) (p : Picked A) → pick k l ≡ Some p → Inserted p.item l p.rest
  unfolding pick
  pick_inserted k [] p e = let z : ◌≡◌ {A = ℕ} 0 1 = cc in absurd (omega arith)
  pick_inserted zero (a ∷ l) p e =
      let f : p ≡ record { item = a; rest = l } = cc in
      subst (λ (x : Picked A). Inserted x.item (a ∷ l) x.rest) (sym f) here
  pick_inserted (suc k) (a ∷ l) p e = behind_inserted a l (pick k l) p (pick_inserted k l) e

  pub inserted_count : {a : A} {l r : List A} (f : A → ℕ) → Inserted a l r → count f l ≡ f a + count f r
  unfolding count
  inserted_count f here = refl
  inserted_count f (there t) = omega (arith, inserted_count f t)

  pub inserted_all : {Q : A → Type 0} {a : A} {l r : List A} → Inserted a l r → All Q l → Q a × All Q r
  inserted_all here (cons p t) = (p, t)
  inserted_all (there u) (cons p t) = let h = inserted_all u t in (h.0, cons p h.1)
