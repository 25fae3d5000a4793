-- A look-up among the records that the places lead to finds at most the one at the place of its key.
use Rattle.std.specs.Prelude.{Option, Some, None}
use mathlib.Core.Path.{◌≡◌, refl, sym, ap, ◌∙◌, subst}
use mathlib.Core.List.{List, [], ◌∷◌, ◌++◌}
use mathlib.Core.Bool.{Bool, true, false, cond, not, ◌&&◌, ◌||◌}
use Prim.Native.Nat.{ℕ, zero, suc, ◌+◌, ◌-◌, ◌/◌, ◌≤◌, ◌<◌}
use native.Mathlib.Nat.{zero-div}
use native.Mathlib.Omega.{arith}
use lib.ListN.{length}
use lib.Dec.{T, T_not, leb, eqb, eqb→eq}
use lib.Ieee.Fits.{and_l, and_r}
use borrow.Author.Tests.{eq-eqb, ne_eqb, eqb-true, eqb-false}
use denote.Floats.{passes}
use Rattle.records.specs.Kinds.{body_len, no_len, size_by}
use Rattle.records.specs.Key.{key_by, key_of, same_key}
use Rattle.records.specs.declared.Record.{Record}
use Rattle.records.specs.declared.RecordKey.{RecordKey}
use Rattle.reader.specs.Find.{find_in}
use Rattle.reader.proofs.Reading.{kind_kept}
use Rattle.places.specs.Places.{begin_of, end_of, count_of, record_by, halved, onward, numbered, least_key, first_of, position_of, picked, records_of_kind, records_of_kinds, kinds, records_by}
use Rattle.places.specs.Runs.{run_by, run_of, keyed, before}
use Rattle.places.specs.declared.Places.{Places}
use Rattle.places.specs.declared.Run.{Run}
use Rattle.places.proofs.Keys.{keyed_other}

-- the first of two answers that is a record
or_else : Option Record → Option Record → Option Record
or_else (Some r) y = Some r
or_else None y = y

find_append : (q : RecordKey) (a b : List Record) → find_in q (a ++ b) ≡ or_else (find_in q a) (find_in q b)
unfolding find_in or_else
find_append q [] b = refl
find_append q (r ∷ a) b = go (same_key (key_of r) q) (find_append q a b)
  where
    go : (t : Bool) → find_in q (a ++ b) ≡ or_else (find_in q a) (find_in q b) → cond t (Some r) (find_in q (a ++ b)) ≡ or_else (cond t (Some r) (find_in q a)) (find_in q b)
    go true e = refl
    go false e = e

-- ---- among the records that are picked

module _ (q : RecordKey) (t : ℕ → Bool) (f : ℕ → Record) where
  pick : (i n : ℕ) → find_in q (picked t f i (suc n)) ≡ cond (t i && same_key (key_of (f i)) q) (Some (f i)) (find_in q (picked t f (suc i) n))
  unfolding find_in picked
  pick i n = go (t i)
    where
      go : (b : Bool) → find_in q (cond b (f i ∷ picked t f (suc i) n) (picked t f (suc i) n)) ≡ cond (b && same_key (key_of (f i)) q) (Some (f i)) (find_in q (picked t f (suc i) n))
      go true = refl
      go false = refl

  -- no record has the key
  pick_none : (i n : ℕ) → ((j : ℕ) → same_key (key_of (f j)) q ≡ false) → find_in q (picked t f i n) ≡ None
  unfolding find_in picked
  pick_none i zero h = refl
  pick_none i (suc n) h = pick i n ∙ go (t i) (pick_none (suc i) n h)
    where
      go : (b : Bool) → find_in q (picked t f (suc i) n) ≡ None → cond (b && same_key (key_of (f i)) q) (Some (f i)) (find_in q (picked t f (suc i) n)) ≡ None
      go true e = simp (h i) e
      go false e = e

  -- of those with the key the m-th alone is picked
  module _ (m : ℕ) (only : (j : ℕ) → same_key (key_of (f j)) q ≡ true → t j ≡ eqb m j) where
    step : (i n : ℕ) → find_in q (picked t f i (suc n)) ≡ cond (eqb m i && same_key (key_of (f i)) q) (Some (f i)) (find_in q (picked t f (suc i) n))
    step i n = pick i n ∙ go (same_key (key_of (f i)) q) (t i) (eqb m i) (only i)
      where
        go : (b x y : Bool) → (b ≡ true → x ≡ y) → cond (x && b) (Some (f i)) (find_in q (picked t f (suc i) n)) ≡ cond (y && b) (Some (f i)) (find_in q (picked t f (suc i) n))
        go true x y e = simp (e refl)
        go false true true e = refl
        go false true false e = refl
        go false false true e = refl
        go false false false e = refl

    step_on : (i n : ℕ) → (m ≡ i → same_key (key_of (f i)) q ≡ false) → find_in q (picked t f i (suc n)) ≡ find_in q (picked t f (suc i) n)
    step_on i n h = step i n ∙ go (eqb m i) refl
      where
        go : (b : Bool) → eqb m i ≡ b → cond (b && same_key (key_of (f i)) q) (Some (f i)) (find_in q (picked t f (suc i) n)) ≡ find_in q (picked t f (suc i) n)
        go true e = simp (h (eqb-true _ _ e))
        go false e = refl

    pub pick_missing : (i n : ℕ) → (m < i + n → same_key (key_of (f m)) q ≡ false) → find_in q (picked t f i n) ≡ None
    unfolding find_in picked
    pick_missing i zero h = refl
    pick_missing i (suc n) h =
        step_on i n (λ e. subst (λ (j : ℕ). same_key (key_of (f j)) q ≡ false) e (h (omega arith)))
        ∙ pick_missing (suc i) n (λ l. h (omega arith))

    pub pick_it : (i n : ℕ) → i ≤ m → m < i + n → same_key (key_of (f m)) q ≡ true → find_in q (picked t f i n) ≡ Some (f m)
    pick_it i zero l h e = absurd (omega arith)
    pick_it i (suc n) l h e = go (eqb m i) refl (λ a. pick_it (suc i) n a (omega arith) e)
      where
        go : (b : Bool) → eqb m i ≡ b → (suc i ≤ m → find_in q (picked t f (suc i) n) ≡ Some (f m)) → find_in q (picked t f i (suc n)) ≡ Some (f m)
        go true w g =
            let z : m ≡ i = eqb-true _ _ w in
            let u : same_key (key_of (f i)) q ≡ true = subst (λ (j : ℕ). same_key (key_of (f j)) q ≡ true) z e in
            step i n ∙ simp (w, u) (ap (λ (j : ℕ). Some (f j)) (sym z))
        go false w g = let u : m ≡ i → ⊥ = eqb-false _ _ w in step_on i n (λ z. absurd (u z)) ∙ g (omega arith)

-- ---- among the records of all kinds

pub same_is : (p q : RecordKey) → same_key p q ≡ true → p ≡ q
unfolding same_key
same_is p q e =
    let t : T (same_key p q) = passes _ e in
    let k : p.kind ≡ q.kind = eqb→eq _ _ (search (and_l, and_r)) in
    let a : p.first ≡ q.first = eqb→eq _ _ (search (and_l, and_r)) in
    let b : p.second ≡ q.second = eqb→eq _ _ (search (and_l, and_r)) in
    let c : p.third ≡ q.third = eqb→eq _ _ (search (and_l, and_r)) in
    λ i. record { kind = k i; first = a i; second = b i; third = c i }

other_kind : (p q : RecordKey) → (p.kind ≡ q.kind → ⊥) → same_key p q ≡ false
unfolding same_key
other_kind p q d = simp (ne_eqb _ _ d)

-- whether kinds are of the table
known : List ℕ → Bool
known [] = true
known (k ∷ ks) = not (eqb (body_len k) no_len) && known ks

known_first : (k : ℕ) (ks : List ℕ) → T (known (k ∷ ks)) → body_len k ≡ no_len → ⊥
unfolding known
known_first k ks h z = T_not (eqb (body_len k) no_len) (and_l (not (eqb (body_len k) no_len)) (known ks) h) (passes _ (eq-eqb _ _ z))

known_rest : (k : ℕ) (ks : List ℕ) → T (known (k ∷ ks)) → T (known ks)
unfolding known
known_rest k ks h = and_r (not (eqb (body_len k) no_len)) (known ks) h

-- whether a kind is one of a list
has : List ℕ → ℕ → Bool
has [] x = false
has (k ∷ ks) x = eqb x k || has ks x

-- a kind that no record has ends at 0
end_none : (p : Places) (k : ℕ) → has kinds k ≡ false → end_of p k ≡ 0
unfolding has end_of
end_none p k e = go (eqb k 0x10) (eqb k 0x11) (eqb k 0x12) (eqb k 0x13) (eqb k 0x14) (eqb k 0x15) (eqb k 0x16) (eqb k 0x17) (eqb k 0x18) (eqb k 0x1f) e
  where
    go : (a0 a1 a2 a3 a4 a5 a6 a7 a8 a9 : Bool) → (a0 || (a1 || (a2 || (a3 || (a4 || (a5 || (a6 || (a7 || (a8 || (a9 || false)))))))))) ≡ false
        → cond a0 p.k11 (cond a1 p.k12 (cond a2 p.k13 (cond a3 p.k14 (cond a4 p.k15 (cond a5 p.k16 (cond a6 p.k17 (cond a7 p.k18 (cond a8 p.k1f (cond a9 (p.k1f + size_by 0x1f) 0))))))))) ≡ 0
    go true a1 a2 a3 a4 a5 a6 a7 a8 a9 e = let z : ◌≡◌ {A = ℕ} 0 1 = cc in absurd (omega arith)
    go false true a2 a3 a4 a5 a6 a7 a8 a9 e = let z : ◌≡◌ {A = ℕ} 0 1 = cc in absurd (omega arith)
    go false false true a3 a4 a5 a6 a7 a8 a9 e = let z : ◌≡◌ {A = ℕ} 0 1 = cc in absurd (omega arith)
    go false false false true a4 a5 a6 a7 a8 a9 e = let z : ◌≡◌ {A = ℕ} 0 1 = cc in absurd (omega arith)
    go false false false false true a5 a6 a7 a8 a9 e = let z : ◌≡◌ {A = ℕ} 0 1 = cc in absurd (omega arith)
    go false false false false false true a6 a7 a8 a9 e = let z : ◌≡◌ {A = ℕ} 0 1 = cc in absurd (omega arith)
    go false false false false false false true a7 a8 a9 e = let z : ◌≡◌ {A = ℕ} 0 1 = cc in absurd (omega arith)
    go false false false false false false false true a8 a9 e = let z : ◌≡◌ {A = ℕ} 0 1 = cc in absurd (omega arith)
    go false false false false false false false false true a9 e = let z : ◌≡◌ {A = ℕ} 0 1 = cc in absurd (omega arith)
    go false false false false false false false false false true e = let z : ◌≡◌ {A = ℕ} 0 1 = cc in absurd (omega arith)
    go false false false false false false false false false false e = refl

count_none : (s : List ℕ) (p : Places) (k : ℕ) → has kinds k ≡ false → count_of s p k ≡ 0
unfolding count_of
count_none s p k e =
    let w : end_of p k - begin_of p k ≡ 0 = omega (arith, end_none p k e) in
    rw w (go (leb (end_of p k) (length s)))
  where
    go : (b : Bool) → cond b (0 / suc (body_len k)) 0 ≡ 0
    go true = zero-div _
    go false = refl

module _ (s : List ℕ) (p : Places) (q : RecordKey) where
  other_missing : (k : ℕ) → (body_len k ≡ no_len → ⊥) → (q.kind ≡ k → ⊥) → find_in q (records_of_kind s p k) ≡ None
  unfolding records_of_kind record_by
  other_missing k h d = pick_none q _ _ 0 (count_of s p k) (λ j. other_kind _ q (λ e. d (sym e ∙ kind_kept k _ h)))

  in_kinds : (ks : List ℕ) → T (known ks) → find_in q (records_of_kinds s p ks) ≡ cond (has ks q.kind) (find_in q (records_of_kind s p q.kind)) None
  unfolding find_in records_of_kinds known has or_else
  in_kinds [] h = refl
  in_kinds (k ∷ ks) h =
      find_append q (records_of_kind s p k) (records_of_kinds s p ks)
      ∙ ap (or_else (find_in q (records_of_kind s p k))) (in_kinds ks (known_rest k ks h))
      ∙ go (eqb q.kind k) refl
    where
      fst : (x : Option Record) (b : Bool) → or_else x (cond b x None) ≡ x
      fst (Some r) b = refl
      fst None true = refl
      fst None false = refl

      go : (b : Bool) → eqb q.kind k ≡ b
          → or_else (find_in q (records_of_kind s p k)) (cond (has ks q.kind) (find_in q (records_of_kind s p q.kind)) None)
          ≡ cond (b || has ks q.kind) (find_in q (records_of_kind s p q.kind)) None
      go true e =
          ap (λ (x : ℕ). or_else (find_in q (records_of_kind s p x)) (cond (has ks q.kind) (find_in q (records_of_kind s p q.kind)) None)) (sym (eqb-true _ _ e))
          ∙ fst (find_in q (records_of_kind s p q.kind)) (has ks q.kind)
      go false e = rw (other_missing k (known_first k ks h) (eqb-false _ _ e))

  none_of : has kinds q.kind ≡ false → find_in q (records_of_kind s p q.kind) ≡ None
  unfolding records_of_kind find_in picked
  none_of e = rw (count_none s p q.kind e)

  by_kind : find_in q (records_by s p) ≡ find_in q (records_of_kind s p q.kind)
  unfolding records_by known body_len
  by_kind = in_kinds kinds tt ∙ go (has kinds q.kind) refl
    where
      go : (b : Bool) → has kinds q.kind ≡ b → cond b (find_in q (records_of_kind s p q.kind)) None ≡ find_in q (records_of_kind s p q.kind)
      go true e = refl
      go false e = sym (none_of e)

  -- a record of the kind that has the key is picked where its number is the key's place
  only : (j : ℕ) → same_key (key_of (record_by s p q.kind j)) q ≡ true → eqb (position_of s p (key_of (record_by s p q.kind j))) j ≡ eqb (position_of s p q) j
  only j e = ap (λ (x : RecordKey). eqb (position_of s p x) j) (same_is _ q e)

  pub missing : (position_of s p q < count_of s p q.kind → same_key (key_of (record_by s p q.kind (position_of s p q))) q ≡ false) → find_in q (records_by s p) ≡ None
  unfolding records_of_kind
  missing h = by_kind ∙ pick_missing q _ (record_by s p q.kind) (position_of s p q) only 0 (count_of s p q.kind) (λ l. h (omega arith))

  pub it : position_of s p q < count_of s p q.kind → same_key (key_of (record_by s p q.kind (position_of s p q))) q ≡ true
      → find_in q (records_by s p) ≡ Some (record_by s p q.kind (position_of s p q))
  unfolding records_of_kind
  it l e = by_kind ∙ pick_it q _ (record_by s p q.kind) (position_of s p q) only 0 (count_of s p q.kind) (omega arith) (omega arith) e

-- ---- from what the code is told

module _ (s : List ℕ) (p : Places) (q : RecordKey) where
  pub numbered_by : {x : ℕ} → numbered q.kind ≡ true → x ≡ q.first → x ≡ position_of s p q
  unfolding position_of
  numbered_by n e = simp n e

  pub keyed_by : {r : Run} {h x : ℕ} → keyed q.kind ≡ true → r ≡ run_of s p q.kind → h ≡ halved (before s r (least_key q)) r.count 0 r.count
      → x ≡ onward (before s r q) (r.count - h) h → x ≡ position_of s p q
  unfolding position_of first_of run_of run_by before count_of record_by
  keyed_by {r} {h} {x} n e f g =
      simp (keyed_other _ n)
      (g
      ∙ ap (λ (y : ℕ). onward (before s r q) (r.count - y) y) f
      ∙ ap (λ (y : Run). onward (before s y q) (y.count - halved (before s y (least_key q)) y.count 0 y.count) (halved (before s y (least_key q)) y.count 0 y.count)) e)

-- no event, module or supervisor is found past the count of its kind
pub number_missing : (s : List ℕ) (p : Places) (k x : ℕ) → numbered k ≡ true → count_of s p k ≤ x → find_in (key_by k x 0 0) (records_by s p) ≡ None
number_missing s p k x n h =
    let w : x ≡ position_of s p (key_by k x 0 0) = numbered_by s p (key_by k x 0 0) n refl in
    missing s p (key_by k x 0 0) (λ m. absurd (omega arith))
