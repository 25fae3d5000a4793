-- Look-ups where no two records share a kind and key.
use Rattle.std.specs.Prelude.{Option, Some, None}
use Prim.Native.Nat.{ℕ, ◌<◌}
use native.Mathlib.Omega.{arith}
use mathlib.Core.Path.{◌≡◌, refl, sym, ap, ◌∙◌, subst}
use mathlib.Core.Logic.{◌⊎◌, inl, inr}
use mathlib.Core.List.Memᴰ
use mathlib.Core.List.{List, [], ◌∷◌}
use mathlib.Core.Bool.{Bool, true, false, cond}
use lib.Dec.{T, eqb→eq, eqb_refl}
use lib.Ieee.Fits.{and_i}
use denote.Floats.{passes as holds}
use Rattle.records.specs.Key.{key_of, same_key}
use Rattle.records.specs.declared.Record.{Record}
use Rattle.records.specs.declared.RecordKey.{RecordKey}
use Rattle.reader.specs.Find.{find_in, found}
use Rattle.rules.specs.LookUp.{field_of}
use Rattle.rules.proofs.Valid.{both}
use Rattle.accepted.specs.Plan.{◌∈◌, Unique}

same_is : (p q : RecordKey) → T (same_key p q) → p ≡ q
unfolding same_key
same_is p q t =
    let k : p.kind ≡ q.kind = eqb→eq _ _ (search both) in
    let a : p.first ≡ q.first = eqb→eq _ _ (search both) in
    let b : p.second ≡ q.second = eqb→eq _ _ (search both) in
    let c : p.third ≡ q.third = eqb→eq _ _ (search both) in
    λ i. record { kind = k i; first = a i; second = b i; third = c i }

same_self : (p : RecordKey) → T (same_key p p)
unfolding same_key
same_self p = search (and_i, eqb_refl)

-- what a look-up finds stands in the list, with that kind and key
found_at : (p : RecordKey) (rs : List Record) (r : Record) → find_in p rs ≡ Some r → (r ∈ rs) × (key_of r ≡ p)
unfolding find_in
found_at p [] r e = let z : ◌≡◌ {A = ℕ} 0 1 = cc in absurd (omega arith)
found_at p (x ∷ rs) r e = go (same_key (key_of x) p) refl e (found_at p rs r)
  where
    go : (b : Bool) → same_key (key_of x) p ≡ b → cond b (Some x) (find_in p rs) ≡ Some r → (find_in p rs ≡ Some r → (r ∈ rs) × (key_of r ≡ p)) → (r ∈ (x ∷ rs)) × (key_of r ≡ p)
    go true s e f = let q : r ≡ x = cc in (Memᴰ.head q, ap key_of q ∙ same_is (key_of x) p (holds _ s))
    go false s e f = (Memᴰ.tail (f e).0, (f e).1)

pub some_found : (p : RecordKey) (rs : List Record) → T (found (find_in p rs)) → (r : Record) × (r ∈ rs) × (key_of r ≡ p)
unfolding found
some_found p rs t = go (find_in p rs) refl t
  where
    go : (f : Option Record) → find_in p rs ≡ f → T (found f) → (r : Record) × (r ∈ rs) × (key_of r ≡ p)
    go (Some r) e t = let k = found_at p rs r e in (r, k.0, k.1)
    go None e t = absurd t

-- at the key of a record a look-up finds something
some_at : (rs : List Record) (r : Record) → r ∈ rs → (t : Record) × (find_in (key_of r) rs ≡ Some t)
unfolding find_in
some_at [] r m = absurd (Memᴰ.not-nil m)
some_at (x ∷ rs) r m = go (same_key (key_of x) (key_of r)) refl (Memᴰ.cases_cons m) (some_at rs r)
  where
    go : (b : Bool) → same_key (key_of x) (key_of r) ≡ b → (r ≡ x) ⊎ (r ∈ rs) → (r ∈ rs → (t : Record) × (find_in (key_of r) rs ≡ Some t))
        → (t : Record) × (cond b (Some x) (find_in (key_of r) rs) ≡ Some t)
    go true s c f = (x, refl)
    go false s (inl e) f = absurd (subst T s (subst (λ (y : Record). T (same_key (key_of y) (key_of r))) e (same_self (key_of r))))
    go false s (inr n) f = f n

pub finds : (rs : List Record) → Unique rs → (r : Record) → r ∈ rs → find_in (key_of r) rs ≡ Some r
finds rs u r m =
    let s = some_at rs r m in
    let h = found_at (key_of r) rs s.0 s.1 in
    s.1 ∙ ap Some (u s.0 r h.0 m h.1)

-- what is found among some of the records is found among all of them
pub found_more : (some all : List Record) → Unique all → ((t : Record) → t ∈ some → t ∈ all) → (p : RecordKey) → T (found (find_in p some)) → find_in p some ≡ find_in p all
unfolding found
found_more some all u h p t = go (find_in p some) refl t
  where
    go : (f : Option Record) → find_in p some ≡ f → T (found f) → f ≡ find_in p all
    go (Some r) e t =
        let k = found_at p some r e in
        sym (finds all u r (h r k.0)) ∙ ap (λ (q : RecordKey). find_in q all) k.1
    go None e t = absurd t

-- a field of what is not found is 0
pub found_field : (f : Record → ℕ) (x : ℕ) (l : Option Record) → x < field_of f l → T (found l)
unfolding found field_of
found_field f x (Some r) h = tt
found_field f x None h = absurd (omega arith)
