-- The places of an accepted plan are where the walk comes to the records of each kind.
use Prim.Native.Nat.{ℕ, ◌+◌, ◌%◌, ◌≤◌, ◌<◌}
use native.Mathlib.Nat.{mod-eq_of_lt}
use native.Mathlib.Omega.{arith}
use mathlib.Core.Path.{◌≡◌, refl, sym, ap, ◌∙◌, subst}
use mathlib.Core.Logic.{◌⊎◌, inl, inr}
use mathlib.Core.List.Memᴰ
use mathlib.Core.List.{List}
use mathlib.Core.Bool.{Bool, true, false, cond}
use lib.ListN.{length}
use lib.Dec.{leb, lit<, lit≤}
use borrow.Author.Tests.{leb-true, leb-false, lt-ltb, le-ltb}
use Rattle.records.specs.Kinds.{kind_of, size_of}
use Rattle.records.specs.declared.Record.{Record}
use Rattle.records.specs.declared.Record.TheVariants.{End}
use Rattle.reader.specs.Walk.{Walk, more, stop, walk_from, records_in, records_of}
use Rattle.rules.specs.Check.{IsPlan}
use Rattle.places.specs.Places.{nowhere, place_by, noted_at, noted_in, places_of}
use Rattle.places.specs.declared.Places.{Places}
use Rattle.accepted.specs.Plan.{◌∈◌}
use Rattle.accepted.proofs.Walked.{short, walked_plan}
use Rattle.placed.proofs.Ascending.{Ascends, kind_rises, plan_ascends}
use Rattle.placed.proofs.Runs.{Along, along, AtLeast, place_in, rest}

-- ---- one of the places, that of kind j

module _ (f : Places → ℕ) (j : ℕ) (law : (p : Places) (last k at : ℕ) → f (noted_at p last k at) ≡ place_by last k at j (f p)) where
  -- it stays after a record of a kind not below j
  stays : (p : Places) (last : ℕ) (w : Walk) → j ≤ last → AtLeast j (records_in w) → f (noted_in p last w) ≡ f p
  unfolding noted_in place_by records_in
  stays p last (stop n o) h l = refl
  stays p last (more o r w) h l =
      stays (noted_at p last (kind_of r) o) (kind_of r) w (l r (Memᴰ.head refl)) (λ t m. l t (Memᴰ.tail m))
      ∙ law p last (kind_of r) o
      ∙ simp (le-ltb last j h)

  -- and is noted at the first one
  noted : (s : List ℕ) (p : Places) (last i : ℕ) (w : Walk) → last < j → Along s i w → Ascends (records_in w) → (e : Record) → j ≤ kind_of e → e ∈ records_in w
      → f (noted_in p last w) ≡ place_in j i w % 65536
  unfolding noted_in place_by records_in Along Ascends place_in
  noted s p last i (stop n o) h a c e g m = absurd (Memᴰ.not-nil m)
  noted s p last i (more o r w) h a c e g m =
      go (leb j (kind_of r)) refl (Memᴰ.cases_cons m) (λ q. noted s (noted_at p last (kind_of r) o) (kind_of r) (i + size_of r) w q a.1 c.1 e g)
    where
      go : (b : Bool) → leb j (kind_of r) ≡ b → (e ≡ r) ⊎ (e ∈ records_in w)
          → (kind_of r < j → e ∈ records_in w → f (noted_in (noted_at p last (kind_of r) o) (kind_of r) w) ≡ place_in j (i + size_of r) w % 65536)
          → f (noted_in (noted_at p last (kind_of r) o) (kind_of r) w) ≡ cond b i (place_in j (i + size_of r) w) % 65536
      go true q l f =
          let k : j ≤ kind_of r = leb-true _ _ q in
          stays (noted_at p last (kind_of r) o) (kind_of r) w k (λ t n. let z = kind_rises r t (c.0 t n) in omega arith)
          ∙ law p last (kind_of r) o
          ∙ simp (lt-ltb last j h, q, a.0.at)
      go false q (inl l) f = let z = ap kind_of l in let k : kind_of r < j = leb-false _ _ q in absurd (omega arith)
      go false q (inr l) f = f (leb-false _ _ q) l

-- ---- all of them

pub end_listed : (s : List ℕ) → IsPlan s → End ∈ records_of s
end_listed s accepted =
    let w = walked_plan s accepted in
    subst (λ (l : List Record). End ∈ l) (sym w.last) (Memᴰ.append_right w.before (Memᴰ.head refl))

pub record Noted (s : List ℕ) : Type 0 where
  pub at_11 : (places_of s).k11 ≡ place_in 0x11 0 (walk_from s 0)
  pub at_12 : (places_of s).k12 ≡ place_in 0x12 0 (walk_from s 0)
  pub at_13 : (places_of s).k13 ≡ place_in 0x13 0 (walk_from s 0)
  pub at_14 : (places_of s).k14 ≡ place_in 0x14 0 (walk_from s 0)
  pub at_15 : (places_of s).k15 ≡ place_in 0x15 0 (walk_from s 0)
  pub at_16 : (places_of s).k16 ≡ place_in 0x16 0 (walk_from s 0)
  pub at_17 : (places_of s).k17 ≡ place_in 0x17 0 (walk_from s 0)
  pub at_18 : (places_of s).k18 ≡ place_in 0x18 0 (walk_from s 0)
  pub at_19 : (places_of s).k1f ≡ place_in 0x19 0 (walk_from s 0)

module _ (s : List ℕ) (accepted : IsPlan s) where
  place : (f : Places → ℕ) (j : ℕ) → ((p : Places) (last k at : ℕ) → f (noted_at p last k at) ≡ place_by last k at j (f p)) → 0 < j → j ≤ 0x1f
      → f (places_of s) ≡ place_in j 0 (walk_from s 0)
  unfolding kind_of
  place f j law l h =
      let c = plan_ascends s accepted in
      let z = short s accepted in
      let r = rest s j 0 (walk_from s 0) (along s) (omega arith) c in
      let g : place_in j 0 (walk_from s 0) ≤ length s = r.within in
      noted f j law s nowhere 0 0 (walk_from s 0) l (along s) c End h (end_listed s accepted)
      ∙ mod-eq_of_lt (omega arith)

  pub places_noted : Noted s
  unfolding noted_at
  places_noted =
      record {
        at_11 = place (λ p. p.k11) 0x11 (λ p last k at. refl) (lit< tt) (lit≤ tt);
        at_12 = place (λ p. p.k12) 0x12 (λ p last k at. refl) (lit< tt) (lit≤ tt);
        at_13 = place (λ p. p.k13) 0x13 (λ p last k at. refl) (lit< tt) (lit≤ tt);
        at_14 = place (λ p. p.k14) 0x14 (λ p last k at. refl) (lit< tt) (lit≤ tt);
        at_15 = place (λ p. p.k15) 0x15 (λ p last k at. refl) (lit< tt) (lit≤ tt);
        at_16 = place (λ p. p.k16) 0x16 (λ p last k at. refl) (lit< tt) (lit≤ tt);
        at_17 = place (λ p. p.k17) 0x17 (λ p last k at. refl) (lit< tt) (lit≤ tt);
        at_18 = place (λ p. p.k18) 0x18 (λ p last k at. refl) (lit< tt) (lit≤ tt);
        at_19 = place (λ p. p.k1f) 0x19 (λ p last k at. refl) (lit< tt) (lit≤ tt);
      }
