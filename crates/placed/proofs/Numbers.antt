-- The i-th event, module and supervisor of an accepted plan has the number i.
use Prim.Native.Nat.{ℕ, zero, suc, ◌≤◌, ◌<◌}
use native.Mathlib.Nat.{eq-or-lt_of_le}
use native.Mathlib.Omega.{arith}
use mathlib.Core.Path.{◌≡◌, refl, ap, ◌∙◌, subst₂}
use mathlib.Core.Logic.{◌⊎◌, inl, inr}
use mathlib.Core.List.{List}
use mathlib.Core.Bool.{Bool, true, false}
use lib.ListN.{get_or}
use lib.Dec.{leb}
use borrow.Author.Tests.{leb-true, leb-false}
use Rattle.records.specs.Kinds.{kind_of}
use Rattle.records.specs.Key.{key_by, key_of}
use Rattle.records.specs.declared.Record.{Record}
use Rattle.records.specs.declared.Record.TheVariants.{Event, Module, Supervisor}
use Rattle.reader.specs.Read.{record_of}
use Rattle.reader.specs.Walk.{records_of}
use Rattle.rules.specs.LookUp.{modules_of, supervisors_of, events_of}
use Rattle.rules.specs.Check.{IsPlan}
use Rattle.places.specs.Places.{record_by}
use Rattle.accepted.specs.Plan.{◌∈◌, Sound}
use Rattle.accepted.proofs.Order.{Precedes}
use Rattle.accepted.proofs.Accepted.{every_plan}
use Rattle.placed.proofs.OfKind.{Begins, key_at, kind_run, ordered, belongs, index_in}

-- ---- n numbers that ascend strictly and leave none out

module _ (f : ℕ → ℕ) (n : ℕ) (rises : (i j : ℕ) → i < j → j < n → f i < f j) (fills : (i e : ℕ) → i < n → e < f i → (m : ℕ) × (m < n) × (f m ≡ e)) where
  not_less : (i : ℕ) → i < n → i ≤ f i
  not_less zero h = omega arith
  not_less (suc i) h =
      let g : i ≤ f i = not_less i (omega arith) in
      let r : f i < f (suc i) = rises i (suc i) (omega arith) h in
      omega arith

  -- where those before i are their own places, a number i below f i has no place m
  no_place : (i m : ℕ) → i < f i → m < n → f m ≡ i → ((j : ℕ) → j < i → f j ≡ j) → ⊥
  no_place i m l q e g = go (leb i m) refl
    where
      later : (i ≡ m) ⊎ (i < m) → ⊥
      later (inl z) = let y = ap f z in omega arith
      later (inr z) = let y = rises i m z q in omega arith

      go : (c : Bool) → leb i m ≡ c → ⊥
      go true r = later (eq-or-lt_of_le (leb-true _ _ r))
      go false r = let z : m < i = leb-false _ _ r in let y = g m z in omega arith

  -- up to a bound b
  below : (b i : ℕ) → i < b → i < n → f i ≡ i
  below zero i h k = absurd (omega arith)
  below (suc b) i h k = go (leb (f i) i) refl (λ j l. below b j (omega arith) (omega arith))
    where
      go : (c : Bool) → leb (f i) i ≡ c → ((j : ℕ) → j < i → f j ≡ j) → f i ≡ i
      go true e g = let l : f i ≤ i = leb-true _ _ e in let r = not_less i k in omega arith
      go false e g =
          let l : i < f i = leb-false _ _ e in
          let m = fills i i k l in
          absurd (no_place i m.0 l m.1 m.2 g)

  own_place : (i : ℕ) → i < n → f i ≡ i
  own_place i h = below (suc i) i (omega arith) h

-- ---- the records of a kind that is keyed by number

number_rises : (k a b : ℕ) → Precedes (key_by k a 0 0) (key_by k b 0 0) → a < b
number_rises k a b (inl h) = absurd (omega arith)
number_rises k a b (inr (e, inl h)) = h
number_rises k a b (inr (e, inr (f, inl h))) = absurd (omega arith)
number_rises k a b (inr (e, inr (f, inr (g, h)))) = absurd (omega arith)

-- a record of kind k and number e
abbrev Declared : List Record → ℕ → ℕ → Type 0
Declared rs k e = (r : Record) × (r ∈ rs) × (kind_of r ≡ k) × ((key_of r).first ≡ e)

module _ (s : List ℕ) (accepted : IsPlan s) (k : ℕ) (begins : Begins s k) where
  -- by the form of their keys, and since no number below one of them is left out
  numbers : ((b : List ℕ) → key_of (record_of k b) ≡ key_by k (key_of (record_of k b)).first 0 0)
      → ((b : List ℕ) (e : ℕ) → record_of k b ∈ records_of s → e < (key_of (record_of k b)).first → Declared (records_of s) k e)
      → (i : ℕ) → i < (kind_run s accepted k begins).count → (key_at s k i).first ≡ i
  unfolding record_by
  numbers keyed declared =
      own_place (λ i. (key_at s k i).first) (kind_run s accepted k begins).count
      (λ i j h l. number_rises k _ _ (subst₂ Precedes (keyed _) (keyed _) (ordered s accepted k begins i j h l)))
      (λ i e h l. fill (declared _ e (belongs s accepted k begins i h) l))
    where
      fill : {e : ℕ} → Declared (records_of s) k e → (m : ℕ) × (m < (kind_run s accepted k begins).count) × ((key_at s k m).first ≡ e)
      fill (r, m, q, z) =
          let x = index_in s accepted k begins r m q in
          (x.0, x.1, ap (λ (t : Record). (key_of t).first) x.2 ∙ z)

-- ---- events, modules and supervisors

module _ (s : List ℕ) (accepted : IsPlan s) where
  sound : Sound (records_of s)
  sound = (every_plan s accepted).sound

  pub event_numbers : (begins : Begins s 0x11) (i : ℕ) → i < (kind_run s accepted 0x11 begins).count → (key_at s 0x11 i).first ≡ i
  unfolding record_of key_of kind_of
  event_numbers begins = numbers s accepted 0x11 begins (λ b. refl) declared
    where
      declared : (b : List ℕ) (e : ℕ) → record_of 0x11 b ∈ records_of s → e < (key_of (record_of 0x11 b)).first → Declared (records_of s) 0x11 e
      declared b e m h =
          let l : get_or b 0 0 < events_of (records_of s) = (sound.laws (record_of 0x11 b) m).number in
          let t = sound.the_event e (omega arith) in
          (Event e t.owner t.class, t.listed, refl, refl)

  pub module_numbers : (begins : Begins s 0x12) (i : ℕ) → i < (kind_run s accepted 0x12 begins).count → (key_at s 0x12 i).first ≡ i
  unfolding record_of key_of kind_of
  module_numbers begins = numbers s accepted 0x12 begins (λ b. refl) declared
    where
      declared : (b : List ℕ) (e : ℕ) → record_of 0x12 b ∈ records_of s → e < (key_of (record_of 0x12 b)).first → Declared (records_of s) 0x12 e
      declared b e m h =
          let l : get_or b 0 0 < modules_of (records_of s) = (sound.laws (record_of 0x12 b) m).number in
          let t = sound.the_module e (omega arith) in
          (Module e t.states t.initial, t.listed, refl, refl)

  pub supervisor_numbers : (begins : Begins s 0x14) (i : ℕ) → i < (kind_run s accepted 0x14 begins).count → (key_at s 0x14 i).first ≡ i
  unfolding record_of key_of kind_of
  supervisor_numbers begins = numbers s accepted 0x14 begins (λ b. refl) declared
    where
      declared : (b : List ℕ) (e : ℕ) → record_of 0x14 b ∈ records_of s → e < (key_of (record_of 0x14 b)).first → Declared (records_of s) 0x14 e
      declared b e m h =
          let l : get_or b 0 0 < supervisors_of (records_of s) = (sound.laws (record_of 0x14 b) m).number in
          let t = sound.the_supervisor e (omega arith) in
          (Supervisor e t.states t.initial t.alphabet, t.listed, refl, refl)
