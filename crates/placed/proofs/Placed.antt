-- By its own places, a look-up finds every record of an accepted plan.
use Prim.Native.Nat.{ℕ, suc, ◌+◌, ◌*◌, ◌≤◌, ◌<◌}
use native.Mathlib.Omega.{arith}
use mathlib.Core.Path.{◌≡◌, refl, sym, ap, ◌∙◌}
use mathlib.Core.List.{List, ◌++◌}
use mathlib.Core.Bool.{Bool, true, false}
use lib.Dec.{leb}
use borrow.Author.Tests.{leb-true, leb-false}
use Rattle.records.specs.Kinds.{body_len, kind_of}
use Rattle.records.specs.Key.{key_of}
use Rattle.records.specs.declared.Record.{Record}
use Rattle.records.specs.declared.Record.TheVariants.{End}
use Rattle.reader.specs.Read.{record_of}
use Rattle.reader.specs.Walk.{walk_from, records_in, records_of}
use Rattle.rules.specs.Check.{IsPlan}
use Rattle.places.specs.Places.{places_of, begin_of, end_of, record_by, numbered, records_of_kind, records_of_kinds, records_by}
use Rattle.accepted.proofs.Order.{precedes_irrefl}
use Rattle.placed.specs.Placed.{AllFound}
use Rattle.placed.proofs.Runs.{from, place_in, from_first, from_end, from_none}
use Rattle.placed.proofs.Noted.{Noted, places_noted, end_listed}
use Rattle.placed.proofs.OfKind.{Begins, Ends, key_at, kind_run, ordered, index_in, kind_found, by_number, by_halving}
use Rattle.placed.proofs.Numbers.{event_numbers, module_numbers, supervisor_numbers}

module _ (s : List ℕ) (accepted : IsPlan s) where
  -- a look-up finds all the records of kind k
  abbrev Found : ℕ → Type 0
  Found k = records_of_kind s (places_of s) k ++ records_in (from (suc k) (walk_from s 0)) ≡ records_in (from k (walk_from s 0))

  -- a record that is read as one of kind k has that kind
  abbrev Kept : ℕ → Type 0
  Kept k = (b : List ℕ) → (key_of (record_of k b)).kind ≡ k

  by_halves : (k : ℕ) → Begins s k → Ends s k → Kept k → numbered k ≡ false → Found k
  by_halves k b e kept n = kind_found s accepted k b e (by_halving s accepted k b e kept n)

  by_numbers : (k : ℕ) (b : Begins s k) → Ends s k → Kept k → numbered k ≡ true → ((i : ℕ) → i < (kind_run s accepted k b).count → (key_at s k i).first ≡ i) → Found k
  by_numbers k b e kept n own = kind_found s accepted k b e (by_number s accepted k b e kept n own)

  noted : Noted s
  noted = places_noted s accepted

  found_10 : Found 0x10
  unfolding begin_of end_of record_of key_of numbered
  found_10 = by_halves 0x10 (sym (from_first 0 (walk_from s 0)).1) noted.at_11 (λ b. refl) refl

  found_11 : Found 0x11
  unfolding begin_of end_of record_of key_of numbered
  found_11 = by_numbers 0x11 noted.at_11 noted.at_12 (λ b. refl) refl (event_numbers s accepted noted.at_11)

  found_12 : Found 0x12
  unfolding begin_of end_of record_of key_of numbered
  found_12 = by_numbers 0x12 noted.at_12 noted.at_13 (λ b. refl) refl (module_numbers s accepted noted.at_12)

  found_13 : Found 0x13
  unfolding begin_of end_of record_of key_of numbered
  found_13 = by_halves 0x13 noted.at_13 noted.at_14 (λ b. refl) refl

  found_14 : Found 0x14
  unfolding begin_of end_of record_of key_of numbered
  found_14 = by_numbers 0x14 noted.at_14 noted.at_15 (λ b. refl) refl (supervisor_numbers s accepted noted.at_14)

  found_15 : Found 0x15
  unfolding begin_of end_of record_of key_of numbered
  found_15 = by_halves 0x15 noted.at_15 noted.at_16 (λ b. refl) refl

  found_16 : Found 0x16
  unfolding begin_of end_of record_of key_of numbered
  found_16 = by_halves 0x16 noted.at_16 noted.at_17 (λ b. refl) refl

  found_17 : Found 0x17
  unfolding begin_of end_of record_of key_of numbered
  found_17 = by_halves 0x17 noted.at_17 noted.at_18 (λ b. refl) refl

  found_18 : Found 0x18
  unfolding begin_of end_of record_of key_of numbered
  found_18 = by_halves 0x18 noted.at_18 noted.at_19 (λ b. refl) refl

  -- ---- the end record

  end_begins : Begins s 0x1f
  unfolding begin_of
  end_begins = noted.at_19 ∙ (from_end 0 (walk_from s 0)).1

  -- there is one
  one_end : (kind_run s accepted 0x1f end_begins).count ≡ 1
  unfolding record_by record_of kind_of
  one_end = go (leb n 1) refl
    where
      n : ℕ
      n = (kind_run s accepted 0x1f end_begins).count

      go : (b : Bool) → leb n 1 ≡ b → n ≡ 1
      go true e =
          let x = index_in s accepted 0x1f end_begins End (end_listed s accepted) refl in
          let h : x.0 < n = x.1 in
          let l : n ≤ 1 = leb-true _ _ e in
          omega arith
      go false e = absurd (precedes_irrefl (key_of End) (ordered s accepted 0x1f end_begins 0 1 (omega arith) (leb-false _ _ e)))

  end_ends : Ends s 0x1f
  unfolding end_of begin_of body_len
  end_ends =
      let n : ℕ = (kind_run s accepted 0x1f end_begins).count in
      let e : place_in 0x20 0 (walk_from s 0) ≡ begin_of (places_of s) 0x1f + (0 + n) * suc (body_len 0x1f) = (kind_run s accepted 0x1f end_begins).ends in
      let o = one_end in
      omega arith

  found_1f : Found 0x1f
  unfolding record_of key_of numbered
  found_1f = by_halves 0x1f end_begins end_ends (λ b. refl) refl

  -- ---- all of them

  join : (k : ℕ) {rs : List Record} → Found k → rs ≡ records_in (from (suc k) (walk_from s 0)) → records_of_kind s (places_of s) k ++ rs ≡ records_in (from k (walk_from s 0))
  join k f e = ap (λ (l : List Record). records_of_kind s (places_of s) k ++ l) e ∙ f

  found_all : records_by s (places_of s) ≡ records_of s
  unfolding records_by records_of_kinds
  found_all =
      join 0x10 found_10
      (join 0x11 found_11
      (join 0x12 found_12
      (join 0x13 found_13
      (join 0x14 found_14
      (join 0x15 found_15
      (join 0x16 found_16
      (join 0x17 found_17
      (join 0x18 found_18
      (join 0x1f found_1f (sym (from_none (walk_from s 0))) ∙ sym (ap records_in (from_end 0 (walk_from s 0)).0))))))))))
      ∙ ap records_in (from_first 0 (walk_from s 0)).0

pub all_found : AllFound
all_found = found_all
