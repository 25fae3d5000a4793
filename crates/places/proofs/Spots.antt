-- Where a look-up ends, from what the code is told.
use Rattle.std.specs.Prelude.{Some, None}
use mathlib.Core.Path.{◌≡◌, refl, sym, ap, ap₂, ◌∙◌}
use mathlib.Core.List.{List}
use mathlib.Core.Bool.{Bool, true, false, cond, false≢true, ◌&&◌}
use Prim.Native.Nat.{ℕ, zero, suc, ◌+◌, ◌-◌, ◌*◌, ◌/◌, ◌≤◌, ◌<◌}
use native.Mathlib.Omega.{arith}
use lib.ListN.{length, drop}
use lib.Dec.{eqb, ltb}
use borrow.Author.Tests.{lt-ltb, ltb-true, ne_eqb}
use Rattle.records.specs.Kinds.{body_len}
use Rattle.records.specs.Key.{key_by, head_key, key_of, same_key, precedes}
use Rattle.records.specs.declared.Record.{Record}
use Rattle.records.specs.declared.RecordKey.{RecordKey}
use Rattle.reader.specs.Read.{record_of}
use Rattle.reader.specs.Find.{find_in, found}
use Rattle.places.specs.Places.{begin_of, count_of, record_by, halved, onward, numbered, least_key, is_before, first_of, position_of, spot_of, records_by}
use Rattle.places.specs.Runs.{run_by, run_of, Inside, is_move, keyed}
use Rattle.places.specs.declared.Places.{Places}
use Rattle.places.specs.declared.Run.{Run}
use Rattle.places.proofs.Counting.{counts, inside_by}
use Rattle.places.proofs.Finding.{same_is, missing, it, numbered_by}
use Rattle.places.proofs.Keys.{alone}

module _ (s : List ℕ) (p : Places) (q : RecordKey) where
  -- the record at the key's place
  abbrev here : Record
  here = record_by s p q.kind (position_of s p q)

  abbrev spot : ℕ
  spot = suc (begin_of p q.kind + position_of s p q * suc (body_len q.kind))

  -- whether it is there, and has the key
  data Ends : ℕ → Type 0 where
    at_it : position_of s p q < count_of s p q.kind → same_key (key_of here) q ≡ true → Ends spot
    not_there : (position_of s p q < count_of s p q.kind → same_key (key_of here) q ≡ false) → Ends 0

  ends : Ends (spot_of s p q)
  unfolding spot_of
  ends = go (ltb (position_of s p q) (count_of s p q.kind)) (same_key (key_of here) q) refl refl
    where
      go : (t u : Bool) → ltb (position_of s p q) (count_of s p q.kind) ≡ t → same_key (key_of here) q ≡ u → Ends (cond (t && u) spot 0)
      go true true l e = at_it (ltb-true _ _ l) e
      go true false l e = not_there (λ m. e)
      go false u l e = not_there (λ m. absurd (false≢true (sym l ∙ lt-ltb _ _ m)))

  pub spot_it : position_of s p q < count_of s p q.kind → same_key (key_of here) q ≡ true → spot ≡ spot_of s p q
  unfolding spot_of
  spot_it l e = simp (lt-ltb _ _ l, e)

  pub spot_none : (position_of s p q < count_of s p q.kind → same_key (key_of here) q ≡ false) → 0 ≡ spot_of s p q
  unfolding spot_of
  spot_none h = go (ltb (position_of s p q) (count_of s p q.kind)) refl
    where
      go : (t : Bool) → ltb (position_of s p q) (count_of s p q.kind) ≡ t → 0 ≡ cond (t && same_key (key_of here) q) spot 0
      go true l = simp (h (ltb-true _ _ l))
      go false l = refl

  pub spot_within : {a : ℕ} → a ≡ spot_of s p q → a ≤ length s
  unfolding run_of run_by
  spot_within {a} e = go ends e
    where
      go : {x : ℕ} → Ends x → a ≡ x → a ≤ length s
      go (at_it l m) w =
          let c : (run_of s p q.kind).count ≡ count_of s p q.kind = counts s p q.kind refl in
          let t : Inside s (run_of s p q.kind) q.kind = inside_by s p q.kind refl in
          omega (arith, t.within (position_of s p q) (omega arith))
      go (not_there h) w = omega arith

  -- what a look-up finds
  module _ {a : ℕ} (e : a ≡ spot_of s p q) where
    pub look_missing : a ≡ 0 → None ≡ find_in q (records_by s p)
    look_missing z = go ends (sym e ∙ z)
      where
        go : {x : ℕ} → Ends x → x ≡ 0 → None ≡ find_in q (records_by s p)
        go (at_it l m) w = absurd (omega arith)
        go (not_there h) w = sym (missing s p q h)

    pub look_it : {v : Record} → (a ≡ 0 → ⊥) → v ≡ record_of q.kind (drop a s) → Some v ≡ find_in q (records_by s p)
    unfolding record_by
    look_it {v} z f = go ends e
      where
        go : {x : ℕ} → Ends x → a ≡ x → Some v ≡ find_in q (records_by s p)
        go (at_it l m) w = ap Some (f ∙ ap (λ (y : ℕ). record_of q.kind (drop y s)) w) ∙ sym (it s p q l m)
        go (not_there h) w = absurd (z w)

  pub found_is : found (find_in q (records_by s p)) ≡ (ltb (position_of s p q) (count_of s p q.kind) && same_key (key_of here) q)
  unfolding found
  found_is = go (ltb (position_of s p q) (count_of s p q.kind)) (same_key (key_of here) q) refl refl
    where
      go : (t u : Bool) → ltb (position_of s p q) (count_of s p q.kind) ≡ t → same_key (key_of here) q ≡ u → found (find_in q (records_by s p)) ≡ (t && u)
      go true true l e = ap found (it s p q (ltb-true _ _ l) e)
      go true false l e = ap found (missing s p q (λ m. e))
      go false u l e = ap found (missing s p q (λ m. absurd (false≢true (sym l ∙ lt-ltb _ _ m))))

  -- from the place
  module _ {r : Run} {i : ℕ} (e : r ≡ run_of s p q.kind) (f : i ≡ position_of s p q) where
    pub seek_past : r.count ≤ i → 0 ≡ spot_of s p q
    seek_past l = let w : r.count ≡ count_of s p q.kind = counts s p q.kind e in spot_none (λ m. absurd (omega arith))

    module _ (l : i < r.count) {a : ℕ} (g : a ≡ suc (r.begin + i * r.size)) where
      is_spot : a ≡ spot
      unfolding run_of run_by
      is_spot = g ∙ ap (λ (y : Run). suc (y.begin + i * y.size)) e ∙ ap (λ (j : ℕ). suc (begin_of p q.kind + j * suc (body_len q.kind))) f

      is_here : record_of q.kind (drop a s) ≡ here
      unfolding record_by
      is_here = ap (λ (y : ℕ). record_of q.kind (drop y s)) is_spot

      module _ {x : RecordKey} (h : x ≡ key_of (record_of q.kind (drop a s))) {t : Bool} (u : t ≡ same_key x q) where
        told : t ≡ same_key (key_of here) q
        told = u ∙ ap (λ (y : RecordKey). same_key y q) (h ∙ ap key_of is_here)

        pub seek_it : t ≡ true → a ≡ spot_of s p q
        seek_it w =
            let c : r.count ≡ count_of s p q.kind = counts s p q.kind e in
            is_spot ∙ spot_it (omega arith) (sym told ∙ w)

        pub seek_none : t ≡ false → 0 ≡ spot_of s p q
        seek_none w = spot_none (λ m. sym told ∙ w)

-- where no number passes the test the first is found
halved_first : (t : ℕ → Bool) (n hi : ℕ) → ((i : ℕ) → t i ≡ false) → halved t n 0 hi ≡ 0
unfolding halved
halved_first t zero hi h = refl
halved_first t (suc n) hi h = go (ltb 0 hi) (t (0 + (hi - 0) / 2)) _ _ (h (0 + (hi - 0) / 2)) (halved_first t n (0 + (hi - 0) / 2) h)
  where
    go : (b c : Bool) (x y : ℕ) → c ≡ false → y ≡ 0 → cond b (cond c x y) 0 ≡ 0
    go true c x y e f = simp e f
    go false c x y e f = refl

onward_first : (t : ℕ → Bool) (n i : ℕ) → t i ≡ false → onward t n i ≡ i
unfolding onward
onward_first t zero i h = refl
onward_first t (suc n) i h = simp h

-- the records of a kind without numbers all have one key, so that the first is the one to find
module _ (s : List ℕ) (p : Places) (q : RecordKey) (n : numbered q.kind ≡ false) (k : keyed q.kind ≡ false) where
  theirs : RecordKey
  theirs = key_by (cond (eqb q.kind 0x10) 0x10 0x1f) 0 0 0

  only : (i : ℕ) → key_of (record_by s p q.kind i) ≡ theirs
  unfolding record_by theirs
  only i = alone q.kind n k _

  none_before : precedes theirs theirs ≡ false
  unfolding precedes theirs
  none_before = go (eqb q.kind 0x10)
    where
      go : (b : Bool) → precedes (key_by (cond b 0x10 0x1f) 0 0 0) (key_by (cond b 0x10 0x1f) 0 0 0) ≡ false
      go true = refl
      go false = refl

  first_place : q ≡ theirs → 0 ≡ position_of s p q
  unfolding position_of first_of theirs
  first_place z =
      let f : (i : ℕ) → is_before s p (least_key q) i ≡ false = λ i. ap₂ precedes (only i) (ap least_key z) ∙ none_before in
      let g : (i : ℕ) → is_before s p q i ≡ false = λ i. ap₂ precedes (only i) z ∙ none_before in
      let c : ℕ = count_of s p q.kind in
      simp n (sym (ap (λ (y : ℕ). onward (is_before s p q) (c - y) y) (halved_first _ c c f) ∙ onward_first _ (c - 0) 0 (g 0)))

-- of the kinds whose keys have at most one number, from what the code is told
module _ (s : List ℕ) (p : Places) (q : RecordKey) (k : keyed q.kind ≡ false) {r : Run} {i : ℕ} (e : r ≡ run_of s p q.kind) (f : i ≡ cond (numbered q.kind) q.first 0) where
  by_kind : (P : Type 0) → (numbered q.kind ≡ true → i ≡ position_of s p q → P) → (numbered q.kind ≡ false → i ≡ 0 → P) → P
  by_kind P a b = go (numbered q.kind) refl f
    where
      go : (t : Bool) → numbered q.kind ≡ t → i ≡ cond t q.first 0 → P
      go true u v = a u (numbered_by s p q u v)
      go false u v = b u v

  pub other_past : r.count ≤ i → 0 ≡ spot_of s p q
  other_past l =
      by_kind _ (λ u v. seek_past s p q e v l)
      (λ u v. let c : r.count ≡ count_of s p q.kind = counts s p q.kind e in spot_none s p q (λ m. absurd (omega arith)))

  module _ (l : i < r.count) {a : ℕ} (g : a ≡ suc (r.begin + i * r.size)) {x : RecordKey} (h : x ≡ key_of (record_of q.kind (drop a s))) {t : Bool} (u : t ≡ same_key x q) where
    pub other_it : t ≡ true → a ≡ spot_of s p q
    unfolding theirs
    other_it w =
        by_kind _ (λ m v. seek_it s p q e v l g h u w)
        (λ m v. seek_it s p q e (v ∙ first_place s p q m k (sym (same_is x q (sym u ∙ w)) ∙ h ∙ alone q.kind m k _)) l g h u w)

    pub other_none : t ≡ false → 0 ≡ spot_of s p q
    unfolding theirs
    other_none w =
        by_kind _ (λ m v. seek_none s p q e v l g h u w)
        (λ m v. spot_none s p q (λ _. ap (λ (y : RecordKey). same_key y q) (only s p q m k _ ∙ sym (h ∙ alone q.kind m k _)) ∙ sym u ∙ w))

-- the head, which has no key
module _ (s : List ℕ) (p : Places) (x : ℕ) where
  head_key_lem : (i : ℕ) → key_of (record_by s p 0x10 i) ≡ head_key
  unfolding record_by record_of key_of
  head_key_lem i = refl

  pub head_other : 0 < x → None ≡ find_in (key_by 0x10 x 0 0) (records_by s p)
  unfolding same_key
  head_other l =
      let w : 0 ≡ x → ⊥ = λ e. absurd (omega arith) in
      sym (missing s p (key_by 0x10 x 0 0) (λ m. simp (head_key_lem (position_of s p (key_by 0x10 x 0 0)), ne_eqb 0 x w)))

  module _ (z : x ≤ 0) {r : Run} (e : r ≡ run_of s p 0x10) where
    none : x ≡ 0
    none = omega arith

    head_place : 0 ≡ position_of s p (key_by 0x10 x 0 0)
    unfolding numbered keyed is_move theirs
    head_place = first_place s p (key_by 0x10 x 0 0) refl refl (ap (λ (y : ℕ). key_by 0x10 y 0 0) none)

    head_same : same_key (key_of (record_by s p 0x10 (position_of s p (key_by 0x10 x 0 0)))) (key_by 0x10 x 0 0) ≡ true
    unfolding same_key
    head_same =
        ap (λ (y : RecordKey). same_key y (key_by 0x10 x 0 0)) (head_key_lem (position_of s p (key_by 0x10 x 0 0))) ∙ ap (λ (y : ℕ). same_key head_key (key_by 0x10 y 0 0)) none

    pub head_missing : r.count ≡ 0 → None ≡ find_in (key_by 0x10 x 0 0) (records_by s p)
    head_missing c =
        let w : r.count ≡ count_of s p 0x10 = counts s p 0x10 e in
        sym (missing s p (key_by 0x10 x 0 0) (λ m. absurd (omega arith)))

    pub head_it : (r.count ≡ 0 → ⊥) → {v : Record} → v ≡ record_of 0x10 (drop 1 s) → Some v ≡ find_in (key_by 0x10 x 0 0) (records_by s p)
    unfolding record_by begin_of body_len
    head_it c v =
        let w : r.count ≡ count_of s p 0x10 = counts s p 0x10 e in
        let o : 0 ≡ position_of s p (key_by 0x10 x 0 0) = head_place in
        ap Some v ∙ sym (it s p (key_by 0x10 x 0 0) (omega arith) head_same ∙ ap (λ (i : ℕ). Some (record_by s p 0x10 i)) (sym o))
