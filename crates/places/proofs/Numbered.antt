-- The records of the kinds whose records have the number of their place, from what the code is told of the kind.
use Rattle.std.specs.Prelude.{Some, None}
use mathlib.Core.Path.{◌≡◌, refl, ap, ◌∙◌}
use mathlib.Core.List.{List}
use mathlib.Core.Bool.{true, ◌&&◌, and-true}
use Prim.Native.Nat.{ℕ, suc, ◌+◌, ◌*◌, ◌≤◌, ◌<◌}
use native.Mathlib.Nat.{add-zero}
use native.Mathlib.Omega.{arith}
use lib.ListN.{length, drop, get_or}
use lib.Seq.{get_or-drop}
use lib.Dec.{eqb}
use borrow.Author.Tests.{eq-eqb, ne_eqb}
use Rattle.words.specs.Word.{word_at}
use Rattle.words.proofs.Laws.{word_drop}
use Rattle.records.specs.Kinds.{body_len}
use Rattle.records.specs.Key.{key_by, key_of, same_key}
use Rattle.records.specs.declared.Record.{Record}
use Rattle.records.specs.declared.Record.TheVariants.{Event, Module, Supervisor}
use Rattle.reader.specs.Read.{record_of}
use Rattle.reader.specs.Find.{find_in}
use Rattle.places.specs.Places.{numbered, position_of, records_by}
use Rattle.places.specs.Runs.{run_of}
use Rattle.places.specs.declared.Places.{Places}
use Rattle.places.specs.declared.Run.{Run}
use Rattle.places.proofs.Counting.{inside_by}
use Rattle.places.proofs.Finding.{numbered_by}
use Rattle.places.proofs.Keys.{of_numbered, last_numbered}
use Rattle.places.proofs.Spots.{look_missing, look_it, seek_past, seek_it, seek_none}

module _ (s : List ℕ) (k a : ℕ) where
  pub event_there : k ≡ 0x11 → Event (get_or s a 0) (get_or s (a + 1) 0) (get_or s (a + 2) 0) ≡ record_of k (drop a s)
  unfolding record_of
  event_there e = rw e (simp (get_or-drop, add-zero))

  pub module_there : k ≡ 0x12 → Module (get_or s a 0) (get_or s (a + 1) 0) (get_or s (a + 2) 0) ≡ record_of k (drop a s)
  unfolding record_of
  module_there e = rw e (simp (get_or-drop, add-zero))

  pub supervisor_there : {w : ℕ} → numbered k ≡ true → (k ≡ 0x11 → ⊥) → (k ≡ 0x12 → ⊥) → w ≡ word_at s (a + 3)
      → Supervisor (get_or s a 0) (get_or s (a + 1) 0) (get_or s (a + 2) 0) w ≡ record_of k (drop a s)
  unfolding record_of
  supervisor_there n x y f =
      let e : k ≡ 0x14 = last_numbered k n x y in
      rw (e, f) (simp (get_or-drop, word_drop, add-zero))

-- a record of such a kind has the key of one number if its first byte is the number
module _ (s : List ℕ) (p : Places) (k x : ℕ) (n : numbered k ≡ true) {r : Run} {i : ℕ} (e : r ≡ run_of s p k) (f : i ≡ x) where
  place : i ≡ position_of s p (key_by k x 0 0)
  place = numbered_by s p (key_by k x 0 0) n f

  pub number_past : r.count ≤ i → None ≡ find_in (key_by k x 0 0) (records_by s p)
  number_past l = look_missing s p (key_by k x 0 0) (seek_past s p (key_by k x 0 0) e place l) refl

  module _ (l : i < r.count) {a : ℕ} (g : a ≡ suc (r.begin + i * r.size)) where
    pub number_room : a + 3 ≤ length s
    unfolding body_len
    number_room =
        let w : 3 ≤ body_len k = of_numbered (λ (m : ℕ). 3 ≤ body_len m) k n (omega arith) (omega arith) (omega arith) in
        let t = inside_by s p k e in
        omega (arith, t.size, t.within i l)

    pub number_inside : a < length s
    number_inside = omega (arith, number_room)

    same_number : same_key (key_of (record_of k (drop a s))) (key_by k x 0 0) ≡ eqb (get_or s a 0) x
    unfolding record_of key_of same_key
    same_number = of_numbered (λ (m : ℕ). same_key (key_of (record_of m (drop a s))) (key_by m x 0 0) ≡ eqb (get_or s a 0) x) k n byte byte byte
      where
        byte : (eqb (get_or (drop a s) 0 0) x && true && true) ≡ eqb (get_or s a 0) x
        byte = and-true _ ∙ and-true _ ∙ ap (λ (y : ℕ). eqb y x) (simp (get_or-drop, add-zero))

    pub number_it : {v : Record} → get_or s a 0 ≡ x → v ≡ record_of k (drop a s) → Some v ≡ find_in (key_by k x 0 0) (records_by s p)
    number_it h z =
        look_it s p (key_by k x 0 0) (seek_it s p (key_by k x 0 0) e place l g refl refl (same_number ∙ eq-eqb _ _ h)) (λ w. absurd (omega arith)) z

    pub number_other : (get_or s a 0 ≡ x → ⊥) → None ≡ find_in (key_by k x 0 0) (records_by s p)
    number_other h = look_missing s p (key_by k x 0 0) (seek_none s p (key_by k x 0 0) e place l g refl refl (same_number ∙ ne_eqb _ _ h)) refl
