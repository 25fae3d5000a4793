-- A part of a slice, or of an array that is a struct's field and has as many elements as its type says.
use mathlib.Core.Path.{◌≡◌, sym}
use mathlib.Core.List.{List, map}
use Prim.Native.Nat.{ℕ, ◌-◌, ◌≤◌, ◌<◌}
use native.Mathlib.Nat.{le_of_lt, le_refl}
use lib.ListN.{length, take, drop, length-drop}
use lib.Seq.{length-take-le, take_all}
use borrow.Author.Rules.{length_unmapped}

pub slice_count : (s : List ℕ) {k : ℕ} → k < length s → k ≡ length (take k s)
slice_count s {k} h = sym (length-take-le k s (le_of_lt h))

-- the part of a slice from a place to its end, as a function is lent it
abbrev pub tail : List ℕ → ℕ → List ℕ
tail s j = take (length s - j) (drop j s)

pub tail_is : (s : List ℕ) (j : ℕ) → tail s j ≡ drop j s
tail_is s j = take_all (length s - j) (drop j s) (simp length-drop (le_refl (length s - j)))

module _ (X : Type 0) (l : List X) (i n : ℕ) (e : length (map (λ (v : X). v) l) ≡ n) (h : i ≤ n) where
  pub part_within : i ≤ length l
  part_within = rw (length_unmapped X l n e) h

  pub part_count : i ≡ length (take i l)
  part_count = sym (length-take-le i l part_within)
