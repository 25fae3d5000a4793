-- Laws of the messages that a step wrote.
use Rattle.std.specs.Prelude.{Option, Some, None}
use Prim.Native.Nat.{ℕ, zero, suc, min, ◌+◌, ◌-◌, ◌/◌, ◌≤◌, ◌<◌}
use native.Mathlib.Numerals.{unary_clauses}
use native.Mathlib.Omega.{arith}
use mathlib.Core.Path.{◌≡◌, sym, ap, ap₂, ◌∙◌}
use mathlib.Core.List.{List, [], ◌∷◌, ◌++◌}
use lib.ListN.{length, take, drop, length-drop}
use lib.Seq.{drop-drop}
use Rattle.messages.specs.Message.{release_size, parse, pieces}
use Rattle.messages.specs.declared.Message.{Message}
use Rattle.wire.specs.declared.Wire.{Wire}
use Rattle.wire.specs.Wire.{with_message, with_messages}
use Rattle.wire.proofs.Laws.{with_append}
use Rattle.simulation.specs.Play.{read_by, read, read_all, releases_of}

module _ (w : Wire) (bytes : List ℕ) {p : Option Message} (e : p ≡ parse bytes) where
  pub sent_whole : {g : Message} {r : Wire} → p ≡ Some g → r ≡ with_message w g → r ≡ with_messages w (read bytes)
  unfolding with_messages read_by
  sent_whole q h = h ∙ ap (λ (x : Option Message). with_messages w (read_by x)) (sym q ∙ e)

  pub sent_none : p ≡ None → w ≡ with_messages w (read bytes)
  unfolding with_messages read_by
  sent_none q = ap (λ (x : Option Message). with_messages w (read_by x)) (sym q ∙ e)

-- the first release, and those behind it
releases_on : (l : List ℕ) → release_size ≤ length l → releases_of l ≡ read (take release_size l) ++ releases_of (drop release_size l)
unfolding releases_of read_all pieces
releases_on l h =
    let k : length l / release_size ≡ suc (length (drop release_size l) / release_size) = omega (arith, length-drop release_size l) in
    ap (λ (n : ℕ). read_all (pieces release_size n l)) k

releases_short : (l : List ℕ) → length l < release_size → releases_of l ≡ []
unfolding releases_of read_all pieces
releases_short l h =
    let k : length l / release_size ≡ 0 = omega arith in
    ap (λ (n : ℕ). read_all (pieces release_size n l)) k

module _ (s : List ℕ) (at : ℕ) (next : Wire) {x : Wire} (f : with_messages next (releases_of (drop at s)) ≡ x) where
  pub releases_again : {r : Wire} (end : ℕ) → end ≡ at + release_size → release_size ≤ length s - at → r ≡ with_messages next (read (take (end - at) (drop at s))) → with_messages r (releases_of (drop end s)) ≡ x
  releases_again end e h q =
      let n : end - at ≡ release_size = omega arith in
      let g : release_size ≤ length (drop at s) = simp length-drop h in
      ap₂ (λ (y : Wire) (l : List ℕ). with_messages y (releases_of l)) (q ∙ ap (λ (k : ℕ). with_messages next (read (take k (drop at s)))) n) (ap (λ (k : ℕ). drop k s) e ∙ sym (drop-drop release_size at s))
      ∙ sym (with_append next (read (take release_size (drop at s))) (releases_of (drop release_size (drop at s))))
      ∙ ap (with_messages next) (sym (releases_on (drop at s) g))
      ∙ f

  pub releases_end : length s - at < release_size → next ≡ x
  unfolding with_messages
  releases_end h = sym (ap (with_messages next) (releases_short (drop at s) (simp length-drop h))) ∙ f

-- the first bytes of a buffer, as many as are there
pub part : (b : List ℕ) (n : ℕ) {k : ℕ} → k ≡ min n (length b) → take k b ≡ take n b
part b n e = ap (λ (j : ℕ). take j b) e ∙ go n b
  where
    go : (n : ℕ) (b : List ℕ) → take (min n (length b)) b ≡ take n b
    go zero b = simp unary_clauses
    go (suc n) [] = simp unary_clauses
    go (suc n) (a ∷ b) = simp unary_clauses (ap (λ (l : List ℕ). a ∷ l) (go n b))
