-- Laws of the messages under way, as the code goes through them.
use Rattle.std.specs.Prelude.{Some, None}
use Prim.Native.Nat.{ℕ, zero, suc, ◌+◌, ◌-◌, ◌≤◌, ◌<◌}
use native.Mathlib.Numerals.{add-one}
use native.Mathlib.Omega.{arith}
use mathlib.Core.Path.{◌≡◌, refl, sym, ap, ap₂, ◌∙◌}
use mathlib.Core.List.{List, [], ◌∷◌, ◌++◌, append-nil}
use mathlib.Core.Bool.{Bool, true, false}
use lib.ListN.{length, get_or, take, drop, length-take, drop_of_length-le}
use lib.Seq.{drop-cons, get_or-take, take-take, take_all}
use lib.Dec.{leb}
use borrow.Author.Tests.{le-leb, lt-leb, leb-true, leb-false}
use Rattle.wire.specs.declared.Sent.{Sent}
use Rattle.wire.specs.declared.Wire.{Wire}
use Rattle.wire.specs.Wire.{under, empty, with_message, with_messages, nth_of, drop_nth, without}

-- ---- room

pub room_left : (count n : ℕ) {b : Bool} → count ≤ 96 → b ≡ leb n (96 - count) → b ≡ leb (count + n) 96
room_left count n h e = e ∙ go (leb n (96 - count)) refl
  where
    go : (x : Bool) → leb n (96 - count) ≡ x → leb n (96 - count) ≡ leb (count + n) 96
    go true q = let g : n ≤ 96 - count = leb-true _ _ q in q ∙ sym (le-leb (count + n) 96 (omega arith))
    go false q = let g : 96 - count < n = leb-false _ _ q in q ∙ sym (lt-leb (count + n) 96 (omega arith))

pub no_room : (count n : ℕ) → 96 < count → false ≡ leb (count + n) 96
no_room count n h = sym (lt-leb (count + n) 96 (omega arith))

-- ---- a message at an index

nth_past : (l : List Sent) (k : ℕ) → length l ≤ k → None ≡ nth_of l k
unfolding nth_of
nth_past [] k h = refl
nth_past (s ∷ l) zero h = absurd (omega arith)
nth_past (s ∷ l) (suc k) h = nth_past l k (omega arith)

nth_is : (l : List Sent) (k : ℕ) (d : Sent) → k < length l → Some (get_or l k d).message ≡ nth_of l k
unfolding nth_of
nth_is [] k d h = absurd (omega arith)
nth_is (s ∷ l) zero d h = refl
nth_is (s ∷ l) (suc k) d h = nth_is l k d (omega arith)

module _ (w : Wire) (k : ℕ) where
  pub nth_uncounted : w.count ≤ k → None ≡ nth_of (under w) k
  nth_uncounted h = nth_past (under w) k (simp length-take (omega arith))

  pub nth_beyond : length w.messages ≡ 96 → 96 ≤ k → None ≡ nth_of (under w) k
  nth_beyond e h = nth_past (under w) k (simp (length-take, e) (omega arith))

  pub nth_found : (d : Sent) → length w.messages ≡ 96 → k < w.count → k < 96 → Some (get_or w.messages k d).message ≡ nth_of (under w) k
  nth_found d e h g =
      ap (λ (s : Sent). Some s.message) (sym (get_or-take w.count w.messages k d h)) ∙ nth_is (under w) k d (simp (length-take, e) (omega arith))

-- ---- messages copied one after the other

pub with_append : (w : Wire) (l r : List Sent) → with_messages w (l ++ r) ≡ with_messages (with_messages w l) r
unfolding with_messages
with_append w [] r = refl
with_append w (s ∷ l) r = with_append (with_message w s.message) l r

module _ (ms : List Sent) (to i : ℕ) (next : Wire) {x : Wire} (e : length ms ≡ 96) (f : with_messages next (drop i (take to ms)) ≡ x) where
  pub copy_again : (d : Sent) {r : Wire} → i < to → i < 96 → r ≡ with_message next (get_or ms i d).message → with_messages r (drop (i + 1) (take to ms)) ≡ x
  unfolding with_messages
  copy_again d h g q =
      let o : i < length (take to ms) = simp (length-take, e) (omega arith) in
      let s : drop i (take to ms) ≡ get_or ms i d ∷ drop (i + 1) (take to ms) =
      rw add-one (drop-cons (take to ms) i d o ∙ ap (λ (y : Sent). y ∷ drop (suc i) (take to ms)) (get_or-take to ms i d h)) in
      ap (λ (y : Wire). with_messages y (drop (i + 1) (take to ms))) q ∙ sym (ap (with_messages next) s) ∙ f

  pub copy_done : to ≤ i → next ≡ x
  unfolding with_messages
  copy_done h = sym (ap (with_messages next) (drop_of_length-le (take to ms) {i = i} (simp length-take (omega arith)))) ∙ f

  pub copy_full : 96 ≤ i → next ≡ x
  unfolding with_messages
  copy_full h = sym (ap (with_messages next) (drop_of_length-le (take to ms) {i = i} (simp (length-take, e) (omega arith)))) ∙ f

-- ---- all but one

module _ (w : Wire) (k : ℕ) {n r : Wire} (e : n ≡ empty) where
  pub without_one : {b : Wire} → k < w.count → b ≡ with_messages n (drop 0 (take k w.messages)) → r ≡ with_messages b (drop (k + 1) (take w.count w.messages)) → r ≡ without w k
  unfolding without
  without_one h p q =
      q
      ∙ ap₂ (λ (y : Wire) (j : ℕ). with_messages y (drop j (under w))) (p ∙ ap₂ with_messages e (sym (take-take k w.count w.messages (omega arith)))) (add-one k)
      ∙ sym (with_append empty (take k (under w)) (drop (suc k) (under w)))

  pub without_none : w.count ≤ k → r ≡ with_messages n (drop 0 (take w.count w.messages)) → r ≡ without w k
  unfolding without
  without_none h q = q ∙ ap₂ with_messages e (sym whole)
    where
      short : length (under w) ≤ k
      short = simp length-take (omega arith)

      whole : drop_nth k (under w) ≡ under w
      whole = ap₂ (λ (a b : List Sent). a ++ b) (take_all k (under w) short) (drop_of_length-le (under w) {i = suc k} (omega (arith, short))) ∙ append-nil (under w)
