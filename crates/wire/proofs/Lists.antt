-- What the calls do to the messages under way, as lists.
use Prim.Native.Nat.{ℕ, ◌+◌, ◌≤◌, ◌<◌}
use native.Mathlib.Numerals.{add-one}
use native.Mathlib.Omega.{arith}
use mathlib.Core.Path.{◌≡◌, refl, sym, ap, ◌∙◌}
use mathlib.Core.List.{List, [], ◌∷◌, ◌++◌, append_assoc, append-nil}
use mathlib.Core.Bool.{Bool, true, false, cond}
use lib.ListN.{length, set, length-append, length-take, length-drop, length-set}
use lib.Seq.{take-suc-set}
use lib.Dec.{ltb}
use borrow.Author.Tests.{lt-ltb, ltb-true}
use Rattle.messages.specs.declared.Message.{Message}
use Rattle.wire.specs.declared.Sent.{Sent}
use Rattle.wire.specs.declared.Wire.{Wire}
use Rattle.wire.specs.Wire.{under, sent, empty, with_message, with_messages, drop_nth, without, Sound, Lists}

sent_sound : (w : Wire) (g : Message) → Sound w → Sound (with_message w g)
unfolding with_message
sent_sound w g s = go (ltb w.count 96) refl
  where
    go : (b : Bool) → ltb w.count 96 ≡ b → Sound (cond b (record { messages = set w.messages w.count (sent g); count = w.count + 1 }) w)
    go true q = let h : w.count < 96 = ltb-true _ _ q in record { capacity = length-set w.messages w.count (sent g) ∙ s.capacity; counted = omega arith }
    go false q = s

sent_is : (w : Wire) (g : Message) → Sound w → w.count < 96 → under (with_message w g) ≡ under w ++ (sent g ∷ [])
unfolding with_message
sent_is w g s h = simp (lt-ltb w.count 96 h, add-one) (take-suc-set w.messages w.count (sent g) (omega (arith, s.capacity)))

pub all_sound : (w : Wire) (l : List Sent) → Sound w → Sound (with_messages w l)
unfolding with_messages
all_sound w [] s = s
all_sound w (g ∷ l) s = all_sound (with_message w g.message) l (sent_sound w g.message s)

count_one : (w : Wire) (g : Message) → w.count < 96 → (with_message w g).count ≡ w.count + 1
unfolding with_message
count_one w g h = simp (lt-ltb w.count 96 h)

-- messages for which there is room
pub all_are : (w : Wire) (l : List Sent) → Sound w → w.count + length l ≤ 96 → under (with_messages w l) ≡ under w ++ l
unfolding with_messages
all_are w [] s h = sym (append-nil (under w))
all_are w (g ∷ l) s h =
    let o : w.count < 96 = omega arith in
    all_are (with_message w g.message) l (sent_sound w g.message s) (rw (count_one w g.message o) (omega arith))
    ∙ ap (λ (k : List Sent). k ++ l) (sent_is w g.message s o)
    ∙ append_assoc (under w) (g ∷ []) l

empty_sound : Sound empty
empty_sound = record { capacity = refl; counted = omega arith }

pub lists : Lists
unfolding without
lists =
    record {
      empty_sound = empty_sound;
      empty_is = refl;
      sent_sound = sent_sound;
      sent_is = sent_is;
      without_sound = λ w k s. all_sound empty (drop_nth k (under w)) empty_sound;
      without_is = λ w k s. all_are empty (drop_nth k (under w)) empty_sound (short w k s);
    }
  where
    short : (w : Wire) (k : ℕ) → Sound w → 0 + length (drop_nth k (under w)) ≤ 96
    short w k s = simp (length-append, length-take, length-drop, s.capacity) (omega arith)
