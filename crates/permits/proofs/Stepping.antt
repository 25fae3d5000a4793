-- The bytes of messages, and what follows of a step from one that gives the same.
use Prim.Native.Nat.{ℕ}
use mathlib.Core.Path.{◌≡◌, refl, sym, ap, ◌∙◌, subst}
use mathlib.Core.List.{List, [], ◌∷◌, ◌++◌, append_assoc, append-nil}
use Rattle.messages.specs.Message.{message_bytes}
use Rattle.messages.specs.declared.Message.{Message}
use Rattle.permits.specs.Step.{bytes_of_messages, Call, Gave}

pub bytes_append : (gs hs : List Message) → bytes_of_messages (gs ++ hs) ≡ bytes_of_messages gs ++ bytes_of_messages hs
unfolding bytes_of_messages
bytes_append [] hs = refl
bytes_append (g ∷ gs) hs = ap (λ (l : List ℕ). message_bytes g ++ l) (bytes_append gs hs) ∙ sym (append_assoc (message_bytes g) (bytes_of_messages gs) (bytes_of_messages hs))

pub bytes_one : (g : Message) → bytes_of_messages (g ∷ []) ≡ message_bytes g
unfolding bytes_of_messages
bytes_one g = append-nil (message_bytes g)

pub gives : {A S : Type 0} {call same : Call A S} {a : A} {s : S} {after : List ℕ} → same ≡ call → Gave same a s after → Gave call a s after
gives {A} {S} {a = a} {s = s} {after = after} e = subst (λ (c : Call A S). Gave c a s after) e
