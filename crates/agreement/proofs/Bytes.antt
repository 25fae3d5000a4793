-- A message's bytes are read as that message, and what a step writes is its messages, each by itself.
use Rattle.std.specs.Prelude.{Some}
use mathlib.Core.Path.{◌≡◌, refl, sym, ap, ap₂, ◌∙◌}
use mathlib.Core.List.{List, [], ◌∷◌, ◌++◌, map, append_assoc, append-nil}
use Prim.Native.Nat.{ℕ, ◌*◌, ◌^◌, ◌<◌}
use native.Mathlib.Omega.{arith}
use lib.ListN.{length, take, drop, length-append}
use lib.Seq.{take_at, drop_at}
use Rattle.words.specs.Word.{word_at, word_bytes}
use Rattle.words.proofs.Laws.{word_read, word_drop, length_word}
use Rattle.messages.specs.Message.{release_size, message_bytes, parse, pieces}
use Rattle.messages.specs.declared.Message.{Message}
use Rattle.messages.specs.declared.Message.TheVariants.{Bid, Permit, Release}
use Rattle.permits.specs.Step.{bytes_of_messages}

-- a permit's mask has 64 bits
abbrev pub Sized : Message → Type 0
Sized (Bid m v) = Unit {0}
Sized (Permit v m k) = k < 2 ^ 64
Sized (Release m v e) = Unit {0}

pub parse_bytes : (g : Message) → Sized g → parse (message_bytes g) ≡ Some g
unfolding parse message_bytes
parse_bytes (Bid m v) h = refl
parse_bytes (Permit v m k) h =
    let e : word_at (0x02 ∷ v ∷ m ∷ word_bytes k) 3 ≡ k = sym (word_drop 3 (0x02 ∷ v ∷ m ∷ word_bytes k) 0) ∙ ap (λ (l : List ℕ). word_at l 0) (sym (append-nil (word_bytes k))) ∙ word_read k [] h in
    simp (length_word k, e)
parse_bytes (Release m v e) h = refl

-- messages of the length of a release
abbrev pub AsReleases : List Message → Type 0
AsReleases [] = Unit {0}
AsReleases (g ∷ gs) = (length (message_bytes g) ≡ release_size) × AsReleases gs

pub pieces_of : (gs : List Message) (rest : List ℕ) → AsReleases gs → pieces release_size (length gs) (bytes_of_messages gs ++ rest) ≡ map message_bytes gs
unfolding pieces bytes_of_messages
pieces_of [] rest h = refl
pieces_of (g ∷ gs) rest h =
    ap₂ (λ (a : List ℕ) (b : List (List ℕ)). a ∷ b)
    (ap (take release_size) (append_assoc (message_bytes g) (bytes_of_messages gs) rest) ∙ take_at (message_bytes g) (bytes_of_messages gs ++ rest) release_size h.0)
    (ap (λ (l : List ℕ). pieces release_size (length gs) l) (ap (drop release_size) (append_assoc (message_bytes g) (bytes_of_messages gs) rest) ∙ drop_at (message_bytes g) (bytes_of_messages gs ++ rest) release_size h.0) ∙ pieces_of gs rest h.1)

pub length_releases : (gs : List Message) → AsReleases gs → length (bytes_of_messages gs) ≡ length gs * release_size
unfolding bytes_of_messages
length_releases [] h = refl
length_releases (g ∷ gs) h = length-append (message_bytes g) (bytes_of_messages gs) ∙ omega (arith, h.0, length_releases gs h.1)
