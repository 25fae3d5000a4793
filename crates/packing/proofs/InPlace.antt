-- Bytes put where bytes of the same length stood.
use mathlib.Core.Path.{◌≡◌, ap, ◌∙◌}
use mathlib.Core.List.{List, ◌++◌, append-nil}
use Prim.Native.Nat.{ℕ}
use native.Mathlib.Omega.{arith}
use lib.ListN.{length, drop}
use lib.Seq.{drop-length}
use borrow.Author.Tests.{le-ltb}
use Rattle.messages.specs.Message.{written, put_at}
use Rattle.messages.proofs.Writing.{put_start}

pub over : (bytes s : List ℕ) → length bytes ≡ length s → written bytes s ≡ bytes
over bytes s e = ap (λ (k : ℕ). bytes ++ drop k s) e ∙ ap (λ (r : List ℕ). bytes ++ r) (drop-length s) ∙ append-nil bytes

pub put_over : (bytes s : List ℕ) → length bytes ≡ length s → put_at bytes 0 s ≡ bytes
put_over bytes s e = put_start bytes s (le-ltb (length s) (length bytes) (omega arith)) ∙ over bytes s e
