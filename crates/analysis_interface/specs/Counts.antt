-- Document 02, 2.2, over lent bytes. The quotations are from include/pewterslug.h.
use Rattle.refusal.specs.declared.Refusal.{Refusal}
use Rattle.std.specs.Prelude.{ℕ, ◌≡◌, List, Result}
use Rattle.counting.specs.Counting.{Told}
use Rattle.packing.specs.Answer.{length_answer}

-- the image s, the length m, the buffer b, the answer r, and the buffer afterwards: r stands for an answer that `Told` allows
pub record CountedBytes (s : List ℕ) (m : ℕ) (b : List ℕ) (r : ℕ) (after : List ℕ) : Type 0 where
  pub answer : Result ℕ Refusal
  pub told : Told s m b answer after
  pub packed : r ≡ length_answer answer

-- no two answers, and no two contents of the buffer, meet it
abbrev pub OneCounted : Type 0
OneCounted = (s : List ℕ) (m : ℕ) (b : List ℕ) (r x : ℕ) (c d : List ℕ) → CountedBytes s m b r c → CountedBytes s m b x d → (r ≡ x) × (c ≡ d)
