-- Document 02, 2.1, over lent bytes. The quotations are from include/pewterslug.h.
use Rattle.refusal.specs.Refusal.{refused_number, refused_offset}
use Rattle.refusal.specs.declared.Refusal.{Refusal}
use Rattle.std.specs.Prelude.{ℕ, ◌≡◌, List, Option, Some, None, Result, Ok, Err}
use Rattle.blocking.specs.Blocking.{Told}
use Rattle.packing.specs.Answer.{refused, done}

-- PEWTERSLUG_FREE, 7: "find_stuck: the plan never gets stuck"; PEWTERSLUG_STUCK, 8: "find_stuck: it may; the word that leads there and the state
-- are written"
unfoldable pub blocking_answer : Result (Option ℕ) Refusal → ℕ
blocking_answer (Ok None) = done 7 0 0
blocking_answer (Ok (Some n)) = done 8 0 n
blocking_answer (Err e) = refused (refused_number {X = Option ℕ} (Err e)) (refused_offset {X = Option ℕ} (Err e))

-- the image s, the buffer b, the answer r, and the buffer afterwards: r stands for an answer that `Told` allows
pub record FoundBytes (s b : List ℕ) (r : ℕ) (after : List ℕ) : Type 0 where
  pub answer : Result (Option ℕ) Refusal
  pub told : Told s b answer after
  pub packed : r ≡ blocking_answer answer

-- no two answers, and no two contents of the buffer, meet it
abbrev pub OneFound : Type 0
OneFound = (s b : List ℕ) (r x : ℕ) (c d : List ℕ) → FoundBytes s b r c → FoundBytes s b x d → (r ≡ x) × (c ≡ d)
