-- The bytes of a state read, from what the code is told.
use mathlib.Core.Path.{◌≡◌, ap, ◌∙◌}
use mathlib.Core.List.{List}
use mathlib.Core.Bool.{◌&&◌}
use Prim.Native.Nat.{ℕ, ◌≤◌, ◌<◌}
use native.Mathlib.Omega.{arith}
use lib.ListN.{length, get_or, take, drop, replicate}
use lib.Dec.{eqb, leb}
use borrow.Author.Tests.{eq-eqb, ne_eqb, lt-ltb, le-ltb}
use Rattle.words.specs.Word.{put_at, quad_at}
use Rattle.context.specs.declared.Context.{Context}
use Rattle.context_bytes.specs.Encoding.{context_at}
use Rattle.context_bytes.proofs.Reading.{put_padded, padded, part_put, bytes_same, context_same}
use Rattle.pieces.specs.declared.Stage.{Stage}
use Rattle.pieces.specs.declared.Stage.TheVariants.{Open, Ended, Faulty}
use Rattle.pieces.specs.declared.CheckState.{CheckState}
use Rattle.piece_bytes.specs.State.{is_stage, stage_of, state_at}

-- ---- the stage

module _ (x n o : ℕ) where
  pub no_refusal : x < 2 → (eqb n 0 && eqb o 0) ≡ is_stage x n o
  unfolding is_stage
  no_refusal h = simp (lt-ltb x 2 h)

  pub refusal : 2 ≤ x → (eqb x 2 && (leb 2 n && leb n 8)) ≡ is_stage x n o
  unfolding is_stage
  refusal h = simp (le-ltb x 2 h)

  pub is_open : x ≡ 0 → Open ≡ stage_of x n o
  unfolding stage_of
  is_open h = simp (eq-eqb x 0 h)

  pub is_ended : (x ≡ 0 → ⊥) → x ≡ 1 → Ended ≡ stage_of x n o
  unfolding stage_of
  is_ended h k = simp (ne_eqb x 0 h, eq-eqb x 1 k)

  pub is_faulty : (x ≡ 0 → ⊥) → (x ≡ 1 → ⊥) → Faulty n o ≡ stage_of x n o
  unfolding stage_of
  is_faulty h k = simp (ne_eqb x 0 h, ne_eqb x 1 k)

module _ (s : List ℕ) (h : 495 ≤ length s) where
  pub state_read : {c : Context} {cut : List ℕ} {taken o : ℕ} {stage : Stage} → o ≡ quad_at s 2 → stage ≡ stage_of (get_or s 0 0) (get_or s 1 0) o → taken ≡ quad_at s 6
      → cut ≡ put_at (take 12 (drop 11 s)) 0 (replicate 12 0) → c ≡ context_at s
      → record { context = c; cut = cut; held = get_or s 10 0; taken = taken; stage = stage } ≡ state_at s
  unfolding state_at
  state_read o e t k c = simp (o, e, t, part_put s 11 12 (omega arith) k, c)

-- ---- bytes past the end count as 0

module _ (b c : List ℕ) (same : (i : ℕ) → get_or b i 0 ≡ get_or c i 0) where
  quad_same : (o : ℕ) → quad_at b o ≡ quad_at c o
  unfolding quad_at
  quad_same o = simp same

  state_same : state_at b ≡ state_at c
  unfolding state_at
  state_same = simp (same, quad_same, bytes_same b c same, context_same b c same)

module _ (s : List ℕ) (n : ℕ) where
  pub state_padded : {r : CheckState} {z : List ℕ} → length s ≤ n → z ≡ put_at s 0 (replicate n 0) → r ≡ state_at z → r ≡ state_at s
  state_padded {r} {z} h e w = w ∙ state_same z s (λ i. ap (λ (l : List ℕ). get_or l i 0) (e ∙ put_padded s n h) ∙ padded s n h i)
