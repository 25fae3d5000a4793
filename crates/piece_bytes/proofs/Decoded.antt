-- Bytes that stand for a state are those of that state, which can be encoded.
use mathlib.Core.Path.{◌≡◌, refl, sym, ap, ap₂, ◌∙◌}
use mathlib.Core.List.{List, ◌∷◌}
use mathlib.Core.Bool.{Bool, true, false, ◌&&◌, true≢false}
use Prim.Native.Nat.{ℕ, zero, suc, ◌+◌, ◌^◌, ◌<◌}
use native.Mathlib.Omega.{arith}
use lib.ListN.{length, get_or}
use lib.Dec.{eqb, leb}
use borrow.Author.Tests.{eqb-true, leb-true, le-ltb, ne_eqb}
use Rattle.roundtrip.specs.Fits.{Bytes}
use Rattle.words.specs.Word.{quad_at, quad_bytes}
use Rattle.fields.specs.Fields.{bytes_from, is_flag}
use Rattle.fields.proofs.Back.{and_left, and_right, from_all, quad_written}
use Rattle.context_bytes.proofs.Decoded.{glue, from_length, from_bytes, context_written, context_encodable}
use Rattle.piece_bytes.specs.State.{stage_byte, stage_number, stage_offset, stage_bytes, state_bytes, stage_of, state_at, is_stage, is_state}
use Rattle.piece_bytes.specs.State.{StageEncodable, StateEncodable}

-- ---- the stage

module _ (n o : ℕ) where
  none : (eqb n 0 && eqb o 0) ≡ true → (n ≡ 0) × (o ≡ 0)
  none h = (eqb-true n 0 (and_left (eqb n 0) (eqb o 0) h), eqb-true o 0 (and_right (eqb n 0) (eqb o 0) h))

  above : (x : ℕ) → is_stage (suc (suc (suc x))) n o ≡ false
  unfolding is_stage
  above x = simp (le-ltb (suc (suc (suc x))) 2 (omega arith), ne_eqb (suc (suc (suc x))) 2 (λ e. omega (arith, e)))

  stage_written : (x : ℕ) → is_stage x n o ≡ true → stage_bytes (stage_of x n o) ≡ x ∷ n ∷ quad_bytes o
  unfolding is_stage stage_of stage_bytes stage_byte stage_number stage_offset
  stage_written zero h = ap₂ (λ (p q : ℕ). 0 ∷ p ∷ quad_bytes q) (sym (none h).0) (sym (none h).1)
  stage_written (suc zero) h = ap₂ (λ (p q : ℕ). 1 ∷ p ∷ quad_bytes q) (sym (none h).0) (sym (none h).1)
  stage_written (suc (suc zero)) h = refl
  stage_written (suc (suc (suc x))) h = absurd (true≢false (sym h ∙ above x))

  stage_encodable : (x : ℕ) → o < 2 ^ 32 → is_stage x n o ≡ true → StageEncodable (stage_of x n o)
  unfolding is_stage stage_of
  stage_encodable zero l h = tt
  stage_encodable (suc zero) l h = tt
  stage_encodable (suc (suc zero)) l h = (leb-true 2 n (and_left (leb 2 n) (leb n 8) h), leb-true n 8 (and_right (leb 2 n) (leb n 8) h), l)
  stage_encodable (suc (suc (suc x))) l h = absurd (true≢false (sym h ∙ above x))

module _ (b : List ℕ) (g : Bytes b) where
  quad_small : (o : ℕ) → quad_at b o < 2 ^ 32
  unfolding quad_at
  quad_small o = omega (arith, g o, g (o + 1), g (o + 2), g (o + 3))

  module _ (stage : is_stage (get_or b 0 0) (get_or b 1 0) (quad_at b 2) ≡ true) (flag : is_flag (get_or b 23 0) ≡ true) where
    first_written : stage_bytes (stage_of (get_or b 0 0) (get_or b 1 0) (quad_at b 2)) ≡ bytes_from b 0 6
    unfolding bytes_from
    first_written = stage_written (get_or b 1 0) (quad_at b 2) (get_or b 0 0) stage ∙ ap (λ (q : List ℕ). get_or b 0 0 ∷ get_or b 1 0 ∷ q) (quad_written b g 2)

    held_written : ◌≡◌ {A = List ℕ} (get_or b 10 0 ∷ bytes_from b 11 12) (bytes_from b 10 13)
    unfolding bytes_from
    held_written = refl

    all_written : state_bytes (state_at b) ≡ bytes_from b 0 495
    unfolding state_bytes state_at
    all_written = glue b 0 23 472 (glue b 0 10 13 (glue b 0 6 4 first_written (quad_written b g 6)) held_written) (context_written b g flag)

    all_encodable : StateEncodable (state_at b)
    unfolding state_at
    all_encodable =
        record {
          context = context_encodable b g;
          places = from_length b 11 12;
          cut = from_bytes b g 11 12;
          held = g 10;
          taken = quad_small 6;
          stage = stage_encodable (get_or b 1 0) (quad_at b 2) (get_or b 0 0) (quad_small 2) stage;
        }

module _ (b : List ℕ) (g : Bytes b) (h : is_state b ≡ true) where
  abbrev L : Bool
  L = eqb (length b) 495

  abbrev S : Bool
  S = is_stage (get_or b 0 0) (get_or b 1 0) (quad_at b 2)

  abbrev F : Bool
  F = is_flag (get_or b 23 0)

  is : (L && (S && F)) ≡ true
  unfolding is_state
  is = h

  stage_is : S ≡ true
  stage_is = and_left S F (and_right L (S && F) is)

  flag_is : F ≡ true
  flag_is = and_right S F (and_right L (S && F) is)

  pub state_written : state_bytes (state_at b) ≡ b
  state_written = all_written b g stage_is flag_is ∙ ap (bytes_from b 0) (sym (eqb-true (length b) 495 (and_left L (S && F) is))) ∙ from_all b

  pub state_encodable : StateEncodable (state_at b)
  state_encodable = all_encodable b g stage_is flag_is
