-- The bytes of a state put, from what the code is told.
use mathlib.Core.Path.{◌≡◌, refl, sym, ap, ◌∙◌}
use mathlib.Core.List.{List, [], ◌∷◌, ◌++◌, append_assoc}
use Prim.Native.Nat.{ℕ, ◌≤◌, ◌<◌}
use native.Mathlib.Omega.{arith}
use lib.ListN.{length, length-append}
use lib.Seq.{sets}
use Rattle.words.specs.Word.{put_at, quad_bytes}
use Rattle.words.proofs.Laws.{length_quad, put_sets, put_not}
use Rattle.context.specs.declared.Context.{Context}
use Rattle.fields.proofs.Writing.{join, next}
use Rattle.context_bytes.specs.Encoding.{context_bytes}
use Rattle.context_bytes.proofs.Writing.{context_size}
use Rattle.pieces.specs.declared.Stage.{Stage}
use Rattle.pieces.specs.declared.Stage.TheVariants.{Open, Ended, Faulty}
use Rattle.pieces.specs.declared.CheckState.{CheckState}
use Rattle.piece_bytes.specs.State.{stage_byte, stage_number, stage_offset, stage_bytes, state_bytes}

-- ---- how many bytes

pub length_stage : (st : Stage) → length (stage_bytes st) ≡ 6
unfolding stage_bytes quad_bytes
length_stage st = refl

module _ (k : CheckState) (n : length k.cut ≡ 12) where
  length_whole : length (context_bytes k.context) ≡ 472 → length (state_bytes k) ≡ 495
  unfolding state_bytes
  length_whole c =
      let a : List ℕ = stage_bytes k.stage ++ quad_bytes k.taken in
      let b : List ℕ = a ++ (k.held ∷ k.cut) in
      let la : length a ≡ 10 = omega (arith, length_stage k.stage, length_quad k.taken, length-append (stage_bytes k.stage) (quad_bytes k.taken)) in
      let lb : length b ≡ 23 = omega (arith, la, n, length-append a (k.held ∷ k.cut)) in
      omega (arith, lb, c, length-append b (context_bytes k.context))

-- ---- the parts, one behind the other

module _ (l : List ℕ) (room : 495 ≤ length l) where
  module _ {st : Stage} {s : List ℕ} where
    pub open_put : st ≡ Open → s ≡ put_at (0 ∷ 0 ∷ 0 ∷ 0 ∷ 0 ∷ 0 ∷ []) 0 l → s ≡ sets l 0 (stage_bytes st)
    unfolding stage_bytes stage_byte stage_number stage_offset quad_bytes
    open_put e w = w ∙ put_sets (stage_bytes Open) 0 l (omega arith) ∙ ap (λ (x : Stage). sets l 0 (stage_bytes x)) (sym e)

    pub ended_put : st ≡ Ended → s ≡ put_at (1 ∷ 0 ∷ 0 ∷ 0 ∷ 0 ∷ 0 ∷ []) 0 l → s ≡ sets l 0 (stage_bytes st)
    unfolding stage_bytes stage_byte stage_number stage_offset quad_bytes
    ended_put e w = w ∙ put_sets (stage_bytes Ended) 0 l (omega arith) ∙ ap (λ (x : Stage). sets l 0 (stage_bytes x)) (sym e)

    pub faulty_put : {n o : ℕ} {s1 : List ℕ} → st ≡ Faulty n o → s1 ≡ put_at (2 ∷ n ∷ []) 0 l → s ≡ put_at (quad_bytes o) 2 s1
        → s ≡ sets l 0 (stage_bytes st)
    unfolding stage_bytes stage_byte stage_number stage_offset quad_bytes
    faulty_put {n} {o} {s1} e h k =
        let a : List ℕ = 2 ∷ n ∷ [] in
        let first : s1 ≡ sets l 0 a = h ∙ put_sets a 0 l (omega arith) in
        next l 0 a (quad_bytes o) 2 first refl (omega arith) k ∙ ap (λ (x : Stage). sets l 0 (stage_bytes x)) (sym e)

  pub front_put : (st : Stage) (taken held : ℕ) (cut : List ℕ) {s1 s2 s3 s4 : List ℕ} → length cut ≡ 12 → s1 ≡ sets l 0 (stage_bytes st) → s2 ≡ put_at (quad_bytes taken) 6 s1
      → s3 ≡ put_at (held ∷ []) 10 s2 → s4 ≡ put_at cut 11 s3 → s4 ≡ sets l 0 (stage_bytes st ++ quad_bytes taken ++ (held ∷ cut))
  front_put st taken held cut {s1} {s2} {s3} {s4} n e f g h =
      let a : List ℕ = stage_bytes st in
      let b : List ℕ = quad_bytes taken in
      let t : List ℕ = held ∷ [] in
      let la : length a ≡ 6 = length_stage st in
      let lab : length (a ++ b) ≡ 10 = omega (arith, la, length-append a b, length_quad taken) in
      let labt : length (a ++ b ++ t) ≡ 11 = omega (arith, lab, length-append (a ++ b) t) in
      let all : length (a ++ b ++ t ++ cut) ≡ 23 = omega (arith, labt, n, length-append (a ++ b ++ t) cut) in
      let p2 : s2 ≡ sets l 0 (a ++ b) = next l 0 a b 6 e (omega arith) (omega arith) f in
      let p3 : s3 ≡ sets l 0 (a ++ b ++ t) = next l 0 (a ++ b) t 10 p2 (omega arith) (omega arith) g in
      next l 0 (a ++ b ++ t) cut 11 p3 (omega arith) (omega arith) h ∙ ap (sets l 0) (append_assoc (a ++ b) t cut)

-- ---- the whole, and no room for it

module _ (k : CheckState) (cut : length k.cut ≡ 12) (owners : length k.context.events.owner ≡ 64) (steps : length k.context.events.steps ≡ 64)
    (modules : length k.context.modules.states ≡ 16) (states : length k.context.supervisors.states ≡ 32)
    (alphabets : length k.context.supervisors.alphabet ≡ 32) where
  pub length_state : length (state_bytes k) ≡ 495
  length_state = length_whole k cut (context_size k.context owners steps modules states alphabets)

  pub state_narrow : (l : List ℕ) → length l < 495 → l ≡ put_at (state_bytes k) 0 l
  state_narrow l h = sym (put_not (state_bytes k) 0 l (omega (arith, h, length_state)))

module _ (l : List ℕ) (room : 495 ≤ length l) where
  pub rest_put : (c : Context) {s : List ℕ} → s ≡ put_at (context_bytes c) 23 l → length (context_bytes c) ≡ 472 → s ≡ sets l 23 (context_bytes c)
  rest_put c e n = e ∙ put_sets (context_bytes c) 23 l (omega (arith, n))

  module _ (k : CheckState) where
    abbrev front : List ℕ
    front = stage_bytes k.stage ++ quad_bytes k.taken ++ (k.held ∷ k.cut)

    pub state_put : {s1 s2 : List ℕ} → (s1 ≡ sets l 0 front) × (length k.cut ≡ 12)
        → (s2 ≡ sets s1 23 (context_bytes k.context)) × (length (context_bytes k.context) ≡ 472) → s2 ≡ put_at (state_bytes k) 0 l
    unfolding state_bytes
    state_put {s1} e w =
        let c : List ℕ = context_bytes k.context in
        let all : length (front ++ c) ≡ 495 = length_whole k e.1 w.1 in
        let m : length front ≡ 23 = omega (arith, all, w.1, length-append front c) in
        w.0 ∙ ap (λ (x : List ℕ). sets x 23 c) e.0 ∙ join l front c 0 23 (omega arith) ∙ sym (put_sets (front ++ c) 0 l (omega arith))
