-- Laws of bytes put one after the other.
use mathlib.Core.Path.{◌≡◌, refl, ap, ◌∙◌}
use mathlib.Core.List.{List, [], ◌∷◌, ◌++◌}
use Prim.Native.Nat.{ℕ, ◌+◌, ◌≤◌}
use native.Mathlib.Omega.{arith}
use lib.ListN.{length, length-append}
use lib.Seq.{sets}
use Rattle.words.specs.Word.{quad_bytes, put_at, word_bytes}
use Rattle.words.proofs.Laws.{length_quad, put_sets}
use Rattle.modules.specs.declared.Own.{Own}
use Rattle.modules.specs.declared.Procedure.{Procedure}
use Rattle.fields.specs.Fields.{half_bytes, flag_byte, float_bytes}
use Rattle.fields.proofs.Writing.{join, next}
use Rattle.own_bytes.specs.Own.{own_size, procedure_bytes, own_bytes}

pub length_procedure : (p : Procedure) → length (procedure_bytes p) ≡ 21
unfolding procedure_bytes half_bytes word_bytes
length_procedure p = refl

pub length_own : (own : Own) → length own.queue ≡ 8 → length (own_bytes own) ≡ own_size
unfolding own_bytes quad_bytes
length_own own n =
    let a : List ℕ = own.state ∷ own.length ∷ [] in
    let c : List ℕ = procedure_bytes own.procedure in
    omega (arith, n, length-append (a ++ own.queue ++ c) (quad_bytes own.outputs), length-append (a ++ own.queue) c, length-append a own.queue, length_procedure own.procedure)

-- ---- the pieces of a procedure and of an own part, from what the code is told

module _ (l : List ℕ) (o : ℕ) where
  pub procedure_put : {s1 s2 s3 s4 : List ℕ} (p : Procedure) {f : ℕ} → o + 21 ≤ length l → f ≡ flag_byte p.running → s1 ≡ put_at (f ∷ p.event ∷ p.index ∷ []) o l
      → s2 ≡ put_at (half_bytes p.count) (o + 3) s1 → s3 ≡ put_at (float_bytes p.water.target) (o + 5) s2 → s4 ≡ put_at (float_bytes p.water.total) (o + 13) s3
      → s4 ≡ sets l o (procedure_bytes p)
  unfolding procedure_bytes half_bytes word_bytes
  procedure_put {s1} p {f} room z e g h k =
      let first : s1 ≡ sets l o (f ∷ p.event ∷ p.index ∷ []) = e ∙ put_sets (f ∷ p.event ∷ p.index ∷ []) o l (omega arith) in
      let a : List ℕ = flag_byte p.running ∷ p.event ∷ p.index ∷ [] in
      let b : List ℕ = half_bytes p.count in
      let c : List ℕ = float_bytes p.water.target in
      let d : List ℕ = float_bytes p.water.total in
      next l o (a ++ b ++ c) d (o + 13) (next l o (a ++ b) c (o + 5) (next l o a b (o + 3) (first ∙ ap (λ (y : ℕ). sets l o (y ∷ p.event ∷ p.index ∷ [])) z) refl (omega arith) g) refl (omega arith) h) refl (omega arith) k

  pub own_put : {s1 s2 s3 s4 : List ℕ} (own : Own) → length own.queue ≡ 8 → o + own_size ≤ length l → s1 ≡ put_at (own.state ∷ own.length ∷ []) o l
      → s2 ≡ put_at own.queue (o + 2) s1 → s3 ≡ sets s2 (o + 10) (procedure_bytes own.procedure) → s4 ≡ put_at (quad_bytes own.outputs) (o + 31) s3
      → s4 ≡ sets l o (own_bytes own)
  unfolding own_bytes
  own_put {s1} {s2} own n room e g h k =
      let a : List ℕ = own.state ∷ own.length ∷ [] in
      let b : List ℕ = own.queue in
      let c : List ℕ = procedure_bytes own.procedure in
      let d : List ℕ = quad_bytes own.outputs in
      let m : length (a ++ b ++ c) ≡ 31 = omega (arith, length-append a b, length-append (a ++ b) c, length_procedure own.procedure) in
      let v : o + 10 ≡ o + length (a ++ b) = omega (arith, length-append a b) in
      let w : o + 31 ≡ o + length (a ++ b ++ c) = omega arith in
      let r : o + length (a ++ b ++ c ++ d) ≤ length l = omega (arith, length-append (a ++ b ++ c) d, length_quad own.outputs) in
      let first : s1 ≡ sets l o a = e ∙ put_sets a o l (omega arith) in
      let second : s2 ≡ sets l o (a ++ b) = next l o a b (o + 2) first refl (omega (arith, length-append a b)) g in
      next l o (a ++ b ++ c) d (o + 31) (h ∙ ap (λ (x : List ℕ). sets x (o + 10) c) second ∙ join l (a ++ b) c o (o + 10) v) w r k
