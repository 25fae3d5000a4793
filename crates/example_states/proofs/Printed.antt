-- Laws of what is printed: a text with several parts behind it, one after the other.
use mathlib.Core.Path.{◌≡◌, ap, ◌∙◌}
use mathlib.Core.Bool.{Bool, true, false}
use Prim.Native.Nat.{ℕ}
use lib.Ieee.{Float, binary64, to_bits, nan_bits}
use Rattle.fields.specs.Fields.{flag_byte}
use Rattle.modules.specs.declared.Procedure.{Procedure}
use Rattle.modules.specs.declared.Own.{Own}
use Rattle.texts.specs.declared.Text.{Text}
use Rattle.texts.specs.Ascii.{ascii}
use Rattle.texts.specs.Digits.{hex_digits}
use Rattle.texts.specs.Numbers.{spaced, spaced_all}
use Rattle.texts.specs.Text.{pushed, appended}
use Rattle.texts.proofs.Texts.{appended_append}
use Rattle.example_states.specs.Printed.{bits_text, float_text, procedure_text, own_text}

module _ (t : Text) {b : ℕ} {n : Bool} (x : Float) (e : b ≡ to_bits binary64 x) (o : n ≡ nan_bits binary64 b) {r : Text} where
  pub float_nan : n ≡ true → r ≡ appended t (ascii " nan") → r ≡ appended t (float_text x)
  unfolding bits_text
  float_nan h f = simp (← e, ← o, h) f

  pub float_bits : {u : Text} → n ≡ false → u ≡ pushed t 32 → r ≡ appended u (hex_digits 16 b) → r ≡ appended t (float_text x)
  unfolding bits_text ascii appended
  float_bits h g f = simp (← e, ← o, h) (f ∙ ap (λ (v : Text). appended v (hex_digits 16 b)) g)

module _ (t : Text) (p : Procedure) {f : ℕ} {t₁ t₂ t₃ t₄ t₅ t₆ t₇ r : Text} where
  pub procedure_by : t₁ ≡ appended t (ascii " procedure") → f ≡ flag_byte p.running → t₂ ≡ appended t₁ (spaced f)
      → t₃ ≡ appended t₂ (spaced p.event) → t₄ ≡ appended t₃ (spaced p.index) → t₅ ≡ appended t₄ (spaced p.count)
      → t₆ ≡ appended t₅ (ascii " water") → t₇ ≡ appended t₆ (float_text p.water.target) → r ≡ appended t₇ (float_text p.water.total)
      → r ≡ appended t (procedure_text p)
  unfolding procedure_text
  procedure_by a b c d g h i j k = simp appended_append (cc)

module _ (t : Text) (own : Own) {t₁ t₂ t₃ t₄ t₅ t₆ t₇ r : Text} where
  pub own_by : t₁ ≡ appended t (ascii "state") → t₂ ≡ appended t₁ (spaced own.state) → t₃ ≡ appended t₂ (ascii " queue")
      → t₄ ≡ appended t₃ (spaced own.length) → t₅ ≡ appended t₄ (spaced_all own.queue)
      → t₆ ≡ appended t₅ (procedure_text own.procedure) → t₇ ≡ appended t₆ (ascii " outputs ") → r ≡ appended t₇ (hex_digits 8 own.outputs)
      → r ≡ appended t (own_text own)
  unfolding own_text
  own_by a b c d e f g h = simp appended_append (cc)
