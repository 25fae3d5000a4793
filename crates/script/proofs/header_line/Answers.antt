use mathlib.Core.Path.{◌≡◌}
use Prim.Native.Nat.{ℕ}
use native.Mathlib.Nat.{le_refl}
use native.Mathlib.Omega.{arith}
use mir.Syntax.{w8}
use mir.Val.{Fits}
use Rattle.texts.specs.declared.Text.{Text}
use Rattle.texts.specs.Ascii.{ascii}
use Rattle.texts.specs.Text.{text_of, pushed, appended, cut}
use Rattle.texts.specs.Numbers.{spaced}
use Rattle.script.specs.Answers.{header_line}
use Rattle.texts.proofs.Texts.{so_word, so_field, so_push}
use Rattle.script.proofs.header_line.Goals as goal

module _ (m v e : ℕ) {u w x y r : Text} where
  header_by : Fits w8 m → Fits w8 v → Fits w8 e → u ≡ cut (ascii "plan") → w ≡ appended u (spaced m) → x ≡ appended w (spaced v) → y ≡ appended x (spaced e)
      → r ≡ pushed y 10 → r ≡ text_of (header_line m v e)
  unfolding ascii header_line
  header_by f g h q o k i j =
      let s = so_field (so_word (ascii "plan") 4 (le_refl 4) (omega arith) q) m f (omega arith) o in
      (so_push (so_field (so_field s v g (omega arith) k) e h (omega arith) i) 10 (omega arith) j).is

pub returns : goal.returns
unfolding ascii
returns c = search header_by
