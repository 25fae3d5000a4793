use mathlib.Core.Path.{◌≡◌}
use mathlib.Core.List.{List, ◌++◌}
use Prim.Native.Nat.{ℕ, ◌+◌, ◌≤◌}
use native.Mathlib.Nat.{le_refl}
use native.Mathlib.Omega.{arith}
use lib.ListN.{length}
use mir.Syntax.{w8}
use mir.Val.{Fits}
use Rattle.texts.specs.declared.Text.{Text}
use Rattle.texts.specs.Ascii.{ascii}
use Rattle.texts.specs.Text.{text_of, pushed, appended, cut}
use Rattle.texts.specs.Numbers.{spaced}
use Rattle.texts.proofs.Texts.{so_word, so_all, so_field, so_push}
use Rattle.script.proofs.long_line.Goals as goal

module _ (a b : List ℕ) (m e : ℕ) (h : length a + length b ≤ 100) {u w x y r : Text} where
  long_by : Fits w8 m → Fits w8 e → u ≡ cut a → w ≡ appended u (spaced m) → x ≡ appended w b → y ≡ appended x (spaced e) → r ≡ pushed y 10
      → r ≡ text_of (a ++ spaced m ++ b ++ spaced e ++ ascii "\n")
  unfolding ascii
  long_by f g q o k i j =
      let s = so_field (so_word a (length a) (le_refl (length a)) (omega arith) q) m f (omega arith) o in
      (so_push (so_field (so_all s b (length b) (le_refl (length b)) (omega arith) k) e g (omega arith) i) 10 (omega arith) j).is

pub returns : goal.returns
returns c = search long_by
