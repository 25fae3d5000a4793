use mathlib.Core.Path.{◌≡◌}
use Prim.Native.Nat.{ℕ}
use native.Mathlib.Nat.{le_refl}
use native.Mathlib.Omega.{arith}
use mir.Syntax.{w8}
use mir.Val.{Fits}
use Rattle.texts.specs.declared.Text.{Text}
use Rattle.texts.specs.Ascii.{ascii}
use Rattle.texts.specs.Text.{text_of, pushed, appended, cut}
use Rattle.texts.specs.Numbers.{spaced}
use Rattle.script.specs.Answers.{plan_refused_line}
use Rattle.texts.proofs.Texts.{so_word, so_all, so_field, so_wide, so_push}
use Rattle.script.proofs.plan_refused_line.Goals as goal

module _ (n o : ℕ) {u w x y r : Text} where
  refused_by : Fits w8 n → u ≡ cut (ascii "plan refused") → w ≡ appended u (spaced n) → x ≡ appended w (ascii " at") → y ≡ appended x (spaced o)
      → r ≡ pushed y 10 → r ≡ text_of (plan_refused_line n o)
  unfolding ascii plan_refused_line
  refused_by f q e k i j =
      let s = so_field (so_word (ascii "plan refused") 12 (le_refl 12) (omega arith) q) n f (omega arith) e in
      (so_push (so_wide (so_all s (ascii " at") 3 (le_refl 3) (omega arith) k) o (omega arith) i) 10 (omega arith) j).is

pub returns : goal.returns
unfolding ascii
returns c = search refused_by
