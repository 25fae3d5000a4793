use mathlib.Core.Path.{◌≡◌}
use mathlib.Core.List.{List, ◌++◌}
use Prim.Native.Nat.{ℕ, ◌+◌, ◌≤◌}
use native.Mathlib.Nat.{le_refl}
use native.Mathlib.Omega.{arith}
use lib.ListN.{length}
use mir.Syntax.{w8}
use mir.Val.{Fits}
use Rattle.texts.specs.declared.Text.{Text}
use Rattle.texts.specs.Text.{text_of, appended, cut}
use Rattle.texts.specs.Numbers.{spaced}
use Rattle.texts.proofs.Texts.{so_word, so_all, so_field}
use Rattle.script.proofs.short_line.Goals as goal

short_by : (a b : List ℕ) (n : ℕ) {u w r : Text} → length a + length b ≤ 100 → Fits w8 n → u ≡ cut a → w ≡ appended u (spaced n) → r ≡ appended w b
    → r ≡ text_of (a ++ spaced n ++ b)
short_by a b n h f q o e =
    (so_all (so_field (so_word a (length a) (le_refl (length a)) (omega arith) q) n f (omega arith) o) b (length b) (le_refl (length b)) (omega arith) e).is

pub returns : goal.returns
returns c = search short_by
