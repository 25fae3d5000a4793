use mathlib.Core.Path.{◌≡◌}
use mathlib.Core.List.{List}
use Prim.Native.Nat.{ℕ, ◌≤◌}
use native.Mathlib.Omega.{arith}
use lib.ListN.{length, take}
use Rattle.device_states.specs.declared.Device.{Device}
use Rattle.texts.specs.declared.Text.{Text}
use Rattle.texts.specs.Ascii.{ascii}
use Rattle.texts.specs.Text.{text_of, pushed, appended, cut}
use Rattle.texts.specs.Numbers.{spaced_all}
use Rattle.script.specs.Answers.{states_of, states_row}
use Rattle.texts.proofs.Texts.{so_word, so_all, so_push}
use Rattle.script.proofs.states_row.Goals as goal

module _ (word : List ℕ) (d : Device) (m v a b : ℕ) {u w x r : Text} where
  states_by : r ≡ pushed x 10 → x ≡ appended w (spaced_all (take b d.supervisors)) → length (spaced_all (take b d.supervisors)) ≤ 128 → b ≡ v
      → w ≡ appended u (spaced_all (take a (states_of d.modules))) → length (spaced_all (take a (states_of d.modules))) ≤ 64 → a ≡ m
      → u ≡ cut word → length word ≤ 15 → r ≡ text_of (states_row word d m v)
  unfolding ascii states_row
  states_by o i j q h k p g z =
      let s = so_all (so_word word 15 z (omega arith) g) (spaced_all (take a (states_of d.modules))) 64 k (omega arith) h in
      rw (← p, ← q) (so_push (so_all s (spaced_all (take b d.supervisors)) 128 j (omega arith) i) 10 (omega arith) o).is

pub returns : goal.returns
returns c = search states_by
