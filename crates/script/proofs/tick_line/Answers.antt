use Rattle.std.specs.Prelude.{Result, Ok, Err, ⊤}
use Rattle.refusal.specs.declared.Refusal.{Refusal}
use mathlib.Core.Path.{◌≡◌, sym, ap, ◌∙◌}
use mathlib.Core.List.{◌++◌}
use Prim.Native.Nat.{ℕ}
use Rattle.texts.specs.declared.Text.{Text}
use Rattle.texts.specs.Ascii.{ascii}
use Rattle.texts.specs.Text.{text_of}
use Rattle.texts.specs.Numbers.{spaced}
use Rattle.script.specs.Answers.{refused_line}
use Rattle.script.specs.SimulationLines.{tick_line}
use Rattle.script.proofs.tick_line.Goals as goal

module _ (m : ℕ) {r : Text} {a : Result ⊤ Refusal} where
  as_is : (b : Result ⊤ Refusal) → a ≡ b → r ≡ text_of (tick_line m b) → r ≡ text_of (tick_line m a)
  as_is b h f = f ∙ ap (λ (x : Result ⊤ Refusal). text_of (tick_line m x)) (sym h)

  done_by : a ≡ Ok tt → r ≡ text_of (ascii "tick" ++ spaced m ++ ascii "\n") → r ≡ text_of (tick_line m a)
  unfolding tick_line
  done_by h f = as_is (Ok tt) h f

  refused_by : {e : Refusal} → a ≡ Err e → r ≡ text_of (refused_line e.number) → r ≡ text_of (tick_line m a)
  unfolding tick_line
  refused_by {e} h f = as_is (Err e) h f

pub returns-in-Ok : goal.returns-in-Ok
unfolding ascii
returns-in-Ok c = search done_by

pub returns-in-Err : goal.returns-in-Err
returns-in-Err c = search refused_by
