use Rattle.std.specs.Prelude.{Result, Ok, Err, ⊤}
use Rattle.refusal.specs.declared.Refusal.{Refusal}
use Rattle.texts.specs.Ascii.{ascii}
use Rattle.script.specs.Answers.{response_line}
use mathlib.Core.Path.{◌≡◌, sym, ap, ◌∙◌}
use mathlib.Core.List.{◌++◌}
use Prim.Native.Nat.{ℕ}
use Rattle.texts.specs.declared.Text.{Text}
use Rattle.texts.specs.Text.{text_of}
use Rattle.texts.specs.Numbers.{spaced}
use Rattle.script.specs.Answers.{refused_line}
use Rattle.script.proofs.response_line.Goals as goal

module _ (m e : ℕ) {r : Text} {a : Result ⊤ Refusal} where
  as_is : (b : Result ⊤ Refusal) → a ≡ b → r ≡ text_of (response_line m e b) → r ≡ text_of (response_line m e a)
  as_is b h f = f ∙ ap (λ (x : Result ⊤ Refusal). text_of (response_line m e x)) (sym h)

  done_by : a ≡ Ok tt → r ≡ text_of (ascii "response" ++ spaced m ++ ascii " queued" ++ spaced e ++ ascii "\n") → r ≡ text_of (response_line m e a)
  unfolding response_line
  done_by h f = as_is (Ok tt) h f

  refused_by : {why : Refusal} → a ≡ Err why → r ≡ text_of (refused_line why.number) → r ≡ text_of (response_line m e a)
  unfolding response_line
  refused_by {why} h f = as_is (Err why) h f

pub returns-in-Ok : goal.returns-in-Ok
unfolding ascii
returns-in-Ok c = search done_by

pub returns-in-Err : goal.returns-in-Err
returns-in-Err c = search refused_by
