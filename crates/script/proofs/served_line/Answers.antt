use Rattle.std.specs.Prelude.{Result, Ok, Err}
use Rattle.refusal.specs.declared.Refusal.{Refusal}
use mathlib.Core.Path.{◌≡◌, sym, ap, ◌∙◌}
use mathlib.Core.List.{◌++◌}
use Prim.Native.Nat.{ℕ}
use Rattle.texts.specs.declared.Text.{Text}
use Rattle.texts.specs.Ascii.{ascii}
use Rattle.texts.specs.Text.{text_of}
use Rattle.texts.specs.Numbers.{spaced}
use Rattle.script.specs.Answers.{refused_line}
use Rattle.script.specs.SimulationLines.{served_line}
use Rattle.permits.specs.declared.Served.{Served}
use Rattle.permits.specs.declared.Served.TheVariants.{Sends, Waits}
use Rattle.script.proofs.served_line.Goals as goal

module _ (v : ℕ) {r : Text} {a : Result Served Refusal} where
  as_is : (b : Result Served Refusal) → a ≡ b → r ≡ text_of (served_line v b) → r ≡ text_of (served_line v a)
  as_is b h f = f ∙ ap (λ (x : Result Served Refusal). text_of (served_line v x)) (sym h)

  module _ {s : Served} (h : a ≡ Ok s) where
    sends_by : {m k : ℕ} → s ≡ Sends m k → r ≡ text_of (ascii "supervisor" ++ spaced v ++ ascii " permits" ++ spaced m ++ ascii "\n") → r ≡ text_of (served_line v a)
    unfolding served_line
    sends_by {m} {k} q f = as_is (Ok (Sends m k)) (h ∙ ap Ok q) f

    waits_by : s ≡ Waits → r ≡ text_of (ascii "supervisor" ++ spaced v ++ ascii " waits\n") → r ≡ text_of (served_line v a)
    unfolding served_line
    waits_by q f = as_is (Ok Waits) (h ∙ ap Ok q) f

  refused_by : {e : Refusal} → a ≡ Err e → r ≡ text_of (refused_line e.number) → r ≡ text_of (served_line v a)
  unfolding served_line
  refused_by {e} h f = as_is (Err e) h f

pub returns-in-Sends : goal.returns-in-Sends
unfolding ascii
returns-in-Sends c = search sends_by

pub returns-in-Waits : goal.returns-in-Waits
unfolding ascii
returns-in-Waits c = search waits_by

pub returns-in-Err : goal.returns-in-Err
returns-in-Err c = search refused_by
