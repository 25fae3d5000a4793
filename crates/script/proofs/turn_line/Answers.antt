use Rattle.std.specs.Prelude.{Option, Some, None, Result, Ok, Err}
use Rattle.refusal.specs.declared.Refusal.{Refusal}
use Rattle.texts.specs.Ascii.{ascii}
use Rattle.script.specs.Answers.{turn_line}
use mathlib.Core.Path.{◌≡◌, sym, ap, ◌∙◌}
use mathlib.Core.List.{◌++◌}
use Prim.Native.Nat.{ℕ}
use Rattle.texts.specs.declared.Text.{Text}
use Rattle.texts.specs.Text.{text_of}
use Rattle.texts.specs.Numbers.{spaced}
use Rattle.script.specs.Answers.{refused_line}
use Rattle.script.proofs.turn_line.Goals as goal

module _ (m : ℕ) {r : Text} {a : Result (Option ℕ) Refusal} where
  as_is : (b : Result (Option ℕ) Refusal) → a ≡ b → r ≡ text_of (turn_line m b) → r ≡ text_of (turn_line m a)
  as_is b h f = f ∙ ap (λ (x : Result (Option ℕ) Refusal). text_of (turn_line m x)) (sym h)

  module _ {t : Option ℕ} (h : a ≡ Ok t) where
    event_by : {e : ℕ} → t ≡ Some e → r ≡ text_of (ascii "turn" ++ spaced m ++ ascii " event" ++ spaced e ++ ascii "\n") → r ≡ text_of (turn_line m a)
    unfolding turn_line
    event_by {e} k f = as_is (Ok (Some e)) (h ∙ ap Ok k) f

    none_by : t ≡ None → r ≡ text_of (ascii "turn" ++ spaced m ++ ascii " none\n") → r ≡ text_of (turn_line m a)
    unfolding turn_line
    none_by k f = as_is (Ok None) (h ∙ ap Ok k) f

  refused_by : {e : Refusal} → a ≡ Err e → r ≡ text_of (refused_line e.number) → r ≡ text_of (turn_line m a)
  unfolding turn_line
  refused_by {e} h f = as_is (Err e) h f

pub returns-in-Some : goal.returns-in-Some
unfolding ascii
returns-in-Some c = search event_by

pub returns-in-None : goal.returns-in-None
unfolding ascii
returns-in-None c = search none_by

pub returns-in-Err : goal.returns-in-Err
returns-in-Err c = search refused_by
