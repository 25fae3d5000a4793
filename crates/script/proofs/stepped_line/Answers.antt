use Rattle.std.specs.Prelude.{Option, Some, None, Result, Ok, Err}
use Rattle.refusal.specs.declared.Refusal.{Refusal}
use mathlib.Core.Path.{◌≡◌, sym, ap, ◌∙◌}
use mathlib.Core.List.{◌++◌}
use Prim.Native.Nat.{ℕ}
use Rattle.texts.specs.declared.Text.{Text}
use Rattle.texts.specs.Ascii.{ascii}
use Rattle.texts.specs.Text.{text_of}
use Rattle.texts.specs.Numbers.{spaced}
use Rattle.script.specs.Answers.{refused_line}
use Rattle.script.specs.SimulationLines.{stepped_line}
use Rattle.permits.specs.declared.Stepped.{Stepped}
use Rattle.permits.specs.declared.Stepped.TheVariants.{Turns, Bids, Waits}
use Rattle.script.proofs.stepped_line.Goals as goal

module _ (m : ℕ) {r : Text} {a : Result Stepped Refusal} where
  as_is : (b : Result Stepped Refusal) → a ≡ b → r ≡ text_of (stepped_line m b) → r ≡ text_of (stepped_line m a)
  as_is b h f = f ∙ ap (λ (x : Result Stepped Refusal). text_of (stepped_line m x)) (sym h)

  module _ {s : Stepped} (h : a ≡ Ok s) where
    event_by : {t : Option ℕ} {k e : ℕ} → s ≡ Turns t k → t ≡ Some e → r ≡ text_of (ascii "module" ++ spaced m ++ ascii " event" ++ spaced e ++ ascii "\n") → r ≡ text_of (stepped_line m a)
    unfolding stepped_line
    event_by {k = k} {e = e} q p f = as_is (Ok (Turns (Some e) k)) (h ∙ ap Ok q ∙ ap (λ (x : Option ℕ). Ok (Turns x k)) p) f

    none_by : {t : Option ℕ} {k : ℕ} → s ≡ Turns t k → t ≡ None → r ≡ text_of (ascii "module" ++ spaced m ++ ascii " none\n") → r ≡ text_of (stepped_line m a)
    unfolding stepped_line
    none_by {k = k} q p f = as_is (Ok (Turns None k)) (h ∙ ap Ok q ∙ ap (λ (x : Option ℕ). Ok (Turns x k)) p) f

    bids_by : {v k : ℕ} → s ≡ Bids v k → r ≡ text_of (ascii "module" ++ spaced m ++ ascii " bids" ++ spaced v ++ ascii "\n") → r ≡ text_of (stepped_line m a)
    unfolding stepped_line
    bids_by {v} {k} q f = as_is (Ok (Bids v k)) (h ∙ ap Ok q) f

    waits_by : s ≡ Waits → r ≡ text_of (ascii "module" ++ spaced m ++ ascii " waits\n") → r ≡ text_of (stepped_line m a)
    unfolding stepped_line
    waits_by q f = as_is (Ok Waits) (h ∙ ap Ok q) f

  refused_by : {e : Refusal} → a ≡ Err e → r ≡ text_of (refused_line e.number) → r ≡ text_of (stepped_line m a)
  unfolding stepped_line
  refused_by {e} h f = as_is (Err e) h f

pub returns-in-Some : goal.returns-in-Some
unfolding ascii
returns-in-Some c = search event_by

pub returns-in-None : goal.returns-in-None
unfolding ascii
returns-in-None c = search none_by

pub returns-in-Bids : goal.returns-in-Bids
unfolding ascii
returns-in-Bids c = search bids_by

pub returns-in-Waits : goal.returns-in-Waits
unfolding ascii
returns-in-Waits c = search waits_by

pub returns-in-Err : goal.returns-in-Err
unfolding ascii
returns-in-Err c = search refused_by
