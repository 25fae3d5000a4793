use mathlib.Core.Path.{◌≡◌, sym, ◌∙◌, ap}
use mathlib.Core.Bool.{Bool, true, ◌&&◌}
use lib.Dec.{leb}
use Rattle.litres.specs.Eighths.{is_eighths, count}
use Rattle.litres.proofs.Laws.{under, value_64}
use Rattle.litres.proofs.litres_ok.Goals as goal

pub returns-then-is_eighths : goal.returns-then-is_eighths
returns-then-is_eighths c =
    let x = c.args.x in
    let yes : is_eighths x ≡ true = sym c.is_eighths.ensures ∙ c.if-is_eighths.true in
    under x _ 512 yes value_64 ∙ sym (ap (λ (b : Bool). b && leb (count x) 512) yes)

pub returns-else-is_eighths : goal.returns-else-is_eighths
returns-else-is_eighths c =
    let x = c.args.x in
    sym (ap (λ (b : Bool). b && leb (count x) 512) (sym c.is_eighths.ensures ∙ c.if-is_eighths.false))
