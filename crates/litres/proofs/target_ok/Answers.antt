use mathlib.Core.Path.{◌≡◌, sym, ◌∙◌, ap}
use mathlib.Core.Bool.{Bool, true, false, ◌&&◌}
use Prim.Native.Nat.{◌^◌}
use lib.Dec.{leb}
use lib.Ieee.{of_bits, binary64}
use Rattle.litres.specs.Eighths.{is_eighths, count}
use Rattle.litres.proofs.Laws.{under, over, value_0·125, value_131072, low_not_nan, high_no}
use Rattle.litres.proofs.target_ok.Goals as goal

-- `litres::target_ok` meets its contract. Assumes nothing.
pub float_from_bits-x : goal.float_from_bits-x
float_from_bits-x c = low_not_nan c.args.bits c.if-bits-le9218868437227405312.true

pub returns-then-x : goal.returns-then-x
returns-then-x c =
    let b = c.args.bits in
    let x = of_bits binary64 b in
    let yes : is_eighths x ≡ true = sym c.is_eighths.ensures ∙ c.if-is_eighths.true in
    let one : leb 1 (count x) ≡ true = sym (over x _ 1 yes value_0·125) ∙ c.if-x.true in
    under x _ (2 ^ 20) yes value_131072 ∙ sym (ap (λ (t : Bool). t && leb 1 (count x) && leb (count x) (2 ^ 20)) yes ∙ ap (λ (t : Bool). t && leb (count x) (2 ^ 20)) one)

pub returns-else-x : goal.returns-else-x
returns-else-x c =
    let b = c.args.bits in
    let x = of_bits binary64 b in
    let yes : is_eighths x ≡ true = sym c.is_eighths.ensures ∙ c.if-is_eighths.true in
    let none : leb 1 (count x) ≡ false = sym (over x _ 1 yes value_0·125) ∙ c.if-x.false in
    sym (ap (λ (t : Bool). t && leb 1 (count x) && leb (count x) (2 ^ 20)) yes ∙ ap (λ (t : Bool). t && leb (count x) (2 ^ 20)) none)

pub returns-else-is_eighths : goal.returns-else-is_eighths
returns-else-is_eighths c =
    let x = of_bits binary64 c.args.bits in
    sym (ap (λ (t : Bool). t && leb 1 (count x) && leb (count x) (2 ^ 20)) (sym c.is_eighths.ensures ∙ c.if-is_eighths.false))

pub returns-else-bits-le9218868437227405312 : goal.returns-else-bits-le9218868437227405312
returns-else-bits-le9218868437227405312 c =
    let x = of_bits binary64 c.args.bits in
    sym (ap (λ (t : Bool). t && leb 1 (count x) && leb (count x) (2 ^ 20)) (high_no c.args.bits c.if-bits-le9218868437227405312.false))
