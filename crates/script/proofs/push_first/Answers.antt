use mathlib.Core.Path.{◌≡◌, sym}
use mathlib.Core.List.{List}
use Prim.Native.Nat.{ℕ, ◌≤◌, ◌<◌}
use native.Mathlib.Omega.{arith}
use lib.ListN.{length, take}
use lib.Seq.{take_all, length-take-le}
use borrow.Author.Rules.{rules}
use Rattle.texts.specs.declared.Text.{Text}
use Rattle.texts.specs.Text.{appended}
use Rattle.texts.specs.Numbers.{spaced_all}
use Rattle.script.proofs.States.{first_short}
use Rattle.script.proofs.push_first.Goals as goal

module _ (s : List ℕ) (n : ℕ) (e : length s ≡ 32) where
  count : n < 32 → n ≡ length (take n s)
  count h = sym (length-take-le n s (omega arith))

  all_of : 32 ≤ n → (t : Text) {r : Text} → r ≡ appended t (spaced_all s) → r ≡ appended t (spaced_all (take n s))
  all_of h t f = rw (take_all n s (omega arith)) f

pub slice_bounds-push_numbers-end : goal.slice_bounds-push_numbers-end
slice_bounds-push_numbers-end c = search count

pub returns-then-n-lt32 : goal.returns-then-n-lt32
returns-then-n-lt32 c = (
  c.push_numbers.ensures,
  first_short c.args.states c.args.n (search rules) (λ i. search rules),
)

pub returns-else-n-lt32 : goal.returns-else-n-lt32
returns-else-n-lt32 c = (
  search all_of,
  first_short c.args.states c.args.n (search rules) (λ i. search rules),
)
