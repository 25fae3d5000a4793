use mathlib.Core.List.{List, [], ◌∷◌}
use mathlib.Core.Path.{◌≡◌}
use mathlib.Core.Bool.{Bool, cond}
use Prim.Native.Nat.{ℕ, ◌-◌, ◌<◌}
use lib.Dec.{eqb, eqb→eq, leb, ltb}
use lib.ListN.{get_or}
use borrow.Author.Tests.{le-leb, lt-leb, lt-ltb, le-ltb}
use Rattle.records.specs.Kinds.{body_len}
use Rattle.bits.specs.Bit.{all_below}
use Rattle.bits.proofs.Laws.{all_at}
use Rattle.records.proofs.body_len.Goals as goal

lens : List ℕ
lens = 3 ∷ 3 ∷ 3 ∷ 4 ∷ 11 ∷ 4 ∷ 10 ∷ 11 ∷ 2 ∷ 255 ∷ 255 ∷ 255 ∷ 255 ∷ 255 ∷ 255 ∷ 0 ∷ []

-- what the function answers
unfoldable given : ℕ → ℕ
given k = cond (leb 0x10 k) (cond (ltb k 0x20) (get_or lens (k - 0x10) 0) 255) 255

right : ℕ → Bool
right k = eqb (given k) (body_len k)

rule : (k : ℕ) → k < 256 → given k ≡ body_len k
unfolding lens given right body_len all_below
rule k h = eqb→eq (given k) (body_len k) (all_at right 256 tt k h)

pub returns-then-kind-lt32 : goal.returns-then-kind-lt32
unfolding lens given
returns-then-kind-lt32 c =
    let k = c.args.kind in
    simp (le-leb 0x10 k c.if-kind-ge16.true, lt-ltb k 0x20 c.if-kind-lt32.true) at (rule k c.ranges.kind.fits)

pub returns-else-kind-lt32 : goal.returns-else-kind-lt32
unfolding given
returns-else-kind-lt32 c =
    let k = c.args.kind in
    simp (le-leb 0x10 k c.if-kind-ge16.true, le-ltb k 0x20 c.if-kind-lt32.false) at (rule k c.ranges.kind.fits)

pub returns-else-kind-ge16 : goal.returns-else-kind-ge16
unfolding given
returns-else-kind-ge16 c =
    let k = c.args.kind in
    simp (lt-leb 0x10 k c.if-kind-ge16.false) at (rule k c.ranges.kind.fits)
