use native.Mathlib.Omega.{arith}
use lib.Dec.{lit≤}
use Rattle.noting.proofs.Notes.{put_small, put_by, put_past}
use borrow.Author.Rules.{rules}
use Rattle.noting.proofs.put_note.Goals as goal

pub overflow_cast-result : goal.overflow_cast-result
overflow_cast-result c =
    let a = c.args in
    omega (arith, c.put.ensures, put_small 16 a.noted a.m a.on (lit≤ tt) (search rules) (search rules))

pub returns-then-m-lt16 : goal.returns-then-m-lt16
returns-then-m-lt16 c = search put_by

pub returns-else-m-lt16 : goal.returns-else-m-lt16
returns-else-m-lt16 c = search put_past
