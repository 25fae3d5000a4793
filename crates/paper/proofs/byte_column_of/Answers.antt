use mathlib.Core.Path.{sym}
use Rattle.paper.proofs.Lengths.{one_digit, two_digits, three_digits}
use borrow.Author.Rules.{rules}
use Rattle.paper.proofs.byte_column_of.Goals as goal

pub returns-then-n-lt10 : goal.returns-then-n-lt10
returns-then-n-lt10 c = sym (one_digit _ (search rules))

pub returns-then-n-lt100 : goal.returns-then-n-lt100
returns-then-n-lt100 c = sym (two_digits _ (search rules) (search rules))

pub returns : goal.returns
returns c = sym (three_digits _ (search rules) (search rules))
