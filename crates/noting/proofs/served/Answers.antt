use native.Mathlib.Omega.{arith}
use Rattle.noting.proofs.Serving.{lowest_below, served_some, served_none, served_out}
use Rattle.noting.proofs.served.Goals as goal

pub returns-in_err-k-in-Home : goal.returns-in_err-k-in-Home
returns-in_err-k-in-Home c = let w = c.in_err-k-in-Home.was in rw c.from_residual.ensures (search (served_none, w))

pub overflow_add-result-in-Home : goal.overflow_add-result-in-Home
overflow_add-result-in-Home c = let w = c.in_ok-k-in-Home.was in omega (arith, lowest_below c.rotated.result c.lowest.ensures w)

pub returns-in_ok-k-in-Home : goal.returns-in_ok-k-in-Home
returns-in_ok-k-in-Home c = let w = c.in_ok-k-in-Home.was in search (served_some, w)

pub returns-in-Out : goal.returns-in-Out
returns-in-Out c = search served_out
