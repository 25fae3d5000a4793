use Rattle.std.proofs.lemmas.Result.{err_from_is_err_and}
use Rattle.checker.proofs.Examining.{accepts, refuses}
use Rattle.checker.proofs.check.Goals as goal

pub returns-in_err-examine : goal.returns-in_err-examine
returns-in_err-examine c =
    let p = err_from_is_err_and c.from_residual.result c.from_residual.ensures.1 in
    rw (p.1, p.2) (refuses _ c.examine.ensures.answer c.in_err-examine.was)

pub returns : goal.returns
returns c = accepts _ c.examine.ensures.answer c.in_ok-examine.was
