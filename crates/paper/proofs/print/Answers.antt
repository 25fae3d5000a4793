use Rattle.std.proofs.lemmas.Result.{err_from_is_err_and}
use Rattle.roundtrip.specs.Fits.{Bytes}
use Rattle.paper.proofs.Answer.{refused_by, few_by, short_by, whole_by}
use Rattle.paper.proofs.print.Goals as goal

pub overflow_mul-size : goal.overflow_mul-size
overflow_mul-size c = let w = c.in_ok-check.was in search (few_by, w)

pub returns-then-buf-size : goal.returns-then-buf-size
returns-then-buf-size c =
    let w = c.in_ok-check.was in
    let g : Bytes c.args.image.now = λ j. (c.shared_slice_known-1.given j).fits in
    search (short_by, w)

pub returns-in_err-check : goal.returns-in_err-check
returns-in_err-check c =
    let p = err_from_is_err_and c.from_residual.result c.from_residual.ensures.1 in
    let w = c.in_err-check.was in
    rw (p.1, p.2) (search (refused_by, w))

pub returns : goal.returns
returns c =
    let w = c.in_ok-check.was in
    let g : Bytes c.args.image.now = λ j. (c.shared_slice_known-1.given j).fits in
    search (whole_by, w)
