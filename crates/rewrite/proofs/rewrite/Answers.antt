use Rattle.std.proofs.lemmas.Result.{err_from_is_err_and}
use Rattle.roundtrip.specs.Fits.{Bytes}
use Rattle.rewrite.proofs.Apart.{refused_by, plan_by, short_by, whole_by}
use borrow.Author.Rules.{rules}
use Rattle.rewrite.proofs.rewrite.Goals as goal

pub returns-then-buf-image : goal.returns-then-buf-image
returns-then-buf-image c =
    let w = c.in_ok-check.was in
    let g : Bytes c.args.image.now = λ j. (c.shared_slice_known-1.given j).fits in
    search (short_by, w)

pub put_records-requires : goal.put_records-requires
put_records-requires c = let w = c.in_ok-check.was in search (plan_by, rules, w)

pub returns-in_err-check : goal.returns-in_err-check
returns-in_err-check c =
    let p = err_from_is_err_and c.from_residual.result c.from_residual.ensures.1 in
    let w = c.in_err-check.was in
    rw (p.1, p.2) (search (refused_by, w))

pub returns : goal.returns
returns c =
    let w = c.in_ok-check.was in
    let g : Bytes c.args.image.now = λ j. (c.shared_slice_known-1.given j).fits in
    search (whole_by, w)
