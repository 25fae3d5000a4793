use mathlib.Core.Path.{◌∙◌, refl}
use Rattle.std.proofs.lemmas.Result.{err_from_is_err_and}
use Rattle.reader.proofs.Reading.{whole_there, other_there, reads_as}
use Rattle.reader.proofs.read_at.Goals as goal

pub returns-in_err-kind : goal.returns-in_err-kind
returns-in_err-kind c =
    let p = err_from_is_err_and c.from_residual.result c.from_residual.ensures.1 in
    rw (p.1, p.2) (reads_as _ _ (other_there _ _ c.shape_at.ensures c.in_err-kind.was refl))

pub returns : goal.returns
returns c = reads_as _ _ (whole_there _ _ c.shape_at.ensures c.in_ok-kind.was c.record_of.ensures)
