-- `OneFound` of specs/Analysis.antt.
use mathlib.Core.Path.{sym, ap, ◌∙◌}
use Rattle.blocking.proofs.OneAnswer.{one_answer}
use Rattle.analysis_interface.specs.Analysis.{blocking_answer, OneFound}

pub one_found : OneFound
one_found s b r x c d f g =
    let one = one_answer s b f.answer g.answer c d f.told g.told in
    (f.packed ∙ ap blocking_answer one.0 ∙ sym g.packed, one.1)
