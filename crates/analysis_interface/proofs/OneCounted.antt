-- `OneCounted` of specs/Counts.antt.
use Rattle.packing.specs.Answer.{length_answer}
use mathlib.Core.Path.{sym, ap, ◌∙◌}
use Rattle.counting.proofs.OneAnswer.{one_answer}
use Rattle.analysis_interface.specs.Counts.{OneCounted}

pub one_counted : OneCounted
one_counted s m b r x c d f g =
    let one = one_answer s m b f.answer g.answer c d f.told g.told in
    (f.packed ∙ ap length_answer one.0 ∙ sym g.packed, one.1)
