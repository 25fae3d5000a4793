use mathlib.Core.Path.{sym, ◌∙◌}
use Rattle.reader.proofs.Reading.{shapes_nothing, shapes_unknown, whole_by, cut_by}
use Rattle.reader.proofs.shape_at.Goals as goal

pub returns-then-s-at : goal.returns-then-s-at
returns-then-s-at c = sym (shapes_nothing _ _ c.if-s-at.true)

pub returns-then-n : goal.returns-then-n
returns-then-n c = sym (shapes_unknown _ _ c.if-s-at.false (sym c.body_len-n.ensures ∙ c.if-n.true))

pub returns-then-m-s : goal.returns-then-m-s
returns-then-m-s c = search whole_by

pub returns-else-m-s : goal.returns-else-m-s
returns-else-m-s c = search cut_by
