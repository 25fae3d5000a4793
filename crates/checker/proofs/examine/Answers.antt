use Rattle.std.proofs.Common.{sym, ap, ◌∙◌, arith, rules}
use Rattle.records.specs.Kinds.{body_len}
use Rattle.record_tests.specs.Tests.{stands_at}
use Rattle.checker.proofs.Stretch.{stands_there}
use Rattle.checker.proofs.Loop.{begins, too_long, head_by}
use Rattle.checker.proofs.Examining.{examined_as}
use Rattle.checker.proofs.examine.Goals as goal

pub returns-then-image-gt-LIMIT : goal.returns-then-image-gt-LIMIT
returns-then-image-gt-LIMIT c = examined_as _ (too_long _ c.if-image-gt-LIMIT.true)

pub fields_at-f-requires : goal.fields_at-f-requires
unfolding body_len
fields_at-f-requires c =
    (stands_there _ 0 0x10 4 (ap (stands_at _ 0 0x10) (sym c.size_by-size.ensures) ∙ sym c.stands.ensures ∙ c.if-stands.true)).fits

pub after_head-requires : goal.after_head-requires
after_head-requires c =
    head_by _ (omega arith) c.size_by-size.ensures c.stands.ensures c.if-stands.true c.fields_at-f.ensures c.in_range.ensures c.if-in_range.true

pub returns-then-in_range : goal.returns-then-in_range
returns-then-in_range c = examined_as _ (search rules)

pub judged-requires : goal.judged-requires
judged-requires c = begins _ c.started.ensures c.nowhere.ensures (omega arith)

pub returns : goal.returns
returns c = examined_as _ (search rules)
