use Rattle.std.proofs.Common.{rules}
use Rattle.reader.proofs.Reading.{inside_by, less_by}
use Rattle.checker.proofs.Loop.{stopped_by, refused_by, ended_by, goes_on_by}
use Rattle.checker.proofs.judged.Goals as goal

pub returns-in-Err : goal.returns-in-Err
returns-in-Err c = search stopped_by

pub returns-then-n-ne0 : goal.returns-then-n-ne0
returns-then-n-ne0 c = search refused_by

pub end_at-requires : goal.end_at-requires
end_at-requires c = search inside_by

pub returns-then-k-eq31 : goal.returns-then-k-eq31
returns-then-k-eq31 c = search ended_by

pub loop-why-smaller : goal.loop-why-smaller
loop-why-smaller c =
    let read = c.read_at.ensures.answer in
    search less_by

pub loop-why-preserved : goal.loop-why-preserved
loop-why-preserved c =
    goes_on_by _ _ _ _ _ c.with_record-c.ensures (search rules) c.read_at.ensures.answer c.noted-p.ensures
    c.kind_of-k.ensures c.if-k-eq31.false c.judge-n.ensures c.if-n-ne0.false
    c.loop-why.invariant
