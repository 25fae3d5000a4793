use Rattle.checker.proofs.Answering.{first_begun, first_on}
use Rattle.std.proofs.Common.{rules}
use Rattle.checker.proofs.past_record.Goals as goal

pub past_after-requires : goal.past_after-requires
past_after-requires c =
    first_begun _ _ _ c.requires.0 (λ j. (c.shared_slice_known-1.given j).fits) (λ j. (c.slice_known-1.given j).fits) _ _ _ _ c.context_at-c.ensures c.requires.1 c.with_record-d.ensures _ c.put_context.ensures

pub returns : goal.returns
returns c =
    first_on _ _ _ c.requires.0 (λ j. (c.shared_slice_known-1.given j).fits) (λ j. (c.slice_known-1.given j).fits) _ _ _ _ c.context_at-c.ensures c.requires.1 c.with_record-d.ensures _ c.put_context.ensures c.judge.ensures (search rules) c.kind_of.ensures (search rules) c.past_after.ensures
