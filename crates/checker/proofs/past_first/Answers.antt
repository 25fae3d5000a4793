use Rattle.checker.proofs.Answering.{whole_by}
use Rattle.std.proofs.Common.{rules}
use Rattle.checker.proofs.past_first.Goals as goal

pub past_record-requires : goal.past_record-requires
past_record-requires c = (search rules, search (whole_by, rules))
