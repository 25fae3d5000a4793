use Rattle.messages.proofs.Reading.{bid_by, permit_by, release_by, misshapen_by, parsed_as}
use Rattle.messages.proofs.read.Goals as goal

pub returns-then-kind-n : goal.returns-then-kind-n
returns-then-kind-n c = parsed_as _ (search bid_by)

pub returns-then-kind-n-2 : goal.returns-then-kind-n-2
returns-then-kind-n-2 c = parsed_as _ (search permit_by)

pub returns-then-kind-n-3 : goal.returns-then-kind-n-3
returns-then-kind-n-3 c = parsed_as _ (search release_by)

pub returns : goal.returns
returns c = parsed_as _ (search misshapen_by)
