use Rattle.supervisor_calls.proofs.Delivering.{bidder_small, bid_by, permit_by, release_by}
use Rattle.supervisor_calls.proofs.take.Goals as goal

pub after_note-after-requires : goal.after_note-after-requires
after_note-after-requires c = search bidder_small

pub returns-in-Bid : goal.returns-in-Bid
returns-in-Bid c = search bid_by

pub returns-in-Permit : goal.returns-in-Permit
returns-in-Permit c = search permit_by

pub returns-in-Release : goal.returns-in-Release
returns-in-Release c = search release_by
