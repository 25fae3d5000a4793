use Rattle.simulation.proofs.Playing.{bytes_as, party_bid, party_permit, party_release}
use Rattle.simulation.proofs.to_party.Goals as goal

pub to_supervisor-requires : goal.to_supervisor-requires
to_supervisor-requires c = search bytes_as

pub to_module-requires : goal.to_module-requires
to_module-requires c = search bytes_as

pub to_supervisor-requires-in-Release : goal.to_supervisor-requires-in-Release
to_supervisor-requires-in-Release c = search bytes_as

pub returns-in-Bid : goal.returns-in-Bid
returns-in-Bid c = search party_bid

pub returns-in-Permit : goal.returns-in-Permit
returns-in-Permit c = search party_permit

pub returns-in-Release : goal.returns-in-Release
returns-in-Release c = search party_release
