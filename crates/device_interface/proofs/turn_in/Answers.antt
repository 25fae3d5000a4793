use Rattle.device_interface.proofs.Laws.{number_stands, turn_numbered, turn_done, states_read}
use Rattle.device_interface.proofs.turn_in.Goals as goal

pub returns-then-n-ne0 : goal.returns-then-n-ne0
returns-then-n-ne0 c = search turn_numbered

pub keep_turn-requires : goal.keep_turn-requires
keep_turn-requires c = (search number_stands, search states_read)

pub returns : goal.returns
returns c = search turn_done
