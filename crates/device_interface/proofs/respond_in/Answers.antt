use Rattle.device_interface.proofs.Laws.{number_stands, reply_numbered, reply_done, respond_own}
use Rattle.device_interface.proofs.respond_in.Goals as goal

pub returns-then-n-ne0 : goal.returns-then-n-ne0
returns-then-n-ne0 c = search reply_numbered

pub keep-requires : goal.keep-requires
keep-requires c = search number_stands

pub returns : goal.returns
returns c = search (reply_done, respond_own)
