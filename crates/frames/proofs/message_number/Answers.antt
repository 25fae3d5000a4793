use Rattle.frames.proofs.Frame.{message_by, misshapen_by}
use Rattle.frames.proofs.message_number.Goals as goal

pub returns-in-Some : goal.returns-in-Some
returns-in-Some c = search message_by

pub returns-in-None : goal.returns-in-None
returns-in-None c = search misshapen_by
