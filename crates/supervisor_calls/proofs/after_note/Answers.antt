use Rattle.supervisor_calls.proofs.Delivering.{after_note_lem}
use Rattle.supervisor_calls.proofs.after_note.Goals as goal

pub returns : goal.returns
returns c = search after_note_lem
