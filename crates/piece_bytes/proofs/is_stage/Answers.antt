use Rattle.piece_bytes.proofs.Reading.{no_refusal, refusal}
use Rattle.piece_bytes.proofs.is_stage.Goals as goal

pub returns-then-x-lt2 : goal.returns-then-x-lt2
returns-then-x-lt2 c = search no_refusal

pub returns-else-x-lt2 : goal.returns-else-x-lt2
returns-else-x-lt2 c = search refusal
