use Rattle.acts.proofs.Lines.{reading_sign, reading_number}
use Rattle.acts.proofs.reading_of.Goals as goal

pub returns-then-alone-sign : goal.returns-then-alone-sign
returns-then-alone-sign c = search reading_sign

pub returns-else-alone-sign : goal.returns-else-alone-sign
returns-else-alone-sign c = search reading_number
