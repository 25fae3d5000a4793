use Rattle.device_interface.proofs.Laws.{number_none, number_eleven, number_nine}
use Rattle.device_interface.proofs.number.Goals as goal

pub returns-then-m-modules_of : goal.returns-then-m-modules_of
returns-then-m-modules_of c = search number_none

pub returns-else-m-modules_of : goal.returns-else-m-modules_of
returns-else-m-modules_of c = search number_eleven

pub returns-else-fits : goal.returns-else-fits
returns-else-fits c = search number_nine
