use Rattle.modules.proofs.Queue.{eight}
use Rattle.module_interface.proofs.Laws.{give_short, give_done, give_refused}
use Rattle.module_interface.proofs.give.Goals as goal

pub returns-then-buffer-lt-MODULE_SIZE : goal.returns-then-buffer-lt-MODULE_SIZE
returns-then-buffer-lt-MODULE_SIZE c = search give_short

pub returns-else-buffer-lt-MODULE_SIZE : goal.returns-else-buffer-lt-MODULE_SIZE
returns-else-buffer-lt-MODULE_SIZE c = search (give_done, eight)

pub returns-in-Err : goal.returns-in-Err
returns-in-Err c = search give_refused
