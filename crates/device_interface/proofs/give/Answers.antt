use Rattle.device_interface.proofs.Laws.{give_short, give_done, give_refused}
use Rattle.device_interface.proofs.give.Goals as goal

pub returns-then-buffer-lt-DEVICE_SIZE : goal.returns-then-buffer-lt-DEVICE_SIZE
returns-then-buffer-lt-DEVICE_SIZE c = search give_short

pub returns-else-buffer-lt-DEVICE_SIZE : goal.returns-else-buffer-lt-DEVICE_SIZE
returns-else-buffer-lt-DEVICE_SIZE c = search give_done

pub returns-in-Err : goal.returns-in-Err
returns-in-Err c = search give_refused
