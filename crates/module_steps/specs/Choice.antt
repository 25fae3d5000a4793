-- The code's choice of what a step does.
use Rattle.permits.specs.Module.{Choice, takes_turn, waits, bids_to}
use Rattle.module_steps.specs.declared.Chosen.{Chosen}
use Rattle.module_steps.specs.declared.Chosen.TheVariants.{Turn, Bid, Wait}

abbrev pub choice_of : Chosen → Choice
choice_of Turn = takes_turn
choice_of (Bid v) = bids_to v
choice_of Wait = waits
