-- What the code is told of names, in the definitions' terms.
use mathlib.Core.Path.{◌≡◌, sym, ap, ◌∙◌}
use mathlib.Core.List.{List}
use mathlib.Core.Bool.{Bool}
use Rattle.records.specs.declared.Record.{Record}
use Rattle.messages.specs.declared.Message.{Message}
use Rattle.permits.specs.Names.{named}

-- the arms of `named`
pub named_arm : (rs : List Record) (g : Message) {h : Message} {t : Bool} → g ≡ h → t ≡ named rs h → t ≡ named rs g
named_arm rs g e f = f ∙ ap (named rs) (sym e)
