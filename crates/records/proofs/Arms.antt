-- The arms of a match: the answer for the variant at hand is the answer for the record.
use mathlib.Core.Path.{◌≡◌, sym, ap, ◌∙◌}
use mathlib.Core.Bool.{Bool}
use Rattle.records.specs.Range.{in_range}
use Rattle.records.specs.declared.Record.{Record}

pub range_arm : (r : Record) {x : Record} {t : Bool} → r ≡ x → t ≡ in_range x → t ≡ in_range r
range_arm r e h = h ∙ ap in_range (sym e)
