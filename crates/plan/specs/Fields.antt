-- The fields of a record all at once, as the look-ups of a head, an event, a module, a supervisor and a step take them.
use Rattle.std.specs.Prelude.{◌≡◌, Option}
use Rattle.records.specs.declared.Record.{Record}
use Rattle.rules.specs.LookUp.{field1, field2, field3, word_field, field_of}
use Rattle.plan.specs.declared.Fields.{Fields}

-- its first three fields of one byte and the one of eight, and 0 for those that it lacks
abbrev pub fields_of : Record → Fields
fields_of r = record { first = field1 r; second = field2 r; third = field3 r; word = word_field r }

-- f holds the fields of what a look-up found, or 0 if it found none
pub record FieldsFound (x : Option Record) (f : Fields) : Type 0 where
  pub first : f.first ≡ field_of field1 x
  pub second : f.second ≡ field_of field2 x
  pub third : f.third ≡ field_of field3 x
  pub word : f.word ≡ field_of word_field x
