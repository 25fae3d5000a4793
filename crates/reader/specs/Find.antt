-- The look-up of a record by kind and key.
use Rattle.std.specs.Prelude.{List, [], ◌∷◌, Bool, true, false, cond, Option, Some, None}
use Rattle.records.specs.Key.{key_of, same_key}
use Rattle.records.specs.declared.Record.{Record}
use Rattle.records.specs.declared.RecordKey.{RecordKey}

-- the first record of a list with a kind and key
unfoldable pub find_in : RecordKey → List Record → Option Record
find_in p [] = None
find_in p (r ∷ rs) = cond (same_key (key_of r) p) (Some r) (find_in p rs)

-- a look-up found a record
unfoldable pub found : Option Record → Bool
found (Some r) = true
found None = false
