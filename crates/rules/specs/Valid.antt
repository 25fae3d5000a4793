-- Lists of records in which no record is faulty, the latest first as in the check.
use Rattle.std.specs.Prelude.{◌≡◌, List, [], ◌∷◌, true}
use Rattle.records.specs.Range.{in_range}
use Rattle.records.specs.declared.Record.{Record}
use Rattle.rules.specs.Rules.{in_order, names_declared, keeps_rules, all_declared}
use Rattle.rules.specs.Check.{fault_of}

-- each record is faultless over those before it
unfoldable pub Valid : List Record → Type 0
Valid [] = Unit {0}
Valid (r ∷ rs) = (fault_of rs r ≡ 0) × Valid rs

-- the record r passes every test over the records rs before it
pub record Passes (rs : List Record) (r : Record) : Type 0 where
  pub order : in_order rs r ≡ true
  pub range : in_range r ≡ true
  pub names : names_declared rs r ≡ true
  pub rules : keeps_rules rs r ≡ true
  pub whole : all_declared rs r ≡ true
