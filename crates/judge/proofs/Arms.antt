-- The arms of a match: the answer for the variant at hand is the answer for the record.
use mathlib.Core.Path.{◌≡◌, sym, ap, ◌∙◌}
use mathlib.Core.Bool.{Bool}
use Rattle.records.specs.declared.Record.{Record}
use Rattle.context.specs.declared.Context.{Context}
use Rattle.judge.specs.Judge.{index_by, names_by, rules_by, all_by}

arm : (f : Record → Bool) (r : Record) {x : Record} {t : Bool} → r ≡ x → t ≡ f x → t ≡ f r
arm f r e h = h ∙ ap f (sym e)

pub index_arm : (c : Context) (r : Record) {x : Record} {t : Bool} → r ≡ x → t ≡ index_by c x → t ≡ index_by c r
index_arm c = arm (index_by c)

pub names_arm : (c : Context) (r : Record) {x : Record} {t : Bool} → r ≡ x → t ≡ names_by c x → t ≡ names_by c r
names_arm c = arm (names_by c)

pub rules_arm : (c : Context) (r : Record) {x : Record} {t : Bool} → r ≡ x → t ≡ rules_by c x → t ≡ rules_by c r
rules_arm c = arm (rules_by c)

pub all_arm : (c : Context) (r : Record) {x : Record} {t : Bool} → r ≡ x → t ≡ all_by c x → t ≡ all_by c r
all_arm c = arm (all_by c)
