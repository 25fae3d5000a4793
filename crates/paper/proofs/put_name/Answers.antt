use mathlib.Core.Path.{refl}
use Rattle.texts.specs.Ascii.{ascii}
use Rattle.paper.specs.Paper.{left, name_of}
use Rattle.paper.proofs.Put.{name_by, no_name, no_name_by}
use borrow.Author.Rules.{rules}
use Rattle.paper.proofs.put_name.Goals as goal

pub returns-in-16 : goal.returns-in-16
unfolding left name_of ascii
returns-in-16 c = name_by _ 0x10 _ _ (search rules) c.in-16.is refl (search rules)

pub returns-in-17 : goal.returns-in-17
unfolding left name_of ascii
returns-in-17 c = name_by _ 0x11 _ _ (search rules) c.in-17.is refl (search rules)

pub returns-in-18 : goal.returns-in-18
unfolding left name_of ascii
returns-in-18 c = name_by _ 0x12 _ _ (search rules) c.in-18.is refl (search rules)

pub returns-in-19 : goal.returns-in-19
unfolding left name_of ascii
returns-in-19 c = name_by _ 0x13 _ _ (search rules) c.in-19.is refl (search rules)

pub returns-in-20 : goal.returns-in-20
unfolding left name_of ascii
returns-in-20 c = name_by _ 0x14 _ _ (search rules) c.in-20.is refl (search rules)

pub returns-in-21 : goal.returns-in-21
unfolding left name_of ascii
returns-in-21 c = name_by _ 0x15 _ _ (search rules) c.in-21.is refl (search rules)

pub returns-in-22 : goal.returns-in-22
unfolding left name_of ascii
returns-in-22 c = name_by _ 0x16 _ _ (search rules) c.in-22.is refl (search rules)

pub returns-in-23 : goal.returns-in-23
unfolding left name_of ascii
returns-in-23 c = name_by _ 0x17 _ _ (search rules) c.in-23.is refl (search rules)

pub returns-in-24 : goal.returns-in-24
unfolding left name_of ascii
returns-in-24 c = name_by _ 0x18 _ _ (search rules) c.in-24.is refl (search rules)

pub returns-in-31 : goal.returns-in-31
unfolding left name_of ascii
returns-in-31 c = name_by _ 0x1f _ _ (search rules) c.in-31.is refl (search rules)

pub returns-in_default : goal.returns-in_default
returns-in_default c = no_name_by _ _ _ (search rules) (search no_name) (search rules)
