-- A record's kind tells its constructor.
use Prim.Native.Nat.{ℕ}
use mathlib.Core.Path.{◌≡◌, refl, sym, ap₂, ◌∙◌}
use mathlib.Core.Bool.{cond}
use lib.Dec.{eqb}
use Rattle.records.specs.Kinds.{kind_of}
use Rattle.records.specs.Key.{key_of}
use Rattle.records.specs.declared.Record.{Record}
use Rattle.records.specs.declared.Record.TheVariants.{Head, Event, Module, ModuleMove, Supervisor, SupervisorMove, Disabling, Step, Marking, End}
use Rattle.records.proofs.Order.{key_kind}
use Rattle.rules.specs.LookUp.{field1, field2, field3, word_field}

-- the record of kind k, of number n where it has one, with the other fields of r; r itself for the kinds that are keyed by more
abbrev pub remade : ℕ → ℕ → Record → Record
remade k n r =
    cond (eqb k 0x10) (Head (field1 r) (field2 r) (field3 r))
    (cond (eqb k 0x11) (Event n (field2 r) (field3 r))
    (cond (eqb k 0x12) (Module n (field2 r) (field3 r))
    (cond (eqb k 0x14) (Supervisor n (field2 r) (field3 r) (word_field r))
    (cond (eqb k 0x17) (Step n (field2 r) (field3 r) (word_field r))
    (cond (eqb k 0x1f) End r)))))

remade_is : (r : Record) → remade (key_of r).kind (key_of r).first r ≡ r
unfolding key_of field1 field2 field3 word_field
remade_is (Head m v e) = refl
remade_is (Event n o c) = refl
remade_is (Module n st i) = refl
remade_is (ModuleMove m f e t) = refl
remade_is (Supervisor n st i a) = refl
remade_is (SupervisorMove v f e t) = refl
remade_is (Disabling v st m) = refl
remade_is (Step e i o x) = refl
remade_is (Marking m st) = refl
remade_is End = refl

pub shape : (k n : ℕ) (r : Record) → (key_of r).kind ≡ k → (key_of r).first ≡ n → r ≡ remade k n r
shape k n r e f = sym (remade_is r) ∙ ap₂ (λ (x y : ℕ). remade x y r) e f

-- the same by `kind_of`; a head and an end have no number, so that they are known by their kind alone
pub lone : (k : ℕ) (r : Record) → kind_of r ≡ k → r ≡ remade k (key_of r).first r
lone k r e = shape k (key_of r).first r (key_kind r ∙ e) refl
