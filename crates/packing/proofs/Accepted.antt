-- Whether a call is accepted, by the case of its answer, and what is then lent; and a flow reading by its sensor.
use Rattle.std.specs.Prelude.{Result, Ok, Err}
use Rattle.refusal.specs.Refusal.{refused_number}
use Rattle.refusal.specs.declared.Refusal.{Refusal}
use Prim.Native.Nat.{ℕ}
use mathlib.Core.Path.{◌≡◌, sym, ap, ◌∙◌}
use mathlib.Core.List.{List}
use mathlib.Core.Bool.{Bool, true, false, cond}
use lib.Dec.{eqb}
use lib.Ieee.{Float}
use borrow.Author.Tests.{eq-eqb, ne_eqb}
use Rattle.water.specs.declared.Flow.TheVariants.{Litres, NoSensor}
use Rattle.packing.specs.Answer.{lent_after}
use Rattle.packing.specs.Flow.{flow_of}

-- the lent bytes after a call of number n, from what the code is told

pub after_yes : (n : ℕ) (a b : List ℕ) {t : Bool} → t ≡ eqb n 0 → t ≡ true → a ≡ lent_after n a b
unfolding lent_after
after_yes n a b e h = sym (ap (λ (y : Bool). cond y a b) (sym e ∙ h))

pub after_no : (n : ℕ) (a b : List ℕ) {t : Bool} → t ≡ eqb n 0 → t ≡ false → b ≡ lent_after n a b
unfolding lent_after
after_no n a b e h = sym (ap (λ (y : Bool). cond y a b) (sym e ∙ h))

module _ {X : Type 0} (c : Result X Refusal) where
  pub accepted_by : {x : X} → c ≡ Ok x → true ≡ eqb (refused_number c) 0
  accepted_by e = sym (ap (λ (x : Result X Refusal). eqb (refused_number x) 0) e)

  pub refused_by : {e : Refusal} → c ≡ Err e → eqb e.number 0 ≡ eqb (refused_number c) 0
  refused_by e = sym (ap (λ (x : Result X Refusal). eqb (refused_number x) 0) e)

-- ---- a flow reading

module _ (sensor : ℕ) (litres : Float) where
  pub flow_none : sensor ≡ 0 → NoSensor ≡ flow_of sensor litres
  unfolding flow_of
  flow_none h = simp (eq-eqb sensor 0 h)

  pub flow_some : (sensor ≡ 0 → ⊥) → Litres litres ≡ flow_of sensor litres
  unfolding flow_of
  flow_some h = simp (ne_eqb sensor 0 h)
