-- A record of a faultless list and the records before it, and the steps of an event.
use Prim.Native.Nat.{ℕ, suc, ◌<◌}
use native.Mathlib.Nat.{eq-or-lt_of_le, le_of_suc-le-suc}
use native.Mathlib.Omega.{arith}
use mathlib.Core.Path.{◌≡◌, refl, sym, ap, ◌∙◌}
use mathlib.Core.Logic.{◌⊎◌, inl, inr, ⊎_elim}
use mathlib.Core.List.Memᴰ
use mathlib.Core.List.{List, [], ◌∷◌}
use mathlib.Core.Bool.{Bool, true, false, cond, ◌&&◌}
use lib.Dec.{T, eqb, eqb→eq}
use denote.Floats.{passes as holds}
use Rattle.records.specs.Key.{key_of}
use Rattle.records.specs.declared.Record.{Record}
use Rattle.records.specs.declared.Record.TheVariants.{Step}
use Rattle.rules.specs.LookUp.{field2, field3, word_field, steps_of}
use Rattle.rules.specs.Rules.{in_order}
use Rattle.rules.specs.Check.{fault_of}
use Rattle.rules.specs.Valid.{Valid, Passes}
use Rattle.rules.proofs.Valid.{both, passes, index_is}
use Rattle.accepted.specs.Plan.{◌∈◌, TheStep}
use Rattle.accepted.proofs.Shape.{shape}

pub record At (rs : List Record) (r : Record) : Type 0 where
  pub before : List Record
  pub valid : Valid before
  pub passed : Passes before r
  pub within : (t : Record) → t ∈ before → t ∈ rs

pub at : (rs : List Record) → Valid rs → (r : Record) → r ∈ rs → At rs r
unfolding Valid
at [] v r m = absurd (Memᴰ.not-nil m)
at (x ∷ rs) v r m = go (Memᴰ.cases_cons m) (at rs v.1 r)
  where
    go : (r ≡ x) ⊎ (r ∈ rs) → (r ∈ rs → At rs r) → At (x ∷ rs) r
    go (inl e) f = record { before = rs; valid = v.1; passed = passes rs r (ap (fault_of rs) e ∙ v.0); within = λ t n. Memᴰ.tail n }
    go (inr n) f =
        let k = f n in
        record { before = k.before; valid = k.valid; passed = k.passed; within = λ t l. Memᴰ.tail (k.within t l) }

-- ---- the steps of an event

pub steps_listed : (rs : List Record) → Valid rs → (e j : ℕ) → j < steps_of rs e → TheStep rs e j
unfolding Valid steps_of
steps_listed [] v e j h = absurd (omega arith)
steps_listed (r ∷ rs) v e j h = go (eqb (key_of r).kind 0x17 && eqb (key_of r).first e) refl h (steps_listed rs v.1 e j)
  where
    later : TheStep rs e j → TheStep (r ∷ rs) e j
    later s = record { operation = s.operation; operand = s.operand; listed = Memᴰ.tail s.listed }

    go : (b : Bool) → (eqb (key_of r).kind 0x17 && eqb (key_of r).first e) ≡ b → j < cond b (suc (steps_of rs e)) (steps_of rs e)
        → (j < steps_of rs e → TheStep rs e j) → TheStep (r ∷ rs) e j
    go false q h f = later (f h)
    go true q h f = ⊎_elim here (λ l. later (f l)) (eq-or-lt_of_le (le_of_suc-le-suc h))
      where
        is : r ≡ Step e (field2 r) (field3 r) (word_field r)
        is =
            let t : T (eqb (key_of r).kind 0x17 && eqb (key_of r).first e) = holds _ q in
            shape 0x17 e r (eqb→eq (key_of r).kind 0x17 (search both)) (eqb→eq (key_of r).first e (search both))

        index : field2 r ≡ steps_of rs e
        index = index_is rs e (field2 r) (field3 r) (word_field r) (ap (in_order rs) (sym is) ∙ (passes rs r v.0).order)

        here : j ≡ steps_of rs e → TheStep (r ∷ rs) e j
        here k =
            record {
              operation = field3 r;
              operand = word_field r;
              listed = Memᴰ.head (ap (λ (i : ℕ). Step e i (field3 r) (word_field r)) (k ∙ sym index) ∙ sym is);
            }
