-- `OwnParts` of specs/Own.antt.
use mathlib.Core.Path.{◌≡◌, refl, sym, ap, ap₂, ◌∙◌, subst}
use mathlib.Core.List.{List, [], ◌∷◌, ◌++◌}
use mathlib.Core.Bool.{Bool, true, false, ◌&&◌}
use Prim.Native.Nat.{ℕ}
use lib.ListN.{get_or}
use lib.Ieee.{Float}
use Rattle.roundtrip.specs.Fits.{Bytes}
use Rattle.words.specs.Word.{quad_at, quad_bytes, word_at, word_bytes}
use Rattle.words.proofs.Laws.{quad_read}
use Rattle.records.specs.declared.Record.{Record}
use Rattle.rules.specs.LookUp.{module_state}
use Rattle.modules.specs.Own.{with_cells, with_procedure, with_outputs}
use Rattle.modules.specs.Procedure.{idle}
use Rattle.modules.specs.Fits.{queue_fits, procedure_fits, own_fits, own_empty}
use Rattle.modules.specs.declared.Own.{Own}
use Rattle.modules.specs.declared.Procedure.{Procedure}
use Rattle.fields.specs.Fields.{bytes_from, half_bytes, half_at, flag_byte, flag_of, is_flag, float_bytes, is_float}
use Rattle.fields.proofs.Back.{and_left, and_right, from_all, flag_written, half_written, quad_written, float_written, flag_read, flag_is, half_read, float_read, float_is}
use Rattle.own_bytes.specs.Own.{procedure_bytes, own_bytes, procedure_of, own_of, is_own, unfit_own, OwnEncodable, OwnRead, OwnWritten, OwnParts}
use Rattle.own_bytes.proofs.Writing.{length_own}

-- ---- an own part written as it was read

module _ (b : List ℕ) (g : Bytes b) where
  procedure_written : is_own b ≡ true → procedure_bytes (procedure_of b) ≡ bytes_from b 10 21
  unfolding is_own procedure_bytes procedure_of bytes_from
  procedure_written h =
      let F : Bool = is_flag (get_or b 10 0) in
      let A : Bool = is_float b 15 in
      let B : Bool = is_float b 23 in
      let flag : F ≡ true = and_left F A (and_left (F && A) B h) in
      let target : A ≡ true = and_right F A (and_left (F && A) B h) in
      let total : B ≡ true = and_right (F && A) B h in
      ap₂ (λ (x : ℕ) (r : List ℕ). x ∷ get_or b 11 0 ∷ get_or b 12 0 ∷ r) (flag_written (get_or b 10 0) flag)
      (ap₂ (λ (x y : List ℕ). x ++ y)
      (ap₂ (λ (x y : List ℕ). x ++ y) (half_written b g 13) (float_written b g 15 target))
      (float_written b g 23 total))

  own_written : is_own b ≡ true → OwnWritten b
  unfolding own_bytes own_of bytes_from
  own_written h =
      ap₂ (λ (x y : List ℕ). get_or b 0 0 ∷ get_or b 1 0 ∷ (bytes_from b 2 8 ++ x ++ y)) (procedure_written h) (quad_written b g 31)

-- ---- an own part read as it was written, its queue given cell by cell

module _ (own : Own) (x : OwnEncodable own) (rest : List ℕ) where
  abbrev bytes_with : List ℕ → List ℕ
  bytes_with q = own.state ∷ own.length ∷ (q ++ procedure_bytes own.procedure ++ quad_bytes own.outputs) ++ rest

  abbrev own_with : List ℕ → Own
  own_with q = with_cells own q own.length

  read_cells : (a b c d e f g h : ℕ) → is_own (bytes_with (a ∷ b ∷ c ∷ d ∷ e ∷ f ∷ g ∷ h ∷ [])) ≡ true
  unfolding is_own procedure_bytes word_at word_bytes half_bytes
  read_cells a b c d e f g h =
      ap₂ (λ (y z : Bool). y && z) (ap₂ (λ (y z : Bool). y && z) (flag_is own.procedure.running) (float_is own.procedure.water.target x.target (float_bytes own.procedure.water.total)))
      (float_is own.procedure.water.total x.total [])

  back_cells : (a b c d e f g h : ℕ) → own_of (bytes_with (a ∷ b ∷ c ∷ d ∷ e ∷ f ∷ g ∷ h ∷ [])) ≡ own_with (a ∷ b ∷ c ∷ d ∷ e ∷ f ∷ g ∷ h ∷ [])
  unfolding own_of procedure_of bytes_from procedure_bytes word_at word_bytes half_at half_bytes quad_at quad_bytes
  back_cells a b c d e f g h =
      let p : Procedure = own.procedure in
      ap₂ (λ (p : Procedure) (o : ℕ). with_outputs (with_procedure (own_with (a ∷ b ∷ c ∷ d ∷ e ∷ f ∷ g ∷ h ∷ [])) p) o)
      (ap₂ (λ (t u : Float). record { running = flag_of (flag_byte p.running); event = p.event; index = p.index; count = half_at (half_bytes p.count ++ []) 0; water = record { target = t; total = u } })
      (float_read p.water.target x.target []) (float_read p.water.total x.total [])
      ∙ ap₂ (λ (r : Bool) (k : ℕ). record { running = r; event = p.event; index = p.index; count = k; water = p.water }) (flag_read p.running) (half_read p.count [] x.count))
      (quad_read own.outputs [] x.outputs)

own_read : (own : Own) (rest : List ℕ) → OwnEncodable own → OwnRead own rest
unfolding own_bytes bytes_from
own_read own rest x =
    let q : bytes_from own.queue 0 8 ≡ own.queue = ap (bytes_from own.queue 0) (sym x.cells) ∙ from_all own.queue in
    let at : ℕ → ℕ = λ i. get_or own.queue i 0 in
    record {
      stands = subst (λ (l : List ℕ). is_own (bytes_with own x rest l) ≡ true) q (read_cells own x rest (at 0) (at 1) (at 2) (at 3) (at 4) (at 5) (at 6) (at 7));
      back = subst (λ (l : List ℕ). own_of (bytes_with own x rest l) ≡ own_with own x rest l) q (back_cells own x rest (at 0) (at 1) (at 2) (at 3) (at 4) (at 5) (at 6) (at 7));
    }

-- ---- an own part that fits no plan

and_false : (a b : Bool) → (a && false && b) ≡ false
and_false true b = refl
and_false false b = refl

own_unfit : (rs : List Record) (m : ℕ) → own_fits rs m unfit_own ≡ false
unfolding own_fits queue_fits
own_unfit rs m = and_false (module_state rs m 0) (procedure_fits rs m idle)

pub own_parts : OwnParts
own_parts =
    record {
      read = own_read;
      written = λ b g h. own_written b g h;
      unfit = own_unfit;
      unfit_empty = unfold own_empty in refl;
      size = length_own;
    }
