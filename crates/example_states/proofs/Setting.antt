-- Laws of a field that a line sets: by the letters of its name.
use mathlib.Core.Path.{◌≡◌, sym, ap, ◌∙◌}
use mathlib.Core.List.{List}
use Prim.Native.Nat.{ℕ, ◌+◌, ◌%◌, ◌^◌, ◌≤◌}
use native.Mathlib.Omega.{arith}
use lib.ListN.{length}
use lib.Seq.{set_out}
use lib.Dec.{eqb}
use lib.Ieee.{Float, nan, binary64, of_bits}
use borrow.Author.Tests.{ne_eqb}
use Rattle.example_lines.specs.Words.{letter_in, number_in, bits_in}
use Rattle.water.specs.declared.Flow.TheVariants.{Litres, NoSensor}
use Rattle.water.specs.declared.Water.{Water}
use Rattle.modules.specs.declared.Procedure.{Procedure}
use Rattle.modules.specs.declared.Own.{Own}
use Rattle.modules.specs.Own.{with_state, with_cells, with_procedure, with_outputs}
use Rattle.example_states.specs.Setting.{float_in, flow_in, with_water, with_procedure_field, with_queued, with_field}

module _ (k : ℕ) (s : List ℕ) where
  module _ {l : ℕ} (p : l ≡ letter_in k 0 s) where
    pub float_nan : l ≡ 110 → nan ≡ float_in k s
    unfolding float_in
    float_nan q = rw (← p, q)

    pub float_bits : {b : ℕ} {r : Float} → (l ≡ 110 → ⊥) → b ≡ bits_in k s → r ≡ of_bits binary64 b → r ≡ float_in k s
    unfolding float_in
    float_bits n e f = simp (← p, ne_eqb l 110 n) (f ∙ ap (of_bits binary64) e)

  module _ {l : ℕ} (p : l ≡ letter_in k 1 s) where
    pub flow_none : l ≡ 111 → NoSensor ≡ flow_in k s
    unfolding flow_in
    flow_none q = rw (← p, q)

    pub flow_litres : {x : Float} → (l ≡ 111 → ⊥) → x ≡ float_in k s → Litres x ≡ flow_in k s
    unfolding flow_in
    flow_litres n e = simp (← p, ne_eqb l 111 n) (ap Litres e)

    pub water_target : (w : Water) {x : Float} → l ≡ 97 → x ≡ float_in (k + 1) s → record { target = x; total = w.total } ≡ with_water k s w
    unfolding with_water
    water_target w q e = rw (← p, q, e)

    pub water_total : (w : Water) {x : Float} → (l ≡ 97 → ⊥) → x ≡ float_in (k + 1) s → record { target = w.target; total = x } ≡ with_water k s w
    unfolding with_water
    water_total w n e = simp (← p, ne_eqb l 97 n) (rw e)

  pub queued_out : (queue : List ℕ) {n : ℕ} → length queue ≡ 8 → n ≡ number_in (k + 1) s → 8 ≤ n → queue ≡ with_queued k s queue
  queued_out queue h e l = sym (set_out queue (number_in (k + 1) s) (number_in (k + 2) s % 256) (omega arith))

  module _ (p : Procedure) {l : ℕ} (e : l ≡ letter_in k 0 s) where
    pub procedure_running : {n : ℕ} → l ≡ 114 → n ≡ number_in (k + 1) s
        → record { running = eqb n 1; event = p.event; index = p.index; count = p.count; water = p.water } ≡ with_procedure_field k s p
    unfolding with_procedure_field
    procedure_running q f = rw (← e, q, f)

    pub procedure_event : {b : ℕ} → l ≡ 101 → b ≡ number_in (k + 1) s % 256
        → record { running = p.running; event = b; index = p.index; count = p.count; water = p.water } ≡ with_procedure_field k s p
    unfolding with_procedure_field
    procedure_event q f = rw (← e, q, f)

    pub procedure_index : {b : ℕ} → l ≡ 105 → b ≡ number_in (k + 1) s % 256
        → record { running = p.running; event = p.event; index = b; count = p.count; water = p.water } ≡ with_procedure_field k s p
    unfolding with_procedure_field
    procedure_index q f = rw (← e, q, f)

    pub procedure_count : {n : ℕ} → l ≡ 99 → n ≡ number_in (k + 1) s
        → record { running = p.running; event = p.event; index = p.index; count = n % 65536; water = p.water } ≡ with_procedure_field k s p
    unfolding with_procedure_field
    procedure_count q f = rw (← e, q, f)

    pub procedure_water : {w : Water} → l ≡ 116 → w ≡ with_water k s p.water
        → record { running = p.running; event = p.event; index = p.index; count = p.count; water = w } ≡ with_procedure_field k s p
    unfolding with_procedure_field
    procedure_water q f = rw (← e, q, f)

    pub procedure_other : (l ≡ 114 → ⊥) → (l ≡ 101 → ⊥) → (l ≡ 105 → ⊥) → (l ≡ 99 → ⊥) → (l ≡ 116 → ⊥) → p ≡ with_procedure_field k s p
    unfolding with_procedure_field
    procedure_other r n i c t = simp (← e, ne_eqb l 114 r, ne_eqb l 101 n, ne_eqb l 105 i, ne_eqb l 99 c, ne_eqb l 116 t)

  module _ (own : Own) {l : ℕ} (e : l ≡ letter_in k 0 s) where
    pub field_state : {b : ℕ} → l ≡ 115 → b ≡ number_in (k + 1) s % 256
        → with_state own b ≡ with_field k s own
    unfolding with_field with_procedure_field
    field_state q f = rw (← e, q, f)

    pub field_length : {b : ℕ} → l ≡ 108 → b ≡ number_in (k + 1) s % 256
        → with_cells own own.queue b ≡ with_field k s own
    unfolding with_field with_procedure_field
    field_length q f = rw (← e, q, f)

    pub field_queue : {b : List ℕ} → l ≡ 112 → b ≡ with_queued k s own.queue
        → with_cells own b own.length ≡ with_field k s own
    unfolding with_field with_procedure_field
    field_queue q f = rw (← e, q, f)

    pub field_outputs : {n : ℕ} → l ≡ 111 → n ≡ bits_in (k + 1) s
        → with_outputs own (n % 2 ^ 32) ≡ with_field k s own
    unfolding with_field with_procedure_field
    field_outputs q f = rw (← e, q, f)

    pub field_procedure : {p : Procedure} → (l ≡ 115 → ⊥) → (l ≡ 108 → ⊥) → (l ≡ 112 → ⊥) → (l ≡ 111 → ⊥)
        → p ≡ with_procedure_field k s own.procedure
        → with_procedure own p ≡ with_field k s own
    unfolding with_field
    field_procedure a b c d f = simp (← e, ne_eqb l 115 a, ne_eqb l 108 b, ne_eqb l 112 c, ne_eqb l 111 d) (rw f)
