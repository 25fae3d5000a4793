-- An own part that fits the plan can be encoded, if its queue has eight cells, its water is of f64 numbers and its outputs have 32 bits; and
-- a turn, a response and a tick keep these.
use mathlib.Core.Path.{◌≡◌, refl, sym, subst}
use mathlib.Core.List.{List, [], ◌∷◌}
use mathlib.Core.Bool.{Bool, true, false, cond, ◌&&◌}
use Prim.Native.Nat.{ℕ, suc, ◌-◌, ◌^◌, ◌≤◌, ◌<◌}
use native.Mathlib.Omega.{arith}
use native.Mathlib.Nat.{lt_of_le_of_lt}
use lib.Bits.{or_lt, and_le_l}
use lib.Pow.{pow-lt, pow_pos}
use lib.ListN.{length, replicate}
use lib.Dec.{T, eqb, ltb, eqb→eq, ltb→lt, lit<}
use lib.Ieee.{Float, nan, inf, fin, binary64, fits, is_nan}
use lib.Ieee.Bits.{of_bits-fits}
use lib.Ieee.Fits.{and_l, and_r}
use borrow.Author.Tests.{eqb-true}
use denote.Floats.{passes as holds}
use Rattle.litres.specs.Eighths.{eighths, is_eighths, target_ok}
use Rattle.litres.proofs.Laws.{eighths_fits, eighths_is_eighths}
use Rattle.records.specs.declared.Record.{Record}
use Rattle.reader.specs.Find.{found}
use Rattle.rules.specs.LookUp.{modules_of, events_of}
use Rattle.rules.proofs.Valid.{both}
use Rattle.plan.specs.Plan.{own_uncontrollable, procedure_step, operation_of, operand_of}
use Rattle.accepted.specs.Plan.{Sound}
use Rattle.roundtrip.specs.Fits.{Byte, Bytes}
use Rattle.water.specs.Water.{flow_ok, no_water, water_of, added, reached, running}
use Rattle.water.specs.declared.Water.{Water}
use Rattle.water.specs.declared.Flow.{Flow}
use Rattle.water.specs.declared.Flow.TheVariants.{Litres, NoSensor}
use Rattle.modules.specs.Queue.{queue_of, full}
use Rattle.modules.specs.Own.{with_outputs}
use Rattle.modules.specs.Procedure.{arrive_at, advanced, output_on, output_off, performed, tick_of, respond_of}
use Rattle.modules.specs.Turn.{turn_of, start_own, empty_own}
use Rattle.modules.specs.Fits.{every, idle_fits, step_fits, procedure_fits, own_fits}
use Rattle.modules.specs.declared.Own.{Own}
use Rattle.modules.specs.declared.Procedure.{Procedure}
use Rattle.modules.specs.declared.Replied.{Replied}
use Rattle.modules.proofs.Steps.{step_counts, on_small}
use Rattle.turn_laws.proofs.Procedure.{parts, at_step}
use Rattle.turn_laws.proofs.Queue.{responses, queue_cells}
use Rattle.turn_laws.proofs.Own.{sizes, start_fits}
use Rattle.turn_laws.proofs.Turn.{turn_cases, turn_cells, turn_fits}
use Rattle.turn_laws.proofs.Respond.{respond_cells, respond_fits}
use Rattle.turn_laws.proofs.Tick.{tick_cells, tick_fits}
use Rattle.fields.specs.Fields.{Number}
use Rattle.own_bytes.specs.Own.{OwnEncodable}
use Rattle.own_bytes.proofs.Reading.{fits_whole}
use Rattle.interface_laws.proofs.ByteLists.{bytes_none, bytes_more, bytes_joined, bytes_zeros}

-- what holds of both sides of a choice holds of the choice
pub choose : {A : Type 0} (P : A → Type 0) (b : Bool) (x y : A) → (b ≡ true → P x) → (b ≡ false → P y) → P (cond b x y)
choose P true x y t f = t refl
choose P false x y t f = f refl

-- ---- water

-- target and total are of f64
pub record InF64 (w : Water) : Type 0 where
  pub target : T (fits binary64 w.target)
  pub total : T (fits binary64 w.total)

none_f64 : InF64 no_water
none_f64 = record { target = eighths_fits 0; total = eighths_fits 0 }

start_f64 : (bits : ℕ) → InF64 (water_of bits)
unfolding water_of
start_f64 bits = choose InF64 (target_ok bits) _ _ (λ e. record { target = of_bits-fits binary64 bits; total = eighths_fits 0 }) (λ e. none_f64)

added_f64 : (w : Water) (f : Flow) → InF64 w → InF64 (added w f)
unfolding added
added_f64 w (Litres x) h = record { target = h.target; total = eighths_fits _ }
added_f64 w NoSensor h = h

eighths_number : (x : Float) → T (fits binary64 x) → T (is_eighths x) → Number x
unfolding is_eighths is_nan
eighths_number nan f t = absurd t
eighths_number (inf s) f t = absurd t
eighths_number (fin s m e) f t = record { fit = f; number = refl }

-- ---- what the fit does not say of an own part

pub record Rest (own : Own) : Type 0 where
  pub outputs : own.outputs < 2 ^ 32
  pub water : InF64 own.procedure.water

module _ (rs : List Record) where
  arrive_f64 : (e i : ℕ) → InF64 (arrive_at rs e i).water
  unfolding arrive_at
  arrive_f64 e i =
      choose (λ (p : Procedure). InF64 p.water) (found (procedure_step rs e i)) _ _
      (λ h. choose InF64 (eqb (operation_of rs e i) 4) _ _ (λ q. start_f64 (operand_of rs e i)) (λ q. none_f64)) (λ h. none_f64)

  turn_rest : (m k : ℕ) (own : Own) → Rest own → Rest (turn_of rs m k own).own
  turn_rest m k own r =
      turn_cases rs m own k (λ t. Rest t.own) (λ i st l g. record { outputs = r.outputs; water = r.water })
      (λ e st h i l g. record { outputs = r.outputs; water = arrive_f64 e 0 }) r

  respond_rest : (m e : ℕ) (own : Own) → Rest own → Rest (respond_of rs m e own).own
  unfolding respond_of
  respond_rest m e own r =
      choose (λ (a : Replied). Rest a.own) (own_uncontrollable rs m e) _ _
      (λ u. choose (λ (a : Replied). Rest a.own) (full own) _ _ (λ q. r) (λ q. record { outputs = r.outputs; water = r.water })) (λ u. r)

  module _ (f : Flow) (own : Own) (r : Rest own) where
    abbrev e : ℕ
    e = own.procedure.event

    abbrev i : ℕ
    i = own.procedure.index

    abbrev o : ℕ
    o = operation_of rs e i

    abbrev x : ℕ
    x = operand_of rs e i

    next : (y : ℕ) → y < 2 ^ 32 → Rest (advanced rs (with_outputs own y))
    next y h = record { outputs = h; water = arrive_f64 e (suc i) }

    goes_on : Rest (advanced rs own)
    goes_on = record { outputs = r.outputs; water = arrive_f64 e (suc i) }

    performed_rest : found (procedure_step rs e i) ≡ true → Rest (performed rs o x f own)
    unfolding performed
    performed_rest h =
        choose Rest (eqb o 1) _ _ (λ q. next (output_on own.outputs x) (or_lt 32 own.outputs (2 ^ x) r.outputs (pow-lt (on_small e i o x (step_counts rs e i h) (eqb-true o 1 q))))) (λ a.
        choose Rest (eqb o 2) _ _ (λ q. next (output_off own.outputs x) (lt_of_le_of_lt (and_le_l own.outputs (2 ^ 32 - 1 - 2 ^ x)) r.outputs)) (λ b.
        choose Rest (eqb o 3) _ _ (λ q. choose Rest (ltb (suc own.procedure.count) x) _ _ (λ l. record { outputs = r.outputs; water = r.water }) (λ l. goes_on)) (λ c.
        choose Rest (eqb o 4) _ _ (λ q. choose Rest (running x own.procedure.water) _ _
        (λ l. choose Rest (reached (added own.procedure.water f)) _ _ (λ t. goes_on) (λ t. record { outputs = r.outputs; water = added_f64 own.procedure.water f r.water })) (λ l. r)) (λ d.
        choose Rest (full own) _ _ (λ q. r) (λ q. record { outputs = r.outputs; water = arrive_f64 e (suc i) })))))

    tick_rest : Rest (tick_of rs f own).own
    unfolding tick_of
    tick_rest =
        choose (λ (a : Replied). Rest a.own) (flow_ok f) _ _
        (λ k. choose Rest (own.procedure.running && found (procedure_step rs e i)) _ _ (λ h. performed_rest (there own.procedure.running _ h)) (λ h. r)) (λ k. r)
      where
        there : (a b : Bool) → (a && b) ≡ true → b ≡ true
        there true b h = h
        there false b h = absurd (holds false h)

-- ---- an own part that fits

record Small (p : Procedure) : Type 0 where
  event : Byte p.event
  index : Byte p.index
  count : p.count < 2 ^ 16

module _ (rs : List Record) (plan : Sound rs) (m : ℕ) where
  own_event_lem : (e : ℕ) → T (own_uncontrollable rs m e) → Byte e
  own_event_lem e t = let l : e < events_of rs = ltb→lt e (events_of rs) (search both) in omega (arith, plan.events.1)

  events : (q : List ℕ) → T (every (own_uncontrollable rs m) q) → Bytes q
  unfolding every
  events [] t = bytes_none
  events (e ∷ q) t = bytes_more e q (own_event_lem e (and_l (own_uncontrollable rs m e) _ t)) (events q (and_r (own_uncontrollable rs m e) _ t))

  module _ (p : Procedure) (t : T (procedure_fits rs m p)) where
    is_idle : p.running ≡ false → T (idle_fits p)
    unfolding procedure_fits
    is_idle r = subst (λ (b : Bool). T (cond b (step_fits rs m p) (idle_fits p))) r t

    small : Small p
    unfolding idle_fits
    small = go p.running refl
      where
        go : (b : Bool) → p.running ≡ b → Small p
        go true r =
            let a = at_step rs plan m p r t in
            record { event = omega (arith, a.step.event, plan.events.1); index = omega (arith, a.step.index); count = omega (arith, a.ticks) }
        go false r =
            let z : T (idle_fits p) = is_idle r in
            let e : p.event ≡ 0 = eqb→eq p.event 0 (search both) in
            let i : p.index ≡ 0 = eqb→eq p.index 0 (search both) in
            let c : p.count ≡ 0 = eqb→eq p.count 0 (search both) in
            record { event = omega arith; index = omega arith; count = omega arith }

  pub encodable : (own : Own) → length own.queue ≡ 8 → Rest own → T (own_fits rs m own) → OwnEncodable own
  encodable own n r t =
      let a = parts rs m own t in
      let s = small own.procedure a.procedure in
      let w = fits_whole own.procedure rs m a.procedure in
      record {
        state = omega (arith, (sizes rs plan m own t).state);
        queued = omega (arith, (sizes rs plan m own t).responses);
        cells = n;
        queue = subst Bytes (sym (queue_cells rs m own a.queue n)) (bytes_joined (queue_of own) (replicate (8 - length (queue_of own)) 0) (events (queue_of own) (responses rs m own a.queue)) (bytes_zeros (8 - length (queue_of own))));
        event = s.event;
        index = s.index;
        count = s.count;
        target = eighths_number own.procedure.water.target r.water.target w.0;
        total = eighths_number own.procedure.water.total r.water.total w.1;
        outputs = r.outputs;
      }

  module _ (own : Own) (h : OwnEncodable own) (t : T (own_fits rs m own)) where
    rest : Rest own
    rest = record { outputs = h.outputs; water = record { target = h.target.fit; total = h.total.fit } }

    few : own.length ≤ 8
    few = (sizes rs plan m own t).responses

    pub turn_encodable : (k : ℕ) → OwnEncodable (turn_of rs m k own).own
    turn_encodable k = encodable (turn_of rs m k own).own (turn_cells rs m own k h.cells) (turn_rest rs m k own rest) (turn_fits rs m own plan k t)

    pub respond_encodable : (e : ℕ) → OwnEncodable (respond_of rs m e own).own
    respond_encodable e = encodable (respond_of rs m e own).own (respond_cells rs m e own few h.cells) (respond_rest rs m e own rest) (respond_fits rs m e own t)

    pub tick_encodable : (f : Flow) → OwnEncodable (tick_of rs f own).own
    tick_encodable f = encodable (tick_of rs f own).own (tick_cells rs own f few h.cells) (tick_rest rs f own rest) (tick_fits rs own plan m t f)

  pub start_encodable : m < modules_of rs → OwnEncodable (start_own rs m)
  start_encodable l = encodable (start_own rs m) (unfold start_own in refl) (unfold start_own in record { outputs = pow_pos 32; water = none_f64 }) (start_fits rs plan m l)

pub empty_encodable : OwnEncodable empty_own
empty_encodable =
    record {
      state = lit< tt;
      queued = lit< tt;
      cells = refl;
      queue = bytes_zeros 8;
      event = lit< tt;
      index = lit< tt;
      count = pow_pos 16;
      target = eighths_number (eighths 0) (eighths_fits 0) (eighths_is_eighths 0 (lit< tt));
      total = eighths_number (eighths 0) (eighths_fits 0) (eighths_is_eighths 0 (lit< tt));
      outputs = pow_pos 32;
    }
