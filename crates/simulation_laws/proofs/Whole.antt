-- Whole lists of lines.
use Prim.Native.Nat.{ℕ, min, ◌+◌, ◌≤◌, ◌<◌}
use native.Mathlib.Omega.{arith}
use mathlib.Core.Path.{◌≡◌, refl, sym, ap, ap₂, ◌∙◌, subst}
use mathlib.Core.Bool.{true}
use mathlib.Core.List.{List, [], ◌∷◌, ◌++◌, map, append_assoc, append-nil}
use lib.ListN.{length, get_or, length-map, length-take, length-replicate}
use Rattle.records.specs.declared.Record.{Record}
use Rattle.reader.specs.Walk.{records_of}
use Rattle.rules.specs.LookUp.{modules_of, supervisors_of}
use Rattle.rules.specs.Check.{verdict_of, IsPlan}
use Rattle.accepted.proofs.Accepted.{every_plan}
use Rattle.device.specs.Device.{start_call}
use Rattle.device_states.specs.declared.Device.{Device}
use Rattle.permits.specs.Module as M
use Rattle.permits.specs.Supervisor as S
use Rattle.wire.specs.Wire.{under}
use Rattle.wire.proofs.Lists.{lists}
use Rattle.parties.specs.declared.Parties.{Parties}
use Rattle.parties.specs.Parties as P
use Rattle.acts.specs.declared.Act.{Act as Line}
use Rattle.acts.specs.declared.Act.TheVariants.{Module as ModuleLine, Supervisor as SupervisorLine, Delivery as DeliveryLine, Response as ResponseLine, Tick as TickLine, Unfitted as UnfittedLine, Misshapen as MisshapenLine}
use Rattle.simulation.specs.Play.{played}
use Rattle.turn_laws.specs.Laws.{TurnLaws}
use Rattle.turn_laws.proofs.Laws.{turn_laws}
use Rattle.roundtrip.proofs.AllFit.{all_fit}
use Rattle.agreement.specs.System as A
use Rattle.agreement.specs.Compared as C
use Rattle.words.proofs.Lists.{from_length}
use Rattle.agreement.proofs.Whole.{run_append as device-append}
use Rattle.agreement.proofs.Demand.{demand}
use Rattle.simulation_laws.specs.Calls.{bytes_of, system_of, buffer, call_of, calls_from, calls_of, played_all, answer_seen, all_seen, Whole, Simulated}
use Rattle.simulation_laws.proofs.Party.{from_is, module_none, supervisor_none}
use Rattle.simulation_laws.proofs.Line.{AllTaken, Is, line_whole, line_system, line_device, line_seen}
use Rattle.simulation_laws.proofs.Few.{few_under_way}

-- ---- lists of calls, one after the other

run_append : (image : List ℕ) (D : A.System) (l r : List A.Act) → A.run image D (l ++ r) ≡ A.run image (A.run image D l) r
unfolding A.run
run_append image D [] r = refl
run_append image D (a ∷ l) r = run_append image (A.step image D a) l r

fed_append : (image : List ℕ) (D : A.System) (l r : List A.Act) → C.fed image D (l ++ r) ≡ C.fed image D l ++ C.fed image (A.run image D l) r
unfolding C.fed A.run
fed_append image D [] r = refl
fed_append image D (a ∷ l) r =
    ap (λ (t : List C.DeviceAct). C.act_fed (records_of image) D a ++ t) (fed_append image (A.step image D a) l r)
    ∙ sym (append_assoc (C.act_fed (records_of image) D a) (C.fed image (A.step image D a) l) (C.fed image (A.run image (A.step image D a) l) r))

seen_append : (image : List ℕ) (D : A.System) (l r : List A.Act) → C.seen image D (l ++ r) ≡ C.seen image D l ++ C.seen image (A.run image D l) r
unfolding C.seen A.run
seen_append image D [] r = refl
seen_append image D (a ∷ l) r =
    ap (λ (t : List C.Seen). C.act_seen image D a ++ t) (seen_append image (A.step image D a) l r)
    ∙ sym (append_assoc (C.act_seen image D a) (C.seen image (A.step image D a) l) (C.seen image (A.run image (A.step image D a) l) r))

lent_append : (l r : List A.Act) → A.AllLent l → A.AllLent r → A.AllLent (l ++ r)
lent_append [] r h k = k
lent_append (a ∷ l) r h k = (h.0, lent_append l r h.1 k)

lent_buffer : length buffer ≡ A.buffer_length
lent_buffer = length-replicate {A = ℕ} A.buffer_length 0

call_lent : (w : List A.Sent) (a : Line) → A.AllLent (call_of w a)
unfolding call_of
call_lent w (ModuleLine m) = (lent_buffer, tt)
call_lent w (SupervisorLine v) = (lent_buffer, tt)
call_lent w (DeliveryLine k) = (tt, tt)
call_lent w (ResponseLine m e) = (tt, tt)
call_lent w (TickLine m n) = (tt, tt)
call_lent w (UnfittedLine m) = (tt, tt)
call_lent w MisshapenLine = tt

calls_lent : (image : List ℕ) (D : A.System) (l : List Line) → A.AllLent (calls_from image D l)
unfolding calls_from
calls_lent image D [] = tt
calls_lent image D (a ∷ l) =
    lent_append (call_of D.sent a) (calls_from image (A.run image D (call_of D.sent a)) l) (call_lent D.sent a) (calls_lent image (A.run image D (call_of D.sent a)) l)

module _ (image : List ℕ) (bytes : (i : ℕ) → get_or image i 0 < 256) (plan : IsPlan image) where
  abbrev rs : List Record
  rs = records_of image

  T : TurnLaws rs
  T = turn_laws rs (every_plan image plan).sound (all_fit image bytes)

  -- ---- the start

  start_module : (m : ℕ) → P.module_at (P.start image) m ≡ (M.module_start image m).state
  start_module m = from_is (λ k. (M.module_start image k).state) 16 m M.empty_module (λ h. module_none rs (verdict_of image) plan m (let f : modules_of rs ≤ 16 = T.few_modules in omega arith))

  start_supervisor : (v : ℕ) → P.supervisor_at (P.start image) v ≡ (S.supervisor_start image v).state
  start_supervisor v = from_is (λ k. (S.supervisor_start image k).state) 32 v S.empty_supervisor (λ h. supervisor_none rs (verdict_of image) plan v (let f : supervisors_of rs ≤ 32 = T.few_supervisors in omega arith))

  start_system : Is (P.start image) (A.start image)
  unfolding A.start A.under_way
  start_system = record { states = λ i. record { module_at = λ m. start_module m i; supervisor_at = λ v. start_supervisor v i; sent = [] }; wire = refl }

  start_whole : Whole (P.start image)
  start_whole = record { modules = from_length (λ m. (M.module_start image m).state) 0 16; supervisors = from_length (λ v. (S.supervisor_start image v).state) 0 32; wire = lists.empty_sound }

  -- ---- the lines, after calls that left the parties as they are

  record From (p : Parties) (done : List A.Act) : Type 0 where
    system : Is p (A.run image (A.start image) done)
    device : p.device ≡ C.device_run image (start_call image).device (C.fed image (A.start image) done)
    whole : Whole p

  few_from : (p : Parties) (done : List A.Act) → A.AllLent done → From p done → p.wire.count ≤ 48
  few_from p done n f =
      let e : length (map bytes_of (under p.wire)) ≡ length (A.under_way (A.run image (A.start image) done).sent) = ap length f.system.wire in
      let k : length (map bytes_of (under p.wire)) ≡ min p.wire.count (length p.wire.messages) = length-map (under p.wire) bytes_of ∙ length-take p.wire.count p.wire.messages in
      omega (arith, e, k, f.whole.wire.capacity, f.whole.wire.counted, few_under_way image plan T done n)

  -- a line after them
  module _ (a : Line) (p : Parties) (done : List A.Act) (n : A.AllLent done) (f : From p done) where
    abbrev D : A.System
    D = A.run image (A.start image) done

    abbrev call : List A.Act
    call = call_of D.sent a

    room : p.wire.count + 32 ≤ 96
    room = omega (arith, few_from p done n f)

    line_from : From (played image p a).play (done ++ call)
    line_from =
        let d : Device = (start_call image).device in
        let taken : AllTaken image (system_of p D.sent) = subst (AllTaken image) (sym f.system.states) (demand image bytes plan done n).besides.taken in
        let fits : (m : ℕ) → m < modules_of rs → M.module_fits rs m (P.module_at p m) ≡ true =
        subst (λ (E : A.System). (m : ℕ) → m < modules_of rs → M.module_fits rs m (E.module_at m) ≡ true) (sym f.system.states) (demand image bytes plan done n).besides.module_fits_lem in
        record {
          system =
              subst (Is (played image p a).play) (ap (λ (E : A.System). A.run image E call) f.system.states ∙ sym (run_append image (A.start image) done call))
              (line_system image plan T p f.whole D.sent f.system.wire a room taken);
          device =
              line_device image plan T p f.whole D.sent f.system.wire a room fits
              ∙ ap₂ (λ (e : Device) (E : A.System). C.device_run image e (C.fed image E call)) f.device f.system.states
              ∙ sym (device-append image d (C.fed image (A.start image) done) (C.fed image D call))
              ∙ ap (C.device_run image d) (sym (fed_append image (A.start image) done call));
          whole = line_whole p f.whole image a;
        }

    seen_line : answer_seen rs (played image p a).play (played image p a).answer ≡ C.seen image D call
    seen_line = line_seen image plan T p f.whole D.sent f.system.wire a room ∙ ap (λ (E : A.System). C.seen image E call) f.system.states

    lent_on : A.AllLent (done ++ call)
    lent_on = lent_append done call n (call_lent D.sent a)

    after_is : A.run image (A.start image) (done ++ call) ≡ A.run image D call
    after_is = run_append image (A.start image) done call

  seen_from : (l : List Line) (p : Parties) (done : List A.Act) → A.AllLent done → From p done
      → all_seen image p l ≡ C.seen image (A.run image (A.start image) done) (calls_from image (A.run image (A.start image) done) l)
  unfolding all_seen calls_from
  seen_from [] p done n f = unfold C.seen in refl
  seen_from (a ∷ l) p done n f =
      let E : A.System = A.run image (A.start image) done in
      let now : List A.Act = call_of E.sent a in
      ap₂ (λ (s t : List C.Seen). s ++ t) (seen_line a p done n f)
      (seen_from l (played image p a).play (done ++ now) (lent_on a p done n f) (line_from a p done n f)
      ∙ ap (λ (F : A.System). C.seen image F (calls_from image F l)) (after_is a p done n f))
      ∙ sym (seen_append image E now (calls_from image (A.run image E now) l))

  lines_from : (l : List Line) (p : Parties) (done : List A.Act) → A.AllLent done → From p done
      → From (played_all image p l) (done ++ calls_from image (A.run image (A.start image) done) l)
  unfolding played_all calls_from
  lines_from [] p done n f = subst (From p) (sym (append-nil done)) f
  lines_from (a ∷ l) p done n f =
      let E : A.System = A.run image (A.start image) done in
      let now : List A.Act = call_of E.sent a in
      subst (From (played_all image (played image p a).play l))
      (ap (λ (F : A.System). (done ++ now) ++ calls_from image F l) (after_is a p done n f) ∙ append_assoc done now (calls_from image (A.run image E now) l))
      (lines_from l (played image p a).play (done ++ now) (lent_on a p done n f) (line_from a p done n f))

  start_from : From (P.start image) []
  unfolding A.run C.fed C.device_run
  start_from = record { system = start_system; device = refl; whole = start_whole }

pub simulated : Simulated
simulated image bytes plan lines =
    let calls : List A.Act = calls_of image lines in
    let n : A.AllLent calls = calls_lent image (A.start image) lines in
    let f : From image bytes plan (played_all image (P.start image) lines) calls = unfold A.run in (lines_from image bytes plan lines (P.start image) [] tt (start_from image bytes plan)) in
    record {
      lent = n;
      demand = demand image bytes plan calls n;
      system = f.system.states;
      messages = f.system.wire;
      device = f.device;
      answers = unfold A.run in (seen_from image bytes plan lines (P.start image) [] tt (start_from image bytes plan));
      whole = f.whole;
      few = few_from image bytes plan (played_all image (P.start image) lines) calls n f;
    }
