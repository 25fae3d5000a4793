-- What a record that passes over the records before it names, among all the records.
use Rattle.std.specs.Prelude.{Option}
use Prim.Native.Nat.{ℕ, ◌<◌}
use mathlib.Core.Path.{◌≡◌, sym, ap, ◌∙◌, subst}
use mathlib.Core.List.{List}
use mathlib.Core.Bool.{Bool, true, not, ◌&&◌, ◌||◌}
use lib.Dec.{T, eqb, ltb, ltb→lt, leb→le, eqb→eq}
use borrow.Author.Tests.{eq-eqb, not-true}
use Rattle.bits.specs.Bit.{bit, every_event}
use denote.Floats.{passes as holds, is_true}
use Rattle.bits.proofs.Laws.{all_at}
use Rattle.records.specs.Key.{key_by, head_key}
use Rattle.records.specs.Range.{in_range, operand_in_range}
use Rattle.records.specs.declared.Record.{Record}
use Rattle.records.specs.declared.Record.TheVariants.{Head, Event, Module, ModuleMove, Supervisor, SupervisorMove, Disabling, Step, Marking, End}
use Rattle.records.specs.declared.RecordKey.{RecordKey}
use Rattle.reader.specs.Find.{find_in, found}
use Rattle.rules.specs.LookUp.{field1, field2, field3, word_field, field_of, events_of, event_in, event_declared, supervisor_declared, owner_of, controllable, alphabet_of}
use Rattle.rules.specs.Rules.{names_declared, keeps_rules}
use Rattle.rules.specs.Valid.{Passes}
use Rattle.rules.proofs.Valid.{both}
use Rattle.accepted.specs.Plan.{EachOf, LawOf}
use Rattle.accepted.proofs.Look.{found_field}

-- a test that must hold only under another one
under : (a b : Bool) → a ≡ true → T (not a || b) → T b
under a b e t = subst (λ (x : Bool). T (not x || b)) e t

each : (m : ℕ) (p : ℕ → Bool) → T (every_event m p) → EachOf m (λ e. T (p e))
each m p t e h b = under (bit m e) (p e) b (all_at _ 64 t e h)

module _ (some all : List Record) (same : (p : RecordKey) → T (found (find_in p some)) → find_in p some ≡ find_in p all) where
  -- a number below a field is below it among all the records
  below : (f : Record → ℕ) (p : RecordKey) (x : ℕ) → T (ltb x (field_of f (find_in p some))) → x < field_of f (find_in p all)
  below f p x t =
      let h : x < field_of f (find_in p some) = ltb→lt x (field_of f (find_in p some)) t in
      subst (λ (l : Option Record). x < field_of f l) (same p (found_field f x (find_in p some) h)) h

  event_below : (e : ℕ) → T (event_declared some e) → e < events_of all
  event_below e t = below field3 head_key e (search both)

  event_same : (e : ℕ) → T (event_declared some e) → event_in some e ≡ event_in all e
  event_same e t = same (key_by 0x11 e 0 0) (search both)

  owner_same : (e : ℕ) → T (event_declared some e) → owner_of some e ≡ owner_of all e
  owner_same e t = ap (field_of field2) (event_same e t)

  class_same : (e : ℕ) → T (event_declared some e) → controllable some e ≡ controllable all e
  class_same e t = ap (λ (l : Option Record). eqb (field_of field3 l) 1) (event_same e t)

  alphabet_same : (v : ℕ) → T (supervisor_declared some v) → alphabet_of some v ≡ alphabet_of all v
  alphabet_same v t = ap (field_of word_field) (same (key_by 0x14 v 0 0) (search both))

  pub law : (r : Record) → Passes some r → LawOf all r
  unfolding names_declared keeps_rules in_range
  law (Head m v e) p = tt
  law (Event n o c) p =
      let named : T (names_declared some (Event n o c)) = holds _ p.names in
      record { number = below field3 head_key n (search both); owner = below field1 head_key o (search both) }
  law (Module n st i) p =
      let named : T (names_declared some (Module n st i)) = holds _ p.names in
      record { number = below field1 head_key n (search both); initial = ltb→lt i st (search both) }
  law (ModuleMove m f e t) p =
      let named : T (names_declared some (ModuleMove m f e t)) = holds _ p.names in
      record {
        owner = below field1 head_key m (search both);
        from = below field2 (key_by 0x12 m 0 0) f (search both);
        event = event_below e (search both);
        to = below field2 (key_by 0x12 m 0 0) t (search both);
        own_event_lem = sym (owner_same e (search both)) ∙ eqb→eq (owner_of some e) m (holds _ p.rules);
      }
  law (Supervisor n st i a) p =
      let named : T (names_declared some (Supervisor n st i a)) = holds _ p.names in
      record {
        number = below field2 head_key n (search both);
        initial = ltb→lt i st (search both);
        alphabet = λ e h b. event_below e (each a (event_declared some) (search both) e h b);
      }
  law (SupervisorMove v f e t) p =
      let named : T (names_declared some (SupervisorMove v f e t)) = holds _ p.names in
      record {
        supervisor = below field2 head_key v (search both);
        from = below field2 (key_by 0x14 v 0 0) f (search both);
        event = event_below e (search both);
        to = below field2 (key_by 0x14 v 0 0) t (search both);
        in_alphabet_lem = ap (λ (a : ℕ). bit a e) (sym (alphabet_same v (search both))) ∙ p.rules;
      }
  law (Disabling v st m) p =
      let named : T (names_declared some (Disabling v st m)) = holds _ p.names in
      record {
        supervisor = below field2 head_key v (search both);
        state = below field2 (key_by 0x14 v 0 0) st (search both);
        mask = λ e h b.
            let declared : T (event_declared some e) = each m (event_declared some) (search both) e h b in
            let allowed : T (controllable some e && bit (alphabet_of some v) e) = each m _ (holds _ p.rules) e h b in
            record {
              event = event_below e declared;
              class = sym (class_same e declared) ∙ is_true (controllable some e) (search both);
              in_alphabet_lem = ap (λ (a : ℕ). bit a e) (sym (alphabet_same v (search both))) ∙ is_true (bit (alphabet_of some v) e) (search both);
            };
      }
  law (Step e i o x) p =
      let named : T (names_declared some (Step e i o x)) = holds _ p.names in
      let allowed : T (keeps_rules some (Step e i o x)) = holds _ p.rules in
      let ranged : T (in_range (Step e i o x)) = holds _ p.range in
      record {
        event = event_below e (search both);
        class = sym (class_same e (search both)) ∙ is_true (controllable some e) (search both);
        index = leb→le i 63 (search both);
        operand = is_true (operand_in_range o x) (search both);
        respond = λ q.
            let response : Bool = not (controllable some x) && eqb (owner_of some x) (owner_of some e) in
            let declared : T (event_declared some x) = under (eqb o 5) (event_declared some x) (eq-eqb o 5 q) (search both) in
            let fitting : T response = under (eqb o 5) response (eq-eqb o 5 q) (search both) in
            record {
              event = event_below x declared;
              class = sym (class_same x declared) ∙ not-true (controllable some x) (is_true (not (controllable some x)) (search both));
              same_owner = sym (owner_same x declared) ∙ eqb→eq (owner_of some x) (owner_of some e) (search both) ∙ owner_same e (search both);
            };
      }
  law (Marking m st) p =
      let named : T (names_declared some (Marking m st)) = holds _ p.names in
      record { owner = below field1 head_key m (search both); state = below field2 (key_by 0x12 m 0 0) st (search both) }
  law End p = tt
