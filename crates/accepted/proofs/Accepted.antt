-- The laws of an accepted plan.
use Rattle.std.specs.Prelude.{Option}
use Prim.Native.Nat.{ℕ, ◌<◌}
use mathlib.Core.Path.{◌≡◌, refl, sym, ap, subst}
use mathlib.Core.Logic.{◌⊎◌, inl, inr, ⊎_elim}
use mathlib.Core.List.Memᴰ
use mathlib.Core.List.{List, [], ◌∷◌, reverse_aux, reverse, reverse-reverse}
use mathlib.Core.Bool.{true, ◌&&◌, false≢true}
use lib.Dec.{T, ltb, leb→le}
use Rattle.bits.specs.Bit.{all_below}
use denote.Floats.{passes as holds}
use Rattle.bits.proofs.Laws.{all_at}
use Rattle.records.specs.Kinds.{kind_of}
use Rattle.records.specs.Key.{key_by, head_key}
use Rattle.records.specs.Range.{in_range}
use Rattle.records.specs.declared.Record.{Record}
use Rattle.records.specs.declared.Record.TheVariants.{Event, Module, Supervisor, Step, End}
use Rattle.records.specs.declared.RecordKey.{RecordKey}
use Rattle.reader.specs.Find.{find_in, found}
use Rattle.reader.specs.Walk.{records_of}
use Rattle.rules.specs.LookUp.{field1, field2, field3, word_field, field_of, modules_of, supervisors_of, events_of}
use Rattle.rules.specs.Rules.{in_order, all_declared}
use Rattle.rules.specs.Check.{IsPlan}
use Rattle.rules.specs.Valid.{Valid}
use Rattle.rules.proofs.Valid.{both, index_is, Headed, headed, Counted, counted}
use Rattle.accepted.specs.Plan.{◌∈◌, Unique, LawOf, TheEvent, TheModule, TheSupervisor, TheStep, Sound, Ended, EveryPlan}
use Rattle.accepted.proofs.Order.{unique}
use Rattle.accepted.proofs.Look.{finds, some_found, found_more}
use Rattle.accepted.proofs.Shape.{remade, shape}
use Rattle.accepted.proofs.Walked.{short, walked_plan}
use Rattle.accepted.proofs.Law.{law}
use Rattle.accepted.proofs.Before.{At, at, steps_listed}

-- ---- the records of a plan in their order, from the same records, latest first

module _ (latest all : List Record) (v : Valid latest) (ended : End ∈ latest) (to : (r : Record) → r ∈ latest → r ∈ all) (from : (r : Record) → r ∈ all → r ∈ latest) where
  one_key : Unique all
  one_key r t m n = unique latest v r t (from r m) (from t n)

  stands : (r : Record) → r ∈ all → At all r
  stands r m =
      let a = at latest v r (from r m) in
      record { before = a.before; valid = a.valid; passed = a.passed; within = λ t n. to t (a.within t n) }

  same : {r : Record} (a : At all r) (p : RecordKey) → T (found (find_in p a.before)) → find_in p a.before ≡ find_in p all
  same a = found_more a.before all one_key a.within

  laws : (r : Record) → r ∈ all → LawOf all r
  laws r m = let a = stands r m in law a.before all (same a) r a.passed

  ranges : (r : Record) → r ∈ all → in_range r ≡ true
  ranges r m = (stands r m).passed.range

  no_gap : (e i o x : ℕ) → Step e i o x ∈ all → (j : ℕ) → j < i → TheStep all e j
  no_gap e i o x m j h =
      let a = stands (Step e i o x) m in
      let s = steps_listed a.before a.valid e j (subst (λ (k : ℕ). j < k) (index_is a.before e i o x a.passed.order) h) in
      record { operation = s.operation; operand = s.operand; listed = a.within (Step e j s.operation s.operand) s.listed }

  -- what stands before the end record has every number that the head promises
  last : At all End
  last = stands End (to End ended)

  start : Headed last.before
  unfolding in_order kind_of
  start = go last.before last.valid last.passed.order
    where
      go : (rs : List Record) → Valid rs → in_order rs End ≡ true → Headed rs
      go [] v h = absurd (false≢true h)
      go (r ∷ rs) v h = headed r rs v

  head_same : find_in head_key last.before ≡ find_in head_key all
  unfolding found
  head_same = same last head_key (subst (λ (f : Option Record). T (found f)) (sym start.finds) tt)

  counts : Counted (find_in head_key all)
  counts = subst Counted head_same (counted last.before start)

  -- the record of kind k of each number below the count that the head's field f gives
  declared : (k : ℕ) (f : Record → ℕ) → let n = field_of f (find_in head_key last.before) in
      T (all_below (λ i. ltb i n && found (find_in (key_by k i 0 0) last.before)) n)
      → (i : ℕ) → i < field_of f (find_in head_key all) → (r : Record) × (remade k i r ∈ all)
  declared k f t i h =
      let n : ℕ = field_of f (find_in head_key last.before) in
      let d : T (ltb i n && found (find_in (key_by k i 0 0) last.before)) = all_at _ n t i (subst (λ (l : Option Record). i < field_of f l) (sym head_same) h) in
      let s = some_found (key_by k i 0 0) last.before (search both) in
      (s.0, Memᴰ.cast (sym (shape k i s.0 (ap (λ (p : RecordKey). p.kind) s.2) (ap (λ (p : RecordKey). p.first) s.2))) (last.within s.0 s.1))

  the_event : (e : ℕ) → e < events_of all → TheEvent all e
  unfolding all_declared in_range
  the_event e h =
      let t : T (all_declared last.before End) = holds _ last.passed.whole in
      let k = declared 0x11 field3 (search both) e h in
      let r : Record = Event e (field2 k.0) (field3 k.0) in
      record {
        owner = field2 k.0;
        class = field3 k.0;
        listed = k.1;
        owner_below = (laws r k.1).owner;
        class_most = leb→le (field3 k.0) 1 (holds _ (ranges r k.1));
      }

  the_module : (m : ℕ) → m < modules_of all → TheModule all m
  unfolding all_declared in_range
  the_module m h =
      let t : T (all_declared last.before End) = holds _ last.passed.whole in
      let k = declared 0x12 field1 (search both) m h in
      let r : Record = Module m (field2 k.0) (field3 k.0) in
      let s : T (in_range r) = holds _ (ranges r k.1) in
      record {
        states = field2 k.0;
        initial = field3 k.0;
        listed = k.1;
        states_least = leb→le 1 (field2 k.0) (search both);
        states_most = leb→le (field2 k.0) 32 (search both);
        initial_below = (laws r k.1).initial;
      }

  the_supervisor : (v : ℕ) → v < supervisors_of all → TheSupervisor all v
  unfolding all_declared in_range
  the_supervisor v h =
      let t : T (all_declared last.before End) = holds _ last.passed.whole in
      let k = declared 0x14 field2 (search both) v h in
      let r : Record = Supervisor v (field2 k.0) (field3 k.0) (word_field k.0) in
      let s : T (in_range r) = holds _ (ranges r k.1) in
      record {
        states = field2 k.0;
        initial = field3 k.0;
        alphabet = word_field k.0;
        listed = k.1;
        states_least = leb→le 1 (field2 k.0) (search both);
        states_most = leb→le (field2 k.0) 64 (search both);
        initial_below = (laws r k.1).initial;
      }

  sound_of : Sound all
  sound_of = record {
    modules = counts.modules;
    supervisors = counts.supervisors;
    events = counts.events;
    unique = one_key;
    finds = finds all one_key;
    ranges = ranges;
    laws = laws;
    the_event = the_event;
    the_module = the_module;
    the_supervisor = the_supervisor;
    no_gap = no_gap;
  }

-- ---- an accepted plan

-- a list turned round has the same records
pub in_reverse : (xs acc : List Record) (t : Record) → (t ∈ xs) ⊎ (t ∈ acc) → t ∈ reverse_aux xs acc
in_reverse [] acc t (inl m) = absurd (Memᴰ.not-nil m)
in_reverse [] acc t (inr m) = m
in_reverse (x ∷ xs) acc t (inl m) = in_reverse xs (x ∷ acc) t (⊎_elim (λ e. inr (Memᴰ.head e)) (λ n. inl n) (Memᴰ.cases_cons m))
in_reverse (x ∷ xs) acc t (inr m) = in_reverse xs (x ∷ acc) t (inr (Memᴰ.tail m))

module _ (s : List ℕ) (accepted : IsPlan s) where
  ended : Ended s
  ended =
      let w = walked_plan s accepted in
      record { short = short s accepted; before = w.before; end_last = w.last; stops = w.stops }

  sound : Sound (records_of s)
  sound = sound_of (reverse (records_of s)) (records_of s) (walked_plan s accepted).valid (latest_first End listed) in_order_lem latest_first
    where
      listed : End ∈ records_of s
      listed = subst (λ (l : List Record). End ∈ l) (sym ended.end_last) (Memᴰ.append_right ended.before (Memᴰ.head refl))

      latest_first : (r : Record) → r ∈ records_of s → r ∈ reverse (records_of s)
      latest_first r m = in_reverse (records_of s) [] r (inl m)

      in_order_lem : (r : Record) → r ∈ reverse (records_of s) → r ∈ records_of s
      in_order_lem r m = subst (λ (l : List Record). r ∈ l) (reverse-reverse (records_of s)) (in_reverse (reverse (records_of s)) [] r (inl m))

pub every_plan : EveryPlan
every_plan s accepted = record { sound = sound s accepted; ended = ended s accepted }
