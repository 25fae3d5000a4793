-- Over records of which none is faulty, a record is judged from the context as it is from the records.
use Rattle.std.specs.Prelude.{Some, Err}
use Rattle.refusal.specs.Refusal.{refusal}
use mathlib.Core.Path.{◌≡◌, refl, sym, ap, ap₂, ◌∙◌, subst}
use mathlib.Core.List.{List, [], ◌∷◌}
use mathlib.Core.Bool.{Bool, true, false, cond, not, ◌&&◌, ◌||◌, and-false, false≢true}
use Prim.Native.Nat.{ℕ, suc, ◌+◌, ◌%◌, ◌≤◌, ◌<◌}
use native.Mathlib.Nat.{mod-eq_of_lt}
use native.Mathlib.Numerals.{add-one}
use native.Mathlib.Omega.{arith}
use lib.ListN.{get_or, get_or-replicate, get_or-eq_default}
use lib.Dec.{eqb, leb, ltb, lit≤}
use borrow.Author.Tests.{ltb-true, ltb-false, lt-ltb, le-ltb, leb-true, eqb-true}
use Rattle.bits.specs.Bit.{bit, all_below, every_event}
use Rattle.bits.proofs.Laws.{bit_and_lem, all_same}
use Rattle.records.specs.Kinds.{kind_of}
use Rattle.records.specs.Range.{in_range, operand_in_range}
use Rattle.records.specs.Key.{head_key, key_of, same_key, precedes}
use Rattle.records.specs.declared.Record.{Record}
use Rattle.records.specs.declared.Record.TheVariants.{Head, Event, Module, ModuleMove, Supervisor, SupervisorMove, Disabling, Step, Marking, End}
use Rattle.reader.specs.Find.{find_in, found}
use Rattle.reader.specs.Walk.{Walk, more, stop}
use Rattle.rules.specs.LookUp.{field1, field2, field3, field_of, modules_of, supervisors_of, events_of, event_in, module_in, supervisor_in, event_declared, module_declared, supervisor_declared, module_state, supervisor_state, owner_of, controllable, alphabet_of, steps_of}
use Rattle.rules.specs.Rules.{index_runs, in_order, names_declared, keeps_rules, all_declared}
use Rattle.rules.specs.Check.{fault_of, end_at, check_walk}
use Rattle.rules.specs.Valid.{Valid, Passes}
use Rattle.rules.proofs.Valid.{passes, declared_below, index_is, first_head, head_kept, headed, counted}
use Rattle.context.specs.declared.Context.{Context}
use Rattle.context.specs.Context.{events_after, context_of, owner_at, alphabet_at}
use Rattle.context.proofs.Tables.{with_entry_at}
use Rattle.judge.specs.Judge.{event_known, operand_known, module_known, supervisor_known, module_state_by, supervisor_state_by, index_by, order_by, names_by, respond_by, rules_by, all_by, judge_by}
use Rattle.judge.specs.Represents.{JudgesAsRules, check_by, ChecksAsRules}
use Rattle.judge.proofs.Remembers.{counts_told, steps_length, event_told, module_told, supervisor_told, look}

-- ---- what holds of records of which none is faulty

pub both : (a b : Bool) → (a && b) ≡ true → (a ≡ true) × (b ≡ true)
both true b e = (refl, e)
both false b e = absurd (false≢true e)

-- an event's number is below its count
record Bounded (rs : List Record) : Type 0 where
  pub event : (e : ℕ) → found (event_in rs e) ≡ true → e < events_of rs
  pub steps : (e : ℕ) → events_of rs ≤ e → steps_of rs e ≡ 0

-- the facts stay where neither the head nor a look-up changed
unmoved : {rs : List Record} (r : Record)
    → find_in head_key (r ∷ rs) ≡ find_in head_key rs
    → ((e : ℕ) → found (event_in (r ∷ rs) e) ≡ true → e < events_of rs)
    → ((e : ℕ) → events_of rs ≤ e → steps_of (r ∷ rs) e ≡ 0)
    → Bounded (r ∷ rs)
unmoved {rs} r h a b =
    record {
      event = λ e t. subst (λ f. e < field_of field3 f) (sym h) (a e t);
      steps = λ e l. b e (subst (λ f. field_of field3 f ≤ e) h l);
    }

bounded_head : (m v e : ℕ) → Bounded (Head m v e ∷ [])
unfolding find_in key_of same_key found steps_of
bounded_head m v e = record { event = λ x t. absurd (false≢true t); steps = λ x l. refl }

-- a number that is found after an event's record is that event's, or was found before
event_found : (rs : List Record) (n o c e : ℕ) → n < events_of rs → ((x : ℕ) → found (event_in rs x) ≡ true → x < events_of rs) → found (event_in (Event n o c ∷ rs) e) ≡ true → e < events_of rs
unfolding find_in key_of found
event_found rs n o c e h k t = go (eqb n e) refl
  where
    go : (b : Bool) → eqb n e ≡ b → e < events_of rs
    go true q = subst (λ (x : ℕ). x < events_of rs) (eqb-true n e q) h
    go false q = k e (sym (ap found (look 0x11 e tt (Event n o c) rs) ∙ ap (λ (d : Bool). found (cond d (Some (Event n o c)) (event_in rs e))) q) ∙ t)

step_none : (rs : List Record) (x i o y e : ℕ) → x < events_of rs → events_of rs ≤ e → steps_of rs e ≡ 0 → steps_of (Step x i o y ∷ rs) e ≡ 0
unfolding steps_of key_of
step_none rs x i o y e h l k = go (eqb x e) refl
  where
    go : (b : Bool) → eqb x e ≡ b → cond (true && eqb x e) (suc (steps_of rs e)) (steps_of rs e) ≡ 0
    go true q = let d : x ≡ e = eqb-true x e q in absurd (omega arith)
    go false q = ap (λ (d : Bool). cond (true && d) (suc (steps_of rs e)) (steps_of rs e)) q ∙ k

bounded_after : (p : Record) (ps : List Record) (r : Record) → Passes (p ∷ ps) r → Bounded (p ∷ ps) → Bounded (r ∷ p ∷ ps)
unfolding names_declared find_in key_of same_key steps_of
bounded_after p ps (Head m v e) t k = unmoved (Head m v e) (head_kept p ps (Head m v e) t) k.event k.steps
bounded_after p ps (Event n o c) t k =
    unmoved (Event n o c) refl (λ e. event_found (p ∷ ps) n o c e (declared_below n (events_of (p ∷ ps)) (ltb o (modules_of (p ∷ ps))) t.names) k.event) k.steps
bounded_after p ps (Module n st i) t k = unmoved (Module n st i) refl k.event k.steps
bounded_after p ps (ModuleMove m f e g) t k = unmoved (ModuleMove m f e g) refl k.event k.steps
bounded_after p ps (Supervisor n st i a) t k = unmoved (Supervisor n st i a) refl k.event k.steps
bounded_after p ps (SupervisorMove v f e g) t k = unmoved (SupervisorMove v f e g) refl k.event k.steps
bounded_after p ps (Disabling v st m) t k = unmoved (Disabling v st m) refl k.event k.steps
bounded_after p ps (Step x i o y) t k =
    let l : event_declared (p ∷ ps) x ≡ true = (both (event_declared (p ∷ ps) x) (not (eqb o 5) || event_declared (p ∷ ps) y) t.names).0 in
    unmoved (Step x i o y) refl k.event (λ e h. step_none (p ∷ ps) x i o y e (declared_below x (events_of (p ∷ ps)) (found (event_in (p ∷ ps) x)) l) h (k.steps e h))
bounded_after p ps (Marking m st) t k = unmoved (Marking m st) refl k.event k.steps
bounded_after p ps End t k = unmoved End refl k.event k.steps

bounded : (rs : List Record) → Valid rs → Bounded rs
unfolding Valid find_in found steps_of
bounded [] v = record { event = λ e t. absurd (false≢true t); steps = λ e l. refl }
bounded (r ∷ []) v = subst (λ (x : Record). Bounded (x ∷ [])) (sym (first_head r (passes [] r v.0))) (bounded_head (field1 r) (field2 r) (field3 r))
bounded (r ∷ p ∷ ps) v = bounded_after p ps r (passes (p ∷ ps) r v.0) (bounded (p ∷ ps) v.1)

-- no count is above its table
record Most (rs : List Record) : Type 0 where
  pub modules : modules_of rs ≤ 16
  pub supervisors : supervisors_of rs ≤ 32
  pub events : events_of rs ≤ 64

most : (rs : List Record) → Valid rs → Most rs
unfolding find_in field_of
most [] v = record { modules = lit≤ tt; supervisors = lit≤ tt; events = lit≤ tt }
most (r ∷ rs) v = let k = counted (r ∷ rs) (headed r rs v) in record { modules = k.modules.1; supervisors = k.supervisors; events = k.events.1 }

-- ---- how many steps an event has

index_small : (rs : List Record) (x i o y : ℕ) → Passes rs (Step x i o y) → i ≤ 63
unfolding in_range
index_small rs x i o y t = leb-true i 63 (both (leb i 63) (operand_in_range o y) t.range).0

steps_after : (rs : List Record) (r : Record) (e : ℕ) → e < 64 → Passes rs r → get_or (context_of rs).events.steps e 0 ≡ steps_of rs e → get_or (events_after (context_of rs).events r).steps e 0 ≡ steps_of (r ∷ rs) e
unfolding events_after steps_of key_of
steps_after rs (Head m v x) e l t k = k
steps_after rs (Event n o c) e l t k = k
steps_after rs (Module n st i) e l t k = k
steps_after rs (ModuleMove m f x g) e l t k = k
steps_after rs (Supervisor n st i a) e l t k = k
steps_after rs (SupervisorMove v f x g) e l t k = k
steps_after rs (Disabling v st m) e l t k = k
steps_after rs (Step x i o y) e l t k =
    with_entry_at 64 (context_of rs).events.steps x ((i + 1) % 256) e (steps_length rs) l ∙ go (eqb x e) refl
  where
    go : (b : Bool) → eqb x e ≡ b → cond b ((i + 1) % 256) (get_or (context_of rs).events.steps e 0) ≡ cond (true && b) (suc (steps_of rs e)) (steps_of rs e)
    go true q =
        let d : i ≡ steps_of rs e = index_is rs x i o y t.order ∙ ap (steps_of rs) (eqb-true x e q) in
        let s : i ≤ 63 = index_small rs x i o y t in
        mod-eq_of_lt (omega arith) ∙ add-one i ∙ ap suc d
    go false q = k
steps_after rs (Marking m st) e l t k = k
steps_after rs End e l t k = k

steps_told : (rs : List Record) → Valid rs → (e : ℕ) → e < 64 → get_or (context_of rs).events.steps e 0 ≡ steps_of rs e
unfolding context_of Valid steps_of
steps_told [] v e l = get_or-replicate 64 e 0 0 l
steps_told (r ∷ rs) v e l = steps_after rs r e l (passes rs r v.0) (steps_told rs v.1 e l)

-- ---- each rule by the context

module _ (rs : List Record) (valid : Valid rs) where
  abbrev c : Context
  c = context_of rs

  index_same : (r : Record) → index_by c r ≡ index_runs rs r
  unfolding index_by index_runs
  index_same (Head m v e) = refl
  index_same (Event n o k) = refl
  index_same (Module n st i) = refl
  index_same (ModuleMove m f e t) = refl
  index_same (Supervisor n st i a) = refl
  index_same (SupervisorMove v f e t) = refl
  index_same (Disabling v st m) = refl
  index_same (Step e i o x) = ap (eqb i) (go (ltb e 64) refl)
    where
      go : (b : Bool) → ltb e 64 ≡ b → get_or c.events.steps e 0 ≡ steps_of rs e
      go true q = steps_told rs valid e (ltb-true e 64 q)
      go false q =
          let l : 64 ≤ e = ltb-false e 64 q in
          let k : events_of rs ≤ 64 = (most rs valid).events in
          get_or-eq_default c.events.steps 0 (omega (arith, steps_length rs)) ∙ sym ((bounded rs valid).steps e (omega arith))
  index_same (Marking m st) = refl
  index_same End = refl

  -- a number below its count, with its record
  known_same : (e n k : ℕ) (a b : Bool) → n ≡ k → (e < k → a ≡ b) → (ltb e n && a) ≡ (ltb e k && b)
  known_same e n k a b h f = ap (λ (x : ℕ). ltb e x && a) h ∙ go (ltb e k) refl
    where
      go : (d : Bool) → ltb e k ≡ d → (d && a) ≡ (d && b)
      go true q = f (ltb-true e k q)
      go false q = refl

  event_same : (e : ℕ) → event_known c e ≡ event_declared rs e
  event_same e =
      known_same e c.counts.events (events_of rs) (bit c.events.known e) (found (event_in rs e)) (counts_told rs).2
      (λ l. let k : events_of rs ≤ 64 = (most rs valid).events in (event_told rs e (omega arith)).known)

  module_same : (m : ℕ) → module_known c m ≡ module_declared rs m
  module_same m =
      known_same m c.counts.modules (modules_of rs) (bit c.modules.known m) (found (module_in rs m)) (counts_told rs).0
      (λ l. let k : modules_of rs ≤ 16 = (most rs valid).modules in (module_told rs m (omega arith)).known)

  supervisor_same : (v : ℕ) → supervisor_known c v ≡ supervisor_declared rs v
  supervisor_same v =
      known_same v c.counts.supervisors (supervisors_of rs) (bit c.supervisors.known v) (found (supervisor_in rs v)) (counts_told rs).1
      (λ l. let k : supervisors_of rs ≤ 32 = (most rs valid).supervisors in (supervisor_told rs v (omega arith)).known)

  operand_same : (x : ℕ) → operand_known c x ≡ event_declared rs x
  operand_same x = go (ltb x 64) refl
    where
      go : (b : Bool) → ltb x 64 ≡ b → cond b (event_known c x) false ≡ event_declared rs x
      go true q = event_same x
      go false q =
          let l : 64 ≤ x = ltb-false x 64 q in
          let k : events_of rs ≤ 64 = (most rs valid).events in
          sym (ap (λ (t : Bool). t && found (event_in rs x)) (le-ltb x (events_of rs) (omega arith)))

  -- what is declared is below the tables' sizes
  event_small : (e : ℕ) → event_declared rs e ≡ true → e < 64
  event_small e h = let l : e < events_of rs = declared_below e (events_of rs) (found (event_in rs e)) h in let k : events_of rs ≤ 64 = (most rs valid).events in omega arith

  module_small : (m : ℕ) → module_declared rs m ≡ true → m < 16
  module_small m h =
      let l : m < modules_of rs = declared_below m (modules_of rs) (found (module_in rs m)) h in
      let k : modules_of rs ≤ 16 = (most rs valid).modules in
      omega arith

  supervisor_small : (v : ℕ) → supervisor_declared rs v ≡ true → v < 32
  supervisor_small v h =
      let l : v < supervisors_of rs = declared_below v (supervisors_of rs) (found (supervisor_in rs v)) h in
      let k : supervisors_of rs ≤ 32 = (most rs valid).supervisors in
      omega arith

  module_state_same : (m st : ℕ) → module_declared rs m ≡ true → module_state_by c m st ≡ module_state rs m st
  module_state_same m st h = ap (ltb st) (module_told rs m (module_small m h)).states

  supervisor_state_same : (v st : ℕ) → supervisor_declared rs v ≡ true → supervisor_state_by c v st ≡ supervisor_state rs v st
  supervisor_state_same v st h = ap (ltb st) (supervisor_told rs v (supervisor_small v h)).states

  -- below 64 an event has a record where it is declared
  recorded_same : (e : ℕ) → e < 64 → bit c.events.known e ≡ event_declared rs e
  recorded_same e l = (event_told rs e l).known ∙ go (found (event_in rs e)) refl
    where
      go : (b : Bool) → found (event_in rs e) ≡ b → found (event_in rs e) ≡ (ltb e (events_of rs) && found (event_in rs e))
      go true q = sym (ap (λ (t : Bool). t && found (event_in rs e)) (lt-ltb e (events_of rs) ((bounded rs valid).event e q)))
      go false q = q ∙ sym (ap (λ (t : Bool). ltb e (events_of rs) && t) q ∙ and-false (ltb e (events_of rs)))

  mask_same : (m : ℕ) → every_event m (bit c.events.known) ≡ every_event m (event_declared rs)
  mask_same m = all_same _ _ 64 (λ e l. ap (λ (t : Bool). not (bit m e) || t) (recorded_same e l))

  -- four tests, the second and the last of which count only where the first holds
  guarded : (a : Bool) {b b' d d' e e' : Bool} → (a ≡ true → b ≡ b') → d ≡ d' → (a ≡ true → e ≡ e') → (a && b && d && e) ≡ (a && b' && d' && e')
  guarded true f g h = ap₂ ◌&&◌ (ap₂ ◌&&◌ (f refl) g) (h refl)
  guarded false f g h = refl

  names_same : (r : Record) → names_by c r ≡ names_declared rs r
  unfolding names_by names_declared
  names_same (Head m v e) = refl
  names_same (Event n o k) = ap₂ (λ (x y : ℕ). ltb n x && ltb o y) (counts_told rs).2 (counts_told rs).0
  names_same (Module n st i) = ap (λ (x : ℕ). ltb n x && ltb i st) (counts_told rs).0
  names_same (ModuleMove m f e t) =
      ap (λ (a : Bool). a && module_state_by c m f && event_known c e && module_state_by c m t) (module_same m)
      ∙ guarded (module_declared rs m) (module_state_same m f) (event_same e) (module_state_same m t)
  names_same (Supervisor n st i a) = ap₂ (λ (x : ℕ) (y : Bool). ltb n x && ltb i st && y) (counts_told rs).1 (mask_same a)
  names_same (SupervisorMove v f e t) =
      ap (λ (a : Bool). a && supervisor_state_by c v f && event_known c e && supervisor_state_by c v t) (supervisor_same v)
      ∙ guarded (supervisor_declared rs v) (supervisor_state_same v f) (event_same e) (supervisor_state_same v t)
  names_same (Disabling v st m) =
      ap (λ (a : Bool). a && supervisor_state_by c v st && every_event m (bit c.events.known)) (supervisor_same v)
      ∙ three (supervisor_declared rs v) (supervisor_state_same v st) (mask_same m)
    where
      three : (a : Bool) {b b' d d' : Bool} → (a ≡ true → b ≡ b') → d ≡ d' → (a && b && d) ≡ (a && b' && d')
      three true f g = ap₂ ◌&&◌ (f refl) g
      three false f g = refl
  names_same (Step e i o x) = ap₂ (λ (a b : Bool). a && (not (eqb o 5) || b)) (event_same e) (operand_same x)
  names_same (Marking m st) = ap (λ (a : Bool). a && module_state_by c m st) (module_same m) ∙ two (module_declared rs m) (module_state_same m st)
    where
      two : (a : Bool) {b b' : Bool} → (a ≡ true → b ≡ b') → (a && b) ≡ (a && b')
      two true f = f refl
      two false f = refl
  names_same End = refl

  owner_same : (e : ℕ) → e < 64 → owner_at c.events e ≡ owner_of rs e
  owner_same e l = (event_told rs e l).owner

  alphabet_same : (v : ℕ) → v < 32 → alphabet_at c.supervisors v ≡ alphabet_of rs v
  alphabet_same v l = (supervisor_told rs v l).alphabet

  respond_same : (e x : ℕ) → e < 64 → x < 64 → respond_by c e x ≡ (not (controllable rs x) && eqb (owner_of rs x) (owner_of rs e))
  respond_same e x l k =
      ap (λ (b : Bool). cond b (not (bit c.events.controllable x) && eqb (owner_at c.events x) (owner_at c.events e)) false) (lt-ltb x 64 k)
      ∙ ap₂ ◌&&◌ (ap not (event_told rs x k).controls) (ap₂ eqb (owner_same x k) (owner_same e l))

  -- a choice whose second test counts only where the first fails
  unless : (a : Bool) {b d : Bool} → (a ≡ false → b ≡ d) → (a || b) ≡ (a || d)
  unless true f = refl
  unless false f = f refl

  rules_same : (r : Record) → names_declared rs r ≡ true → rules_by c r ≡ keeps_rules rs r
  unfolding names_declared rules_by keeps_rules
  rules_same (Head m v e) h = refl
  rules_same (Event n o k) h = refl
  rules_same (Module n st i) h = refl
  rules_same (ModuleMove m f e t) h =
      let k = (both (module_declared rs m && module_state rs m f && event_declared rs e) (module_state rs m t) h).0 in
      ap (λ (x : ℕ). eqb x m) (owner_same e (event_small e (both (module_declared rs m && module_state rs m f) (event_declared rs e) k).1))
  rules_same (Supervisor n st i a) h = refl
  rules_same (SupervisorMove v f e t) h =
      let k = (both (supervisor_declared rs v && supervisor_state rs v f && event_declared rs e) (supervisor_state rs v t) h).0 in
      let k' = (both (supervisor_declared rs v && supervisor_state rs v f) (event_declared rs e) k).0 in
      ap (λ (x : ℕ). bit x e) (alphabet_same v (supervisor_small v (both (supervisor_declared rs v) (supervisor_state rs v f) k').0))
  rules_same (Disabling v st m) h =
      let k = (both (supervisor_declared rs v && supervisor_state rs v st) (every_event m (event_declared rs)) h).0 in
      let l : v < 32 = supervisor_small v (both (supervisor_declared rs v) (supervisor_state rs v st) k).0 in
      all_same _ _ 64
      (λ e w. ap (λ (t : Bool). not (bit m e) || t)
      (bit_and_lem c.events.controllable (alphabet_at c.supervisors v) e ∙ ap₂ ◌&&◌ (event_told rs e w).controls (ap (λ (x : ℕ). bit x e) (alphabet_same v l))))
  rules_same (Step e i o x) h =
      let k = both (event_declared rs e) (not (eqb o 5) || event_declared rs x) h in
      let l : e < 64 = event_small e k.0 in
      ap₂ ◌&&◌ (event_told rs e l).controls
      (unless (not (eqb o 5)) (λ q. respond_same e x l (event_small x (sym (ap (λ (t : Bool). t || event_declared rs x) q) ∙ k.1))))
  rules_same (Marking m st) h = refl
  rules_same End h = refl

  all_known : (n k : ℕ) (m : ℕ) (f : ℕ → Bool) → n ≡ k → ((e : ℕ) → e < k → bit m e ≡ f e) → all_below (bit m) n ≡ all_below (λ e. ltb e k && f e) k
  all_known n k m f h g = ap (all_below (bit m)) h ∙ all_same (bit m) (λ e. ltb e k && f e) k (λ e l. g e l ∙ sym (ap (λ (t : Bool). t && f e) (lt-ltb e k l)))

  all_declared_same : (r : Record) → all_by c r ≡ all_declared rs r
  unfolding all_by all_declared
  all_declared_same (Head m v e) = refl
  all_declared_same (Event n o k) = refl
  all_declared_same (Module n st i) = refl
  all_declared_same (ModuleMove m f e t) = refl
  all_declared_same (Supervisor n st i a) = refl
  all_declared_same (SupervisorMove v f e t) = refl
  all_declared_same (Disabling v st m) = refl
  all_declared_same (Step e i o x) = refl
  all_declared_same (Marking m st) = refl
  all_declared_same End =
      ap₂ ◌&&◌
      (ap₂ ◌&&◌
      (all_known c.counts.modules (modules_of rs) c.modules.known (λ m. found (module_in rs m)) (counts_told rs).0 (λ m l. let k : modules_of rs ≤ 16 = (most rs valid).modules in (module_told rs m (omega arith)).known))
      (all_known c.counts.supervisors (supervisors_of rs) c.supervisors.known (λ v. found (supervisor_in rs v)) (counts_told rs).1 (λ v l. let k : supervisors_of rs ≤ 32 = (most rs valid).supervisors in (supervisor_told rs v (omega arith)).known)))
      (all_known c.counts.events (events_of rs) c.events.known (λ e. found (event_in rs e)) (counts_told rs).2 (λ e l. let k : events_of rs ≤ 64 = (most rs valid).events in (event_told rs e (omega arith)).known))

order_same : (rs : List Record) → Valid rs → (r : Record) → order_by (context_of rs) r ≡ in_order rs r
unfolding order_by in_order context_of
order_same [] v r = refl
order_same (p ∷ ps) v r = ap (λ (t : Bool). precedes (key_of p) (key_of r) && t) (index_same (p ∷ ps) v r)

-- a choice whose first answer counts only where the test holds
where_held : (b : Bool) {x x' : ℕ} (y : ℕ) → (b ≡ true → x ≡ x') → cond b x y ≡ cond b x' y
where_held true y f = f refl
where_held false y f = refl

pub judges : JudgesAsRules
unfolding judge_by fault_of
judges rs v r =
    ap₂ (λ (a b : Bool). cond a (cond (in_range r) (cond b (cond (rules_by (context_of rs) r) (cond (all_by (context_of rs) r) 0 8) 7) 6) 5) 4) (order_same rs v r) (names_same rs v r)
    ∙ ap (λ (x : ℕ). cond (in_order rs r) (cond (in_range r) x 5) 4)
    (where_held (names_declared rs r) 6 (λ h. ap₂ (λ (a b : Bool). cond a (cond b 0 8) 7) (rules_same rs v r h) (all_declared_same rs v r)))

agree : (n : ℕ) (rs : List Record) (w : Walk) → Valid rs → check_by n (context_of rs) w ≡ check_walk n rs w
unfolding check_by check_walk context_of Valid
agree n rs (stop k o) v = refl
agree n rs (more o r w) v =
    ap (λ (j : ℕ). cond (eqb j 0) (cond (eqb (kind_of r) 0x1f) (end_at n o) (check_by n (context_of (r ∷ rs)) w)) (Err (refusal j o))) (judges rs v r)
    ∙ go (eqb (fault_of rs r) 0) refl (λ z. agree n (r ∷ rs) w (z, v))
  where
    go : (b : Bool) → eqb (fault_of rs r) 0 ≡ b → (fault_of rs r ≡ 0 → check_by n (context_of (r ∷ rs)) w ≡ check_walk n (r ∷ rs) w)
        → cond b (cond (eqb (kind_of r) 0x1f) (end_at n o) (check_by n (context_of (r ∷ rs)) w)) (Err (refusal (fault_of rs r) o))
        ≡ cond b (cond (eqb (kind_of r) 0x1f) (end_at n o) (check_walk n (r ∷ rs) w)) (Err (refusal (fault_of rs r) o))
    go true q f = ap (cond (eqb (kind_of r) 0x1f) (end_at n o)) (f (eqb-true (fault_of rs r) 0 q))
    go false q f = refl

pub checks : ChecksAsRules
unfolding context_of Valid
checks n w = agree n [] w tt
