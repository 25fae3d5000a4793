-- What the context remembers of records is what their look-ups give.
use Rattle.std.specs.Prelude.{Option, Some, None}
use mathlib.Core.Path.{◌≡◌, refl, sym, ap, ◌∙◌, subst}
use mathlib.Core.List.{List, [], ◌∷◌}
use mathlib.Core.Bool.{Bool, true, false, cond, ◌&&◌, ◌||◌, true≢false, false≢true}
use Prim.Native.Nat.{ℕ, ◌+◌, ◌%◌, ◌≤◌, ◌<◌, ◌^◌}
use lib.ListN.{length, get_or, replicate, length-replicate, get_or-replicate}
use lib.Dec.{T, eqb, lit≤}
use lib.Pow.{pow_pos}
use borrow.Author.Tests.{eq-eqb, eqb-true}
use Rattle.bits.specs.Bit.{bit}
use Rattle.bits.proofs.Laws.{bit_none}
use Rattle.records.specs.Key.{key_by, key_of, same_key}
use Rattle.records.specs.declared.Record.{Record}
use Rattle.records.specs.declared.Record.TheVariants.{Head, Event, Module, ModuleMove, Supervisor, SupervisorMove, Disabling, Step, Marking, End}
use Rattle.records.specs.declared.RecordKey.{RecordKey}
use Rattle.reader.specs.Find.{find_in, found}
use Rattle.rules.specs.LookUp.{field1, field2, field3, word_field, field_of, modules_of, supervisors_of, events_of, event_in, module_in, supervisor_in, owner_of, controllable, alphabet_of}
use Rattle.context.specs.declared.Counts.{Counts}
use Rattle.context.specs.declared.Events.{Events}
use Rattle.context.specs.declared.Modules.{Modules}
use Rattle.context.specs.declared.Supervisors.{Supervisors}
use Rattle.context.specs.Context.{with_entry, with_bit, with_event, with_step, with_module, with_supervisor, counts_after, events_after, modules_after, supervisors_after, context_of}
use Rattle.context.proofs.Tables.{with_entry_length, with_entry_at, with_bit_fits, with_bit_at}

-- ---- choices

-- a part of what a choice gives
part : {A B : Type 0} (f : A → B) (b : Bool) (x y : A) → f (cond b x y) ≡ cond b (f x) (f y)
part f true x y = refl
part f false x y = refl

either : {A : Type 0} (P : A → Type 0) (b : Bool) (x y : A) → P x → P y → P (cond b x y)
either P true x y p q = p
either P false x y p q = q

-- ---- a look-up by number in a list with one record more

-- the kinds whose key is a number
abbrev Numbered : ℕ → Type 0
Numbered k = T (eqb k 0x11 || eqb k 0x12 || eqb k 0x14)

number_key : (k : ℕ) → Numbered k → (r : Record) → (key_of r).kind ≡ k → key_of r ≡ key_by k (key_of r).first 0 0
unfolding key_of
number_key k n (Head m v e) q = absurd (subst Numbered (sym q) n)
number_key k n (Event x o c) q = ap (λ (y : ℕ). key_by y x 0 0) q
number_key k n (Module x st i) q = ap (λ (y : ℕ). key_by y x 0 0) q
number_key k n (ModuleMove m f e t) q = absurd (subst Numbered (sym q) n)
number_key k n (Supervisor x st i a) q = ap (λ (y : ℕ). key_by y x 0 0) q
number_key k n (SupervisorMove v f e t) q = absurd (subst Numbered (sym q) n)
number_key k n (Disabling v st m) q = absurd (subst Numbered (sym q) n)
number_key k n (Step e i o x) q = absurd (subst Numbered (sym q) n)
number_key k n (Marking m st) q = absurd (subst Numbered (sym q) n)
number_key k n End q = absurd (subst Numbered (sym q) n)

all_four : (a b c d : Bool) → a ≡ true → c ≡ true → d ≡ true → (a && b && c && d) ≡ b
all_four true true true true p q r = refl
all_four true true true false p q r = absurd (false≢true r)
all_four true true false d p q r = absurd (false≢true q)
all_four true false c d p q r = refl
all_four false b c d p q r = absurd (false≢true p)

not_first : (a b c d : Bool) → a ≡ false → (a && b && c && d) ≡ false
not_first true b c d p = absurd (true≢false p)
not_first false b c d p = refl

-- a record of kind k is found at its number, and a record of another kind changes nothing
abbrev changed : {A : Type 0} → ℕ → ℕ → Record → A → A → A
changed k e r x y = cond (eqb (key_of r).kind k) (cond (eqb (key_of r).first e) x y) y

pub look : (k e : ℕ) → Numbered k → (r : Record) (rs : List Record) → find_in (key_by k e 0 0) (r ∷ rs) ≡ changed k e r (Some r) (find_in (key_by k e 0 0) rs)
unfolding find_in same_key
look k e n r rs = go (eqb (key_of r).kind k) refl
  where
    go : (b : Bool) → eqb (key_of r).kind k ≡ b → cond (same_key (key_of r) (key_by k e 0 0)) (Some r) (find_in (key_by k e 0 0) rs) ≡ cond b (cond (eqb (key_of r).first e) (Some r) (find_in (key_by k e 0 0) rs)) (find_in (key_by k e 0 0) rs)
    go true q =
        let key = number_key k n r (eqb-true (key_of r).kind k q) in
        ap (λ (b : Bool). cond b (Some r) (find_in (key_by k e 0 0) rs))
        (all_four (eqb (key_of r).kind k) (eqb (key_of r).first e) (eqb (key_of r).second 0) (eqb (key_of r).third 0) q
        (eq-eqb (key_of r).second 0 (ap (λ (p : RecordKey). p.second) key)) (eq-eqb (key_of r).third 0 (ap (λ (p : RecordKey). p.third) key)))
    go false q =
        ap (λ (b : Bool). cond b (Some r) (find_in (key_by k e 0 0) rs))
        (not_first (eqb (key_of r).kind k) (eqb (key_of r).first e) (eqb (key_of r).second 0) (eqb (key_of r).third 0) q)

-- a choice between what was found before and a record of that number, seen through h
found_now : (k e : ℕ) → Numbered k → {A : Type 0} (h : Option Record → A) (r : Record) (rs : List Record)
    → h (find_in (key_by k e 0 0) (r ∷ rs)) ≡ changed k e r (h (Some r)) (h (find_in (key_by k e 0 0) rs))
found_now k e n {A} h r rs =
    let a = eqb (key_of r).kind k in
    let b = eqb (key_of r).first e in
    let rest = find_in (key_by k e 0 0) rs in
    ap h (look k e n r rs) ∙ part h a (cond b (Some r) rest) rest ∙ ap (λ (x : A). cond a x (h rest)) (part h b (Some r) rest)

-- ---- a table of n entries and a mask that take each record of kind k

module _ (k n : ℕ) (f : Record → ℕ) (t : List Record → List ℕ) (begins : t [] ≡ replicate n 0)
    (takes : (r : Record) (rs : List Record) → t (r ∷ rs) ≡ cond (eqb (key_of r).kind k) (with_entry n (t rs) (key_of r).first (f r)) (t rs)) where
  pub table_length : (rs : List Record) → length (t rs) ≡ n
  table_length [] = ap length begins ∙ length-replicate n 0
  table_length (r ∷ rs) =
      let l = table_length rs in
      ap length (takes r rs) ∙ either (λ (x : List ℕ). length x ≡ n) (eqb (key_of r).kind k) (with_entry n (t rs) (key_of r).first (f r)) (t rs) (with_entry_length n (t rs) (key_of r).first (f r) l) l

  table_told : Numbered k → (e : ℕ) → e < n → (rs : List Record) → get_or (t rs) e 0 ≡ field_of f (find_in (key_by k e 0 0) rs)
  unfolding find_in field_of
  table_told w e l [] = ap (λ (x : List ℕ). get_or x e 0) begins ∙ get_or-replicate n e 0 0 l
  table_told w e l (r ∷ rs) =
      let a = eqb (key_of r).kind k in
      let v = get_or (t rs) e 0 in
      ap (λ (x : List ℕ). get_or x e 0) (takes r rs) ∙ part (λ (x : List ℕ). get_or x e 0) a (with_entry n (t rs) (key_of r).first (f r)) (t rs)
      ∙ ap (λ (x : ℕ). cond a x v) (with_entry_at n (t rs) (key_of r).first (f r) e (table_length rs) l)
      ∙ ap (changed k e r (f r)) (table_told w e l rs) ∙ sym (found_now k e w (field_of f) r rs)

module _ (k n : ℕ) (small : n ≤ 64) (h : Option Record → Bool) (m : List Record → ℕ) (begins : m [] ≡ 0)
    (takes : (r : Record) (rs : List Record) → m (r ∷ rs) ≡ cond (eqb (key_of r).kind k) (with_bit n (m rs) (key_of r).first (h (Some r))) (m rs)) where
  mask_fits : (rs : List Record) → m rs < 2 ^ 64
  mask_fits [] = subst (λ (x : ℕ). x < 2 ^ 64) (sym begins) (pow_pos 64)
  mask_fits (r ∷ rs) =
      let l = mask_fits rs in
      subst (λ (x : ℕ). x < 2 ^ 64) (sym (takes r rs)) (either (λ (x : ℕ). x < 2 ^ 64) (eqb (key_of r).kind k) (with_bit n (m rs) (key_of r).first (h (Some r))) (m rs) (with_bit_fits n (m rs) (key_of r).first (h (Some r)) l) l)

  mask_told : Numbered k → h None ≡ false → (e : ℕ) → e < n → (rs : List Record) → bit (m rs) e ≡ h (find_in (key_by k e 0 0) rs)
  unfolding find_in
  mask_told w z e l [] = ap (λ (x : ℕ). bit x e) begins ∙ bit_none e ∙ sym z
  mask_told w z e l (r ∷ rs) =
      let a = eqb (key_of r).kind k in
      let v = bit (m rs) e in
      ap (λ (x : ℕ). bit x e) (takes r rs) ∙ part (λ (x : ℕ). bit x e) a (with_bit n (m rs) (key_of r).first (h (Some r))) (m rs)
      ∙ ap (λ (x : Bool). cond a x v) (with_bit_at n (m rs) (key_of r).first (h (Some r)) e small (mask_fits rs) l)
      ∙ ap (changed k e r (h (Some r))) (mask_told w z e l rs) ∙ sym (found_now k e w h r rs)

-- ---- the head's counts

abbrev pub CountsTold : Counts → List Record → Type 0
CountsTold k rs = (k.modules ≡ modules_of rs) × (k.supervisors ≡ supervisors_of rs) × (k.events ≡ events_of rs)

counts_after_lem : (k : Counts) (rs : List Record) (r : Record) → CountsTold k rs → CountsTold (counts_after k r) (r ∷ rs)
unfolding counts_after find_in key_of same_key field_of field1 field2 field3
counts_after_lem k rs (Head m v e) t = (refl, refl, refl)
counts_after_lem k rs (Event n o c) t = t
counts_after_lem k rs (Module n st i) t = t
counts_after_lem k rs (ModuleMove m f e t) u = u
counts_after_lem k rs (Supervisor n st i a) t = t
counts_after_lem k rs (SupervisorMove v f e t) u = u
counts_after_lem k rs (Disabling v st m) t = t
counts_after_lem k rs (Step e i o x) t = t
counts_after_lem k rs (Marking m st) t = t
counts_after_lem k rs End t = t

pub counts_told : (rs : List Record) → CountsTold (context_of rs).counts rs
unfolding context_of find_in field_of
counts_told [] = (refl, refl, refl)
counts_told (r ∷ rs) = counts_after_lem (context_of rs).counts rs r (counts_told rs)

-- ---- the events

events_after_lem : (ev : Events) (r : Record)
    → events_after ev r ≡ cond (eqb (key_of r).kind 0x11) (with_event ev (key_of r).first (field2 r) (field3 r)) (cond (eqb (key_of r).kind 0x17) (with_step ev (key_of r).first (field2 r)) ev)
unfolding events_after key_of field2 field3
events_after_lem ev (Head m v e) = refl
events_after_lem ev (Event n o c) = refl
events_after_lem ev (Module n st i) = refl
events_after_lem ev (ModuleMove m f e t) = refl
events_after_lem ev (Supervisor n st i a) = refl
events_after_lem ev (SupervisorMove v f e t) = refl
events_after_lem ev (Disabling v st m) = refl
events_after_lem ev (Step e i o x) = refl
events_after_lem ev (Marking m st) = refl
events_after_lem ev End = refl

-- a part of the events that steps leave alone
event_part : {A : Type 0} (g : Events → A) (ev : Events) (r : Record) → g (with_step ev (key_of r).first (field2 r)) ≡ g ev
    → g (events_after ev r) ≡ cond (eqb (key_of r).kind 0x11) (g (with_event ev (key_of r).first (field2 r) (field3 r))) (g ev)
event_part {A} g ev r s =
    let a = eqb (key_of r).kind 0x11 in
    let b = eqb (key_of r).kind 0x17 in
    let with = with_event ev (key_of r).first (field2 r) (field3 r) in
    let stepped = with_step ev (key_of r).first (field2 r) in
    ap g (events_after_lem ev r) ∙ part g a with (cond b stepped ev) ∙ ap (cond a (g with)) (either (λ (x : Events). g x ≡ g ev) b stepped ev s refl)

-- how many steps there are is a table that only steps change
pub steps_length : (rs : List Record) → length (context_of rs).events.steps ≡ 64
unfolding context_of events_after key_of field2
steps_length = table_length 0x17 64 (λ r. (field2 r + 1) % 256) (λ rs. (context_of rs).events.steps) refl takes
  where
    takes : (r : Record) (rs : List Record) → (events_after (context_of rs).events r).steps
        ≡ cond (eqb (key_of r).kind 0x17) (with_entry 64 (context_of rs).events.steps (key_of r).first ((field2 r + 1) % 256)) (context_of rs).events.steps
    takes (Head m v e) rs = refl
    takes (Event n o c) rs = refl
    takes (Module n st i) rs = refl
    takes (ModuleMove m f e t) rs = refl
    takes (Supervisor n st i a) rs = refl
    takes (SupervisorMove v f e t) rs = refl
    takes (Disabling v st m) rs = refl
    takes (Step e i o x) rs = refl
    takes (Marking m st) rs = refl
    takes End rs = refl

pub record EventTold (ev : Events) (rs : List Record) (e : ℕ) : Type 0 where
  pub known : bit ev.known e ≡ found (event_in rs e)
  pub controls : bit ev.controllable e ≡ controllable rs e
  pub owner : get_or ev.owner e 0 ≡ owner_of rs e

pub event_told : (rs : List Record) (e : ℕ) → e < 64 → EventTold (context_of rs).events rs e
unfolding context_of found field_of
event_told rs e l = record {
  known = mask_told 0x11 64 (lit≤ tt) found (λ rs. (context_of rs).events.known) refl (λ r rs. event_part (λ ev. ev.known) (context_of rs).events r refl) tt refl e l rs;
  controls =
      mask_told 0x11 64 (lit≤ tt) (λ f. eqb (field_of field3 f) 1) (λ rs. (context_of rs).events.controllable) refl
      (λ r rs. event_part (λ ev. ev.controllable) (context_of rs).events r refl) tt refl e l rs;
  owner = table_told 0x11 64 field2 (λ rs. (context_of rs).events.owner) refl (λ r rs. event_part (λ ev. ev.owner) (context_of rs).events r refl) tt e l rs;
}

-- ---- the modules

modules_after_lem : (ms : Modules) (r : Record) → modules_after ms r ≡ cond (eqb (key_of r).kind 0x12) (with_module ms (key_of r).first (field2 r)) ms
unfolding modules_after key_of field2
modules_after_lem ms (Head m v e) = refl
modules_after_lem ms (Event n o c) = refl
modules_after_lem ms (Module n st i) = refl
modules_after_lem ms (ModuleMove m f e t) = refl
modules_after_lem ms (Supervisor n st i a) = refl
modules_after_lem ms (SupervisorMove v f e t) = refl
modules_after_lem ms (Disabling v st m) = refl
modules_after_lem ms (Step e i o x) = refl
modules_after_lem ms (Marking m st) = refl
modules_after_lem ms End = refl

module_part : {A : Type 0} (g : Modules → A) (ms : Modules) (r : Record) → g (modules_after ms r) ≡ cond (eqb (key_of r).kind 0x12) (g (with_module ms (key_of r).first (field2 r))) (g ms)
module_part g ms r = ap g (modules_after_lem ms r) ∙ part g (eqb (key_of r).kind 0x12) (with_module ms (key_of r).first (field2 r)) ms

pub record ModuleTold (ms : Modules) (rs : List Record) (m : ℕ) : Type 0 where
  pub known : bit ms.known m ≡ found (module_in rs m)
  pub states : get_or ms.states m 0 ≡ field_of field2 (module_in rs m)

pub module_told : (rs : List Record) (m : ℕ) → m < 16 → ModuleTold (context_of rs).modules rs m
unfolding context_of found
module_told rs m l = record {
  known = mask_told 0x12 16 (lit≤ tt) found (λ rs. (context_of rs).modules.known) refl (λ r rs. module_part (λ ms. ms.known) (context_of rs).modules r) tt refl m l rs;
  states = table_told 0x12 16 field2 (λ rs. (context_of rs).modules.states) refl (λ r rs. module_part (λ ms. ms.states) (context_of rs).modules r) tt m l rs;
}

-- ---- the supervisors

supervisors_after_lem : (vs : Supervisors) (r : Record) → supervisors_after vs r ≡ cond (eqb (key_of r).kind 0x14) (with_supervisor vs (key_of r).first (field2 r) (word_field r)) vs
unfolding supervisors_after key_of field2 word_field
supervisors_after_lem vs (Head m v e) = refl
supervisors_after_lem vs (Event n o c) = refl
supervisors_after_lem vs (Module n st i) = refl
supervisors_after_lem vs (ModuleMove m f e t) = refl
supervisors_after_lem vs (Supervisor n st i a) = refl
supervisors_after_lem vs (SupervisorMove v f e t) = refl
supervisors_after_lem vs (Disabling v st m) = refl
supervisors_after_lem vs (Step e i o x) = refl
supervisors_after_lem vs (Marking m st) = refl
supervisors_after_lem vs End = refl

supervisor_part : {A : Type 0} (g : Supervisors → A) (vs : Supervisors) (r : Record)
    → g (supervisors_after vs r) ≡ cond (eqb (key_of r).kind 0x14) (g (with_supervisor vs (key_of r).first (field2 r) (word_field r))) (g vs)
supervisor_part g vs r = ap g (supervisors_after_lem vs r) ∙ part g (eqb (key_of r).kind 0x14) (with_supervisor vs (key_of r).first (field2 r) (word_field r)) vs

pub record SupervisorTold (vs : Supervisors) (rs : List Record) (v : ℕ) : Type 0 where
  pub known : bit vs.known v ≡ found (supervisor_in rs v)
  pub states : get_or vs.states v 0 ≡ field_of field2 (supervisor_in rs v)
  pub alphabet : get_or vs.alphabet v 0 ≡ alphabet_of rs v

pub supervisor_told : (rs : List Record) (v : ℕ) → v < 32 → SupervisorTold (context_of rs).supervisors rs v
unfolding context_of found
supervisor_told rs v l = record {
  known = mask_told 0x14 32 (lit≤ tt) found (λ rs. (context_of rs).supervisors.known) refl (λ r rs. supervisor_part (λ vs. vs.known) (context_of rs).supervisors r) tt refl v l rs;
  states = table_told 0x14 32 field2 (λ rs. (context_of rs).supervisors.states) refl (λ r rs. supervisor_part (λ vs. vs.states) (context_of rs).supervisors r) tt v l rs;
  alphabet = table_told 0x14 32 word_field (λ rs. (context_of rs).supervisors.alphabet) refl (λ r rs. supervisor_part (λ vs. vs.alphabet) (context_of rs).supervisors r) tt v l rs;
}
