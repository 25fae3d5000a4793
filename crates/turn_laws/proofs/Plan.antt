-- The laws of an accepted plan's look-ups.
use Rattle.std.specs.Prelude.{Option, Some, None}
use Prim.Native.Nat.{ℕ, ◌^◌, ◌<◌}
use mathlib.Core.Path.{◌≡◌, refl, sym, subst}
use mathlib.Core.List.{List}
use mathlib.Core.Bool.{Bool, true, false, cond}
use lib.Dec.{T, ltb}
use lib.Pow.{pow_pos}
use borrow.Author.Tests.{lt-ltb, ltb-true, ltb-false}
use Rattle.bits.specs.Bit.{bit}
use denote.Floats.{passes as holds}
use Rattle.bits.proofs.Laws.{bit_none, bit_above}
use Rattle.records.specs.Key.{key_by, key_of}
use Rattle.records.specs.declared.Record.{Record}
use Rattle.records.specs.declared.Record.TheVariants.{Event, Module, Supervisor}
use Rattle.reader.specs.Find.{find_in, found}
use Rattle.roundtrip.specs.Fits.{AllFit}
use Rattle.rules.specs.LookUp.{field2, field3, word_field, field_of, modules_of, supervisors_of, events_of, supervisor_in, module_state, supervisor_state, owner_of, controllable, alphabet_of}
use Rattle.plan.specs.Plan.{supervisor_move, module_initial, supervisor_initial, shown, in_alphabet}
use Rattle.accepted.specs.Plan.{◌∈◌, DisabledLaw, Sound}
use Rattle.turn_laws.specs.Laws.{state_fits_at}
use Rattle.turn_laws.proofs.Found.{keyed, at, supervisor_law, supervisor_move_lem, disabling_law}

-- an 8-byte field of what is not found has no bit
bit_found : (l : Option Record) (e : ℕ) → bit (field_of word_field l) e ≡ true → T (found l)
unfolding found field_of
bit_found (Some r) e b = tt
bit_found None e b = absurd (subst T (bit_none e) (holds _ b))

-- a set bit of a mask of 64 bits is one of them
bit_below : (m e : ℕ) → m < 2 ^ 64 → bit m e ≡ true → e < 64
bit_below m e h b = go (ltb e 64) refl
  where
    go : (t : Bool) → ltb e 64 ≡ t → e < 64
    go true q = ltb-true e 64 q
    go false q = absurd (subst T (bit_above 64 m e h (ltb-false e 64 q)) (holds _ b))

-- a test that is asked only under another one holds if it holds there
pub asked : (a b : Bool) → (a ≡ true → b ≡ true) → cond a b true ≡ true
asked true b h = h refl
asked false b h = refl

module _ (rs : List Record) (plan : Sound rs) where
  -- ---- numbers that the head promises

  pub event_owner : (e : ℕ) → e < events_of rs → owner_of rs e < modules_of rs
  unfolding key_of field_of field2
  event_owner e h =
      let r = plan.the_event e h in
      subst (λ (l : Option Record). field_of field2 l < modules_of rs) (sym (plan.finds (Event e r.owner r.class) r.listed)) r.owner_below

  -- the record of a module or supervisor has its initial state below its states
  start_below : (r : Record) → r ∈ rs → field3 r < field2 r → ltb (field_of field3 (find_in (key_of r) rs)) (field_of field2 (find_in (key_of r) rs)) ≡ true
  unfolding field_of
  start_below r n h = subst (λ (l : Option Record). ltb (field_of field3 l) (field_of field2 l) ≡ true) (sym (plan.finds r n)) (lt-ltb (field3 r) (field2 r) h)

  pub module_start_lem : (m : ℕ) → m < modules_of rs → module_state rs m (module_initial rs m) ≡ true
  unfolding key_of field2 field3
  module_start_lem m h = let r = plan.the_module m h in start_below (Module m r.states r.initial) r.listed r.initial_below

  pub supervisor_start_lem : (v : ℕ) → state_fits_at rs v (supervisor_initial rs v) ≡ true
  unfolding key_of field2 field3
  supervisor_start_lem v =
      asked (ltb v (supervisors_of rs)) (supervisor_state rs v (supervisor_initial rs v)) (λ h.
      let r = plan.the_supervisor v (ltb-true v (supervisors_of rs) h) in
      start_below (Supervisor v r.states r.initial r.alphabet) r.listed r.initial_below)

  pub supervisor_moved : (v x e y : ℕ) → supervisor_move rs v x e ≡ Some y → state_fits_at rs v y ≡ true
  supervisor_moved v x e y q =
      asked (ltb v (supervisors_of rs)) (supervisor_state rs v y) (λ h. lt-ltb y (field_of field2 (supervisor_in rs v)) (supervisor_move_lem rs plan v x e y q).to)

  pub alphabet_supervisor : (v e : ℕ) → in_alphabet rs v e ≡ true → v < supervisors_of rs
  alphabet_supervisor v e b = (supervisor_law rs plan v (bit_found (supervisor_in rs v) e b)).number

module _ (rs : List Record) (plan : Sound rs) (fit : AllFit rs) where
  -- ---- masks, which are words of 64 bits

  word_small : (l : Option Record) → (T (found l) → field_of word_field l < 2 ^ 64) → field_of word_field l < 2 ^ 64
  unfolding found field_of
  word_small (Some r) h = h tt
  word_small None h = pow_pos 64

  pub shown_small : (v x : ℕ) → shown rs v x < 2 ^ 64
  unfolding field_of word_field
  shown_small v x =
      let p = key_by 0x16 v x 0 in
      word_small (find_in p rs) (at rs plan p (λ l. field_of word_field l < 2 ^ 64) (λ r n. (fit (keyed p r) n).2))

  alphabet_small : (v : ℕ) → alphabet_of rs v < 2 ^ 64
  unfolding field_of word_field
  alphabet_small v =
      let p = key_by 0x14 v 0 0 in
      word_small (find_in p rs) (at rs plan p (λ l. field_of word_field l < 2 ^ 64) (λ r n. (fit (keyed p r) n).3))

  disabled : (v x e : ℕ) → bit (shown rs v x) e ≡ true → DisabledLaw rs v e
  disabled v x e b =
      (disabling_law rs plan v x (bit_found (find_in (key_by 0x16 v x 0) rs) e b)).mask e (bit_below (shown rs v x) e (shown_small v x) b) b

  pub shown_in_alphabet : (v x e : ℕ) → bit (shown rs v x) e ≡ true → in_alphabet rs v e ≡ true
  shown_in_alphabet v x e b = (disabled v x e b).in_alphabet_lem

  pub shown_controllable : (v x e : ℕ) → bit (shown rs v x) e ≡ true → controllable rs e ≡ true
  shown_controllable v x e b = (disabled v x e b).class

  pub alphabet_event : (v e : ℕ) → in_alphabet rs v e ≡ true → e < events_of rs
  alphabet_event v e b = (supervisor_law rs plan v (bit_found (supervisor_in rs v) e b)).alphabet e (bit_below (alphabet_of rs v) e (alphabet_small v) b) b
