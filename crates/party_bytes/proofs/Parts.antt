-- `ModuleParts` and `SupervisorParts` of specs/.
use mathlib.Core.Path.{◌≡◌, refl, sym, ap, ap₂, ◌∙◌}
use mathlib.Core.List.{List, [], ◌∷◌, ◌++◌, append_assoc}
use mathlib.Core.Bool.{Bool, true, false, not, ◌&&◌, ◌||◌}
use Prim.Native.Nat.{ℕ, zero, suc, ◌+◌, ◌^◌, ◌<◌}
use native.Mathlib.Omega.{arith}
use lib.ListN.{length, get_or, drop, length-append}
use lib.Dec.{eqb}
use lib.Seq.{get_or-drop, drop_at}
use borrow.Author.Tests.{eq-eqb, eqb-true, ltb-true}
use Rattle.words.specs.Word.{quad_at, quad_bytes, word_at, word_bytes}
use Rattle.words.proofs.Laws.{length_quad, quad_drop, quad_read, word_drop, word_read, length_word}
use Rattle.records.specs.declared.Record.{Record}
use Rattle.roundtrip.specs.Fits.{Bytes}
use Rattle.rules.specs.LookUp.{supervisor_state}
use Rattle.plan.specs.Plan.{neighbours}
use Rattle.modules.specs.declared.Own.{Own}
use Rattle.bits.specs.Bit.{bit, all_below}
use Rattle.permits.specs.Names.{neighbours?}
use Rattle.permits.specs.Module.{held_in, fits_in, module_fits}
use Rattle.permits.specs.Supervisor.{holder_fits, supervisor_fits}
use Rattle.permits.specs.declared.Module.{Module}
use Rattle.permits.specs.declared.Holder.{Holder}
use Rattle.permits.specs.declared.Holder.TheVariants.{Home, Out}
use Rattle.fields.specs.Fields.{bytes_from, half_bytes, half_at, flag_byte, flag_of, is_flag}
use Rattle.fields.proofs.Back.{and_left, and_right, from_all, flag_written, half_written, quad_written, word_from, flag_read, flag_is, half_read}
use Rattle.own_bytes.specs.Own.{own_size, own_bytes, own_of, is_own}
use Rattle.own_bytes.proofs.Writing.{length_own}
use Rattle.own_bytes.proofs.Parts.{own_parts}
use Rattle.party_bytes.specs.Module.{module_size, module_bytes, module_at, is_module, unfit_module, ModuleEncodable, ModuleParts}
use Rattle.party_bytes.specs.Supervisor.{supervisor_size, is_out, holder_byte, holder_of, supervisor_bytes, supervisor_at, is_supervisor, unfit_supervisor, SupervisorParts}
use Rattle.party_bytes.proofs.Laws.{length_module, length_supervisor}

-- ---- a module

-- its bytes behind the own part, and behind the permits held, and the last
module _ (x : Module) (n : length x.own.queue ≡ 8) where
  abbrev a : List ℕ
  a = own_bytes x.own

  abbrev b : List ℕ
  b = quad_bytes x.held

  abbrev c : List ℕ
  c = word_bytes x.received

  abbrev d : List ℕ
  d = flag_byte x.bid ∷ []

  from_own : module_bytes x ≡ a ++ (b ++ (c ++ d))
  unfolding module_bytes
  from_own = append_assoc (a ++ b) c d ∙ append_assoc a b (c ++ d)

  from_held : drop own_size (module_bytes x) ≡ b ++ (c ++ d)
  from_held = ap (drop own_size) from_own ∙ drop_at a (b ++ (c ++ d)) own_size (length_own x.own n)

  from_received : drop (own_size + 4) (module_bytes x) ≡ c ++ d
  unfolding module_bytes
  from_received =
      let l : length (a ++ b) ≡ own_size + 4 = omega (arith, length-append a b, length_own x.own n, length_quad x.held) in
      ap (drop (own_size + 4)) (append_assoc (a ++ b) c d) ∙ drop_at (a ++ b) (c ++ d) (own_size + 4) l

  from_bid : drop (own_size + 12) (module_bytes x) ≡ d
  unfolding module_bytes
  from_bid =
      let l : length (a ++ b ++ c) ≡ own_size + 12 = omega (arith, length-append a b, length-append (a ++ b) c, length_own x.own n, length_quad x.held, length_word x.received) in
      drop_at (a ++ b ++ c) d (own_size + 12) l

  bid_byte : get_or (module_bytes x) (own_size + 12) 0 ≡ flag_byte x.bid
  bid_byte = sym (get_or-drop (own_size + 12) (module_bytes x) 0 0) ∙ ap (λ (s : List ℕ). get_or s 0 0) from_bid

module_stands : (x : Module) → ModuleEncodable x → is_module (module_bytes x) ≡ true
unfolding is_module
module_stands x h =
    let n : length x.own.queue ≡ 8 = h.own.cells in
    ap₂ ◌&&◌
    (ap₂ ◌&&◌ (eq-eqb (length (module_bytes x)) module_size (length_module x n)) (ap is_own (from_own x n) ∙ (own_parts.read x.own (b x n ++ (c x n ++ d x n)) h.own).stands))
    (ap is_flag (bid_byte x n) ∙ flag_is x.bid)

module_back : (x : Module) → ModuleEncodable x → module_at (module_bytes x) ≡ x
unfolding module_at
module_back x h =
    let n : length x.own.queue ≡ 8 = h.own.cells in
    let own : own_of (module_bytes x) ≡ x.own = ap own_of (from_own x n) ∙ (own_parts.read x.own (b x n ++ (c x n ++ d x n)) h.own).back in
    let held : quad_at (module_bytes x) own_size ≡ x.held = sym (quad_drop own_size (module_bytes x) 0) ∙ ap (λ (s : List ℕ). quad_at s 0) (from_held x n) ∙ quad_read x.held (c x n ++ d x n) h.held in
    let received : word_at (module_bytes x) (own_size + 4) ≡ x.received = sym (word_drop (own_size + 4) (module_bytes x) 0) ∙ ap (λ (s : List ℕ). word_at s 0) (from_received x n) ∙ word_read x.received (d x n) h.received in
    let bid : flag_of (get_or (module_bytes x) (own_size + 12) 0) ≡ x.bid = ap flag_of (bid_byte x n) ∙ flag_read x.bid in
    ap₂ (λ (y : Own) (z : ℕ). record { own = y; held = z; received = word_at (module_bytes x) (own_size + 4); bid = flag_of (get_or (module_bytes x) (own_size + 12) 0) }) own held
    ∙ ap₂ (λ (y : ℕ) (z : Bool). record { own = x.own; held = x.held; received = y; bid = z }) received bid

module_written : (s : List ℕ) → Bytes s → is_module s ≡ true → module_bytes (module_at s) ≡ s
unfolding is_module module_bytes module_at bytes_from
module_written s g h =
    let L : Bool = eqb (length s) module_size in
    let O : Bool = is_own s in
    let F : Bool = is_flag (get_or s (own_size + 12) 0) in
    let l : length s ≡ module_size = eqb-true (length s) module_size (and_left L O (and_left (L && O) F h)) in
    let o : O ≡ true = and_right L O (and_left (L && O) F h) in
    let f : F ≡ true = and_right (L && O) F h in
    ap₂ (λ (y : List ℕ) (z : ℕ). y ++ (z ∷ []))
    (ap₂ (λ (y z : List ℕ). y ++ z) (ap₂ (λ (y z : List ℕ). y ++ z) (own_parts.written s g o) (quad_written s g own_size)) (word_from s g (own_size + 4)))
    (flag_written (get_or s (own_size + 12) 0) f)
    ∙ ap (bytes_from s 0) (sym l) ∙ from_all s

and_false : (p : Bool) → (p && false) ≡ false
and_false true = refl
and_false false = refl

module_unfit : (rs : List Record) (m : ℕ) → module_fits rs m unfit_module ≡ false
unfolding fits_in
module_unfit rs m =
    ap (λ (t : Bool). held_in (neighbours rs m) 0 && true && true && t) (own_parts.unfit rs m) ∙ and_false (held_in (neighbours rs m) 0 && true && true)

pub module_parts : ModuleParts
module_parts = record { stands = module_stands; back = module_back; written = module_written; size = length_module; unfit = module_unfit }

-- ---- a supervisor, by its holder

module _ (st n l : ℕ) where
  abbrev bytes_by : Holder → List ℕ
  bytes_by h = st ∷ (half_bytes n ++ (flag_byte (is_out h) ∷ holder_byte h ∷ l ∷ []))

  stands_by : (h : Holder) → is_supervisor (bytes_by h) ≡ true
  unfolding is_supervisor half_bytes is_out holder_byte
  stands_by Home = refl
  stands_by (Out m) = refl

  back_by : n < 2 ^ 16 → (h : Holder) → supervisor_at (bytes_by h) ≡ record { state = st; noted = n; holder = h; last = l }
  unfolding supervisor_at half_at half_bytes is_out holder_byte holder_of
  back_by k Home = ap (λ (j : ℕ). record { state = st; noted = j; holder = Home; last = l }) (half_read n [] k)
  back_by k (Out m) = ap (λ (j : ℕ). record { state = st; noted = j; holder = Out m; last = l }) (half_read n [] k)

-- the two bytes of a holder
module _ (m : ℕ) where
  out_written : (f : ℕ) → is_flag f ≡ true → flag_byte (is_out (holder_of (flag_of f) m)) ≡ f
  unfolding is_out holder_of
  out_written zero h = refl
  out_written (suc zero) h = refl
  out_written (suc (suc f)) h = absurd (let l : suc (suc f) < 2 = ltb-true (suc (suc f)) 2 h in omega arith)

  holder_written : (f : ℕ) → is_flag f ≡ true → (flag_of f || eqb m 0) ≡ true → holder_byte (holder_of (flag_of f) m) ≡ m
  unfolding holder_byte holder_of
  holder_written zero h k = sym (eqb-true m 0 k)
  holder_written (suc zero) h k = refl
  holder_written (suc (suc f)) h k = absurd (let l : suc (suc f) < 2 = ltb-true (suc (suc f)) 2 h in omega arith)

supervisor_written : (s : List ℕ) → Bytes s → is_supervisor s ≡ true → supervisor_bytes (supervisor_at s) ≡ s
unfolding is_supervisor supervisor_bytes supervisor_at bytes_from
supervisor_written s g h =
    let L : Bool = eqb (length s) supervisor_size in
    let F : Bool = is_flag (get_or s 3 0) in
    let H : Bool = flag_of (get_or s 3 0) || eqb (get_or s 4 0) 0 in
    let l : length s ≡ supervisor_size = eqb-true (length s) supervisor_size (and_left L F (and_left (L && F) H h)) in
    let f : F ≡ true = and_right L F (and_left (L && F) H h) in
    let k : H ≡ true = and_right (L && F) H h in
    ap₂ (λ (y z : List ℕ). get_or s 0 0 ∷ (y ++ z)) (half_written s g 1)
    (ap₂ (λ (y z : ℕ). y ∷ z ∷ get_or s 5 0 ∷ []) (out_written (get_or s 4 0) (get_or s 3 0) f) (holder_written (get_or s 4 0) (get_or s 3 0) f k))
    ∙ ap (bytes_from s 0) (sym l) ∙ from_all s

supervisor_unfit : (rs : List Record) (v : ℕ) → supervisor_fits rs v unfit_supervisor ≡ false
unfolding supervisor_fits
supervisor_unfit rs v = and_false (supervisor_state rs v 0 && all_below (λ m. not (bit 0 m) || neighbours? rs m v) 16 && holder_fits rs v Home)

pub supervisor_parts : SupervisorParts
supervisor_parts =
    record {
      stands = λ y h. unfold supervisor_bytes in stands_by y.state y.noted y.last y.holder;
      back = λ y h. unfold supervisor_bytes in back_by y.state y.noted y.last h.noted y.holder;
      written = supervisor_written;
      size = length_supervisor;
      unfit = supervisor_unfit;
    }
