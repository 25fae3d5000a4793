-- A stretch of records of one kind: each record that is passed is whole and not faulty.
use Rattle.std.specs.Prelude.{Ok}
use Rattle.std.proofs.Common.{◌≡◌, ℕ, ◌+◌, ◌-◌, ◌*◌, ◌%◌, ◌^◌, ◌<◌, ◌≤◌, Bool, true, false, cond, not, ◌&&◌, ◌||◌, eqb, ltb, leb, ◌⊎◌, List, length, get_or, drop, set, sym, refl, ap, ◌∙◌, subst, inl, inr, le_refl, lt_of_le_of_lt, mod-eq_of_lt, arith, leb→le, get_or-drop, ltb-false, ltb-true, lt-ltb, eq-eqb, ne_eqb, eqb-true, leb-true}
use mathlib.Core.Bool.{false≢true, and-true, and-false}
use lib.Seq.{sets}
use borrow.Author.Tests.{not-false, lt-leb}
use lib.Bits.{bit_and}
use Rattle.bits.specs.Bit.{bit, all_below, every_event, put_bit}
use Rattle.bits.proofs.Laws.{all_at, bit_and_lem, bit_above, bit_low_ones, shl_one}
use Rattle.words.specs.Word.{put_at, word_at, word_bytes}
use Rattle.words.proofs.Laws.{word_drop, length_word, put_sets}
use Rattle.context_bytes.specs.Encoding.{alphabets}
use Rattle.context_bytes.proofs.Regions.{words_at, words_set}
use Rattle.records.specs.Kinds.{kind_of, body_len, no_len, size_by}
use Rattle.records.specs.Key.{key_by, key_of, precedes}
use Rattle.records.specs.Range.{in_range}
use Rattle.records.specs.declared.Record.{Record}
use Rattle.records.specs.declared.Record.TheVariants.{Head, Event, Module, ModuleMove, Supervisor, SupervisorMove, Disabling, Step, Marking}
use Rattle.records.specs.declared.RecordKey.{RecordKey}
use Rattle.reader.specs.Read.{record_of, read_at}
use Rattle.reader.specs.Walk.{walk_from}
use Rattle.reader.proofs.Reading.{walks_by, shapes_whole, reads_by}
use Rattle.places.specs.Places.{place_by, noted_at, noted_in}
use Rattle.places.specs.declared.Places.{Places}
use Rattle.context.specs.declared.Counts.{Counts}
use Rattle.context.specs.declared.Events.{Events}
use Rattle.context.specs.declared.Context.{Context}
use Rattle.context.specs.Context.{with_entry, with_bit, counts_after, events_after, modules_after, supervisors_after, with_record, owner_at, steps_at}
use Rattle.judge.proofs.Represents.{both}
use Rattle.judge.specs.Judge.{index_by, order_by, names_by, rules_by, all_by, judge_by}
use Rattle.record_tests.specs.declared.Fields.{Fields}
use Rattle.record_tests.specs.Tests.{stands_at, fields_at, supervisor_kept, move_named, disabling_named, respond_fits, step_kept}
use Rattle.checker.specs.Stretch.{rest_of, Stretch, Passed, noted_past, at_events, at_modules, at_module_moves, at_supervisors, at_disablings, at_steps}
use Rattle.checker.specs.Stretch.{Below}

-- ---- what stands at an offset

pub record Whole-there (s : List ℕ) (i k n : ℕ) : Type 0 where
  pub kind : get_or s i 0 ≡ k
  pub fits : i + n ≤ length s
  pub inside : i < length s

pub stands_there : (s : List ℕ) (i k n : ℕ) → stands_at s i k n ≡ true → Whole-there s i k n
unfolding stands_at
stands_there s i k n e = go (ltb i (length s)) refl e
  where
    go : (b : Bool) → ltb i (length s) ≡ b → cond b (leb n (length s - i) && eqb (get_or s i 0) k) false ≡ true → Whole-there s i k n
    go true p q =
        let l : i < length s = ltb-true _ _ p in
        let b = both (leb n (length s - i)) (eqb (get_or s i 0) k) q in
        let m : n ≤ length s - i = leb-true _ _ b.0 in
        record { kind = eqb-true _ _ b.1; fits = omega arith; inside = l }
    go false p q = absurd (false≢true q)

stands_told : (s : List ℕ) (i k n : ℕ) {t : Bool} → t ≡ stands_at s i k n → t ≡ true → Whole-there s i k n
stands_told s i k n e h = stands_there s i k n (sym e ∙ h)

-- the kinds from the events to the steps have three fields or more: a test that is computed at each of them
long : (k n : ℕ) → n ≡ size_by k → 0x11 ≤ k → k ≤ 0x17 → 4 ≤ n
unfolding body_len all_below
long k n e a b =
    let t : 3 ≤ body_len (0x11 + (k - 0x11)) = leb→le _ _ (all_at (λ (j : ℕ). leb 3 (body_len (0x11 + j))) 7 tt (k - 0x11) (omega arith)) in
    let w : 0x11 + (k - 0x11) ≡ k = omega arith in
    let l : 3 ≤ body_len k = subst (λ (x : ℕ). 3 ≤ body_len x) w t in
    omega (arith, e)

module _ (s : List ℕ) (i k n : ℕ) {t : Bool} (e : t ≡ stands_at s i k n) (h : t ≡ true) where
  room_by : i + n ≤ length s
  room_by = (stands_told s i k n e h).fits

  pub fits_by : length s < 2 ^ 64 → i + n < 2 ^ 64
  fits_by l = lt_of_le_of_lt room_by l

  -- n is the size that the table gives
  module _ (z : n ≡ size_by k) where
    pub further_by : length s - (i + n) < length s - i
    further_by = let r : i + n ≤ length s = room_by in omega (arith, z)

    pub fields_by : 0x11 ≤ k → k ≤ 0x17 → i + 4 ≤ length s
    fields_by a b = let r : i + n ≤ length s = room_by in let l : 4 ≤ n = long k n z a b in omega arith

    -- eight bytes within the record
    pub word_by : (m : ℕ) → m + 8 ≤ size_by k → i + m + 8 ≤ length s
    word_by m q = let r : i + n ≤ length s = room_by in omega (arith, z)

    -- a field's offset
    pub inside_by : (m : ℕ) → 0x11 ≤ k → k ≤ 0x17 → m ≤ 4 → length s < 2 ^ 64 → i + m < 2 ^ 64
    inside_by m a b q l = let r : i + 4 ≤ length s = fields_by a b in let t : i + m ≤ length s = omega arith in lt_of_le_of_lt t l

-- the offset of a marking's field
module _ (s : List ℕ) (i n : ℕ) {t : Bool} (e : t ≡ stands_at s i 0x18 n) (h : t ≡ true) (z : n ≡ size_by 0x18) (m : ℕ) (a : m ≤ 2) where
  pub marking_inside : i + m < length s
  unfolding body_len
  marking_inside = let r : i + n ≤ length s = room_by s i 0x18 n e h in omega (arith, z)

  pub marking_fits : length s < 2 ^ 64 → i + m < 2 ^ 64
  marking_fits l = let b : i + m < length s = marking_inside in let t : i + m ≤ length s = omega arith in lt_of_le_of_lt t l

pub reads_whole : (s : List ℕ) (i k n : ℕ) → Whole-there s i k n → (body_len k ≡ no_len → ⊥) → n ≡ size_by k
    → read_at s i ≡ Ok (record_of k (drop (i + 1) s), i + n)
reads_whole s i k n w u e =
    let g : get_or s i 0 ≡ k = w.kind in
    let f : i + n ≤ length s = w.fits in
    let h : body_len (get_or s i 0) ≤ length s - (i + 1) = subst (λ (x : ℕ). body_len x ≤ length s - (i + 1)) (sym g) (omega arith) in
    reads_by s i (sym (shapes_whole s i w.inside (subst (λ (x : ℕ). body_len x ≡ no_len → ⊥) (sym g) u) h))
    ∙ ap (λ (x : ℕ). (Ok (record_of x (drop (i + 1) s), i + 1 + body_len x))) g
    ∙ ap (λ (x : ℕ). (Ok (record_of k (drop (i + 1) s), x))) (omega arith)

field_at : (s : List ℕ) (j a b : ℕ) → b ≡ 1 + a → get_or (drop (j + 1) s) a 0 ≡ get_or s (j + b) 0
field_at s j a b e = get_or-drop (j + 1) s a 0 ∙ ap (λ (x : ℕ). get_or s x 0) (omega arith)

word_at_lem : (s : List ℕ) (j a b : ℕ) → b ≡ 1 + a → word_at (drop (j + 1) s) a ≡ word_at s (j + b)
word_at_lem s j a b e = word_drop (j + 1) s a ∙ ap (word_at s) (omega arith)

-- the record of each kind, by its fields
module _ (s : List ℕ) (j : ℕ) {f : Fields} (g : f ≡ fields_at s j) where
  pub reads_head : {n : ℕ} → n ≡ size_by 0x10 → Whole-there s j 0x10 n → read_at s j ≡ Ok (Head f.first f.second f.third, j + n)
  unfolding record_of body_len
  reads_head {n} z w =
      reads_whole s j 0x10 n w (λ q. absurd (omega arith)) z
      ∙ simp (field_at s j 0 1 refl, field_at s j 1 2 refl, field_at s j 2 3 refl)
      (ap (λ (x : Fields). (Ok (Head x.first x.second x.third, j + n))) (sym g))

  reads_event : {n : ℕ} → n ≡ size_by 0x11 → Whole-there s j 0x11 n → read_at s j ≡ Ok (Event f.first f.second f.third, j + n)
  unfolding record_of body_len
  reads_event {n} z w =
      reads_whole s j 0x11 n w (λ q. absurd (omega arith)) z
      ∙ simp (field_at s j 0 1 refl, field_at s j 1 2 refl, field_at s j 2 3 refl)
      (ap (λ (x : Fields). (Ok (Event x.first x.second x.third, j + n))) (sym g))

  reads_module : {n : ℕ} → n ≡ size_by 0x12 → Whole-there s j 0x12 n → read_at s j ≡ Ok (Module f.first f.second f.third, j + n)
  unfolding record_of body_len
  reads_module {n} z w =
      reads_whole s j 0x12 n w (λ q. absurd (omega arith)) z
      ∙ simp (field_at s j 0 1 refl, field_at s j 1 2 refl, field_at s j 2 3 refl)
      (ap (λ (x : Fields). (Ok (Module x.first x.second x.third, j + n))) (sym g))

  reads_module_move : {n : ℕ} → n ≡ size_by 0x13 → Whole-there s j 0x13 n → read_at s j ≡ Ok (ModuleMove f.first f.second f.third f.fourth, j + n)
  unfolding record_of body_len
  reads_module_move {n} z w =
      reads_whole s j 0x13 n w (λ q. absurd (omega arith)) z
      ∙ simp (field_at s j 0 1 refl, field_at s j 1 2 refl, field_at s j 2 3 refl, field_at s j 3 4 refl)
      (ap (λ (x : Fields). (Ok (ModuleMove x.first x.second x.third x.fourth, j + n))) (sym g))

  reads_supervisor : {n : ℕ} → n ≡ size_by 0x14 → Whole-there s j 0x14 n → read_at s j ≡ Ok (Supervisor f.first f.second f.third (word_at s (j + 4)), j + n)
  unfolding record_of body_len
  reads_supervisor {n} z w =
      reads_whole s j 0x14 n w (λ q. absurd (omega arith)) z
      ∙ simp (field_at s j 0 1 refl, field_at s j 1 2 refl, field_at s j 2 3 refl, word_at_lem s j 3 4 refl)
      (ap (λ (x : Fields). (Ok (Supervisor x.first x.second x.third (word_at s (j + 4)), j + n))) (sym g))

  reads_supervisor_move : {n : ℕ} → n ≡ size_by 0x15 → Whole-there s j 0x15 n → read_at s j ≡ Ok (SupervisorMove f.first f.second f.third f.fourth, j + n)
  unfolding record_of body_len
  reads_supervisor_move {n} z w =
      reads_whole s j 0x15 n w (λ q. absurd (omega arith)) z
      ∙ simp (field_at s j 0 1 refl, field_at s j 1 2 refl, field_at s j 2 3 refl, field_at s j 3 4 refl)
      (ap (λ (x : Fields). (Ok (SupervisorMove x.first x.second x.third x.fourth, j + n))) (sym g))

  reads_disabling : {n : ℕ} → n ≡ size_by 0x16 → Whole-there s j 0x16 n → read_at s j ≡ Ok (Disabling f.first f.second (word_at s (j + 3)), j + n)
  unfolding record_of body_len
  reads_disabling {n} z w =
      reads_whole s j 0x16 n w (λ q. absurd (omega arith)) z
      ∙ simp (field_at s j 0 1 refl, field_at s j 1 2 refl, word_at_lem s j 2 3 refl)
      (ap (λ (x : Fields). (Ok (Disabling x.first x.second (word_at s (j + 3)), j + n))) (sym g))

  reads_step : {n : ℕ} → n ≡ size_by 0x17 → Whole-there s j 0x17 n → read_at s j ≡ Ok (Step f.first f.second f.third (word_at s (j + 4)), j + n)
  unfolding record_of body_len
  reads_step {n} z w =
      reads_whole s j 0x17 n w (λ q. absurd (omega arith)) z
      ∙ simp (field_at s j 0 1 refl, field_at s j 1 2 refl, field_at s j 2 3 refl, word_at_lem s j 3 4 refl)
      (ap (λ (x : Fields). (Ok (Step x.first x.second x.third (word_at s (j + 4)), j + n))) (sym g))

reads_marking : (s : List ℕ) (j : ℕ) {n : ℕ} → n ≡ size_by 0x18 → Whole-there s j 0x18 n → read_at s j ≡ Ok (Marking (get_or s (j + 1) 0) (get_or s (j + 2) 0), j + n)
unfolding record_of body_len
reads_marking s j {n} z w = reads_whole s j 0x18 n w (λ q. absurd (omega arith)) z ∙ simp (field_at s j 0 1 refl, field_at s j 1 2 refl)

-- an index into a table, by the tests before it
pub index_by_lem : (k e m : ℕ) (o w : Bool) → k ≡ e → not ((o && ltb e m) && w) ≡ false → k < m
index_by_lem k e m o w q h =
    let l : e < m = ltb-true e m (both o (ltb e m) (both (o && ltb e m) w (not-false _ h)).0).1 in
    omega arith

-- the same into a list of that many
pub index_in : (l : List ℕ) (k e m : ℕ) (o w : Bool) → length l ≡ m → k ≡ e → not ((o && ltb e m) && w) ≡ false → k < length l
index_in l k e m o w n q h = let i : k < m = index_by_lem k e m o w q h in omega (arith, n)

-- the alphabet of a supervisor, in bytes
pub own_at_lem : (l : List ℕ) (k e : ℕ) {own : ℕ} → own ≡ word_at l (k * 8) → k ≡ e → e < 32 → own ≡ get_or (alphabets l) k 0
own_at_lem l k e w q h = w ∙ ap (word_at l) (let z : k * 8 ≡ 0 + k * 8 = omega arith in z) ∙ sym (words_at l 0 32 k (omega arith))

pub own_room : (l : List ℕ) (k e : ℕ) → length l ≡ 256 → k ≡ e → e < 32 → k * 8 + 8 ≤ length l
own_room l k e n q h = omega (arith, n)

pub own_put : (l : List ℕ) (k e x : ℕ) (o w : Bool) {next : List ℕ} → length l ≡ 256 → x < 2 ^ 64 → k ≡ e → not ((o && ltb e 32) && w) ≡ false → next ≡ put_at (word_bytes x) (k * 8) l
    → alphabets next ≡ set (alphabets l) k x
own_put l k e x o w n f q h p =
    let i : k < 32 = index_by_lem k e 32 o w q h in
    let m : length (word_bytes x) ≡ 8 = length_word x in
    let z : k * 8 ≡ 0 + k * 8 = omega arith in
    ap alphabets (p ∙ put_sets (word_bytes x) (k * 8) l (omega (arith, n, m))) ∙ ap (λ (y : ℕ). alphabets (sets l y (word_bytes x))) z
    ∙ words_set l x f 0 32 k i (omega (arith, n))

-- ---- the places

none_between : (k j : ℕ) → (ltb k j && leb j k) ≡ false
none_between k j = go (ltb k j) refl
  where
    go : (b : Bool) → ltb k j ≡ b → (b && leb j k) ≡ false
    go true e = lt-leb j k (ltb-true k j e)
    go false e = refl

-- a record of the last one's kind begins no kind
noted_same : (p : Places) (k at : ℕ) → noted_at p k k at ≡ p
unfolding noted_at place_by
noted_same p k at = simp none_between

-- a stretch and one record more of its kind
noted_again : (p : Places) (a b k i j : ℕ) → ((b ≡ k) × (i < j)) ⊎ ((i ≡ j) × (b ≡ a)) → noted_at (noted_at p a b i) b k j ≡ noted_at p a k i
noted_again p a b k i j (inl e) = ap (λ (x : ℕ). noted_at (noted_at p a x i) x k j) e.0 ∙ noted_same (noted_at p a k i) k j
noted_again p a b k i j (inr e) =
    ap (λ (x : ℕ). noted_at (noted_at p a x i) x k j) e.1
    ∙ ap (λ (q : Places). noted_at q a k j) (noted_same p a i)
    ∙ ap (λ (x : ℕ). noted_at p a k x) (sym e.0)

-- the places after a stretch
pub noted_past_lem : (p : Places) (a b k i j : ℕ) → ((b ≡ k) × (i < j)) ⊎ ((i ≡ j) × (b ≡ a)) → noted_past p a k i j ≡ noted_at p a b i
unfolding noted_past
noted_past_lem p a b k i j (inl e) = let l : i < j = e.1 in simp (ne_eqb j i (λ z. absurd (omega arith))) (ap (λ (x : ℕ). noted_at p a x i) (sym e.0))
noted_past_lem p a b k i j (inr e) = simp (eq-eqb j i (sym e.0)) (sym (noted_same p a i) ∙ ap (λ (x : ℕ). noted_at p a x i) (sym e.1))

-- ---- one record more

pub begins_stretch : (s : List ℕ) (k : ℕ) (c : Context → Context) (i : ℕ) → Passed s k c i c i
unfolding Passed
begins_stretch s k c i r =
    record {
      further = le_refl i;
      same = refl;
      notes = λ p. ap (λ (q : Places). noted_in q (c r).last.kind (walk_from s i)) (noted_same p (c r).last.kind i);
      some = inr (refl, refl);
    }

module _ (s : List ℕ) (k : ℕ) {c d : Context} {i j : ℕ} where
  reaches : (m : ℕ) {r : Record} → read_at s j ≡ Ok (r, m) → j < m → judge_by d r ≡ 0 → kind_of r ≡ k → (key_of r).kind ≡ k → (k ≡ 0x1f → ⊥)
      → Stretch s k c i d j → Stretch s k c i (with_record d r) m
  unfolding rest_of noted_in
  reaches m {r} e l z f g u h =
      let w = walks_by s j refl e in
      let a : i ≤ j = h.further in
      let v : kind_of r ≡ 0x1f → ⊥ = λ q. u (sym f ∙ q) in
      let t : (p : Places) → noted_at (noted_at p c.last.kind d.last.kind i) d.last.kind k j ≡ noted_at p c.last.kind k i = λ p.
      noted_again p c.last.kind d.last.kind k i j h.some
      in
      record {
        further = omega arith;
        same = sym (ap (rest_of d) w ∙ simp (z, ne_eqb _ _ v)) ∙ h.same;
        notes = λ p.
            ap (λ (x : ℕ). noted_in (noted_at p c.last.kind x i) x (walk_from s m)) g
            ∙ ap (λ (q : Places). noted_in q k (walk_from s m)) (sym (t p))
            ∙ ap (λ (x : ℕ). noted_in (noted_at (noted_at p c.last.kind d.last.kind i) d.last.kind x j) x (walk_from s m)) (sym f)
            ∙ sym (ap (noted_in (noted_at p c.last.kind d.last.kind i) d.last.kind) w)
            ∙ h.notes p;
        some = inl (g, omega arith);
      }

-- what a move names, by masks of the numbers declared
record Names (f : Fields) (known count st events named : ℕ) : Type 0 where
  pub owner : (ltb f.first count && bit known f.first) ≡ true
  pub from : ltb f.second st ≡ true
  pub event : (ltb f.third named && bit events f.third) ≡ true
  pub to : ltb f.fourth st ≡ true

-- all bits of a mask are below 64
pub all_below_lem : (m n : ℕ) → m < 2 ^ 64 → 64 ≤ n → Below m n m
unfolding Below
all_below_lem m n l h e = go (ltb e n) refl
  where
    go : (b : Bool) → ltb e n ≡ b → bit m e ≡ (bit m e && b)
    go true q = sym (and-true (bit m e))
    go false q = let a : n ≤ e = ltb-false e n q in bit_above 64 m e l (omega arith) ∙ sym (and-false (bit m e))

-- those of a mask and as many ones
pub ones_below : (m n : ℕ) → n < 64 → Below m n (bit_and m ((1 * 2 ^ n) % 2 ^ 64 - 1))
unfolding Below
ones_below m n h e = ap (λ (x : ℕ). bit (bit_and m (x - 1)) e) (shl_one 64 n h) ∙ bit_and_lem m (2 ^ n - 1) e ∙ ap (λ (b : Bool). bit m e && b) (bit_low_ones n e)

below_told : (m n r e : ℕ) → Below m n r → bit r e ≡ true → (ltb e n && bit m e) ≡ true
unfolding Below
below_told m n r e h t = let b = both (bit m e) (ltb e n) (sym (h e) ∙ t) in simp (b.0, b.1)

move_told : (f : Fields) (known count a st events named m : ℕ) → Below known count a → Below events named m → move_named f a st m ≡ true → Names f known count st events named
move_told f known count a st events named m u1 u2 h =
    let x = both (bit a f.first && ltb f.second st && bit m f.third) (ltb f.fourth st) h in
    let y = both (bit a f.first && ltb f.second st) (bit m f.third) x.0 in
    let z = both (bit a f.first) (ltb f.second st) y.0 in
    record { owner = below_told known count a f.first u1 z.0; from = z.1; event = below_told events named m f.third u2 y.1; to = x.1 }

-- the same within an alphabet
and_told : (f : Fields) (a st m x : ℕ) → move_named f a st (bit_and m x) ≡ true → (move_named f a st m ≡ true) × (bit x f.third ≡ true)
and_told f a st m x h =
    let t = both (bit a f.first && ltb f.second st && bit (bit_and m x) f.third) (ltb f.fourth st) h in
    let y = both (bit a f.first && ltb f.second st) (bit (bit_and m x) f.third) t.0 in
    let z = both (bit m f.third) (bit x f.third) (sym (bit_and_lem m x f.third) ∙ y.1) in
    (simp (y.0, z.0, t.1), z.1)

-- what a respond step names
module _ (n : Counts) (ev : Events) (e x : ℕ) where
  abbrev same : ℕ → Bool
  same y = eqb (get_or ev.owner y 0) (get_or ev.owner e 0)

  abbrev declared : Bool
  declared = ltb x n.events && bit ev.known x

  abbrev uncontrollable : Bool
  uncontrollable = not (bit ev.controllable x)

  respond_told : (b : Bool) → (not b || respond_fits x n.events ev.known ev.controllable (same (x % 64))) ≡ true
      → ((not b || cond (ltb x 64) declared false) ≡ true) × ((not b || cond (ltb x 64) (uncontrollable && eqb (owner_at ev x) (owner_at ev e)) false) ≡ true)
  respond_told false h = (refl, refl)
  respond_told true h = go (ltb x 64) refl h
    where
      go : (t : Bool) → ltb x 64 ≡ t → cond t (declared && (uncontrollable && same (x % 64))) false ≡ true
          → (cond t declared false ≡ true) × (cond t (uncontrollable && eqb (owner_at ev x) (owner_at ev e)) false ≡ true)
      go true p q =
          let r = both declared (uncontrollable && same (x % 64)) q in
          let m : x % 64 ≡ x = mod-eq_of_lt (ltb-true x 64 p) in
          (r.0, subst (λ (y : ℕ). uncontrollable && same y ≡ true) m r.1)
      go false p q = absurd (false≢true q)

module _ (s : List ℕ) (c : Context → Context) (i : ℕ) (n : Counts) (p : RecordKey) (j : ℕ) {b : Bool} {f : Fields} {k : ℕ} {o : Bool} {bytes : ℕ} (g : f ≡ fields_at s j) (k1 : k ≡ f.first) where
  pub event_step : (known controllable : ℕ) (owner : List ℕ) {a t : ℕ} → bytes ≡ size_by 0x11 → b ≡ stands_at s j 0x11 bytes → b ≡ true
      → o ≡ precedes p (key_by 0x11 f.first 0 0) → not ((o && ltb f.first 64) && (leb f.third 1 && (ltb f.first n.events && ltb f.second n.modules))) ≡ false
      → a ≡ put_bit known f.first true → t ≡ put_bit controllable f.first (eqb f.third 1)
      → Passed s 0x11 c i (at_events p n known controllable owner) j
      → Passed s 0x11 c i (at_events (key_by 0x11 f.first 0 0) n a t (set owner k f.second)) (j + bytes)
  unfolding Passed at_events judge_by order_by index_by names_by rules_by all_by in_range key_of kind_of counts_after events_after modules_after supervisors_after with_entry with_bit
  event_step known controllable owner {a} {t} sized e b1 o1 h a1 t1 v r =
      let kept : Bool = ltb f.first n.events && ltb f.second n.modules in
      let x = both (o && ltb f.first 64) (leb f.third 1 && kept) (not-false _ h) in
      let q = both o (ltb f.first 64) x.0 in
      let m = both (leb f.third 1) kept x.1 in
      let d = reaches s 0x11 (j + bytes) (reads_event s j g sized (stands_told s j 0x11 bytes e b1)) (omega (arith, sized))
      (simp (sym o1 ∙ q.0, m.0, m.1)) refl refl (λ z. absurd (omega arith)) (v r)
      in
      let w : with_record (at_events p n known controllable owner r) (Event f.first f.second f.third) ≡ at_events (key_by 0x11 f.first 0 0) n a t (set owner k f.second) r =
      simp q.1 cc
      in
      subst (λ (x : Context). Stretch s 0x11 (c r) i x (j + bytes)) w d

  pub module_step : (known : ℕ) (states : List ℕ) {a : ℕ} → bytes ≡ size_by 0x12 → b ≡ stands_at s j 0x12 bytes → b ≡ true
      → o ≡ precedes p (key_by 0x12 f.first 0 0)
      → not ((o && ltb f.first 16) && ((leb 1 f.second && leb f.second 32) && (ltb f.first n.modules && ltb f.third f.second))) ≡ false → a ≡ put_bit known f.first true
      → Passed s 0x12 c i (at_modules p n known states) j
      → Passed s 0x12 c i (at_modules (key_by 0x12 f.first 0 0) n a (set states k f.second)) (j + bytes)
  unfolding Passed at_modules judge_by order_by index_by names_by rules_by all_by in_range key_of kind_of counts_after events_after modules_after supervisors_after with_entry with_bit
  module_step known states {a} sized e b1 o1 h a1 v r =
      let ranged : Bool = leb 1 f.second && leb f.second 32 in
      let kept : Bool = ltb f.first n.modules && ltb f.third f.second in
      let x = both (o && ltb f.first 16) (ranged && kept) (not-false _ h) in
      let q = both o (ltb f.first 16) x.0 in
      let m = both ranged kept x.1 in
      let d = reaches s 0x12 (j + bytes) (reads_module s j g sized (stands_told s j 0x12 bytes e b1)) (omega (arith, sized))
      (simp (sym o1 ∙ q.0, m.0, m.1)) refl refl (λ z. absurd (omega arith)) (v r)
      in
      let w : with_record (at_modules p n known states r) (Module f.first f.second f.third) ≡ at_modules (key_by 0x12 f.first 0 0) n a (set states k f.second) r =
      simp q.1 cc
      in
      subst (λ (x : Context). Stretch s 0x12 (c r) i x (j + bytes)) w d

  pub supervisor_step : (events known : ℕ) (states alphabet : List ℕ) {a x : ℕ} {kept : Bool} → bytes ≡ size_by 0x14 → b ≡ stands_at s j 0x14 bytes → b ≡ true → x ≡ word_at s (j + 4)
      → kept ≡ supervisor_kept f x n events → o ≡ precedes p (key_by 0x14 f.first 0 0) → not ((o && ltb f.first 32) && kept) ≡ false → a ≡ put_bit known f.first true
      → {next : List ℕ} → next ≡ set alphabet k x → Passed s 0x14 c i (at_supervisors p n events known states alphabet) j
      → Passed s 0x14 c i (at_supervisors (key_by 0x14 f.first 0 0) n events a (set states k f.second) next) (j + bytes)
  unfolding Passed at_supervisors judge_by order_by index_by names_by rules_by all_by key_of kind_of counts_after events_after modules_after supervisors_after with_entry with_bit
  supervisor_step events known states alphabet {a} {x} {kept} sized e b1 x1 n1 o1 h a1 {next} put v r =
      let y = both (o && ltb f.first 32) kept (not-false _ h) in
      let q = both o (ltb f.first 32) y.0 in
      let m = both (in_range (Supervisor f.first f.second f.third x)) (ltb f.first n.supervisors && ltb f.third f.second && every_event x (bit events))
      (sym n1 ∙ y.1)
      in
      let d = reaches s 0x14 (j + bytes)
      (reads_supervisor s j g sized (stands_told s j 0x14 bytes e b1) ∙ ap (λ (y : ℕ). (Ok (Supervisor f.first f.second f.third y, j + bytes))) (sym x1)) (omega (arith, sized))
      (simp (sym o1 ∙ q.0, m.0, m.1)) refl refl (λ z. absurd (omega arith)) (v r)
      in
      let w : with_record (at_supervisors p n events known states alphabet r) (Supervisor f.first f.second f.third x)
      ≡ at_supervisors (key_by 0x14 f.first 0 0) n events a (set states k f.second) next r = simp q.1 cc
      in
      subst (λ (x : Context). Stretch s 0x14 (c r) i x (j + bytes)) w d

  pub module_move_step : (events : ℕ) (owner : List ℕ) (known : ℕ) (states : List ℕ) (a m : ℕ) {y : ℕ} {kept : Bool} → Below known n.modules a → Below events n.events m
      → bytes ≡ size_by 0x13 → b ≡ stands_at s j 0x13 bytes → b ≡ true → f.first < 16 → f.third < 64 → y ≡ f.third → kept ≡ move_named f a (get_or states k 0) m
      → o ≡ precedes p (key_by 0x13 f.first f.second f.third) → not ((o && kept) && eqb (get_or owner y 0) f.first) ≡ false
      → Passed s 0x13 c i (at_module_moves p n events owner known states) j
      → Passed s 0x13 c i (at_module_moves (key_by 0x13 f.first f.second f.third) n events owner known states) (j + bytes)
  unfolding Passed at_module_moves judge_by order_by index_by names_by rules_by all_by in_range key_of kind_of counts_after events_after modules_after supervisors_after
  module_move_step events owner known states a m {y} {kept} u1 u2 sized e b1 l l2 y1 n1 o1 h v r =
      let w : Bool = eqb (get_or owner y 0) f.first in
      let q = both (o && kept) w (not-false _ h) in
      let t = both o kept q.0 in
      let n2 : move_named f a (get_or states f.first 0) m ≡ kept = cc in
      let z = move_told f known n.modules a (get_or states f.first 0) events n.events m u1 u2 (n2 ∙ t.1) in
      let w2 : eqb (get_or owner f.third 0) f.first ≡ w = cc in
      reaches s 0x13 (j + bytes) (reads_module_move s j g sized (stands_told s j 0x13 bytes e b1)) (omega (arith, sized))
      (simp (sym o1 ∙ t.0, z.owner, z.from, z.event, z.to, w2 ∙ q.1)) refl refl (λ z. absurd (omega arith)) (v r)

  pub supervisor_move_step : (events known : ℕ) (states alphabet : List ℕ) (a m : ℕ) {own : ℕ} {kept : Bool} → Below known n.supervisors a → Below events n.events m
      → bytes ≡ size_by 0x15 → b ≡ stands_at s j 0x15 bytes → b ≡ true → f.first < 32 → own ≡ get_or alphabet k 0 → kept ≡ move_named f a (get_or states k 0) (bit_and m own)
      → o ≡ precedes p (key_by 0x15 f.first f.second f.third) → not (o && kept) ≡ false → Passed s 0x15 c i (at_supervisors p n events known states alphabet) j
      → Passed s 0x15 c i (at_supervisors (key_by 0x15 f.first f.second f.third) n events known states alphabet) (j + bytes)
  unfolding Passed at_supervisors judge_by order_by index_by names_by rules_by all_by in_range key_of kind_of counts_after events_after modules_after supervisors_after
  supervisor_move_step events known states alphabet a m {own} {kept} u1 u2 sized e b1 l w1 n1 o1 h v r =
      let q = both o kept (not-false _ h) in
      let x : ℕ = get_or alphabet f.first 0 in
      let n2 : move_named f a (get_or states f.first 0) (bit_and m x) ≡ kept = cc in
      let t = and_told f a (get_or states f.first 0) m x (n2 ∙ q.1) in
      let z = move_told f known n.supervisors a (get_or states f.first 0) events n.events m u1 u2 t.0 in
      reaches s 0x15 (j + bytes) (reads_supervisor_move s j g sized (stands_told s j 0x15 bytes e b1)) (omega (arith, sized))
      (simp (sym o1 ∙ q.0, z.owner, z.from, z.event, z.to, t.1)) refl refl (λ z. absurd (omega arith)) (v r)

  pub disabling_step : (events controllable known : ℕ) (states alphabet : List ℕ) {x own : ℕ} {w kept : Bool} → own ≡ get_or alphabet k 0 → bytes ≡ size_by 0x16 → b ≡ stands_at s j 0x16 bytes → b ≡ true → f.first < 32
      → x ≡ word_at s (j + 3) → kept ≡ disabling_named f x n.supervisors known (get_or states k 0) events → o ≡ precedes p (key_by 0x16 f.first f.second 0)
      → w ≡ every_event x (bit (bit_and controllable own)) → not (((o && not (eqb x 0)) && kept) && w) ≡ false
      → Passed s 0x16 c i (at_disablings p n events controllable known states alphabet) j
      → Passed s 0x16 c i (at_disablings (key_by 0x16 f.first f.second 0) n events controllable known states alphabet) (j + bytes)
  unfolding Passed at_disablings judge_by order_by index_by names_by rules_by all_by in_range key_of kind_of counts_after events_after modules_after supervisors_after
  disabling_step events controllable known states alphabet {x} {own} {w} {kept} own1 sized e b1 l x1 n1 o1 w1 h v r =
      let q = both ((o && not (eqb x 0)) && kept) w (not-false _ h) in
      let m = both (o && not (eqb x 0)) kept q.0 in
      let t = both o (not (eqb x 0)) m.0 in
      let n2 : disabling_named f x n.supervisors known (get_or states f.first 0) events ≡ kept = cc in
      let w2 : every_event x (bit (bit_and controllable (get_or alphabet f.first 0))) ≡ w = cc in
      reaches s 0x16 (j + bytes)
      (reads_disabling s j g sized (stands_told s j 0x16 bytes e b1) ∙ ap (λ (y : ℕ). (Ok (Disabling f.first f.second y, j + bytes))) (sym x1)) (omega (arith, sized))
      (simp (sym o1 ∙ t.0, t.1, n2 ∙ m.1, w2 ∙ q.1)) refl refl (λ z. absurd (omega arith)) (v r)

  pub step_step : (known controllable : ℕ) (owner counts : List ℕ) {x u : ℕ} {t kept : Bool} → bytes ≡ size_by 0x17 → b ≡ stands_at s j 0x17 bytes → b ≡ true → x ≡ word_at s (j + 4) → f.first < 64
      → t ≡ eqb (get_or owner (x % 64) 0) (get_or owner f.first 0) → kept ≡ step_kept f x n.events known controllable t → o ≡ precedes p (key_by 0x17 f.first f.second 0)
      → not ((o && eqb f.second (get_or counts k 0)) && kept) ≡ false → u ≡ (f.second + 1) % 256 → Passed s 0x17 c i (at_steps p n known controllable owner counts) j
      → Passed s 0x17 c i (at_steps (key_by 0x17 f.first f.second 0) n known controllable owner (set counts k u)) (j + bytes)
  unfolding Passed at_steps judge_by order_by index_by names_by rules_by all_by key_of kind_of counts_after events_after modules_after supervisors_after with_entry
  step_step known controllable owner counts {x} {u} {kept = kept} sized e b1 x1 l y1 n1 o1 h u1 v r =
      let ev : Events = record { known = known; controllable = controllable; owner = owner; steps = counts } in
      let w : Bool = eqb f.second (get_or counts k 0) in
      let q = both (o && w) kept (not-false _ h) in
      let m = both o w q.0 in
      let own : Bool = eqb (get_or owner (x % 64) 0) (get_or owner f.first 0) in
      let n2 : step_kept f x n.events known controllable own ≡ kept = cc in
      let w1 : eqb f.second (get_or counts f.first 0) ≡ w = cc in
      let w2 : eqb f.second (steps_at ev f.first) ≡ true = w1 ∙ m.1 in
      let ranged : Bool = in_range (Step f.first f.second f.third x) in
      let known1 : Bool = ltb f.first n.events && bit known f.first in
      let t = both (ranged && known1 && bit controllable f.first) (not (eqb f.third 5) || respond_fits x n.events known controllable own) (n2 ∙ q.1) in
      let t1 = both (ranged && known1) (bit controllable f.first) t.0 in
      let t2 = both ranged known1 t1.0 in
      let z = respond_told n ev f.first x (eqb f.third 5) t.1 in
      let d = reaches s 0x17 (j + bytes)
      (reads_step s j g sized (stands_told s j 0x17 bytes e b1) ∙ ap (λ (y : ℕ). (Ok (Step f.first f.second f.third y, j + bytes))) (sym x1)) (omega (arith, sized))
      (simp (sym o1 ∙ m.0, w2, t2.0, t2.1, t1.1, z.0, z.1)) refl refl (λ z. absurd (omega arith)) (v r)
      in
      let g2 : with_record (at_steps p n known controllable owner counts r) (Step f.first f.second f.third x)
      ≡ at_steps (key_by 0x17 f.first f.second 0) n known controllable owner (set counts k u) r = simp (lt-ltb f.first 64 l) cc
      in
      subst (λ (x : Context). Stretch s 0x17 (c r) i x (j + bytes)) g2 d

module _ (s : List ℕ) (c : Context → Context) (i : ℕ) (n : Counts) (p : RecordKey) (j : ℕ) where
  abbrev owner : ℕ
  owner = get_or s (j + 1) 0

  abbrev state : ℕ
  state = get_or s (j + 2) 0

  pub marking_step : (known : ℕ) (states : List ℕ) {b o t : Bool} {k bytes : ℕ} → bytes ≡ size_by 0x18 → b ≡ stands_at s j 0x18 bytes → b ≡ true → k ≡ owner → t ≡ bit known owner
      → o ≡ precedes p (key_by 0x18 owner state 0) → not (o && ((ltb owner n.modules && t) && ltb state (get_or states k 0))) ≡ false → Passed s 0x18 c i (at_modules p n known states) j
      → Passed s 0x18 c i (at_modules (key_by 0x18 owner state 0) n known states) (j + bytes)
  unfolding Passed at_modules judge_by order_by index_by names_by rules_by all_by in_range key_of kind_of counts_after events_after modules_after supervisors_after
  marking_step known states {o = o} {t = t} {k = k} {bytes = bytes} sized e b1 k1 t1 o1 h v r =
      let declared : Bool = ltb owner n.modules && t in
      let below : Bool = ltb state (get_or states k 0) in
      let q = both o (declared && below) (not-false _ h) in
      let m = both declared below q.1 in
      let d2 : (ltb owner n.modules && bit known owner) ≡ declared = cc in
      let b2 : ltb state (get_or states owner 0) ≡ below = cc in
      reaches s 0x18 (j + bytes) (reads_marking s j sized (stands_told s j 0x18 bytes e b1)) (omega (arith, sized))
      (simp (sym o1 ∙ q.0, d2 ∙ m.0, b2 ∙ m.1)) refl refl (λ z. absurd (omega arith)) (v r)
