-- Records passed where what is remembered stands in the bytes of a state.
use Rattle.std.proofs.Common.{◌≡◌, ℕ, ◌+◌, ◌^◌, ◌<◌, ◌≤◌, Bool, true, List, ◌++◌, length, get_or, take, drop, sym, ap, ◌∙◌, inl, append_assoc, arith, lit≤, length-drop, length-take-le, drop-drop}
use lib.Seq.{sets, sets-eq, length-sets}
use Rattle.words.specs.Word.{put_at, word_at, word_bytes}
use Rattle.words.proofs.Laws.{length_word, put_sets}
use Rattle.records.specs.declared.RecordKey.{RecordKey}
use Rattle.reader.specs.Walk.{walk_from}
use Rattle.fields.specs.Fields.{bytes_from, flag_of}
use Rattle.context.specs.declared.Counts.{Counts}
use Rattle.context.specs.declared.Context.{Context}
use Rattle.judge.specs.Past.{past_from}
use Rattle.judge.specs.declared.Past.{Past}
use Rattle.context_bytes.specs.Encoding.{key_bytes, key_at, counts_at, events_at, modules_at, supervisors_at, alphabets, context_bytes, context_at}
use Rattle.context_bytes.proofs.Reading.{part_of, part_words}
use Rattle.context_bytes.proofs.Regions.{sets_apart}
use Rattle.context_bytes.proofs.InPlace.{with_last, with_known, with_controllable, with_owner, with_modules_known, with_sizes, with_supervisors_known, with_states, with_alphabets}
use Rattle.context_bytes.proofs.InPlace.{last_set, known_set, controllable_set, owner_set, steps_set, modules_set, sizes_set, supervisors_set, states_set, alphabets_set}
use Rattle.checker.specs.InPlace.{past_in, past_bytes}
use Rattle.checker.specs.Stretch.{rest_of, Stretch, Passed, AfterRecord, OnwardIn, at_events, at_modules, at_module_moves, at_supervisors, at_disablings, at_steps}

-- read from the bytes, passed one by one, and put back
pub passed_by_value : (s : List ℕ) (i : ℕ) (b : List ℕ) {c : Context} {p : Past} {x : List ℕ} → c ≡ context_at b → p ≡ past_from s i c → x ≡ put_at (context_bytes p.context) 23 b
    → (x ≡ past_bytes s i b) × (p.next ≡ (past_in s i b).next)
passed_by_value s i b e f w =
    let g = f ∙ ap (past_from s i) e in
    (w ∙ ap (λ (q : Past). put_at (context_bytes q.context) 23 b) g, ap (λ (q : Past). q.next) g)

-- ---- one after the other

pub begun_on : (s b : List ℕ) (i : ℕ) (x : List ℕ) (j : ℕ) → AfterRecord b → OnwardIn s b i x j → AfterRecord x
begun_on s b i x j g h = (h.size, h.front 23 (lit≤ tt) ∙ g.1)

pub past_then : (s b : List ℕ) (i : ℕ) (x : List ℕ) (j : ℕ) (y : List ℕ) (k : ℕ) → OnwardIn s x j y k → OnwardIn s b i x j → OnwardIn s b i y k
past_then s b i x j y k v u = record { same = v.same ∙ u.same; front = λ n l. v.front n l ∙ u.front n l; size = v.size }

-- ---- bytes put

-- a part lent and given back
part_sets : (b q : List ℕ) (o n : ℕ) → length q ≡ n → o + n ≤ length b → take o b ++ (q ++ drop n (drop o b)) ≡ sets b o q
part_sets b q o n e h =
    sym (sets-eq q b o (omega (arith, e)) ∙ append_assoc (take o b) q (drop (o + length q) b)
    ∙ ap (λ (r : List ℕ). take o b ++ (q ++ r)) (ap (λ (k : ℕ). drop (o + k) b) e ∙ sym (drop-drop n o b)))

-- bytes from 24 on set anew: the first 24 stay
record Wrote (b x : List ℕ) : Type 0 where
  pub front : (n : ℕ) → n < 24 → get_or x n 0 ≡ get_or b n 0
  pub size : length x ≡ 495

wrote_set : (b : List ℕ) (o : ℕ) (xs : List ℕ) → length b ≡ 495 → 24 ≤ o → Wrote b (sets b o xs)
wrote_set b o xs g h = record { front = λ n l. sets_apart b o xs n (inl (omega arith)); size = length-sets b o xs ∙ g }

wrote_then : (b x y : List ℕ) → Wrote x y → Wrote b x → Wrote b y
wrote_then b x y v u = record { front = λ n l. v.front n l ∙ u.front n l; size = v.size }

-- one put: what it is, and that the first bytes stay
record Set (b x : List ℕ) (o : ℕ) (xs : List ℕ) : Type 0 where
  pub is : x ≡ sets b o xs
  pub wrote : Wrote b x

module _ (b : List ℕ) (g : length b ≡ 495) where
  set_of : (o : ℕ) (xs : List ℕ) {x : List ℕ} → x ≡ sets b o xs → 24 ≤ o → Set b x o xs
  set_of o xs e h =
      let w = wrote_set b o xs g h in
      record { is = e; wrote = record { front = λ n l. ap (λ (y : List ℕ). get_or y n 0) e ∙ w.front n l; size = ap length e ∙ w.size } }

  key_put : (q : RecordKey) {x : List ℕ} → x ≡ put_at (key_bytes q) 24 b → Set b x 24 (key_bytes q)
  unfolding key_bytes
  key_put q e = set_of 24 (key_bytes q) (e ∙ put_sets (key_bytes q) 24 b (omega (arith, g))) (lit≤ tt)

  word_put : (o k : ℕ) {x : List ℕ} → x ≡ put_at (word_bytes k) o b → 24 ≤ o → o + 8 ≤ 495 → Set b x o (word_bytes k)
  word_put o k e h r = set_of o (word_bytes k) (e ∙ put_sets (word_bytes k) o b (omega (arith, g, length_word k))) h

  all_put : (o : ℕ) (q : List ℕ) {x : List ℕ} (n : ℕ) → x ≡ put_at q o b → length q ≡ n → 24 ≤ o → o + n ≤ 495 → Set b x o q
  all_put o q n e m h r = set_of o q (e ∙ put_sets q o b (omega (arith, g, m))) h

-- ---- a stretch

module _ (s b : List ℕ) (g : AfterRecord b) where
  room : 495 ≤ length b
  room = omega (arith, g.0)

  flag : (context_at b).begun ≡ true
  unfolding context_at
  flag = ap flag_of g.1

  -- from what is remembered to what the bytes are then
  arrives : (k : ℕ) {c d : Context} {i j : ℕ} {x : List ℕ} → Stretch s k c i d j → c ≡ context_at b → context_at x ≡ d → Wrote b x → OnwardIn s b i x j
  arrives k {i = i} {j} h e f w =
      record {
        same = ap (λ (y : Context). rest_of y (walk_from s j)) f ∙ h.same ∙ ap (λ (y : Context). rest_of y (walk_from s i)) e;
        front = w.front;
        size = w.size;
      }

  -- what is remembered before, in the order of its parts
  abbrev from : Bool → Context
  from f = record { begun = f; last = key_at b 24; counts = counts_at b 28; events = events_at b; modules = modules_at b; supervisors = supervisors_at b }

  begins : from true ≡ context_at b
  unfolding context_at
  begins = ap from (sym flag)

  owners : take 64 (drop 47 b) ≡ bytes_from b 47 64
  owners = part_of b 47 64 (omega (arith, room))

  counted : take 64 (drop 111 b) ≡ bytes_from b 111 64
  counted = part_of b 111 64 (omega (arith, room))

  sizes : take 16 (drop 183 b) ≡ bytes_from b 183 16
  sizes = part_of b 183 16 (omega (arith, room))

  states : take 32 (drop 207 b) ≡ bytes_from b 207 32
  states = part_of b 207 32 (omega (arith, room))

  -- the size of a part lent
  lent_size : (o m : ℕ) (l : List ℕ) → o + m ≤ 495 → length l ≡ length (take m (drop o b)) → length l ≡ m
  lent_size o m l h e = e ∙ length-take-le m (drop o b) (omega (arith, room, length-drop o b))

  own : alphabets (take 256 (drop 239 b)) ≡ (supervisors_at b).alphabet
  unfolding supervisors_at
  own = part_words b 239 256 0 32 (lit≤ tt)

  module _ (i j : ℕ) (n : Counts) (n1 : n ≡ counts_at b 28) (q last : RecordKey) (q1 : q ≡ key_at b 24) where
    -- moves and markings change the last key alone
    module _ (x : List ℕ) (p : x ≡ put_at (key_bytes last) 24 b) where
      key : Set b x 24 (key_bytes last)
      key = key_put b g.0 last p

      with_last_lem : context_at x ≡ with_last last (context_at b)
      with_last_lem = ap context_at key.is ∙ last_set b room last

      pub module_moves_in : (events known : ℕ) → events ≡ word_at b 31 → known ≡ word_at b 175
          → Passed s 0x13 (at_module_moves q n events (take 64 (drop 47 b)) known (take 16 (drop 183 b))) i (at_module_moves last n events (take 64 (drop 47 b)) known (take 16 (drop 183 b))) j
          → OnwardIn s b i x j
      unfolding Passed at_module_moves context_at events_at modules_at
      module_moves_in events known e1 k1 h =
          arrives 0x13 (h (context_at b)) (simp (q1, n1, e1, k1, owners, sizes) begins) (with_last_lem ∙ simp (flag, n1, e1, k1, owners, sizes)) key.wrote

      pub supervisor_moves_in : (events known : ℕ) → events ≡ word_at b 31 → known ≡ word_at b 199
          → Passed s 0x15 (at_supervisors q n events known (take 32 (drop 207 b)) (alphabets (take 256 (drop 239 b)))) i
          (at_supervisors last n events known (take 32 (drop 207 b)) (alphabets (take 256 (drop 239 b)))) j
          → OnwardIn s b i x j
      unfolding Passed at_supervisors context_at events_at supervisors_at
      supervisor_moves_in events known e1 k1 h =
          arrives 0x15 (h (context_at b)) (simp (q1, n1, e1, k1, states, own) begins) (with_last_lem ∙ simp (flag, n1, e1, k1, states, own)) key.wrote

      pub disablings_in : (events controllable known : ℕ) → events ≡ word_at b 31 → controllable ≡ word_at b 39 → known ≡ word_at b 199
          → Passed s 0x16 (at_disablings q n events controllable known (take 32 (drop 207 b)) (alphabets (take 256 (drop 239 b)))) i
          (at_disablings last n events controllable known (take 32 (drop 207 b)) (alphabets (take 256 (drop 239 b)))) j
          → OnwardIn s b i x j
      unfolding Passed at_disablings context_at events_at supervisors_at
      disablings_in events controllable known e1 c1 k1 h =
          arrives 0x16 (h (context_at b)) (simp (q1, n1, e1, c1, k1, states, own) begins) (with_last_lem ∙ simp (flag, n1, e1, c1, k1, states, own)) key.wrote

      pub markings_in : (known : ℕ) → known ≡ word_at b 175
          → Passed s 0x18 (at_modules q n known (take 16 (drop 183 b))) i (at_modules last n known (take 16 (drop 183 b))) j → OnwardIn s b i x j
      unfolding Passed at_modules context_at modules_at
      markings_in known k1 h = arrives 0x18 (h (context_at b)) (simp (q1, n1, k1, sizes) begins) (with_last_lem ∙ simp (flag, n1, k1, sizes)) key.wrote

    -- declarations and steps change a table too: the bytes x1 have it, and then the last key is put
    module _ (l x1 x2 : List ℕ) (p : x2 ≡ put_at (key_bytes last) 24 x1) where
      -- a part lent, and the key put
      module _ (o m : ℕ) (size : length l ≡ m) (lent : x1 ≡ take o b ++ (l ++ drop m (drop o b))) (low : 24 ≤ o) (high : o + m ≤ 495) where
        part : Set b x1 o l
        part = set_of b g.0 o l (lent ∙ part_sets b l o m size (omega (arith, room))) low

        last_then : Set x1 x2 24 (key_bytes last)
        last_then = key_put x1 part.wrote.size last p

        both_wrote : Wrote b x2
        both_wrote = wrote_then b x1 x2 last_then.wrote part.wrote

        keyed : context_at x2 ≡ with_last last (context_at (sets b o l))
        keyed =
            ap context_at last_then.is ∙ last_set x1 (omega (arith, part.wrote.size)) last
            ∙ ap (λ (y : List ℕ). with_last last (context_at y)) part.is

      pub steps_in : (known controllable : ℕ) (owner : List ℕ) → length l ≡ length (take 64 (drop 111 b)) → x1 ≡ take 111 b ++ (l ++ drop 64 (drop 111 b)) → known ≡ word_at b 31 → controllable ≡ word_at b 39
          → owner ≡ bytes_from b 47 64
          → Passed s 0x17 (at_steps q n known controllable owner (take 64 (drop 111 b))) i (at_steps last n known controllable owner l) j → OnwardIn s b i x2 j
      unfolding Passed at_steps context_at events_at
      steps_in known controllable owner kept lent k1 c1 o1 h =
          let size : length l ≡ 64 = lent_size 111 64 l (lit≤ tt) kept in
          arrives 0x17 (h (context_at b)) (simp (q1, n1, k1, c1, o1, counted) begins)
          (keyed 111 64 size lent (lit≤ tt) (lit≤ tt) ∙ ap (with_last last) (steps_set b room l size) ∙ simp (flag, n1, k1, c1, o1)) (both_wrote 111 64 size lent (lit≤ tt) (lit≤ tt))

      -- the numbers declared are put last
      module _ (k : ℕ) (fits : k < 2 ^ 64) (x3 : List ℕ) where
        pub modules_in : (known : ℕ) → length l ≡ length (take 16 (drop 183 b)) → x1 ≡ take 183 b ++ (l ++ drop 16 (drop 183 b)) → x3 ≡ put_at (word_bytes k) 175 x2 → known ≡ word_at b 175
            → Passed s 0x12 (at_modules q n known (take 16 (drop 183 b))) i (at_modules last n k l) j → OnwardIn s b i x3 j
        unfolding Passed at_modules context_at modules_at
        modules_in known kept lent e k1 h =
            let size : length l ≡ 16 = lent_size 183 16 l (lit≤ tt) kept in
            let w : Wrote b x2 = both_wrote 183 16 size lent (lit≤ tt) (lit≤ tt) in
            let u : Set x2 x3 175 (word_bytes k) = word_put x2 w.size 175 k e (lit≤ tt) (lit≤ tt) in
            let f : context_at x2 ≡ with_last last (with_sizes l (context_at b)) = keyed 183 16 size lent (lit≤ tt) (lit≤ tt) ∙ ap (with_last last) (sizes_set b room l size) in
            arrives 0x12 (h (context_at b)) (simp (q1, n1, k1, sizes) begins)
            (ap context_at u.is ∙ modules_set x2 (omega (arith, w.size)) k fits ∙ ap (with_modules_known k) f ∙ simp (flag, n1)) (wrote_then b x2 x3 u.wrote w)

        pub events_in : (known controllable : ℕ) (c : ℕ) → c < 2 ^ 64 → (x4 : List ℕ) → length l ≡ length (take 64 (drop 47 b)) → x1 ≡ take 47 b ++ (l ++ drop 64 (drop 47 b)) → x3 ≡ put_at (word_bytes k) 31 x2
            → x4 ≡ put_at (word_bytes c) 39 x3 → known ≡ word_at b 31 → controllable ≡ word_at b 39
            → Passed s 0x11 (at_events q n known controllable (take 64 (drop 47 b))) i (at_events last n k c l) j → OnwardIn s b i x4 j
        unfolding Passed at_events context_at events_at
        events_in known controllable c small x4 kept lent e d k1 c1 h =
            let size : length l ≡ 64 = lent_size 47 64 l (lit≤ tt) kept in
            let w : Wrote b x2 = both_wrote 47 64 size lent (lit≤ tt) (lit≤ tt) in
            let u : Set x2 x3 31 (word_bytes k) = word_put x2 w.size 31 k e (lit≤ tt) (lit≤ tt) in
            let v : Set x3 x4 39 (word_bytes c) = word_put x3 u.wrote.size 39 c d (lit≤ tt) (lit≤ tt) in
            let f : context_at x2 ≡ with_last last (with_owner l (context_at b)) = keyed 47 64 size lent (lit≤ tt) (lit≤ tt) ∙ ap (with_last last) (owner_set b room l size) in
            let m : context_at x3 ≡ with_known k (with_last last (with_owner l (context_at b))) =
            ap context_at u.is ∙ known_set x2 (omega (arith, w.size)) k fits ∙ ap (with_known k) f
            in
            arrives 0x11 (h (context_at b)) (simp (q1, n1, k1, c1, owners) begins)
            (ap context_at v.is ∙ controllable_set x3 (omega (arith, u.wrote.size)) c small ∙ ap (with_controllable c) m ∙ simp (flag, n1))
            (wrote_then b x3 x4 v.wrote (wrote_then b x2 x3 u.wrote w))

    -- both tables of the supervisors, the key and the numbers declared, put one after the other
    pub supervisors_in : (events known k : ℕ) → k < 2 ^ 64 → (st al st₀ al₀ x1 x2 x3 x4 : List ℕ) → length st ≡ 32 → length al ≡ 256 → events ≡ word_at b 31 → known ≡ word_at b 199
        → st₀ ≡ bytes_from b 207 32 → al₀ ≡ bytes_from b 239 256
        → Passed s 0x14 (at_supervisors q n events known st₀ (alphabets al₀)) i (at_supervisors last n events k st (alphabets al)) j
        → x1 ≡ put_at st 207 b → x2 ≡ put_at al 239 x1 → x3 ≡ put_at (key_bytes last) 24 x2 → x4 ≡ put_at (word_bytes k) 199 x3 → OnwardIn s b i x4 j
    unfolding Passed at_supervisors context_at events_at supervisors_at
    supervisors_in events known k fits st al st₀ al₀ x1 x2 x3 x4 size all e1 k1 s0 a0 h e f d r =
        let t : Set b x1 207 st = all_put b g.0 207 st 32 e size (lit≤ tt) (lit≤ tt) in
        let a : Set x1 x2 239 al = all_put x1 t.wrote.size 239 al 256 f all (lit≤ tt) (lit≤ tt) in
        let y : Set x2 x3 24 (key_bytes last) = key_put x2 a.wrote.size last d in
        let z : Set x3 x4 199 (word_bytes k) = word_put x3 y.wrote.size 199 k r (lit≤ tt) (lit≤ tt) in
        let c1 : context_at x1 ≡ with_states st (context_at b) = ap context_at t.is ∙ states_set b room st size in
        let c2 : context_at x2 ≡ with_alphabets (alphabets al) (with_states st (context_at b)) =
        ap context_at a.is ∙ alphabets_set x1 (omega (arith, t.wrote.size)) al all ∙ ap (with_alphabets (alphabets al)) c1
        in
        let c3 : context_at x3 ≡ with_last last (with_alphabets (alphabets al) (with_states st (context_at b))) =
        ap context_at y.is ∙ last_set x2 (omega (arith, a.wrote.size)) last ∙ ap (with_last last) c2
        in
        let al1 : alphabets al₀ ≡ (supervisors_at b).alphabet =
        ap alphabets (a0 ∙ sym (part_of b 239 256 (omega (arith, room)))) ∙ own
        in
        arrives 0x14 (h (context_at b)) (simp (q1, n1, e1, k1, s0, al1) begins)
        (ap context_at z.is ∙ supervisors_set x3 (omega (arith, y.wrote.size)) k fits ∙ ap (with_supervisors_known k) c3 ∙ simp (flag, n1, e1))
        (wrote_then b x3 x4 z.wrote (wrote_then b x2 x3 y.wrote (wrote_then b x1 x2 a.wrote t.wrote)))
