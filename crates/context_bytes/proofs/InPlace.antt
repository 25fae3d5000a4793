-- One part of what is remembered set anew in its bytes: that part is what was set, and all else stays.
use mathlib.Core.Path.{◌≡◌, refl, sym, ap, ◌∙◌}
use mathlib.Core.Logic.{inl, inr}
use mathlib.Core.List.{List}
use Prim.Native.Nat.{ℕ, ◌+◌, ◌^◌, ◌≤◌, ◌<◌}
use native.Mathlib.Omega.{arith}
use lib.ListN.{length, get_or}
use lib.Dec.{lit≤}
use lib.Seq.{sets, length-sets}
use Rattle.words.specs.Word.{word_bytes}
use Rattle.words.proofs.Laws.{length_word}
use Rattle.records.specs.declared.RecordKey.{RecordKey}
use Rattle.fields.specs.Fields.{bytes_from, flag_of}
use Rattle.context.specs.declared.Events.{Events}
use Rattle.context.specs.declared.Modules.{Modules}
use Rattle.context.specs.declared.Supervisors.{Supervisors}
use Rattle.context.specs.declared.Context.{Context}
use Rattle.context_bytes.specs.Encoding.{key_bytes, key_at, counts_at, events_at, modules_at, words_from, alphabets, supervisors_at, context_at}
use Rattle.context_bytes.proofs.Reading.{part_of, part_words}
use Rattle.context_bytes.proofs.Regions.{Same, same_bytes, same_word, same_words, sets_apart, sets_there, word_set}

-- ---- parts that are the same

module _ (a b : List ℕ) where
  pub head_same : Same a b 23 31 → (flag_of (get_or a 23 0) ≡ flag_of (get_or b 23 0)) × (key_at a 24 ≡ key_at b 24) × (counts_at a 28 ≡ counts_at b 28)
  unfolding key_at counts_at
  head_same h =
      let at : (i : ℕ) → 23 ≤ i → i < 31 → get_or a i 0 ≡ get_or b i 0 = h in (
        ap flag_of (at 23 (lit≤ tt) (lit≤ tt)),
        simp (at 24 (lit≤ tt) (lit≤ tt), at 25 (lit≤ tt) (lit≤ tt), at 26 (lit≤ tt) (lit≤ tt), at 27 (lit≤ tt) (lit≤ tt)),
        simp (at 28 (lit≤ tt) (lit≤ tt), at 29 (lit≤ tt) (lit≤ tt), at 30 (lit≤ tt) (lit≤ tt)),
      )

  pub events_same : Same a b 31 175 → events_at a ≡ events_at b
  unfolding events_at
  events_same h =
      simp (same_word a b 31 175 h 31 (lit≤ tt) (lit≤ tt), same_word a b 31 175 h 39 (lit≤ tt) (lit≤ tt), same_bytes a b 31 175 h 47 64 (lit≤ tt) (lit≤ tt), same_bytes a b 31 175 h 111 64 (lit≤ tt) (lit≤ tt))

  pub modules_same : Same a b 175 199 → modules_at a ≡ modules_at b
  unfolding modules_at
  modules_same h = simp (same_word a b 175 199 h 175 (lit≤ tt) (lit≤ tt), same_bytes a b 175 199 h 183 16 (lit≤ tt) (lit≤ tt))

  pub supervisors_same : Same a b 199 495 → supervisors_at a ≡ supervisors_at b
  unfolding supervisors_at
  supervisors_same h =
      simp (same_word a b 199 495 h 199 (lit≤ tt) (lit≤ tt), same_bytes a b 199 495 h 207 32 (lit≤ tt) (lit≤ tt), same_words a b 199 495 h 239 32 (lit≤ tt) (lit≤ tt))

-- ---- one set anew

module _ (b : List ℕ) (room : 495 ≤ length b) (o : ℕ) (xs : List ℕ) (n : ℕ) (size : length xs ≡ n) where
  below : (p e : ℕ) → e ≤ o → Same (sets b o xs) b p e
  below p e h i l u = sets_apart b o xs i (inl (omega arith))

  above : (p e : ℕ) → o + n ≤ p → Same (sets b o xs) b p e
  above p e h i l u = sets_apart b o xs i (inr (omega (arith, size)))

  there : o + n ≤ 495 → bytes_from (sets b o xs) o n ≡ xs
  there h = ap (bytes_from (sets b o xs) o) (sym size) ∙ sets_there b o xs (omega (arith, size))

-- what is remembered, one part of it another one
abbrev pub with_last : RecordKey → Context → Context
with_last q c = record { begun = c.begun; last = q; counts = c.counts; events = c.events; modules = c.modules; supervisors = c.supervisors }

abbrev pub with_events : Events → Context → Context
with_events ev c = record { begun = c.begun; last = c.last; counts = c.counts; events = ev; modules = c.modules; supervisors = c.supervisors }

abbrev pub with_modules : Modules → Context → Context
with_modules ms c = record { begun = c.begun; last = c.last; counts = c.counts; events = c.events; modules = ms; supervisors = c.supervisors }

abbrev pub with_supervisors : Supervisors → Context → Context
with_supervisors vs c = record { begun = c.begun; last = c.last; counts = c.counts; events = c.events; modules = c.modules; supervisors = vs }

-- a part of the events, of the modules, of the supervisors another one
abbrev pub with_known : ℕ → Context → Context
with_known k c = with_events (record { known = k; controllable = c.events.controllable; owner = c.events.owner; steps = c.events.steps }) c

abbrev pub with_controllable : ℕ → Context → Context
with_controllable k c = with_events (record { known = c.events.known; controllable = k; owner = c.events.owner; steps = c.events.steps }) c

abbrev pub with_owner : List ℕ → Context → Context
with_owner l c = with_events (record { known = c.events.known; controllable = c.events.controllable; owner = l; steps = c.events.steps }) c

abbrev pub with_steps : List ℕ → Context → Context
with_steps l c = with_events (record { known = c.events.known; controllable = c.events.controllable; owner = c.events.owner; steps = l }) c

abbrev pub with_modules_known : ℕ → Context → Context
with_modules_known k c = with_modules (record { known = k; states = c.modules.states }) c

abbrev pub with_sizes : List ℕ → Context → Context
with_sizes l c = with_modules (record { known = c.modules.known; states = l }) c

abbrev pub with_supervisors_known : ℕ → Context → Context
with_supervisors_known k c = with_supervisors (record { known = k; states = c.supervisors.states; alphabet = c.supervisors.alphabet }) c

abbrev pub with_states : List ℕ → Context → Context
with_states l c = with_supervisors (record { known = c.supervisors.known; states = l; alphabet = c.supervisors.alphabet }) c

abbrev pub with_alphabets : List ℕ → Context → Context
with_alphabets l c = with_supervisors (record { known = c.supervisors.known; states = c.supervisors.states; alphabet = l }) c

module _ (b : List ℕ) (room : 495 ≤ length b) where
  -- the last record's kind and key
  pub last_set : (q : RecordKey) → context_at (sets b 24 (key_bytes q)) ≡ with_last q (context_at b)
  unfolding context_at key_at key_bytes counts_at bytes_from
  last_set q =
      let xs : List ℕ = key_bytes q in
      let x : List ℕ = sets b 24 xs in
      let up : (p e : ℕ) → 28 ≤ p → Same x b p e = above b room 24 xs 4 refl in
      let flag : get_or x 23 0 ≡ get_or b 23 0 = below b room 24 xs 4 refl 23 24 (lit≤ tt) 23 (lit≤ tt) (lit≤ tt) in
      let k : bytes_from x 24 4 ≡ xs = there b room 24 xs 4 refl (lit≤ tt) in
      let at : (j : ℕ) → get_or (bytes_from x 24 4) j 0 ≡ get_or xs j 0 = λ j. ap (λ (l : List ℕ). get_or l j 0) k in
      simp (
        flag,
        at 0,
        at 1,
        at 2,
        at 3,
        up 28 31 (lit≤ tt) 28 (lit≤ tt) (lit≤ tt),
        up 28 31 (lit≤ tt) 29 (lit≤ tt) (lit≤ tt),
        up 28 31 (lit≤ tt) 30 (lit≤ tt) (lit≤ tt),
        events_same x b (up 31 175 (lit≤ tt)),
        modules_same x b (up 175 199 (lit≤ tt)),
        supervisors_same x b (up 199 495 (lit≤ tt)),
      )

  -- a part of the events, of the modules, of the supervisors
  module _ (o : ℕ) (xs : List ℕ) (n : ℕ) (size : length xs ≡ n) where
    abbrev x : List ℕ
    x = sets b o xs

    low : (p e : ℕ) → e ≤ o → Same x b p e
    low = below b room o xs n size

    high : (p e : ℕ) → o + n ≤ p → Same x b p e
    high = above b room o xs n size

    in_events : 31 ≤ o → o + n ≤ 175 → context_at x ≡ with_events (events_at x) (context_at b)
    unfolding context_at
    in_events h k =
        let f = head_same x b (low 23 31 (omega arith)) in
        simp (f.0, f.1, f.2, modules_same x b (high 175 199 (omega arith)), supervisors_same x b (high 199 495 (omega arith)))

    in_modules : 175 ≤ o → o + n ≤ 199 → context_at x ≡ with_modules (modules_at x) (context_at b)
    unfolding context_at
    in_modules h k =
        let f = head_same x b (low 23 31 (omega arith)) in
        simp (f.0, f.1, f.2, events_same x b (low 31 175 (omega arith)), supervisors_same x b (high 199 495 (omega arith)))

    in_supervisors : 199 ≤ o → context_at x ≡ with_supervisors (supervisors_at x) (context_at b)
    unfolding context_at
    in_supervisors h =
        let f = head_same x b (low 23 31 (omega arith)) in
        simp (f.0, f.1, f.2, events_same x b (low 31 175 (omega arith)), modules_same x b (low 175 199 (omega arith)))

  module _ (k : ℕ) (w : k < 2 ^ 64) where
    abbrev eight : List ℕ
    eight = word_bytes k

    pub known_set : context_at (sets b 31 eight) ≡ with_known k (context_at b)
    unfolding context_at events_at
    known_set =
        let x : List ℕ = sets b 31 eight in
        let up : Same x b 39 175 = high 31 eight 8 (length_word k) 39 175 (lit≤ tt) in
        in_events 31 eight 8 (length_word k) (lit≤ tt) (lit≤ tt)
        ∙ simp (word_set b k w 31 (omega arith), same_word x b 39 175 up 39 (lit≤ tt) (lit≤ tt), same_bytes x b 39 175 up 47 64 (lit≤ tt) (lit≤ tt), same_bytes x b 39 175 up 111 64 (lit≤ tt) (lit≤ tt))

    pub controllable_set : context_at (sets b 39 eight) ≡ with_controllable k (context_at b)
    unfolding context_at events_at
    controllable_set =
        let x : List ℕ = sets b 39 eight in
        let up : Same x b 47 175 = high 39 eight 8 (length_word k) 47 175 (lit≤ tt) in
        let down : Same x b 31 39 = low 39 eight 8 (length_word k) 31 39 (lit≤ tt) in
        in_events 39 eight 8 (length_word k) (lit≤ tt) (lit≤ tt)
        ∙ simp (word_set b k w 39 (omega arith), same_word x b 31 39 down 31 (lit≤ tt) (lit≤ tt), same_bytes x b 47 175 up 47 64 (lit≤ tt) (lit≤ tt), same_bytes x b 47 175 up 111 64 (lit≤ tt) (lit≤ tt))

    pub modules_set : context_at (sets b 175 eight) ≡ with_modules_known k (context_at b)
    unfolding context_at modules_at
    modules_set =
        let x : List ℕ = sets b 175 eight in
        let up : Same x b 183 199 = high 175 eight 8 (length_word k) 183 199 (lit≤ tt) in
        in_modules 175 eight 8 (length_word k) (lit≤ tt) (lit≤ tt) ∙ simp (word_set b k w 175 (omega arith), same_bytes x b 183 199 up 183 16 (lit≤ tt) (lit≤ tt))

    pub supervisors_set : context_at (sets b 199 eight) ≡ with_supervisors_known k (context_at b)
    unfolding context_at supervisors_at
    supervisors_set =
        let x : List ℕ = sets b 199 eight in
        let up : Same x b 207 495 = high 199 eight 8 (length_word k) 207 495 (lit≤ tt) in
        in_supervisors 199 eight 8 (length_word k) (lit≤ tt)
        ∙ simp (word_set b k w 199 (omega arith), same_bytes x b 207 495 up 207 32 (lit≤ tt) (lit≤ tt), same_words x b 207 495 up 239 32 (lit≤ tt) (lit≤ tt))

  module _ (l : List ℕ) where
    pub owner_set : length l ≡ 64 → context_at (sets b 47 l) ≡ with_owner l (context_at b)
    unfolding context_at events_at
    owner_set n =
        let x : List ℕ = sets b 47 l in
        let up : Same x b 111 175 = high 47 l 64 n 111 175 (lit≤ tt) in
        let down : Same x b 31 47 = low 47 l 64 n 31 47 (lit≤ tt) in
        in_events 47 l 64 n (lit≤ tt) (lit≤ tt)
        ∙ simp (same_word x b 31 47 down 31 (lit≤ tt) (lit≤ tt), same_word x b 31 47 down 39 (lit≤ tt) (lit≤ tt), there b room 47 l 64 n (lit≤ tt), same_bytes x b 111 175 up 111 64 (lit≤ tt) (lit≤ tt))

    pub steps_set : length l ≡ 64 → context_at (sets b 111 l) ≡ with_steps l (context_at b)
    unfolding context_at events_at
    steps_set n =
        let x : List ℕ = sets b 111 l in
        let down : Same x b 31 111 = low 111 l 64 n 31 111 (lit≤ tt) in
        in_events 111 l 64 n (lit≤ tt) (lit≤ tt)
        ∙ simp (same_word x b 31 111 down 31 (lit≤ tt) (lit≤ tt), same_word x b 31 111 down 39 (lit≤ tt) (lit≤ tt), same_bytes x b 31 111 down 47 64 (lit≤ tt) (lit≤ tt), there b room 111 l 64 n (lit≤ tt))

    pub sizes_set : length l ≡ 16 → context_at (sets b 183 l) ≡ with_sizes l (context_at b)
    unfolding context_at modules_at
    sizes_set n =
        let x : List ℕ = sets b 183 l in
        let down : Same x b 175 183 = low 183 l 16 n 175 183 (lit≤ tt) in
        in_modules 183 l 16 n (lit≤ tt) (lit≤ tt) ∙ simp (same_word x b 175 183 down 175 (lit≤ tt) (lit≤ tt), there b room 183 l 16 n (lit≤ tt))

    pub states_set : length l ≡ 32 → context_at (sets b 207 l) ≡ with_states l (context_at b)
    unfolding context_at supervisors_at
    states_set n =
        let x : List ℕ = sets b 207 l in
        let down : Same x b 199 207 = low 207 l 32 n 199 207 (lit≤ tt) in
        let up : Same x b 239 495 = high 207 l 32 n 239 495 (lit≤ tt) in
        in_supervisors 207 l 32 n (lit≤ tt)
        ∙ simp (same_word x b 199 207 down 199 (lit≤ tt) (lit≤ tt), there b room 207 l 32 n (lit≤ tt), same_words x b 239 495 up 239 32 (lit≤ tt) (lit≤ tt))

    pub alphabets_set : length l ≡ 256 → context_at (sets b 239 l) ≡ with_alphabets (alphabets l) (context_at b)
    unfolding context_at supervisors_at
    alphabets_set n =
        let x : List ℕ = sets b 239 l in
        let down : Same x b 199 239 = low 239 l 256 n 199 239 (lit≤ tt) in
        let all : 239 + 256 ≤ length x = omega (arith, length-sets b 239 l) in
        let own : words_from x 239 32 ≡ alphabets l = sym (part_words x 239 256 0 32 (lit≤ tt)) ∙ ap alphabets (part_of x 239 256 all ∙ there b room 239 l 256 n (lit≤ tt)) in
        in_supervisors 239 l 256 n (lit≤ tt)
        ∙ simp (same_word x b 199 239 down 199 (lit≤ tt) (lit≤ tt), same_bytes x b 199 239 down 207 32 (lit≤ tt) (lit≤ tt), own)
