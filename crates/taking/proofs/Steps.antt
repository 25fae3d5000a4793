-- How far a piece is taken in the bytes of a state, from what the code is told.
use Rattle.std.specs.Prelude.{Result, Ok, Err}
use Rattle.records.specs.declared.Record.{Record}
use mathlib.Core.Path.{◌≡◌, refl, sym, ap, ap₂, ◌∙◌, subst}
use mathlib.Core.List.{List}
use mathlib.Core.Bool.{Bool, true, false, not, ◌&&◌, ◌||◌, false≢true}
use Prim.Native.Nat.{ℕ, suc, ◌+◌, ◌-◌, ◌≤◌, ◌<◌}
use native.Mathlib.Nat.{le_refl}
use native.Mathlib.Omega.{arith}
use lib.ListN.{length, get_or, take, drop, replicate, length-drop, drop_of_length-le}
use lib.Seq.{sets, length-sets, length-take-le, take-length, take_all}
use lib.Dec.{eqb, leb, ltb}
use borrow.Author.Tests.{eqb-true, eqb-false, ltb-false, leb-true, not-false}
use Rattle.words.specs.Word.{all_zero, put_at, quad_at}
use Rattle.words.proofs.Laws.{put_sets}
use Rattle.roundtrip.specs.Fits.{Bytes}
use Rattle.fields.specs.Fields.{bytes_from}
use Rattle.records.specs.Kinds.{body_len, no_len, kind_of}
use Rattle.reader.specs.Read.{read_at}
use Rattle.reader.specs.declared.NoRecord.{NoRecord}
use Rattle.reader.proofs.Reading.{told_by}
use Rattle.rules.specs.Check.{limit}
use Rattle.context.specs.Context.{with_record}
use Rattle.context.specs.declared.Context.{Context}
use Rattle.judge.specs.Judge.{judge_by}
use Rattle.judge.specs.Past.{past_from}
use Rattle.judge.specs.declared.Past.{Past}
use Rattle.judge.proofs.Passing.{stops_by, faulty_by, end_by, first_by}
use Rattle.context_bytes.specs.Encoding.{context_at}
use Rattle.context_bytes.proofs.Decoded.{from_length, from_bytes}
use Rattle.context_bytes.proofs.Reading.{part_put}
use Rattle.checker.specs.InPlace.{past_in, past_bytes}
use Rattle.pieces.specs.Pieces.{between, piece_taken}
use Rattle.pieces.specs.Taking.{holding, Holds, Clear, Taking}
use Rattle.pieces.specs.declared.CheckState.{CheckState}
use Rattle.pieces.specs.declared.Stage.TheVariants.{Open, Faulty}
use Rattle.pieces.proofs.Cut.{short}
use Rattle.pieces.proofs.Taking.{neither, ran_bounds, on_records, on_refused, is_zeros}
use Rattle.pieces.proofs.Gathering.{gathers, gathers_new, gathers_whole}
use Rattle.piece_bytes.specs.State.{state_at, state_bytes, is_state}
use Rattle.piece_bytes.proofs.Reading.{is_open, is_faulty}
use Rattle.piece_bytes.proofs.Parts.{parts}
use Rattle.piece_laws.proofs.Encodable.{stays_encodable}
use Rattle.taking.specs.Taken.{piece_taken_in}
use Rattle.taking.specs.TakingIn.{Stands, HoldingIn, Begun, progressed, remembering, TakingIn}
use Rattle.taking.proofs.States.{put_over, state_length, bytes_take, bytes_sets, passed_stands, none_passed}

not_true : (b : Bool) → not b ≡ true → b ≡ false
not_true true e = absurd (false≢true e)
not_true false e = refl

-- ---- behind the whole records

-- a record of a known kind that is not whole
module _ (s : List ℕ) (i : ℕ) {n m : ℕ} (k : n ≡ body_len (get_or s i 0)) (w : m ≡ n) (u : (eqb n no_len || ltb m (length s - i)) ≡ false) where
  tail_known : body_len (get_or s i 0) ≡ no_len → ⊥
  tail_known z = eqb-false n no_len (neither (eqb n no_len) (ltb m (length s - i)) u).0 (k ∙ z)

  tail_body : length s - i ≤ body_len (get_or s i 0)
  tail_body = let l : length s - i ≤ m = ltb-false m (length s - i) (neither (eqb n no_len) (ltb m (length s - i)) u).1 in omega (arith, k, w, l)

  pub tail_few : length s - i ≤ 11
  tail_few = omega (arith, tail_body, short (get_or s i 0) tail_known)

  pub tail_held : {cut : List ℕ} → i ≤ length s → (length s - i ≡ 0 → ⊥) → cut ≡ put_at (take (length s - i) (drop i s)) 0 (replicate 12 0)
      → Holds s (replicate 12 0) 0 i cut (length s - i) (length s)
  tail_held {cut} l z e =
      let none : List ℕ = replicate 12 0 in
      let t : List ℕ = take (length s - i) (drop i s) in
      let lt : length t ≡ length s - i = length-take-le (length s - i) (drop i s) (omega (arith, length-drop i s)) in
      let j : i + (length s - i) ≡ length s = omega (arith, l) in
      let some : i < length s = omega (arith, l, z) in
      subst (λ (c : List ℕ). Holds s none 0 i c (length s - i) (length s)) (sym (e ∙ put_sets t 0 none (omega (arith, lt, tail_few))))
      (subst (Holds s none 0 i (sets none 0 t) (length s - i)) j (gathers_new s i (length s - i) (omega (arith, l)) some tail_known tail_body))

-- ---- whole records, and what is held behind them

module _ (s b : List ℕ) (t i : ℕ) (l : i ≤ length s) (h : t + (length s - i) ≤ limit) {a : List ℕ} {j : ℕ}
    (p : (a ≡ past_bytes s i b) × (j ≡ (past_in s i b).next)) where
  bounds : (i ≤ (past_in s i b).next) × ((past_in s i b).next ≤ length s)
  bounds = ran_bounds s (context_at b) t i l h refl

  pub passed_further : i ≤ j
  passed_further = subst (λ (n : ℕ). i ≤ n) (sym p.1) bounds.0

  pub passed_inside : j ≤ length s
  passed_inside = subst (λ (n : ℕ). n ≤ length s) (sym p.1) bounds.1

  module _ (g : Bytes b) (f : Bytes s) (is : is_state b ≡ true) where
    pub passed_state : is_state a ≡ true
    passed_state = (passed_stands b g is s i f p.0).is

    pub records_went : {cut : List ℕ} {held n : ℕ} {e : List ℕ} → (state_at b).stage ≡ Open → Holds s (replicate 12 0) 0 j cut held n
        → Stands e (progressed (state_at a) (t + (n - i)) held cut) → TakingIn s (between (state_at b).context Open t) i e n
    unfolding state_at
    records_went {cut} {held} {n} {e} st o x =
        let c : Context = context_at b in
        let q : Past = past_in s i b in
        let r : Taking s (between c Open t) i (holding q.context cut held (t + (n - i))) n =
        on_records s c t i q cut held n l h refl (subst (λ (m : ℕ). Holds s (replicate 12 0) 0 m cut held n) p.1 o) in
        let y : state_at a ≡ remembering (state_at b) q.context = (passed_stands b g is s i f p.0).state in
        let z : state_at e ≡ holding q.context cut held (t + (n - i)) =
        x.state ∙ ap (λ (k : CheckState). progressed k (t + (n - i)) held cut) y
        ∙ (λ v. record { context = q.context; cut = cut; held = held; taken = t + (n - i); stage = st v })
        in
        record { is = x.is; inside = r.inside; same = ap (λ (k : CheckState). piece_taken k (drop n s)) z ∙ r.same }

-- no record passed, nothing changes
past_none : (s : List ℕ) (i : ℕ) (c : Context) → length s ≤ limit → (past_from s i c).next ≡ i → (past_from s i c).context ≡ c
past_none s i c l z = go (read_at s i) refl
  where
    stays : {p : Past} → record { context = c; next = i } ≡ p → p.context ≡ c
    stays e = sym (ap (λ (p : Past). p.context) e)

    go : (x : Result (Record × ℕ) NoRecord) → x ≡ read_at s i → (past_from s i c).context ≡ c
    go (Err why) e = stays (stops_by s c c i i refl why e refl)
    go (Ok (r, n)) e = cases (eqb (judge_by c r) 0) (eqb (kind_of r) 0x1f) refl refl
      where
        cases : (a d : Bool) → eqb (judge_by c r) 0 ≡ a → eqb (kind_of r) 0x1f ≡ d → (past_from s i c).context ≡ c
        cases false d p q = stays (faulty_by s c c i i refl e refl refl (eqb-false _ _ p))
        cases true true p q = stays (end_by s c c i i refl e refl refl (eqb-true _ _ p) refl (eqb-true _ _ q))
        cases true false p q =
            let o = told_by s i e refl in
            let o1 : n ≡ i + 1 + body_len (get_or s i 0) = o.next in
            let d : Context = with_record c r in
            let f : past_from s n d ≡ past_from s i c = first_by s c i e refl refl (eqb-true _ _ p) refl (eqb-false _ _ q) refl in
            let x : n ≤ (past_from s n d).next = (ran_bounds s d 0 n o.fits (omega (arith, l)) refl).0 in
            let y : (past_from s n d).next ≡ i = ap (λ (v : Past). v.next) f ∙ z in
            absurd (omega (arith, o1, x, y))

-- ---- a record that has begun

pub begun_by : (cut : List ℕ) (held : ℕ) {n : ℕ} → n ≡ body_len (get_or cut 0 0) → (eqb held 0 || (eqb n no_len || ltb n held)) ≡ false → Begun cut held
begun_by cut held {n} e h =
    let a = neither (eqb held 0) (eqb n no_len || ltb n held) h in
    let b = neither (eqb n no_len) (ltb n held) a.1 in
    let z : held ≡ 0 → ⊥ = eqb-false held 0 a.0 in
    let l : held ≤ n = ltb-false n held b.1 in
    record { some = omega (arith, z); known = λ q. eqb-false n no_len b.0 (e ∙ q); within = omega (arith, e, l) }

module _ (s b cut : List ℕ) (held t : ℕ) (w : HoldingIn b cut held t) (o : Begun cut held) (h : t + length s ≤ limit) where
  cut_length : length cut ≡ 12
  unfolding state_at
  cut_length = sym (ap (λ (k : CheckState). length k.cut) w.state) ∙ from_length b 11 12

  few : body_len (get_or cut 0 0) ≤ 11
  few = short (get_or cut 0 0) o.known

  -- not whole with the piece either
  module _ (l : held + length s ≤ body_len (get_or cut 0 0)) where
    pub held_few : held + length s ≤ 11
    held_few = omega (arith, l, few)

    pub held_went : {k : ℕ} {more e : List ℕ} → k ≡ held → more ≡ put_at s k cut → Stands e (progressed (state_at b) (t + length s) (held + length s) more)
        → TakingIn s (state_at b) 0 e (length s)
    held_went {k} {more} {e} u v x =
        let c : Context = (state_at b).context in
        let all : List ℕ = sets cut held (take (length s) s) in
        let n : 0 + length s ≡ length s = omega arith in
        let g : Holds s cut held 0 all (held + length s) (length s) =
        subst (Holds s cut held 0 all (held + length s)) n (gathers s cut held 0 (length s) o.some (omega arith) o.known l) in
        let q : more ≡ all =
        v ∙ ap (λ (i : ℕ). put_at s i cut) u ∙ put_sets s held cut (omega (arith, cut_length, held_few)) ∙ ap (sets cut held) (sym (take-length s)) in
        let m : t + length s ≡ t + (length s - 0) = omega arith in
        let y : state_at e ≡ holding c all (held + length s) (t + (length s - 0)) =
        x.state ∙ ap₂ (λ (i : ℕ) (z : List ℕ). progressed (state_at b) i (held + length s) z) m q
        ∙ ap (λ (z : CheckState). progressed z (t + (length s - 0)) (held + length s) all) w.state in
        record {
          is = x.is;
          inside = le_refl (length s);
          same = ap (λ (z : CheckState). piece_taken z (drop (length s) s)) y ∙ g.same c t (omega (arith, h)) ∙ ap (λ (z : CheckState). piece_taken z s) (sym w.state);
        }

  -- whole with some bytes of the piece
  module _ {n r1 r2 r3 : ℕ} (e : n ≡ body_len (get_or cut 0 0)) (l : n - held < length s) (f1 : r1 ≡ n - held) (f2 : r2 ≡ n) (f3 : r3 ≡ held) where
    pub missing_inside : r1 + 1 ≤ length s
    missing_inside = omega (arith, l, f1)

    pub missing_count : r1 + 1 ≡ length (take (r1 + 1) s)
    missing_count = sym (length-take-le (r1 + 1) s missing_inside)

    module _ {whole : List ℕ} (p : whole ≡ put_at (take (r1 + 1) s) r3 cut) where
      whole_is : whole ≡ sets cut held (take (r1 + 1) s)
      whole_is =
          p ∙ ap (λ (i : ℕ). put_at (take (r1 + 1) s) i cut) f3
          ∙ put_sets (take (r1 + 1) s) held cut (omega (arith, missing_count, cut_length, few, e, f1, o.within))

      whole_length : length whole ≡ 12
      whole_length = ap length whole_is ∙ length-sets cut held (take (r1 + 1) s) ∙ cut_length

      pub size_inside : r2 + 1 ≤ length whole
      size_inside = omega (arith, whole_length, few, e, f2)

      pub size_count : r2 + 1 ≡ length (take (r2 + 1) whole)
      size_count = sym (length-take-le (r2 + 1) whole size_inside)

      module _ (g : Bytes b) (f : Bytes s) {a : List ℕ} {j : ℕ} (q : (a ≡ past_bytes (take (r2 + 1) whole) 0 b) × (j ≡ (past_in (take (r2 + 1) whole) 0 b).next)) where
        front_bytes : Bytes (take (r2 + 1) whole)
        unfolding state_at
        front_bytes =
            bytes_take (r2 + 1) whole
            (subst Bytes (sym whole_is)
            (bytes_sets (take (r1 + 1) s) cut held (subst Bytes (ap (λ (k : CheckState). k.cut) w.state) (from_bytes b g 11 12)) (bytes_take (r1 + 1) s f)))

        stands : Stands a (remembering (state_at b) (past_in (take (r2 + 1) whole) 0 b).context)
        stands = passed_stands b g w.is (take (r2 + 1) whole) 0 front_bytes q.0

        -- it is faulty or an end record, and nothing is taken
        pub whole_none : j ≡ 0 → TakingIn s (state_at b) 0 a 0
        whole_none z =
            let c : Context = context_at b in
            let u : length (take (r2 + 1) whole) ≤ limit = omega (arith, size_count, size_inside, whole_length) in
            let v : a ≡ b = none_passed b g w.is (take (r2 + 1) whole) 0 front_bytes q.0 (past_none (take (r2 + 1) whole) 0 c u (sym q.1 ∙ z)) in
            record { is = ap is_state v ∙ w.is; inside = omega arith; same = ap (λ (x : List ℕ). piece_taken (state_at x) s) v }

        -- it is passed
        pub whole_state : (is_state a ≡ true) × ((state_at a).stage ≡ Open)
        whole_state = (stands.is, ap (λ (k : CheckState). k.stage) stands.state ∙ ap (λ (k : CheckState). k.stage) w.state)

        pub whole_went : {x : List ℕ} {i : ℕ} → (j ≡ 0 → ⊥) → TakingIn s (between (state_at a).context Open (t + (r1 + 1))) (r1 + 1) x i → TakingIn s (state_at b) 0 x i
        unfolding state_at
        whole_went {x} {i} z y =
            let c : Context = context_at b in
            let d : Past = past_in (take (r2 + 1) whole) 0 b in
            let body : ℕ = body_len (get_or cut 0 0) in
            let u : r2 + 1 ≡ suc body = omega (arith, e, f2) in
            let v : d ≡ past_from (take (suc body) (sets cut held (take (r1 + 1) s))) 0 c = ap₂ (λ (k : ℕ) (m : List ℕ). past_from (take k m) 0 c) u whole_is in
            let m : 0 + (r1 + 1) ≡ r1 + 1 = omega arith in
            let k : piece_taken (between d.context Open (t + (r1 + 1))) (drop (0 + (r1 + 1)) s) ≡ piece_taken (holding c cut held t) s =
            gathers_whole s cut c held t 0 (r1 + 1) d cut_length o.some o.known o.within (omega (arith, e, f1, o.within)) (omega (arith, missing_inside)) (omega (arith, h)) v
            (omega (arith, q.1, z)) in
            record {
              is = y.is;
              inside = y.inside;
              same = y.same ∙ ap₂ (λ (v : Context) (n : ℕ). piece_taken (between v Open (t + (r1 + 1))) (drop n s)) (ap (λ (v : CheckState). v.context) stands.state) (sym m) ∙ k
                  ∙ ap (λ (v : CheckState). piece_taken v s) (sym w.state);
            }

-- ---- by the stage

module _ (s b : List ℕ) where
  -- nothing held
  pub none_held : {k : ℕ} {z : Bool} {cut : List ℕ} {t : ℕ} {x : List ℕ} {j : ℕ} → is_state b ≡ true → (state_at b).stage ≡ Open → t ≡ (state_at b).taken → k ≡ get_or b 10 0
      → cut ≡ put_at (take 12 (drop 11 b)) 0 (replicate 12 0) → z ≡ all_zero cut → (z && eqb k 0) ≡ true
      → TakingIn s (between (state_at b).context Open t) 0 x j → TakingIn s (state_at b) 0 x j
  unfolding state_at
  none_held {k} {z} {cut} {t} {x} {j} is st e f u v y w =
      let p : cut ≡ bytes_from b 11 12 = part_put b 11 12 (omega (arith, state_length b is)) u in
      let q : Clear cut k = is_zeros cut k (ap length p ∙ from_length b 11 12) v y in
      let c1 : replicate 12 0 ≡ (state_at b).cut = sym q.none ∙ p in
      let c2 : 0 ≡ (state_at b).held = sym q.zero ∙ f in
      record {
        is = w.is;
        inside = w.inside;
        same = w.same ∙ (λ i. piece_taken (record { context = (state_at b).context; cut = c1 i; held = c2 i; taken = e i; stage = sym st i }) s);
      }

  pub holding_by : {k : ℕ} {cut : List ℕ} {t : ℕ} → is_state b ≡ true → (state_at b).stage ≡ Open → t ≡ (state_at b).taken → k ≡ get_or b 10 0
      → cut ≡ put_at (take 12 (drop 11 b)) 0 (replicate 12 0) → HoldingIn b cut k t
  unfolding state_at
  holding_by {k} {cut} {t} is st e f u =
      let p : cut ≡ bytes_from b 11 12 = part_put b 11 12 (omega (arith, state_length b is)) u in
      record { is = is; state = λ i. record { context = (state_at b).context; cut = sym p i; held = sym f i; taken = sym e i; stage = st i } }

  -- there is room for the piece, and it has bytes
  module _ {t : ℕ} {r : Bool} (e : t ≡ quad_at b 6) (u : r ≡ leb (t + length s) 49152) (v : (eqb (length s) 0 || not r) ≡ false) where
    pub room_there : t + length s ≤ 49152
    room_there = leb-true (t + length s) 49152 (sym u ∙ not-false r (neither (eqb (length s) 0) (not r) v).1)

    pub opened : {k : ℕ} → is_state b ≡ true → k ≡ get_or b 0 0 → k ≡ 0
        → (is_state b ≡ true) × ((state_at b).stage ≡ Open) × (t ≡ (state_at b).taken) × (t + length s ≤ 49152)
    unfolding state_at
    opened is f z = (is, sym (is_open (get_or b 0 0) (get_or b 1 0) (quad_at b 2) (sym f ∙ z)), e, room_there)

    -- after a refusal
    pub counted : {k : ℕ} {x : List ℕ} → k ≡ get_or b 0 0 → k ≡ 2 → Stands x (progressed (state_at b) (t + length s) 0 (replicate 12 0)) → TakingIn s (state_at b) 0 x (length s)
    unfolding state_at
    counted {k} {x} f z y =
        let n : ℕ = get_or b 1 0 in
        let o : ℕ = quad_at b 2 in
        let two : get_or b 0 0 ≡ 2 = sym f ∙ z in
        let st : (state_at b).stage ≡ Faulty n o = sym (is_faulty (get_or b 0 0) n o (λ q. absurd (omega (arith, q, two))) (λ q. absurd (omega (arith, q, two)))) in
        let some : length s ≡ 0 → ⊥ = eqb-false (length s) 0 (neither (eqb (length s) 0) (not r) v).0 in
        let w : state_at x ≡ between (context_at b) (Faulty n o) ((state_at b).taken + length s) =
        y.state ∙ (λ i. record { context = context_at b; cut = replicate 12 0; held = 0; taken = e i + length s; stage = st i }) in
        let q : Taking s (state_at b) 0 (state_at x) (length s) =
        (on_refused s (state_at b) 0 (state_at x) n o st (omega (arith, some)) (omega (arith, room_there, e)) (omega arith) w).0 in
        record { is = y.is; inside = q.inside; same = q.same }

-- ---- a piece

module _ (b s : List ℕ) {t : Bool} (e : t ≡ is_state b) where
  pub no_state : not t ≡ true → (false ≡ is_state b) × (b ≡ piece_taken_in b s)
  unfolding piece_taken_in
  no_state h = let z : is_state b ≡ false = sym e ∙ not_true t h in (sym z, simp z)

  module _ (h : not t ≡ false) where
    pub state_there : is_state b ≡ true
    state_there = sym e ∙ not-false t h

    after_piece : {x : List ℕ} → x ≡ state_bytes (piece_taken (state_at b) s) → (true ≡ is_state b) × (x ≡ piece_taken_in b s)
    unfolding piece_taken_in
    after_piece z = (sym state_there, simp state_there z)

    module _ {a : List ℕ} {j : ℕ} (ga : Bytes a) (w : TakingIn s (state_at b) 0 a j) where
      -- all of it in place
      pub all_taken : length s ≤ j → (true ≡ is_state b) × (a ≡ piece_taken_in b s)
      unfolding piece_taken
      all_taken l =
          after_piece (sym (parts.written a ga w.is) ∙ ap state_bytes (sym (ap (piece_taken (state_at a)) (drop_of_length-le s l)) ∙ w.same))

      -- the rest by value
      pub rest_taken : {k y : CheckState} {x : List ℕ} → Bytes b → Bytes s → k ≡ state_at a → y ≡ piece_taken k (take (length s - j) (drop j s)) → x ≡ put_at (state_bytes y) 0 a
          → (true ≡ is_state b) × (x ≡ piece_taken_in b s)
      rest_taken {k} {y} {x} gb gs u v z =
          let next : CheckState = piece_taken (state_at b) s in
          let n : length (state_bytes next) ≡ 495 = parts.size next (stays_encodable.piece (state_at b) s (parts.encodable b gb state_there) gs) in
          let m : take (length s - j) (drop j s) ≡ drop j s = take_all (length s - j) (drop j s) (omega (arith, length-drop j s)) in
          let q : y ≡ next = v ∙ ap₂ piece_taken u m ∙ w.same in
          after_piece (z ∙ ap (λ (d : CheckState). put_at (state_bytes d) 0 a) q ∙ put_over (state_bytes next) a (n ∙ sym (state_length a w.is)))
