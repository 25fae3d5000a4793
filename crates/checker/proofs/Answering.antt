-- How far the check goes in the bytes of a state, from how far its stretches go.
use Rattle.std.specs.Prelude.{Result, Ok, Err}
use Rattle.std.proofs.Common.{◌≡◌, ℕ, ◌+◌, ◌<◌, ◌≤◌, Bool, true, false, cond, not, ◌&&◌, eqb, List, ◌++◌, length, get_or, take, drop, sym, refl, ap, ◌∙◌, subst, inl, append-nil, arith, lit≤, drop_of_length-le, length-take-le, drop_at}
use lib.Seq.{sets, length-sets}
use Rattle.words.specs.Word.{put_at}
use Rattle.words.proofs.Laws.{fits, put_sets}
use Rattle.records.specs.Kinds.{kind_of}
use Rattle.records.specs.declared.Record.{Record}
use Rattle.reader.specs.Read.{read_at}
use Rattle.reader.specs.Walk.{Walk, more, stop, walk_from}
use Rattle.reader.specs.declared.NoRecord.{NoRecord}
use Rattle.roundtrip.specs.Fits.{Bytes}
use Rattle.fields.specs.Fields.{bytes_from, flag_byte, is_flag}
use Rattle.fields.proofs.Back.{from_add, from_all}
use Rattle.context.specs.Context.{with_record}
use Rattle.context.specs.declared.Context.{Context}
use Rattle.judge.specs.Judge.{judge_by}
use Rattle.judge.specs.Past.{past_by, past_from}
use Rattle.judge.specs.declared.Past.{Past}
use Rattle.judge.proofs.Passing.{stops_by, first_by}
use Rattle.context_bytes.specs.Encoding.{context_bytes, context_at, ContextEncodable}
use Rattle.context_bytes.proofs.Reading.{part_of}
use Rattle.context_bytes.proofs.Regions.{same_bytes, sets_apart}
use Rattle.context_bytes.proofs.Contexts.{record_encodable}
use Rattle.context_bytes.proofs.Decoded.{context_written, context_encodable}
use Rattle.context_bytes.proofs.Encoded.{context_length, context_back, context_flag}
use Rattle.checker.specs.InPlace.{past_in, past_bytes}
use Rattle.checker.specs.Stretch.{Rest, rest_of, AfterRecord, OnwardIn}
use Rattle.checker.proofs.Encodable.{read_fits, past_encodable}

-- ---- how far whole records go, by the records from there on

-- the offset where a walk begins
offset_of : Walk → ℕ
offset_of (stop k o) = o
offset_of (more o r w) = o

abbrev at : Rest → Past
at t = record { context = t.context; next = offset_of t.walk }

past_rest : (c : Context) (w : Walk) → past_by c w ≡ at (rest_of c w)
unfolding past_by rest_of offset_of
past_rest c (stop k o) = refl
past_rest c (more o r w) = go (eqb (judge_by c r) 0 && not (eqb (kind_of r) 0x1f)) (past_rest (with_record c r) w)
  where
    go : (b : Bool) → past_by (with_record c r) w ≡ at (rest_of (with_record c r) w)
        → cond b (past_by (with_record c r) w) (record { context = c; next = o }) ≡ at (cond b (rest_of (with_record c r) w) (record { context = c; walk = more o r w }))
    go true e = e
    go false e = refl

past_same : (s b : List ℕ) (i : ℕ) (x : List ℕ) (j : ℕ) → OnwardIn s b i x j → past_in s j x ≡ past_in s i b
unfolding past_from
past_same s b i x j h = past_rest (context_at x) (walk_from s j) ∙ ap at h.same ∙ sym (past_rest (context_at b) (walk_from s i))

-- ---- the bytes of a state

-- what is remembered is their last part
module _ (x : List ℕ) (n : length x ≡ 495) where
  put_last_part : (c : List ℕ) → length c ≡ 472 → put_at c 23 x ≡ take 23 x ++ c
  unfolding put_at
  put_last_part c m =
      let all : length x ≤ 23 + length c = omega (arith, n, m) in
      simp (fits c 23 x (omega (arith, n, m))) (ap (λ (l : List ℕ). take 23 x ++ c ++ l) (drop_of_length-le x all) ∙ append-nil (take 23 x ++ c))

  first_part : take 23 x ≡ bytes_from x 0 23
  first_part = part_of x 0 23 (omega (arith, n))

  two_parts : take 23 x ++ bytes_from x 23 472 ≡ x
  two_parts = ap (λ (l : List ℕ). l ++ bytes_from x 23 472) first_part ∙ sym (from_add x 0 23 472) ∙ ap (bytes_from x 0) (sym n) ∙ from_all x

-- bytes before it that are the same
module _ (b x : List ℕ) (n : length b ≡ 495) (m : length x ≡ 495) (front : (i : ℕ) → i < 23 → get_or x i 0 ≡ get_or b i 0) where
  same_first : take 23 x ≡ take 23 b
  same_first = first_part x m ∙ same_bytes x b 0 23 (λ i l u. front i u) 0 23 (lit≤ tt) (lit≤ tt) ∙ sym (first_part b n)

  put_again : (c : List ℕ) → length c ≡ 472 → put_at c 23 x ≡ put_at c 23 b
  put_again c k = put_last_part x m c k ∙ ap (λ (l : List ℕ). l ++ c) same_first ∙ sym (put_last_part b n c k)

  written_back : Bytes x → is_flag (get_or x 23 0) ≡ true → x ≡ put_at (context_bytes (context_at x)) 23 b
  written_back g f =
      let w : context_bytes (context_at x) ≡ bytes_from x 23 472 = context_written x g f in
      let k : length (context_bytes (context_at x)) ≡ 472 = context_length (context_at x) (context_encodable x g) in
      sym (sym (put_again (context_bytes (context_at x)) k) ∙ put_last_part x m (context_bytes (context_at x)) k ∙ ap (λ (l : List ℕ). take 23 x ++ l) w ∙ two_parts x m)

-- ---- the answer

module _ (s b : List ℕ) (i : ℕ) (x : List ℕ) (j : ℕ) (g : AfterRecord b) (h : OnwardIn s b i x j) where
  -- where no record is whole behind them
  stops : Bytes x → record { context = context_at x; next = j } ≡ past_in s i b → (x ≡ past_bytes s i b) × (j ≡ (past_in s i b).next)
  stops f e =
      let flag : is_flag (get_or x 23 0) ≡ true = ap is_flag (h.front 23 (lit≤ tt) ∙ g.1) in
      (written_back b x g.0 h.size (λ n l. h.front n (omega arith)) f flag ∙ ap (λ (p : Past). put_at (context_bytes p.context) 23 b) e, ap (λ (p : Past). p.next) e)

  pub stops_at : (why : NoRecord) {r : Result (Record × ℕ) NoRecord} → Bytes x → r ≡ read_at s j → r ≡ Err why → (x ≡ past_bytes s i b) × (j ≡ (past_in s i b).next)
  stops_at why f e q = stops f (stops_by s (context_at b) (context_at x) i j (past_same s b i x j h) why e q)

  -- or one by one from there
  pub goes_on : {y : List ℕ} {k : ℕ} → Bytes s → Bytes x → (y ≡ past_bytes s j x) × (k ≡ (past_in s j x).next) → (y ≡ past_bytes s i b) × (k ≡ (past_in s i b).next)
  goes_on a f w =
      let e : past_in s j x ≡ past_in s i b = past_same s b i x j h in
      let k : length (context_bytes (past_in s j x).context) ≡ 472 = context_length _ (past_encodable s j (context_at x) a (context_encodable x f)) in (
        w.0 ∙ put_again b x g.0 h.size (λ n l. h.front n (omega arith)) (context_bytes (past_in s j x).context) k ∙ ap (λ (p : Past). put_at (context_bytes p.context) 23 b) e,
        w.1 ∙ ap (λ (p : Past). p.next) e,
      )

-- ---- past the first record, by value

module _ (s b : List ℕ) (i : ℕ) (n : length b ≡ 495) (a : Bytes s) (f : Bytes b) (c d : Context) (r : Record) (m : ℕ) (c1 : c ≡ context_at b) (e : Ok (r, m) ≡ read_at s i)
    (d1 : d ≡ with_record c r) (x : List ℕ) (p : x ≡ put_at (context_bytes d) 23 b) where
  encodable : ContextEncodable d
  encodable =
      subst ContextEncodable (sym (d1 ∙ ap (λ (y : Context). with_record y r) c1)) (record_encodable (context_at b) (context_encodable b f) r (read_fits s i a e))

  size : length (context_bytes d) ≡ 472
  size = context_length d encodable

  is : x ≡ sets b 23 (context_bytes d)
  is = p ∙ put_sets (context_bytes d) 23 b (omega (arith, n, size))

  all : length x ≡ 495
  all = ap length is ∙ length-sets b 23 (context_bytes d) ∙ n

  before : (j : ℕ) → j < 23 → get_or x j 0 ≡ get_or b j 0
  before j l = ap (λ (y : List ℕ). get_or y j 0) is ∙ sets_apart b 23 (context_bytes d) j (inl l)

  from : drop 23 x ≡ context_bytes d
  from =
      ap (drop 23) (p ∙ put_last_part b n (context_bytes d) size)
      ∙ drop_at (take 23 b) (context_bytes d) 23 (length-take-le 23 b (omega (arith, n)))

  pub first_begun : AfterRecord x
  first_begun = (all, context_flag d encodable x from ∙ ap (λ (y : Context). flag_byte y.begun) d1)

  pub first_on : {no k : ℕ} {y : List ℕ} {j : ℕ} → no ≡ judge_by c r → no ≡ 0 → k ≡ kind_of r → (k ≡ 0x1f → ⊥) → (y ≡ past_bytes s m x) × (j ≡ (past_in s m x).next)
      → (y ≡ past_bytes s i b) × (j ≡ (past_in s i b).next)
  first_on j1 z k1 u v =
      let g : past_in s m x ≡ past_in s i b = ap (past_from s m) (context_back d encodable x from) ∙ first_by s c i e refl j1 z k1 u d1 ∙ ap (past_from s i) c1 in
      let l : length (context_bytes (past_in s m x).context) ≡ 472 =
      context_length _ (past_encodable s m (context_at x) a (subst ContextEncodable (sym (context_back d encodable x from)) encodable))
      in (
        v.0 ∙ put_again b x n all before (context_bytes (past_in s m x).context) l ∙ ap (λ (t : Past). put_at (context_bytes t.context) 23 b) g,
        v.1 ∙ ap (λ (t : Past). t.next) g,
      )

-- what was read, by its case
pub whole_by : (s : List ℕ) (i : ℕ) (r : Record) (n : ℕ) {x : Result (Record × ℕ) NoRecord} → x ≡ read_at s i → x ≡ Ok (r, n) → Ok (r, n) ≡ read_at s i
whole_by s i r n e w = sym w ∙ e
