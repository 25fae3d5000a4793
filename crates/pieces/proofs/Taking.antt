-- How far a piece is taken, from what the code is told: bytes of a record that has begun, whole records, and bytes after a refusal.
use Rattle.std.specs.Prelude.{Result, Ok, Err}
use Prim.Native.Nat.{ℕ, zero, suc, ◌+◌, ◌-◌, ◌≤◌, ◌<◌}
use native.Mathlib.Nat.{le_refl}
use native.Mathlib.Numerals.{add-one}
use native.Mathlib.Omega.{arith}
use mathlib.Core.Path.{◌≡◌, refl, sym, ap, ap₂, ◌∙◌, subst}
use mathlib.Core.List.{List, [], ◌∷◌}
use mathlib.Core.Bool.{Bool, true, false, not, ◌&&◌, ◌||◌, false≢true}
use lib.ListN.{length, get_or, set, drop, replicate, length-drop, drop_of_length-le}
use lib.Seq.{drop-cons, drop-drop}
use lib.Dec.{eqb, leb, ltb}
use borrow.Author.Tests.{lt-ltb, le-leb, lt-leb, leb-true, leb-false, ltb-false, eqb-true, eqb-false, ne_eqb, not-false}
use Rattle.words.specs.Word.{all_zero}
use Rattle.judge.proofs.Represents.{both}
use Rattle.records.specs.Kinds.{body_len, no_len, kind_of}
use Rattle.records.specs.declared.Record.{Record}
use Rattle.reader.specs.Read.{read_at, record_of}
use Rattle.reader.specs.declared.NoRecord.{NoRecord}
use Rattle.reader.proofs.Reading.{told_by}
use Rattle.rules.specs.Check.{limit}
use Rattle.context.specs.Context.{with_record}
use Rattle.context.specs.declared.Context.{Context}
use Rattle.judge.specs.Judge.{judge_by}
use Rattle.judge.specs.Past.{past_from}
use Rattle.judge.specs.declared.Past.{Past}
use Rattle.judge.proofs.Passing.{stops_by, faulty_by, end_by, on_by}
use Rattle.pieces.specs.declared.Stage.TheVariants.{Open, Faulty}
use Rattle.pieces.specs.declared.CheckState.{CheckState}
use Rattle.pieces.specs.Pieces.{between, overlong, record_taken, byte_open, byte_by, byte_taken, piece_taken}
use Rattle.pieces.specs.Taking.{holding, Holds, PastBegun, Clear, Taking}
use Rattle.pieces.proofs.Bytes.{on_byte}
use Rattle.pieces.proofs.Cut.{record_at_once, byte_counts, too_many}

pub neither : (a b : Bool) → (a || b) ≡ false → (a ≡ false) × (b ≡ false)
neither false false e = (refl, refl)
neither false true e = absurd (false≢true (sym e))
neither true b e = absurd (false≢true (sym e))

not_true : (b : Bool) → not b ≡ false → b ≡ true
not_true true e = refl
not_true false e = absurd (false≢true (sym e))

-- ---- bytes of a record that has begun

lengthens : (c : Context) (cut : List ℕ) (held t b : ℕ) → t < limit → (body_len (get_or (set cut held b) 0 0) ≡ no_len → ⊥) → held < body_len (get_or (set cut held b) 0 0)
    → byte_taken (holding c cut held t) b ≡ holding c (set cut held b) (suc held) (suc t)
unfolding byte_taken byte_by byte_open
lengthens c cut held t b r u l = simp (lt-ltb t limit r, ne_eqb _ _ u, lt-leb _ _ l)

pub holds_begin : (s cut : List ℕ) (held i : ℕ) → i ≤ length s → Holds s cut held i cut held i
holds_begin s cut held i h =
    record {
      further = le_refl i;
      inside = h;
      same = λ c t g. ap (λ (m : ℕ). piece_taken (holding c cut held m) (drop i s)) (let z : t + (i - i) ≡ t = omega arith in z);
    }

pub holds_on : (s cut : List ℕ) (held from : ℕ) (bytes : List ℕ) (n i : ℕ) {more : List ℕ} {size : ℕ} → i < length s → more ≡ set bytes n (get_or s i 0)
    → size ≡ body_len (get_or more 0 0) → (size ≡ no_len → ⊥) → n < size → Holds s cut held from bytes n i → Holds s cut held from more (n + 1) (i + 1)
holds_on s cut held from bytes n i {more} {size} l e f u m h =
    let a : from ≤ i = h.further in
    let k : body_len (get_or (set bytes n (get_or s i 0)) 0 0) ≡ size = sym (f ∙ ap (λ (x : List ℕ). body_len (get_or x 0 0)) e) in
    record {
      further = omega arith;
      inside = omega arith;
      same = λ c t r.
          let o : t + (i - from) < limit = omega arith in
          let v : suc (t + (i - from)) ≡ t + ((i + 1) - from) = omega arith in
          let w : byte_taken (holding c bytes n (t + (i - from))) (get_or s i 0) ≡ holding c more (n + 1) (t + ((i + 1) - from)) =
          lengthens c bytes n (t + (i - from)) (get_or s i 0) o (λ z. u (sym k ∙ z)) (omega (arith, k))
          ∙ ap (λ (x : List ℕ). holding c x (suc n) (suc (t + (i - from)))) (sym e)
          ∙ ap₂ (holding c more) (sym (add-one n)) v
          in
          on_byte s (holding c bytes n (t + (i - from))) (holding c more (n + 1) (t + ((i + 1) - from))) i l (sym w) ∙ h.same c t r;
    }

-- ---- whole records

record Ran (s : List ℕ) (c : Context) (t i : ℕ) (p : Past) : Type 0 where
  pub further : i ≤ p.next
  pub inside : p.next ≤ length s
  pub same : piece_taken (between p.context Open (t + (p.next - i))) (drop p.next s) ≡ piece_taken (between c Open t) (drop i s)

ran_none : (s : List ℕ) (c : Context) (t i : ℕ) → i ≤ length s → Ran s c t i (record { context = c; next = i })
ran_none s c t i h = record { further = le_refl i; inside = h; same = ap (λ (m : ℕ). piece_taken (between c Open m) (drop i s)) (let z : t + (i - i) ≡ t = omega arith in z) }

-- past one that is faultless and no end
module _ (s : List ℕ) (c : Context) (t i : ℕ) {r : Record} {n : ℕ} (g : Ok (r, n) ≡ read_at s i) (h : t + (length s - i) ≤ limit) where
  abbrev k : ℕ
  k = get_or s i 0

  ran_one : judge_by c r ≡ 0 → (kind_of r ≡ 0x1f → ⊥) → piece_taken (between (with_record c r) Open (t + (n - i))) (drop n s) ≡ piece_taken (between c Open t) (drop i s)
  unfolding record_taken
  ran_one z v =
      let o = told_by s i g refl in
      let b2 : i < length s = o.inside in
      let b3 : n ≡ i + 1 + body_len k = o.next in
      let b4 : n ≤ length s = o.fits in
      let b5 : length (drop (suc i) s) ≡ length s - suc i = length-drop (suc i) s in
      let p : t + (n - i) ≡ t + suc (body_len k) = omega arith in
      let y : drop (body_len k) (drop (suc i) s) ≡ drop n s = rw drop-drop (ap (λ (m : ℕ). drop m s) (let z : suc i + body_len k ≡ n = omega arith in z)) in
      let b = record_at_once c t k o.known (drop (suc i) s) (omega arith) (omega arith) in
      let m : record_of k (drop (suc i) s) ≡ r = sym (o.is ∙ ap (λ (m : ℕ). record_of k (drop m s)) (add-one i)) in
      ap (λ (m : ℕ). piece_taken (between (with_record c r) Open m) (drop n s)) p
      ∙ sym (ap (piece_taken (between c Open t)) (drop-cons s i 0 b2) ∙ b
      ∙ ap₂ (λ (x : Record) (l : List ℕ). piece_taken (record_taken (between c Open t) (t + suc (body_len k)) t x) l) m y
      ∙ simp (z, ne_eqb _ _ v))

-- past all of them, by how many bytes are left
Runs : List ℕ → ℕ → Type 0
Runs s m = (c : Context) (t i : ℕ) → i ≤ length s → length s - i < m → t + (length s - i) ≤ limit → Ran s c t i (past_from s i c)

module _ (s : List ℕ) (c : Context) (t i : ℕ) (l : i ≤ length s) (h : t + (length s - i) ≤ limit) where
  stays : {p : Past} → record { context = c; next = i } ≡ p → Ran s c t i p
  stays e = subst (Ran s c t i) e (ran_none s c t i l)

  goes : {r : Record} {n : ℕ} {p : Past} → Ok (r, n) ≡ read_at s i → judge_by c r ≡ 0 → (kind_of r ≡ 0x1f → ⊥) → Ran s (with_record c r) (t + (n - i)) n p → Ran s c t i p
  goes {r} {n} {p} g z v a =
      let b : n ≡ i + 1 + body_len (get_or s i 0) = (told_by s i g refl).next in
      let d : n ≤ p.next = a.further in
      let e : t + (n - i) + (p.next - n) ≡ t + (p.next - i) = omega arith in
      record {
        further = omega arith;
        inside = a.inside;
        same = ap (λ (m : ℕ). piece_taken (between p.context Open m) (drop p.next s)) (sym e) ∙ a.same ∙ ran_one s c t i g h z v;
      }

  runs_by : (m : ℕ) → Runs s m → length s - i < suc m → Ran s c t i (past_from s i c)
  unfolding Runs
  runs_by m f b = go (read_at s i) refl
    where
      go : (x : Result (Record × ℕ) NoRecord) → x ≡ read_at s i → Ran s c t i (past_from s i c)
      go (Err why) e = stays (stops_by s c c i i refl why e refl)
      go (Ok (r, n)) e = cases (eqb (judge_by c r) 0) (eqb (kind_of r) 0x1f) refl refl
        where
          o1 : n ≡ i + 1 + body_len (get_or s i 0)
          o1 = (told_by s i e refl).next

          o2 : n ≤ length s
          o2 = (told_by s i e refl).fits

          cases : (a d : Bool) → eqb (judge_by c r) 0 ≡ a → eqb (kind_of r) 0x1f ≡ d → Ran s c t i (past_from s i c)
          cases false d p q = stays (faulty_by s c c i i refl e refl refl (eqb-false _ _ p))
          cases true true p q = stays (end_by s c c i i refl e refl refl (eqb-true _ _ p) refl (eqb-true _ _ q))
          cases true false p q =
              let z : judge_by c r ≡ 0 = eqb-true _ _ p in
              let v : kind_of r ≡ 0x1f → ⊥ = eqb-false _ _ q in
              let b1 : n ≡ i + 1 + body_len (get_or s i 0) = o1 in
              let b2 : n ≤ length s = o2 in
              subst (Ran s c t i) (on_by s c c i i refl e refl refl z refl v refl) (goes e z v (f (with_record c r) (t + (n - i)) n o2 (omega arith) (omega arith)))

runs : (s : List ℕ) (m : ℕ) → Runs s m
unfolding Runs
runs s zero c t i l b h = absurd (omega arith)
runs s (suc m) c t i l b h = runs_by s c t i l h m (runs s m) b

ran_all : (s : List ℕ) (c : Context) (t i : ℕ) {p : Past} → i ≤ length s → t + (length s - i) ≤ limit → p ≡ past_from s i c → Ran s c t i p
unfolding Runs
ran_all s c t i l h e = subst (Ran s c t i) (sym e) (runs s (suc (length s)) c t i l (omega arith) h)

pub ran_bounds : (s : List ℕ) (c : Context) (t i : ℕ) {p : Past} → i ≤ length s → t + (length s - i) ≤ limit → p ≡ past_from s i c → (i ≤ p.next) × (p.next ≤ length s)
ran_bounds s c t i l h e = let r = ran_all s c t i l h e in (r.further, r.inside)

-- past all whole records, and with bytes held behind them
pub on_records : (s : List ℕ) (c : Context) (t i : ℕ) (p : Past) (bytes : List ℕ) (n j : ℕ) → i ≤ length s → t + (length s - i) ≤ limit → p ≡ past_from s i c
    → Holds s (replicate 12 0) 0 p.next bytes n j → Taking s (between c Open t) i (holding p.context bytes n (t + (j - i))) j
on_records s c t i p bytes n j l h e f =
    let r = ran_all s c t i l h e in
    let r1 : i ≤ p.next = r.further in
    let r2 : p.next ≤ length s = r.inside in
    let f1 : p.next ≤ j = f.further in
    let f2 : j ≤ length s = f.inside in
    let m : t + (p.next - i) + (j - p.next) ≡ t + (j - i) = omega arith in
    record {
      further = omega arith;
      inside = f2;
      room = omega arith;
      same = ap (λ (x : ℕ). piece_taken (holding p.context bytes n x) (drop j s)) (sym m) ∙ f.same p.context (t + (p.next - i)) (omega arith) ∙ r.same;
    }

pub none_begun : (s : List ℕ) (k : CheckState) (i : ℕ) (x : CheckState) (j : ℕ) → Clear k.cut k.held → k.stage ≡ Open → i < j
    → Taking s (between k.context Open k.taken) i x j → Taking s k i x j × (i < j)
none_begun s k i x j f st l a = (
  record {
    further = a.further;
    inside = a.inside;
    room = a.room;
    same = a.same
        ∙ (λ y. piece_taken (record { context = k.context; cut = sym f.none y; held = sym f.zero y; taken = k.taken; stage = sym st y }) (drop i s));
  },
  l,
)

-- ---- a record that has begun

pub not_past : (s : List ℕ) (c : Context) (cut : List ℕ) (held at : ℕ) → PastBegun s c cut held at c at
not_past s c cut held at = record { next = λ l. absurd (omega arith); same = λ l. absurd (omega arith) }

pub past_begun : (s : List ℕ) (c d : Context) (cut : List ℕ) (held at : ℕ) {whole : List ℕ} {n no m : ℕ} {r : Record} → whole ≡ set cut held (get_or s at 0)
    → n ≡ body_len (get_or whole 0 0) → (eqb n no_len || ltb held n) ≡ false → r ≡ record_of (get_or whole 0 0) (drop 1 whole) → no ≡ judge_by c r → m ≡ kind_of r
    → (not (eqb no 0) || eqb m 0x1f) ≡ false → d ≡ with_record c r → PastBegun s c cut held at d (at + 1)
unfolding byte_taken byte_by byte_open record_taken
past_begun s c d cut held at {whole} {n} {no} {m} {r} w q u e j f g v =
    let a = neither (eqb n no_len) (ltb held n) u in
    let b = neither (not (eqb no 0)) (eqb m 0x1f) g in
    let l : n ≤ held = ltb-false held n a.1 in
    record {
      next = λ z. refl;
      same = λ z t h. simp (lt-ltb t limit h, ← w, ← q, a.0, le-leb n held l, ← e, ← j, not_true (eqb no 0) b.0, ← f, b.1) (ap (λ (x : Context). between x Open (suc t)) (sym v));
    }

module _ (s : List ℕ) (c : Context) (cut : List ℕ) (held t from : ℕ) (bytes : List ℕ) (n i : ℕ) (l : from < length s) (r : t + (length s - from) ≤ limit) (h : Holds s cut held from bytes n i) where
  -- it goes on behind the piece
  pub held_all : length s ≤ i → Taking s (holding c cut held t) from (holding c bytes n (t + (i - from))) i × (from < i)
  held_all b =
      let a : from ≤ i = h.further in
      (record { further = a; inside = h.inside; room = let m : i ≤ length s = h.inside in omega arith; same = h.same c t r }, omega arith)

  -- one byte makes it faulty, or an end
  pub held_byte : (x : CheckState) → i < length s → x ≡ byte_taken (holding c bytes n (t + (i - from))) (get_or s i 0) → Taking s (holding c cut held t) from x (i + 1) × (from < i + 1)
  held_byte x b e =
      let a : from ≤ i = h.further in
      let d : t + (i - from) < limit = omega arith in
      let f : x.taken ≡ suc (t + (i - from)) = ap (λ (k : CheckState). k.taken) e ∙ byte_counts (holding c bytes n (t + (i - from))) (get_or s i 0) d in (
        record {
          further = omega arith;
          inside = omega arith;
          room = omega (arith, f);
          same = on_byte s (holding c bytes n (t + (i - from))) x i b e ∙ h.same c t r;
        },
        omega arith,
      )

  -- or it is passed
  pub held_past : (p : Past) (x : CheckState) (j : ℕ) → i < length s → i < p.next → PastBegun s c bytes n i p.context p.next
      → Taking s (between p.context Open (t + (i - from) + 1)) p.next x j → Taking s (holding c cut held t) from x j × (from < j)
  held_past p x j b m q a =
      let f : from ≤ i = h.further in
      let g : p.next ≡ i + 1 = q.next m in
      let a1 : p.next ≤ j = a.further in
      let d : t + (i - from) < limit = omega arith in
      let one : between p.context Open (t + (i - from) + 1) ≡ byte_taken (holding c bytes n (t + (i - from))) (get_or s i 0) =
      ap (between p.context Open) (add-one (t + (i - from))) ∙ sym (q.same m (t + (i - from)) d)
      in (
        record {
          further = omega arith;
          inside = a.inside;
          room = a.room;
          same = a.same ∙ ap (λ (y : ℕ). piece_taken (between p.context Open (t + (i - from) + 1)) (drop y s)) g
              ∙ on_byte s (holding c bytes n (t + (i - from))) (between p.context Open (t + (i - from) + 1)) i b one ∙ h.same c t r;
        },
        omega arith,
      )

-- the same of the state that holds them
pub on_held : (s : List ℕ) (k : CheckState) (i : ℕ) (x : CheckState) (j : ℕ) → k.stage ≡ Open
    → Taking s (holding k.context k.cut k.held k.taken) i x j × (i < j) → Taking s k i x j × (i < j)
on_held s k i x j st a = (
  record {
    further = a.0.further;
    inside = a.0.inside;
    room = a.0.room;
    same = a.0.same ∙ (λ y. piece_taken (record { context = k.context; cut = k.cut; held = k.held; taken = k.taken; stage = sym st y }) (drop i s));
  },
  a.1,
)

-- ---- after the end record, and after a refusal

pub on_one : (s : List ℕ) (k : CheckState) (i : ℕ) (x : CheckState) → i < length s → k.taken + (length s - i) ≤ limit → x ≡ byte_taken k (get_or s i 0)
    → Taking s k i x (i + 1) × (i < i + 1)
on_one s k i x l h e =
    let b : k.taken < limit = omega arith in
    let f : x.taken ≡ suc k.taken = ap (λ (y : CheckState). y.taken) e ∙ byte_counts k (get_or s i 0) b in
    (record { further = omega arith; inside = omega arith; room = omega (arith, f); same = on_byte s k x i l e }, omega arith)

counts_on : (c : Context) (n o t : ℕ) (bs : List ℕ) → t + length bs ≤ limit → piece_taken (between c (Faulty n o) t) bs ≡ between c (Faulty n o) (t + length bs)
unfolding piece_taken byte_taken byte_by
counts_on c n o t [] h = ap (between c (Faulty n o)) (let z : t ≡ t + 0 = omega arith in z)
counts_on c n o t (b ∷ bs) h =
    simp (lt-ltb t limit (omega arith)) (counts_on c n o (suc t) bs (omega arith) ∙ ap (between c (Faulty n o)) (let z : suc t + length bs ≡ t + suc (length bs) = omega arith in z))

pub on_refused : (s : List ℕ) (k : CheckState) (i : ℕ) (x : CheckState) (n o : ℕ) {t : ℕ} → k.stage ≡ Faulty n o → i < length s → k.taken + (length s - i) ≤ limit
    → t ≡ length s - i → x ≡ between k.context (Faulty n o) (k.taken + t) → Taking s k i x (length s) × (i < length s)
unfolding piece_taken byte_taken byte_by
on_refused s k i x n o {t} st l h g e =
    let b : length (drop (suc i) s) ≡ length s - suc i = length-drop (suc i) s in
    let m : k.taken + t ≡ suc k.taken + length (drop (suc i) s) = omega arith in
    let f : x.taken ≡ k.taken + t = ap (λ (y : CheckState). y.taken) e in
    let r : k.taken < limit = omega arith in
    let one : byte_taken k (get_or s i 0) ≡ between k.context (Faulty n o) (suc k.taken) = simp (lt-ltb k.taken limit r, st) in (
      record {
        further = omega arith;
        inside = le_refl (length s);
        room = omega (arith, f);
        same = ap (piece_taken x) (drop_of_length-le s (le_refl (length s))) ∙ e ∙ ap (between k.context (Faulty n o)) m
            ∙ sym (ap (piece_taken k) (drop-cons s i 0 l) ∙ ap (λ (y : CheckState). piece_taken y (drop (suc i) s)) one
            ∙ counts_on k.context n o (suc k.taken) (drop (suc i) s) (omega arith));
      },
      l,
    )

-- ---- a piece

pub no_bytes : (s : List ℕ) (k : CheckState) → length s ≡ 0 → k ≡ piece_taken k s
unfolding piece_taken
no_bytes [] k e = refl
no_bytes (b ∷ s) k e = absurd (omega arith)

pub no_room : (s : List ℕ) (k : CheckState) {b : Bool} {x : CheckState} → (length s ≡ 0 → ⊥) → b ≡ leb (k.taken + length s) 49152 → not b ≡ true → x ≡ overlong → x ≡ piece_taken k s
no_room [] k u e h f = absurd (u refl)
no_room (d ∷ s) k {b} u e h f = f ∙ sym (too_many k d s (leb-false _ _ (sym e ∙ go b h)))
  where
    go : (b : Bool) → not b ≡ true → b ≡ false
    go true q = absurd (false≢true q)
    go false q = refl

pub has_room_lem : (s : List ℕ) (k : CheckState) {b : Bool} → b ≡ leb (k.taken + length s) 49152 → not b ≡ false → k.taken + (length s - 0) ≤ limit
has_room_lem s k {b} e h = let a : k.taken + length s ≤ limit = leb-true _ _ (sym e ∙ not-false b h) in omega arith

pub room_past : (t n : ℕ) → 49152 < t → false ≡ leb (t + n) 49152
room_past t n h = sym (lt-leb (t + n) 49152 (omega arith))

pub room_left : (t n m : ℕ) → t ≤ 49152 → m ≡ 49152 - t → leb n m ≡ leb (t + n) 49152
room_left t n m h e = go (leb n m) refl
  where
    go : (b : Bool) → leb n m ≡ b → b ≡ leb (t + n) 49152
    go true q = let l : n ≤ m = leb-true _ _ q in sym (le-leb (t + n) 49152 (omega arith))
    go false q = let l : m < n = leb-false _ _ q in sym (lt-leb (t + n) 49152 (omega arith))

-- ---- nothing held

zeros_are : (n : ℕ) (xs : List ℕ) → length xs ≡ n → all_zero xs ≡ true → xs ≡ replicate n 0
unfolding all_zero
zeros_are zero [] e z = refl
zeros_are zero (x ∷ xs) e z = absurd (omega arith)
zeros_are (suc n) [] e z = absurd (omega arith)
zeros_are (suc n) (x ∷ xs) e z =
    let b = both (eqb x 0) (all_zero xs) z in
    ap₂ (λ (y : ℕ) (ys : List ℕ). y ∷ ys) (eqb-true x 0 b.0) (zeros_are n xs (omega arith) b.1)

pub is_zeros : (cut : List ℕ) (held : ℕ) {z : Bool} → length cut ≡ 12 → z ≡ all_zero cut → (z && eqb held 0) ≡ true → Clear cut held
is_zeros cut held {z} l a b = let q = both z (eqb held 0) b in record { none = zeros_are 12 cut l (sym a ∙ q.0); zero = eqb-true held 0 q.1 }
