-- Laws of `read_at`, and its tie to the walk.
use Rattle.std.specs.Prelude.{Result, Ok, Err}
use mathlib.Core.Path.{◌≡◌, refl, sym, ap, ◌∙◌, subst}
use mathlib.Core.List.{List, [], ◌∷◌}
use mathlib.Core.Bool.{Bool, true, false, cond}
use Prim.Native.Nat.{ℕ, zero, suc, ◌+◌, ◌-◌, ◌≤◌, ◌<◌}
use native.Mathlib.Nat.{add-zero, add-suc, suc-add}
use native.Mathlib.Numerals.{add-one}
use native.Mathlib.Omega.{arith}
use lib.ListN.{length, get_or, drop, length-drop, drop_of_length-le}
use lib.Seq.{drop-cons, drop-drop}
use lib.Dec.{leb, eqb}
use borrow.Author.Tests.{le-leb, lt-leb, eq-eqb, ne_eqb, leb-true, leb-false, eqb-true, eqb-false}
use Rattle.words.specs.Word.{word_at}
use Rattle.records.specs.Kinds.{body_len, no_len}
use Rattle.records.specs.Key.{key_of}
use Rattle.records.specs.declared.Record.{Record}
use Rattle.records.specs.declared.Record.TheVariants.{Head, Event, Module, ModuleMove, Supervisor, SupervisorMove, Disabling, Step, Marking, End}
use Rattle.reader.specs.Read.{record_of, shape_at, read_by, read_at, read_number, read_offset, number_at, offset_at, ReadsAs}
use Rattle.reader.specs.Walk.{Walk, more, stop, walk_of, walk_from, Stopped, StopsAsRead, GoesOnAsRead}
use Rattle.reader.specs.declared.NoRecord.{NoRecord}
use Rattle.reader.specs.declared.NoRecord.TheVariants.{Unknown, Cut, Nothing}

-- past the end
pub drop_past : (s : List ℕ) (b : ℕ) → length s < b → drop (length s) s ≡ drop b s
drop_past s b h =
    let u : length s ≤ length s = omega arith in
    let w : length s ≤ b = omega arith in
    drop_of_length-le s u ∙ sym (drop_of_length-le s w)

-- the four cases, forwards
module _ (s : List ℕ) (i : ℕ) where
  pub shapes_nothing : length s ≤ i → shape_at s i ≡ Err Nothing
  unfolding shape_at
  shapes_nothing h = simp (le-leb (length s) i h)

  module _ (h : i < length s) where
    pub shapes_unknown : body_len (get_or s i 0) ≡ no_len → shape_at s i ≡ Err Unknown
    unfolding shape_at
    shapes_unknown u = simp (lt-leb (length s) i h, eq-eqb _ _ u)

    module _ (u : body_len (get_or s i 0) ≡ no_len → ⊥) where
      pub shapes_whole : body_len (get_or s i 0) ≤ length s - (i + 1) → shape_at s i ≡ Ok (get_or s i 0, i + 1, i + 1 + body_len (get_or s i 0))
      unfolding shape_at
      shapes_whole w = simp (lt-leb (length s) i h, ne_eqb _ _ u, le-leb _ _ w)

      pub shapes_cut : length s - (i + 1) < body_len (get_or s i 0) → shape_at s i ≡ Err Cut
      unfolding shape_at
      shapes_cut w = simp (lt-leb (length s) i h, ne_eqb _ _ u, lt-leb _ _ w)

-- the same, from what the code of `shape_at` is told
pub whole_by : (s : List ℕ) (i m : ℕ) {l : ℕ} → i < length s → l ≡ body_len (get_or s i 0) → (l ≡ no_len → ⊥) → m ≡ l → m ≤ length s - (i + 1)
    → Ok (get_or s i 0, i + 1, i + 1 + m) ≡ shape_at s i
whole_by s i m h e u w f =
    let t : m ≡ body_len (get_or s i 0) = w ∙ e in
    rw t (sym (shapes_whole s i h (λ q. u (e ∙ q)) (subst (λ (x : ℕ). x ≤ length s - (i + 1)) t f)))

pub cut_by : (s : List ℕ) (i : ℕ) {l m : ℕ} → i < length s → l ≡ body_len (get_or s i 0) → (l ≡ no_len → ⊥) → m ≡ l → length s - (i + 1) < m → Err Cut ≡ shape_at s i
cut_by s i h e u w f = sym (shapes_cut s i h (λ q. u (e ∙ q)) (subst (λ (x : ℕ). length s - (i + 1) < x) (w ∙ e) f))

-- what an answer tells of the bytes
pub record Told (s : List ℕ) (i : ℕ) (r : Record) (n : ℕ) : Type 0 where
  pub inside : i < length s
  pub known : body_len (get_or s i 0) ≡ no_len → ⊥
  pub next : n ≡ i + 1 + body_len (get_or s i 0)
  pub fits : n ≤ length s
  pub is : r ≡ record_of (get_or s i 0) (drop (i + 1) s)

abbrev pub Seen : List ℕ → ℕ → Result (Record × ℕ) NoRecord → Type 0
Seen s i (Ok (r, n)) = Told s i r n
Seen s i (Err Unknown) = i < length s
Seen s i (Err Cut) = i < length s
Seen s i (Err Nothing) = length s ≤ i

pub seen : (s : List ℕ) (i : ℕ) → Seen s i (read_at s i)
unfolding read_at shape_at
seen s i = go (leb (length s) i) (eqb (body_len (get_or s i 0)) no_len) (leb (body_len (get_or s i 0)) (length s - (i + 1))) refl refl refl
  where
    go : (a u w : Bool) → leb (length s) i ≡ a → eqb (body_len (get_or s i 0)) no_len ≡ u → leb (body_len (get_or s i 0)) (length s - (i + 1)) ≡ w
        → Seen s i (read_by s (cond a (Err Nothing) (cond u (Err Unknown) (cond w (Ok (get_or s i 0, i + 1, i + 1 + body_len (get_or s i 0))) (Err Cut)))))
    go true u w p q r = leb-true _ _ p
    go false true w p q r = leb-false _ _ p
    go false false true p q r =
        let h : i < length s = leb-false _ _ p in
        let k : body_len (get_or s i 0) ≤ length s - (i + 1) = leb-true _ _ r in
        record { inside = h; known = eqb-false _ _ q; next = refl; fits = omega arith; is = refl }
    go false false false p q r = leb-false _ _ p

-- what a shape tells of the read
pub reads_by : (s : List ℕ) (i : ℕ) {x : Result (ℕ × ℕ × ℕ) NoRecord} → x ≡ shape_at s i → read_at s i ≡ read_by s x
unfolding read_at
reads_by s i e = ap (read_by s) (sym e)

-- the number and the offset of a read's case are those of the bytes
pub reads_as : (s : List ℕ) (i : ℕ) {r : Result (Record × ℕ) NoRecord} → r ≡ read_at s i → ReadsAs s i r
unfolding read_at shape_at number_at offset_at
reads_as s i e = record { answer = e; number = ap read_number e ∙ number ended unknown whole; offset = ap (read_offset s i) e ∙ offset ended unknown whole }
  where
    ended : Bool
    ended = leb (length s) i

    unknown : Bool
    unknown = eqb (body_len (get_or s i 0)) no_len

    whole : Bool
    whole = leb (body_len (get_or s i 0)) (length s - (i + 1))

    read : Bool → Bool → Bool → Result (Record × ℕ) NoRecord
    read a u w = read_by s (cond a (Err Nothing) (cond u (Err Unknown) (cond w (Ok (get_or s i 0, i + 1, i + 1 + body_len (get_or s i 0))) (Err Cut))))

    number : (a u w : Bool) → read_number (read a u w) ≡ cond a 3 (cond u 2 (cond w 0 3))
    number true u w = refl
    number false true w = refl
    number false false true = refl
    number false false false = refl

    offset : (a u w : Bool) → read_offset s i (read a u w) ≡ cond a (length s) (cond u i (cond w 0 i))
    offset true u w = refl
    offset false true w = refl
    offset false false true = refl
    offset false false false = refl

-- a walk, by what stands at its offset
abbrev pub next : List ℕ → ℕ → Result (Record × ℕ) NoRecord → Walk
next s i (Ok (r, n)) = more i r (walk_from s n)
next s i (Err Cut) = stop 3 i
next s i (Err Unknown) = stop 2 i
next s i (Err Nothing) = stop 3 i

-- past the end a walk stops at its own offset, so a skip must stay inside
pub skips : (n o : ℕ) (bs : List ℕ) → n ≤ length bs → walk_of n o bs ≡ walk_of zero (o + n) (drop n bs)
unfolding walk_of
skips zero o bs h = ap (λ (m : ℕ). walk_of zero m bs) (sym (add-zero o))
skips (suc n) o [] h = absurd (omega arith)
skips (suc n) o (b ∷ bs) h = skips n (suc o) bs (omega arith) ∙ ap (λ (m : ℕ). walk_of zero m (drop n bs)) (suc-add o n ∙ sym (add-suc o n))

module _ (s : List ℕ) (i : ℕ) where
  here : (k : ℕ) (u w : Bool) → eqb (body_len k) no_len ≡ u → leb (body_len k) (length s - (i + 1)) ≡ w
      → walk_of zero i (k ∷ drop (suc i) s) ≡ next s i (read_by s (cond u (Err Unknown) (cond w (Ok (k, i + 1, i + 1 + body_len k)) (Err Cut))))
  unfolding walk_of
  here k true w p q = simp p
  here k false true p q =
      let h : body_len k ≤ length (drop (i + 1) s) = simp length-drop (leb-true _ _ q) in
      simp (p, length-drop, ← add-one, q) (ap (more i (record_of k (drop (i + 1) s))) (skips (body_len k) (i + 1) (drop (i + 1) s) h ∙ rw drop-drop))
  here k false false p q = simp (p, length-drop, ← add-one, q)

  pub walks : walk_from s i ≡ next s i (read_at s i)
  unfolding read_at shape_at walk_of
  walks = go (leb (length s) i) refl
    where
      go : (a : Bool) → leb (length s) i ≡ a → walk_from s i ≡ next s i (read_at s i)
      go true p = rw (p, drop_of_length-le s (leb-true _ _ p))
      go false p = rw (drop-cons s i 0 (leb-false _ _ p), p) (here (get_or s i 0) _ _ refl refl)

pub goes_on_as_read : GoesOnAsRead
goes_on_as_read s i r n e = walks s i ∙ ap (next s i) e

-- where a read is refused, the walk stops as it says
pub stops_as_read : StopsAsRead
stops_as_read s i = go (read_at s i) (walks s i) (seen s i)
  where
    go : (r : Result (Record × ℕ) NoRecord) → walk_from s i ≡ next s i r → Seen s i r → (read_number r ≡ 0 → ⊥) → Stopped s i r
    go (Ok (r, n)) w k h = absurd (h refl)
    go (Err Unknown) w k h = record { at = i; stops = w; offset = λ l. refl }
    go (Err Cut) w k h = record { at = i; stops = w; offset = λ l. refl }
    go (Err Nothing) w k h = record { at = i; stops = w; offset = λ l. let g : length s ≤ i = k in omega arith }

-- the same, from what a caller of `read_at` is told: its answer r, and which case r is
module _ (s : List ℕ) (i : ℕ) {r : Result (Record × ℕ) NoRecord} where
  pub walks_by : {x : Result (Record × ℕ) NoRecord} → r ≡ read_at s i → r ≡ x → walk_from s i ≡ next s i x
  walks_by e g = walks s i ∙ ap (next s i) (sym e ∙ g)

  pub told_by : {t : Record} {n : ℕ} → r ≡ read_at s i → r ≡ Ok (t, n) → Told s i t n
  told_by e g = subst (Seen s i) (sym e ∙ g) (seen s i)

  pub inside_by : {t : Record} {n : ℕ} → r ≡ read_at s i → r ≡ Ok (t, n) → i < length s
  inside_by e g = (told_by e g).inside

  pub less_by : {t : Record} (n : ℕ) → r ≡ read_at s i → r ≡ Ok (t, n) → length s - n < length s - i
  less_by n e g = let w = told_by e g in omega arith

pub reads_whole : (s : List ℕ) (i : ℕ) → i < length s → (body_len (get_or s i 0) ≡ no_len → ⊥) → body_len (get_or s i 0) ≤ length s - (i + 1)
    → read_at s i ≡ Ok (record_of (get_or s i 0) (drop (i + 1) s), i + 1 + body_len (get_or s i 0))
reads_whole s i h u w = reads_by s i (sym (shapes_whole s i h u w))

-- the same, from what a caller of `shape_at` is told
module _ (s : List ℕ) (i : ℕ) {x : Result (ℕ × ℕ × ℕ) NoRecord} where
  pub read_there : {k b n : ℕ} → x ≡ shape_at s i → x ≡ Ok (k, b, n) → read_at s i ≡ Ok (record_of k (drop b s), n)
  read_there e g = reads_by s i e ∙ ap (read_by s) g

  pub whole_there : {k b n : ℕ} {r : Record} → x ≡ shape_at s i → x ≡ Ok (k, b, n) → r ≡ record_of k (drop b s) → Ok (r, n) ≡ read_at s i
  whole_there {n = n} e g f = ap (λ (y : Record). (Ok (y, n))) f ∙ sym (read_there e g)

  pub other_there : {y : Result (ℕ × ℕ × ℕ) NoRecord} {r : Result (Record × ℕ) NoRecord} → x ≡ shape_at s i → x ≡ y → read_by s y ≡ r → r ≡ read_at s i
  other_there e g f = sym (reads_by s i e ∙ ap (read_by s) g ∙ f)

-- the kind of a record is the one that it was read by
pub kind_kept : (k : ℕ) (b : List ℕ) → (body_len k ≡ no_len → ⊥) → (key_of (record_of k b)).kind ≡ k
unfolding record_of key_of body_len
kind_kept k b h =
    go (eqb k 0x10) (eqb k 0x11) (eqb k 0x12) (eqb k 0x13) (eqb k 0x14) (eqb k 0x15) (eqb k 0x16) (eqb k 0x17) (eqb k 0x18) (eqb k 0x1f)
    refl refl refl refl refl refl refl refl refl refl h
  where
    lens : Bool → Bool → Bool → Bool → Bool → Bool → Bool → Bool → Bool → Bool → ℕ
    lens a0 a1 a2 a3 a4 a5 a6 a7 a8 a9 =
        cond a0 3 (cond a1 3 (cond a2 3 (cond a3 4 (cond a4 11 (cond a5 4 (cond a6 10 (cond a7 11 (cond a8 2 (cond a9 0 no_len)))))))))

    read : Bool → Bool → Bool → Bool → Bool → Bool → Bool → Bool → Bool → Record
    read a0 a1 a2 a3 a4 a5 a6 a7 a8 =
        cond a0 (Head (get_or b 0 0) (get_or b 1 0) (get_or b 2 0)) (cond a1 (Event (get_or b 0 0) (get_or b 1 0) (get_or b 2 0)) (cond a2 (Module (get_or b 0 0) (get_or b 1 0) (get_or b 2 0)) (cond a3 (ModuleMove (get_or b 0 0) (get_or b 1 0) (get_or b 2 0) (get_or b 3 0)) (cond a4 (Supervisor (get_or b 0 0) (get_or b 1 0) (get_or b 2 0) (word_at b 3)) (cond a5 (SupervisorMove (get_or b 0 0) (get_or b 1 0) (get_or b 2 0) (get_or b 3 0)) (cond a6 (Disabling (get_or b 0 0) (get_or b 1 0) (word_at b 2)) (cond a7 (Step (get_or b 0 0) (get_or b 1 0) (get_or b 2 0) (word_at b 3)) (cond a8 (Marking (get_or b 0 0) (get_or b 1 0)) End))))))))

    go : (a0 a1 a2 a3 a4 a5 a6 a7 a8 a9 : Bool) → eqb k 0x10 ≡ a0 → eqb k 0x11 ≡ a1 → eqb k 0x12 ≡ a2 → eqb k 0x13 ≡ a3 → eqb k 0x14 ≡ a4 → eqb k 0x15 ≡ a5 → eqb k 0x16 ≡ a6 → eqb k 0x17 ≡ a7 → eqb k 0x18 ≡ a8 → eqb k 0x1f ≡ a9 → (lens a0 a1 a2 a3 a4 a5 a6 a7 a8 a9 ≡ no_len → ⊥)
        → (key_of (read a0 a1 a2 a3 a4 a5 a6 a7 a8)).kind ≡ k
    go true a1 a2 a3 a4 a5 a6 a7 a8 a9 e0 e1 e2 e3 e4 e5 e6 e7 e8 e9 h = sym (eqb-true _ _ e0)
    go false true a2 a3 a4 a5 a6 a7 a8 a9 e0 e1 e2 e3 e4 e5 e6 e7 e8 e9 h = sym (eqb-true _ _ e1)
    go false false true a3 a4 a5 a6 a7 a8 a9 e0 e1 e2 e3 e4 e5 e6 e7 e8 e9 h = sym (eqb-true _ _ e2)
    go false false false true a4 a5 a6 a7 a8 a9 e0 e1 e2 e3 e4 e5 e6 e7 e8 e9 h = sym (eqb-true _ _ e3)
    go false false false false true a5 a6 a7 a8 a9 e0 e1 e2 e3 e4 e5 e6 e7 e8 e9 h = sym (eqb-true _ _ e4)
    go false false false false false true a6 a7 a8 a9 e0 e1 e2 e3 e4 e5 e6 e7 e8 e9 h = sym (eqb-true _ _ e5)
    go false false false false false false true a7 a8 a9 e0 e1 e2 e3 e4 e5 e6 e7 e8 e9 h = sym (eqb-true _ _ e6)
    go false false false false false false false true a8 a9 e0 e1 e2 e3 e4 e5 e6 e7 e8 e9 h = sym (eqb-true _ _ e7)
    go false false false false false false false false true a9 e0 e1 e2 e3 e4 e5 e6 e7 e8 e9 h = sym (eqb-true _ _ e8)
    go false false false false false false false false false true e0 e1 e2 e3 e4 e5 e6 e7 e8 e9 h = sym (eqb-true _ _ e9)
    go false false false false false false false false false false e0 e1 e2 e3 e4 e5 e6 e7 e8 e9 h = absurd (h refl)
