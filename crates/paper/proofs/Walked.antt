-- The loops over the records of an image.
use Rattle.std.specs.Prelude.{Result, Ok, Err}
use mathlib.Core.Path.{◌≡◌, refl, sym, ap, ◌∙◌}
use mathlib.Core.List.{List, [], ◌∷◌, ◌++◌, append_assoc, append-nil}
use mathlib.Core.Bool.{Bool, true, false, cond}
use Prim.Native.Nat.{ℕ, suc, ◌+◌, ◌*◌, ◌-◌, ◌≤◌, ◌<◌}
use native.Mathlib.Nat.{zero-add}
use native.Mathlib.Omega.{arith}
use lib.ListN.{length, get_or, take, drop, length-drop, drop_of_length-le}
use lib.Seq.{sets, sets-eq, length-sets, length-take-le, drop-drop}
use lib.Dec.{leb, eqb}
use Rattle.records.specs.Kinds.{body_len, no_len}
use Rattle.records.specs.declared.Record.{Record}
use Rattle.reader.specs.Read.{record_of, read_at, read_by, shape_at}
use Rattle.reader.specs.Walk.{walk_from, records_in, records_of}
use Rattle.reader.specs.declared.NoRecord.{NoRecord}
use Rattle.reader.specs.declared.NoRecord.TheVariants.{Unknown, Cut, Nothing}
use Rattle.reader.proofs.Reading.{whole_by, walks, next, walks_by, told_by, reads_by, read_there}
use Rattle.roundtrip.specs.Fits.{Fits, Bytes}
use Rattle.roundtrip.proofs.OneRecord.{written_read}
use Rattle.paper.specs.Paper.{line_of, lines_of}
use Rattle.paper.specs.Put.{Known}
use Rattle.paper.proofs.Lengths.{line_length}
use Rattle.paper.proofs.Put.{behind}

-- one more record of a known kind
pub again_by : (k n : ℕ) (s : List ℕ) (at : ℕ) → Known k n → at < length s → get_or s at 0 ≡ k → n ≤ length s - (at + 1) → Ok (k, at + 1, at + 1 + n) ≡ shape_at s at
again_by k n s at is h e w =
    let l : body_len k ≡ body_len (get_or s at 0) = ap (λ (j : ℕ). body_len j) (sym e) in
    ap (λ (j : ℕ). (Ok (j, at + 1, at + 1 + n))) (sym e) ∙ whole_by s at n {l = body_len k} h l is.known is.size w

-- the kind and the body's offset of a whole record are those of the bytes
parts : (s : List ℕ) (i : ℕ) {k b n : ℕ} → shape_at s i ≡ Ok (k, b, n) → (k ≡ get_or s i 0) × (b ≡ i + 1)
unfolding shape_at
parts s i {k} {b} {n} p = go (leb (length s) i) (eqb (body_len (get_or s i 0)) no_len) (leb (body_len (get_or s i 0)) (length s - (i + 1))) p
  where
    got : Result (ℕ × ℕ × ℕ) NoRecord → ℕ × ℕ × ℕ
    got (Ok x) = x
    got (Err why) = (0, 0, 0)

    whole : Result (ℕ × ℕ × ℕ) NoRecord
    whole = Ok (get_or s i 0, i + 1, i + 1 + body_len (get_or s i 0))

    go : (a u w : Bool) → cond a (Err Nothing) (cond u (Err Unknown) (cond w whole (Err Cut))) ≡ Ok (k, b, n) → (k ≡ get_or s i 0) × (b ≡ i + 1)
    go true u w p = let z : ◌≡◌ {A = ℕ} 0 1 = cc in absurd (omega arith)
    go false true w p = let z : ◌≡◌ {A = ℕ} 0 1 = cc in absurd (omega arith)
    go false false true p = (sym (ap (λ (x : Result (ℕ × ℕ × ℕ) NoRecord). (got x).0) p), sym (ap (λ (x : Result (ℕ × ℕ × ℕ) NoRecord). (got x).1) p))
    go false false false p = let z : ◌≡◌ {A = ℕ} 0 1 = cc in absurd (omega arith)

-- from what a caller of `shape_at` is told: its answer y, and which case it is
module _ (s : List ℕ) (i : ℕ) {y : Result (ℕ × ℕ × ℕ) NoRecord} (e : y ≡ shape_at s i) where
  module _ {k b n : ℕ} (f : y ≡ Ok (k, b, n)) where
    read_by_lem : read_at s i ≡ Ok (record_of k (drop b s), n)
    read_by_lem = read_there s i e f

    pub known_by : Known k (n - b)
    known_by =
        let p = parts s i (sym e ∙ f) in
        let w = told_by s i {r = read_at s i} refl read_by_lem in
        let q : body_len k ≡ body_len (get_or s i 0) = ap (λ (j : ℕ). body_len j) p.0 in
        record { known = λ z. w.known (sym q ∙ z); size = omega (arith, w.next, p.1) }

    pub order_by : b ≤ n
    order_by = let w = told_by s i {r = read_at s i} refl read_by_lem in omega (arith, w.next, (parts s i (sym e ∙ f)).1)

    pub body_by : b + (n - b) ≤ length s
    body_by = let w = told_by s i {r = read_at s i} refl read_by_lem in omega (arith, w.fits, order_by)

    pub less_by : length s - n < length s - i
    less_by = let w = told_by s i {r = read_at s i} refl read_by_lem in omega (arith, w.next, w.inside, w.fits)

    -- a record, and the walk behind it
    more_by : records_in (walk_from s i) ≡ record_of k (drop b s) ∷ records_in (walk_from s n)
    unfolding records_in
    more_by = ap records_in (walks_by s i refl read_by_lem)

  none_by : ((z : ℕ × ℕ × ℕ) → y ≡ Ok z → ⊥) → records_in (walk_from s i) ≡ []
  unfolding records_in
  none_by t = ap records_in (walks s i ∙ ap (next s i) (reads_by s i e)) ∙ stopped y t
    where
      stopped : (x : Result (ℕ × ℕ × ℕ) NoRecord) → ((z : ℕ × ℕ × ℕ) → x ≡ Ok z → ⊥) → records_in (next s i (read_by s x)) ≡ []
      stopped (Ok z) o = absurd (o z refl)
      stopped (Err Unknown) o = refl
      stopped (Err Cut) o = refl
      stopped (Err Nothing) o = refl

-- at first the kind is that of the end record, which has no body
pub end_known : Known 0x1f 0
unfolding body_len
end_known = record { known = λ e. omega arith; size = refl }

-- ---- records counted

pub record Counted (s : List ℕ) (n i k z : ℕ) : Type 0 where
  pub rest : n + length (records_in (walk_from s i)) ≡ length (records_of s)
  pub within : n ≤ i
  pub inside : i ≤ length s
  pub last : Known k z

module _ (s : List ℕ) (n i k z : ℕ) {y : Result (ℕ × ℕ × ℕ) NoRecord} (v : Counted s n i k z) (e : y ≡ shape_at s i) where
  pub counted_on : {j b m : ℕ} → y ≡ Ok (j, b, m) → Counted s (n + 1) m j (m - b)
  counted_on {j} {b} {m} f =
      let w = told_by s i {r = read_at s i} refl (read_by_lem s i e f) in
      let l : length (records_in (walk_from s i)) ≡ suc (length (records_in (walk_from s m))) = ap length (more_by s i e f) in
      record { rest = omega (arith, v.rest); within = omega (arith, v.within, w.next); inside = w.fits; last = known_by s i e f }

  pub counted_room : {j b m : ℕ} → y ≡ Ok (j, b, m) → n < length s
  counted_room f = let w = told_by s i {r = read_at s i} refl (read_by_lem s i e f) in omega (arith, v.within, w.inside)

  pub counted_done : ((z : ℕ × ℕ × ℕ) → y ≡ Ok z → ⊥) → n ≡ length (records_of s)
  counted_done t =
      let l : length (records_in (walk_from s i)) ≡ 0 = ap length (none_by s i e t) in
      omega (arith, v.rest)

  pub counted_most : n ≤ length s
  counted_most = omega (arith, v.within, v.inside)

-- ---- lines put

-- a line put into its part of the buffer, with the part back in the buffer
line_in : (b : List ℕ) (o : ℕ) (p : List ℕ) {q : List ℕ} → length p ≡ 73 → o + 73 ≤ length b → q ≡ sets (take (o + 73 - o) (drop o b)) 0 p
    → take o b ++ (q ++ drop (o + 73 - o) (drop o b)) ≡ sets b o p
line_in b o p {q} l h e =
    let m : o + 73 - o ≡ 73 = omega arith in
    let part : List ℕ = take 73 (drop o b) in
    let t : length part ≡ 73 = length-take-le 73 (drop o b) (simp length-drop (omega arith)) in
    let is : sets part 0 p ≡ p ++ drop (length p) part = sets-eq p part 0 (omega arith) ∙ ap (λ (j : ℕ). p ++ drop j part) (zero-add (length p)) in
    let all : length part ≤ length p = omega arith in
    let none : drop (length p) part ≡ [] = drop_of_length-le part all in
    let q_is : q ≡ p = e ∙ ap (λ (j : ℕ). sets (take j (drop o b)) 0 p) m ∙ is ∙ ap (λ (x : List ℕ). p ++ x) none ∙ append-nil p in
    let z : o + length p ≤ length b = omega arith in
    let behind_it : drop (o + 73 - o) (drop o b) ≡ drop (o + length p) b = ap (λ (j : ℕ). drop j (drop o b)) m ∙ drop-drop 73 o b ∙ ap (λ (j : ℕ). drop (o + j) b) (sym l) in
    rw (q_is, behind_it) (sym (append_assoc (take o b) p (drop (o + length p) b)) ∙ sym (sets-eq p b o z))

-- what stands before o is written, and the records from i on are still to come
pub record Lined (s l b : List ℕ) (i o k z : ℕ) : Type 0 where
  pub small : Bytes s
  pub rest : sets b o (lines_of (records_in (walk_from s i))) ≡ sets l 0 (lines_of (records_of s))
  pub long : length b ≡ length l
  pub room : o + 73 * length (records_in (walk_from s i)) ≤ length b
  pub last : Known k z

module _ (s l b : List ℕ) (i o k z : ℕ) {y : Result (ℕ × ℕ × ℕ) NoRecord} (v : Lined s l b i o k z) (e : y ≡ shape_at s i) where
  pub line_room : {j c m : ℕ} → y ≡ Ok (j, c, m) → o + 73 ≤ length b
  line_room {j} {c} {m} f =
      let u : length (records_in (walk_from s i)) ≡ suc (length (records_in (walk_from s m))) = ap length (more_by s i e f) in
      omega (arith, v.room)

  pub lined_on : {q : List ℕ} {j c m : ℕ} → y ≡ Ok (j, c, m) → q ≡ sets (take (o + 73 - o) (drop o b)) 0 (line_of (record_of j (drop c s)))
      → Lined s l (take o b ++ (q ++ drop (o + 73 - o) (drop o b))) m (o + 73) j (m - c)
  unfolding lines_of
  lined_on {q} {j} {c} {m} f g =
      let r : Record = record_of j (drop c s) in
      let h : Fits r = (written_read s i v.small (read_by_lem s i e f)).fits in
      let a : List ℕ = take o b ++ (q ++ drop (o + 73 - o) (drop o b)) in
      let put : a ≡ sets b o (line_of r) = line_in b o (line_of r) (line_length r h) (line_room f) g in
      let more = more_by s i e f in
      let u : length (records_in (walk_from s i)) ≡ suc (length (records_in (walk_from s m))) = ap length more in
      let n : length a ≡ length b = ap length put ∙ length-sets b o (line_of r) in
      record {
        small = v.small;
        rest = behind b o 73 (o + 73) (line_of r) (lines_of (records_in (walk_from s m))) (line_length r h) refl put refl ∙ ap (λ (rs : List Record). sets b o (lines_of rs)) (sym more) ∙ v.rest;
        long = n ∙ v.long;
        room = omega (arith, v.room);
        last = known_by s i e f;
      }

  pub lined_done : ((z : ℕ × ℕ × ℕ) → y ≡ Ok z → ⊥) → b ≡ sets l 0 (lines_of (records_of s))
  unfolding lines_of
  lined_done t = sym (ap (λ (rs : List Record). sets b o (lines_of rs)) (none_by s i e t)) ∙ v.rest
