-- Bytes of a record that has begun, gathered at once: as many as are still missing, or as many as the piece has.
use Rattle.std.specs.Prelude.{Ok, Err}
use Prim.Native.Nat.{ℕ, zero, suc, ◌+◌, ◌-◌, ◌≤◌, ◌<◌}
use native.Mathlib.Nat.{add-zero}
use native.Mathlib.Numerals.{add-one}
use native.Mathlib.Omega.{arith}
use mathlib.Core.Path.{◌≡◌, refl, sym, ap, ap₂, ◌∙◌, subst}
use mathlib.Core.List.{List, [], ◌∷◌}
use mathlib.Core.Bool.{Bool, true, false, not, ◌||◌}
use lib.ListN.{length, get_or, set, take, drop, replicate, length-drop}
use lib.Seq.{sets, length-sets, length-take-le, take-suc, drop-cons, get_or-set_other, get_or-take, get_or-drop}
use lib.Dec.{eqb}
use borrow.Author.Tests.{le-ltb, eqb-true, eqb-false, ne_eqb, eq-eqb}
use Rattle.words.proofs.Lists.{sets_append}
use Rattle.records.specs.Kinds.{body_len, no_len, kind_of}
use Rattle.records.specs.declared.Record.{Record}
use Rattle.reader.specs.Read.{read_at, record_of}
use Rattle.reader.specs.declared.NoRecord.TheVariants.{Nothing}
use Rattle.reader.proofs.Reading.{shapes_nothing, reads_by, reads_whole}
use Rattle.rules.specs.Check.{limit}
use Rattle.context.specs.Context.{with_record}
use Rattle.context.specs.declared.Context.{Context}
use Rattle.judge.specs.Judge.{judge_by}
use Rattle.judge.specs.Past.{past_from}
use Rattle.judge.specs.declared.Past.{Past}
use Rattle.judge.proofs.Passing.{stops_by, faulty_by, end_by, on_by}
use Rattle.pieces.specs.declared.Stage.TheVariants.{Open}
use Rattle.pieces.specs.Pieces.{between, piece_taken}
use Rattle.pieces.specs.Taking.{holding, Holds, PastBegun}
use Rattle.pieces.proofs.Bytes.{on_byte}
use Rattle.pieces.proofs.Cut.{Alike, same_record, short}
use Rattle.pieces.proofs.Taking.{holds_begin, holds_on, past_begun}

-- ---- bytes of a list set at once

-- the kind byte stays
kind_stays : (l : List ℕ) (o : ℕ) (vs : List ℕ) → 1 ≤ o → get_or (sets l o vs) 0 0 ≡ get_or l 0 0
kind_stays l o [] h = refl
kind_stays l o (v ∷ vs) h = kind_stays (set l o v) (suc o) vs (omega arith) ∙ get_or-set_other l o 0 v 0 (λ z. absurd (omega (arith, z)))

-- one more
sets_on : (l s : List ℕ) (o i m : ℕ) → i + m < length s → sets l o (take (suc m) (drop i s)) ≡ set (sets l o (take m (drop i s))) (o + m) (get_or s (i + m) 0)
sets_on l s o i m h =
    let d : length (drop i s) ≡ length s - i = length-drop i s in
    let n : length (take m (drop i s)) ≡ m = length-take-le m (drop i s) (omega arith) in
    ap (sets l o) (take-suc (drop i s) m 0 (omega arith))
    ∙ sets_append l o (take m (drop i s)) (get_or (drop i s) m 0 ∷ [])
    ∙ ap₂ (λ (k x : ℕ). set (sets l o (take m (drop i s))) (o + k) x) n (get_or-drop i s m 0)

-- ---- a record that is not whole with them

module _ (s cut₀ : List ℕ) (held₀ from : ℕ) (cut : List ℕ) (held i : ℕ) (h : 1 ≤ held) (u : body_len (get_or cut 0 0) ≡ no_len → ⊥)
    (b : Holds s cut₀ held₀ from cut held i) where
  gathers_on : (m : ℕ) → i + m ≤ length s → held + m ≤ body_len (get_or cut 0 0) → Holds s cut₀ held₀ from (sets cut held (take m (drop i s))) (held + m) (i + m)
  gathers_on zero l w =
      subst (λ (j : ℕ). Holds s cut₀ held₀ from cut (held + 0) j) (sym (add-zero i))
      (subst (λ (n : ℕ). Holds s cut₀ held₀ from cut n i) (sym (add-zero held)) b)
  gathers_on (suc m) l w =
      let more : List ℕ = sets cut held (take (suc m) (drop i s)) in
      let k : body_len (get_or cut 0 0) ≡ body_len (get_or more 0 0) = ap body_len (sym (kind_stays cut held (take (suc m) (drop i s)) h)) in
      let a : held + m + 1 ≡ held + suc m = omega arith in
      let e : i + m + 1 ≡ i + suc m = omega arith in
      subst (λ (j : ℕ). Holds s cut₀ held₀ from more (held + suc m) j) e
      (subst (λ (n : ℕ). Holds s cut₀ held₀ from more n (i + m + 1)) a
      (holds_on s cut₀ held₀ from (sets cut held (take m (drop i s))) (held + m) (i + m) (omega arith) (sets_on cut s held i m (omega arith)) k u (omega arith)
      (gathers_on m (omega arith) (omega arith))))

pub gathers : (s cut : List ℕ) (held i m : ℕ) → 1 ≤ held → i + m ≤ length s → (body_len (get_or cut 0 0) ≡ no_len → ⊥) → held + m ≤ body_len (get_or cut 0 0)
    → Holds s cut held i (sets cut held (take m (drop i s))) (held + m) (i + m)
gathers s cut held i m h l u w = gathers_on s cut held i cut held i h u (holds_begin s cut held i (omega arith)) m l w

-- from its kind byte on
pub gathers_new : (s : List ℕ) (i m : ℕ) → i + m ≤ length s → i < length s → (body_len (get_or s i 0) ≡ no_len → ⊥) → m ≤ body_len (get_or s i 0)
    → Holds s (replicate 12 0) 0 i (sets (replicate 12 0) 0 (take m (drop i s))) m (i + m)
gathers_new s i zero l b u w =
    subst (λ (j : ℕ). Holds s (replicate 12 0) 0 i (replicate 12 0) 0 j) (sym (add-zero i)) (holds_begin s (replicate 12 0) 0 i (omega arith))
gathers_new s i (suc m) l b u w =
    let none : List ℕ = replicate 12 0 in
    let k : ℕ = get_or s i 0 in
    let one : Holds s none 0 i (set none 0 k) 1 (i + 1) = holds_on s none 0 i none 0 i b refl refl u (omega arith) (holds_begin s none 0 i (omega arith)) in
    let all : Holds s none 0 i (sets (set none 0 k) 1 (take m (drop (i + 1) s))) (1 + m) (i + 1 + m) =
    gathers_on s none 0 i (set none 0 k) 1 (i + 1) (omega arith) u one m (omega arith) (omega arith) in
    let e : sets (set none 0 k) 1 (take m (drop (i + 1) s)) ≡ sets none 0 (take (suc m) (drop i s)) =
    ap (λ (j : ℕ). sets (set none 0 k) 1 (take m (drop j s))) (add-one i) ∙ sym (ap (λ (x : List ℕ). sets none 0 (take (suc m) x)) (drop-cons s i 0 b)) in
    let n : 1 + m ≡ suc m = omega arith in
    let j : i + 1 + m ≡ i + suc m = omega arith in
    subst (λ (x : List ℕ). Holds s none 0 i x (suc m) (i + suc m)) e
    (subst (λ (y : ℕ). Holds s none 0 i (sets (set none 0 k) 1 (take m (drop (i + 1) s))) y (i + suc m)) n
    (subst (λ (y : ℕ). Holds s none 0 i (sets (set none 0 k) 1 (take m (drop (i + 1) s))) (1 + m) y) j all))

-- ---- a record that stands by itself in bytes of its own size

record Alone (w : List ℕ) (c : Context) (d : Context) : Type 0 where
  pub faultless : judge_by c (record_of (get_or w 0 0) (drop 1 w)) ≡ 0
  pub no_end : kind_of (record_of (get_or w 0 0) (drop 1 w)) ≡ 0x1f → ⊥
  pub is : d ≡ with_record c (record_of (get_or w 0 0) (drop 1 w))

-- it is passed only where it is faultless and no end
passed_alone : (w : List ℕ) (c : Context) (p : Past) → (body_len (get_or w 0 0) ≡ no_len → ⊥) → length w ≡ suc (body_len (get_or w 0 0))
    → p ≡ past_from w 0 c → 0 < p.next → Alone w c p.context
passed_alone w c p u l e g = cases (eqb (judge_by c r) 0) (eqb (kind_of r) 0x1f) refl refl
  where
    r : Record
    r = record_of (get_or w 0 0) (drop 1 w)

    n : ℕ
    n = 0 + 1 + body_len (get_or w 0 0)

    whole : Ok (r, n) ≡ read_at w 0
    whole = sym (reads_whole w 0 (omega arith) u (omega arith))

    behind : Err Nothing ≡ read_at w n
    behind = sym (reads_by w n (sym (shapes_nothing w n (omega arith))))

    stuck : record { context = c; next = 0 } ≡ past_from w 0 c → Alone w c p.context
    stuck f = let z : p.next ≡ 0 = ap (λ (x : Past). x.next) (e ∙ sym f) in absurd (omega (arith, z, g))

    cases : (a d : Bool) → eqb (judge_by c r) 0 ≡ a → eqb (kind_of r) 0x1f ≡ d → Alone w c p.context
    cases false d x y = stuck (faulty_by w c c 0 0 refl whole refl refl (eqb-false _ _ x))
    cases true true x y = stuck (end_by w c c 0 0 refl whole refl refl (eqb-true _ _ x) refl (eqb-true _ _ y))
    cases true false x y =
        let z : judge_by c r ≡ 0 = eqb-true _ _ x in
        let v : kind_of r ≡ 0x1f → ⊥ = eqb-false _ _ y in
        let on : past_from w n (with_record c r) ≡ past_from w 0 c = on_by w c c 0 0 refl whole refl refl z refl v refl in
        let at : record { context = with_record c r; next = n } ≡ past_from w 0 c = stops_by w c (with_record c r) 0 n on Nothing behind refl in
        record { faultless = z; no_end = v; is = ap (λ (x : Past). x.context) (e ∙ sym at) }

-- ---- a record that is whole with them

-- its bytes, without what stands behind them
alike_front : (n : ℕ) (l : List ℕ) → Alike n (drop 1 l) (drop 1 (take (suc n) l))
unfolding Alike
alike_front n [] j h = refl
alike_front n (x ∷ l) j h = sym (get_or-take n l j 0 h)

-- the last byte of it, with which the bytes are `whole`
module _ (s cut whole : List ℕ) (c : Context) (held at : ℕ) (p : Past) (l : length whole ≡ 12) (e : whole ≡ set cut held (get_or s at 0))
    (u : body_len (get_or whole 0 0) ≡ no_len → ⊥) (z : held ≡ body_len (get_or whole 0 0)) (f : p ≡ past_from (take (suc (body_len (get_or whole 0 0))) whole) 0 c) (g : 0 < p.next) where
  last_byte : PastBegun s c cut held at p.context (at + 1)
  last_byte =
      let n : ℕ = body_len (get_or whole 0 0) in
      let w : List ℕ = take (suc n) whole in
      let few : n ≤ 11 = short (get_or whole 0 0) u in
      let k : get_or w 0 0 ≡ get_or whole 0 0 = get_or-take (suc n) whole 0 0 (omega arith) in
      let size : length w ≡ suc n = length-take-le (suc n) whole (omega (arith, few, l)) in
      let a = passed_alone w c p (λ q. u (ap body_len (sym k) ∙ q)) (size ∙ ap (λ (x : ℕ). suc (body_len x)) (sym k)) f g in
      let same : record_of (get_or w 0 0) (drop 1 w) ≡ record_of (get_or whole 0 0) (drop 1 whole) =
      ap (λ (x : ℕ). record_of x (drop 1 w)) k ∙ sym (same_record (get_or whole 0 0) (drop 1 whole) (drop 1 w) u (alike_front n whole)) in
      past_begun s c p.context cut held at e refl
      (ap₂ ◌||◌ (ne_eqb n no_len u) (le-ltb held n (omega (arith, z)))) same refl refl
      (ap₂ (λ (x y : Bool). not x || y) (eq-eqb _ _ a.faultless) (ne_eqb _ _ a.no_end))
      a.is

pub gathers_whole : (s cut : List ℕ) (c : Context) (held t i n : ℕ) (p : Past) → length cut ≡ 12 → 1 ≤ held → (body_len (get_or cut 0 0) ≡ no_len → ⊥)
    → held ≤ body_len (get_or cut 0 0) → n ≡ suc (body_len (get_or cut 0 0)) - held → i + n ≤ length s → t + (length s - i) ≤ limit
    → p ≡ past_from (take (suc (body_len (get_or cut 0 0))) (sets cut held (take n (drop i s)))) 0 c → 0 < p.next
    → piece_taken (between p.context Open (t + n)) (drop (i + n) s) ≡ piece_taken (holding c cut held t) (drop i s)
gathers_whole s cut c held t i zero p a h u b e l r f g = absurd (omega (arith, b, e))
gathers_whole s cut c held t i (suc m) p a h u b e l r f g =
    let before : List ℕ = sets cut held (take m (drop i s)) in
    let whole : List ℕ = sets cut held (take (suc m) (drop i s)) in
    let k : get_or whole 0 0 ≡ get_or cut 0 0 = kind_stays cut held (take (suc m) (drop i s)) h in
    let q : body_len (get_or whole 0 0) ≡ body_len (get_or cut 0 0) = ap body_len k in
    let y : Holds s cut held i before (held + m) (i + m) = gathers s cut held i m h (omega (arith, l)) u (omega (arith, b, e)) in
    let x : PastBegun s c before (held + m) (i + m) p.context (i + m + 1) =
    last_byte s before whole c (held + m) (i + m) p (length-sets cut held (take (suc m) (drop i s)) ∙ a) (sets_on cut s held i m (omega (arith, l)))
    (λ z. u (sym q ∙ z)) (omega (arith, b, e, q)) (f ∙ ap (λ (j : ℕ). past_from (take (suc j) whole) 0 c) (sym q)) g in
    let t1 : ℕ = t + ((i + m) - i) in
    let o : t1 < limit = omega (arith, l, r) in
    let v : t + suc m ≡ suc t1 = omega arith in
    let w : i + suc m ≡ i + m + 1 = omega arith in
    ap₂ (λ (j k : ℕ). piece_taken (between p.context Open j) (drop k s)) v w
    ∙ on_byte s (holding c before (held + m) t1) (between p.context Open (suc t1)) (i + m) (omega (arith, l)) (sym (x.same (omega arith) t1 o))
    ∙ y.same c t r
