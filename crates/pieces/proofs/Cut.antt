-- The check in pieces is the check of the whole image.
use Rattle.std.specs.Prelude.{Result, Err, ⊤}
use Rattle.refusal.specs.Refusal.{refusal}
use Rattle.refusal.specs.declared.Refusal.{Refusal}
use Prim.Native.Nat.{ℕ, zero, suc, ◌+◌, ◌-◌, ◌≤◌, ◌<◌}
use native.Mathlib.Omega.{arith}
use mathlib.Core.Path.{◌≡◌, refl, sym, ap, ap₂, ◌∙◌, subst}
use mathlib.Core.List.{List, [], ◌∷◌, ◌++◌, append_assoc}
use mathlib.Core.Bool.{Bool, true, false, cond}
use lib.ListN.{length, get_or, set, drop, replicate, length-drop}
use lib.Seq.{set_at}
use lib.Dec.{eqb, leb, ltb}
use borrow.Author.Tests.{lt-ltb, le-ltb, le-leb, lt-leb, leb-true, leb-false, ltb-true, ltb-false, eqb-true, eqb-false, ne_eqb, eq-eqb}
use Rattle.words.specs.Word.{word_at}
use Rattle.records.specs.Kinds.{body_len, no_len, kind_of}
use Rattle.records.proofs.Order.{key_kind}
use Rattle.records.proofs.Table.{kinds}
use Rattle.records.specs.declared.Record.{Record}
use Rattle.reader.specs.Read.{record_of}
use Rattle.reader.specs.Walk.{Walk, more, stop, walk_of, walk_from}
use Rattle.reader.proofs.Reading.{skips, kind_kept}
use Rattle.rules.specs.Check.{end_at, check_walk, limit, verdict_of}
use Rattle.rules.specs.Valid.{Valid}
use Rattle.context.specs.Context.{with_record, start, context_of}
use Rattle.context.specs.declared.Context.{Context}
use Rattle.judge.specs.Judge.{judge_by}
use Rattle.judge.specs.Represents.{check_by}
use Rattle.judge.proofs.Represents.{checks}
use Rattle.pieces.specs.declared.Stage.{Stage}
use Rattle.pieces.specs.declared.Stage.TheVariants.{Open, Ended, Faulty}
use Rattle.pieces.specs.declared.CheckState.{CheckState}
use Rattle.pieces.specs.Pieces.{between, starting, faulty_at, record_taken, longer, byte_open, byte_by, byte_taken, piece_taken, stage_verdict, verdict_by, pieces_taken, joined, AnyCutting, CutAnywhere, overlong}

-- ---- a record is told by the bytes of its body

unfoldable pub Alike : ℕ → List ℕ → List ℕ → Type 0
Alike n x y = (j : ℕ) → j < n → get_or x j 0 ≡ get_or y j 0

pub same_record : (k : ℕ) (x y : List ℕ) → (body_len k ≡ no_len → ⊥) → Alike (body_len k) x y → record_of k x ≡ record_of k y
unfolding record_of body_len word_at Alike
same_record k x y u =
    kinds (λ k. Alike (body_len k) x y → record_of k x ≡ record_of k y) k u
    (λ f. rw (f 0 (omega arith), f 1 (omega arith), f 2 (omega arith)))
    (λ f. rw (f 0 (omega arith), f 1 (omega arith), f 2 (omega arith)))
    (λ f. rw (f 0 (omega arith), f 1 (omega arith), f 2 (omega arith)))
    (λ f. rw (f 0 (omega arith), f 1 (omega arith), f 2 (omega arith), f 3 (omega arith)))
    (λ f. rw (f 0 (omega arith), f 1 (omega arith), f 2 (omega arith), f 3 (omega arith), f 4 (omega arith), f 5 (omega arith), f 6 (omega arith), f 7 (omega arith), f 8 (omega arith), f 9 (omega arith), f 10 (omega arith)))
    (λ f. rw (f 0 (omega arith), f 1 (omega arith), f 2 (omega arith), f 3 (omega arith)))
    (λ f. rw (f 0 (omega arith), f 1 (omega arith), f 2 (omega arith), f 3 (omega arith), f 4 (omega arith), f 5 (omega arith), f 6 (omega arith), f 7 (omega arith), f 8 (omega arith), f 9 (omega arith)))
    (λ f. rw (f 0 (omega arith), f 1 (omega arith), f 2 (omega arith), f 3 (omega arith), f 4 (omega arith), f 5 (omega arith), f 6 (omega arith), f 7 (omega arith), f 8 (omega arith), f 9 (omega arith), f 10 (omega arith)))
    (λ f. rw (f 0 (omega arith), f 1 (omega arith)))
    (λ f. refl)

pub short : (k : ℕ) → (body_len k ≡ no_len → ⊥) → body_len k ≤ 11
unfolding body_len
short k u = kinds (λ k. body_len k ≤ 11) k u (omega arith) (omega arith) (omega arith) (omega arith) (omega arith) (omega arith) (omega arith) (omega arith) (omega arith) (omega arith)

end_empty : (k : ℕ) (b : List ℕ) → (body_len k ≡ no_len → ⊥) → kind_of (record_of k b) ≡ 0x1f → body_len k ≡ 0
unfolding body_len
end_empty k b u e = let z : k ≡ 0x1f = sym (kind_kept k b u) ∙ key_kind (record_of k b) ∙ e in ap body_len z

-- ---- after a refusal, and after the end

faulty : (c : Context) (n o : ℕ) (bs : List ℕ) (t : ℕ) → t + length bs ≤ limit → verdict_by (piece_taken (between c (Faulty n o) t) bs) ≡ Err (refusal n o)
unfolding verdict_by piece_taken byte_taken byte_by stage_verdict
faulty c n o [] t h = simp (le-ltb limit t (omega arith))
faulty c n o (b ∷ bs) t h = simp (lt-ltb t limit (omega arith)) (faulty c n o bs (suc t) (omega arith))

ended : (c : Context) (bs : List ℕ) (o : ℕ) → suc o + length bs ≤ limit → verdict_by (piece_taken (between c Ended (suc o)) bs) ≡ end_at (suc o + length bs) o
unfolding verdict_by piece_taken byte_taken byte_by stage_verdict
ended c [] o h = simp (le-ltb limit (suc o) (omega arith), eq-eqb (suc o) (suc o + 0) (omega arith))
ended c (b ∷ bs) o h =
    simp (lt-ltb (suc o) limit (omega arith), ne_eqb (suc o) (suc o + suc (length bs)) (λ z. absurd (omega arith)))
    (faulty c 4 (suc o) bs (suc (suc o)) (omega arith))

-- ---- a record that comes byte by byte

-- the kind k, at offset t, and some bytes of its body
abbrev cut_of : ℕ → List ℕ → List ℕ
cut_of k got = (k ∷ got) ++ replicate (11 - length got) 0

abbrev holding : Context → ℕ → ℕ → List ℕ → CheckState
holding c t k got = record { context = c; cut = cut_of k got; held = suc (length got); taken = t + suc (length got); stage = Open }

length_last : (xs : List ℕ) (b : ℕ) → length (xs ++ (b ∷ [])) ≡ suc (length xs)
length_last [] b = refl
length_last (x ∷ xs) b = ap suc (length_last xs b)

set_next : (k : ℕ) (got : List ℕ) (b : ℕ) → length got < 11 → set (cut_of k got) (suc (length got)) b ≡ cut_of k (got ++ (b ∷ []))
set_next k got b h =
    let m : ℕ = 10 - length got in
    let e : 11 - length got ≡ suc m = omega arith in
    let f : 11 - suc (length got) ≡ m = omega arith in
    ap (λ (j : ℕ). set ((k ∷ got) ++ replicate j 0) (suc (length got)) b) e
    ∙ set_at (k ∷ got) 0 (replicate m 0) b (suc (length got)) refl
    ∙ sym (append_assoc (k ∷ got) (b ∷ []) (replicate m 0))
    ∙ ap (λ (j : ℕ). (k ∷ (got ++ (b ∷ []))) ++ replicate j 0) (sym f ∙ ap (λ (j : ℕ). 11 - j) (sym (length_last got b)))

alike_append : (xs ys zs : List ℕ) → Alike (length xs) (xs ++ ys) (xs ++ zs)
unfolding Alike
alike_append [] ys zs j h = absurd (omega arith)
alike_append (x ∷ xs) ys zs zero h = refl
alike_append (x ∷ xs) ys zs (suc j) h = alike_append xs ys zs j (omega arith)

-- one byte more
module _ (c : Context) (t k : ℕ) (u : body_len k ≡ no_len → ⊥) (got : List ℕ) (b : ℕ) (room : t + suc (length got) < limit) (few : length got < body_len k) where
  eleven : length got < 11
  eleven = let z = short k u in omega arith

  opens : byte_taken (holding c t k got) b ≡ byte_open (holding c t k got) (cut_of k (got ++ (b ∷ [])))
  unfolding byte_taken byte_by
  opens = simp (lt-ltb (t + suc (length got)) limit room) (ap (byte_open (holding c t k got)) (set_next k got b eleven))

  grows : suc (length got) < body_len k → byte_taken (holding c t k got) b ≡ holding c t k (got ++ (b ∷ []))
  unfolding byte_open
  grows l =
      opens
      ∙ simp (ne_eqb (body_len k) no_len u, lt-leb (body_len k) (suc (length got)) l)
      (ap (λ (j : ℕ). record { context = c; cut = cut_of k (got ++ (b ∷ [])); held = suc j; taken = suc (t + suc (length got)); stage = Open }) (sym (length_last got b))
      ∙ ap (λ (j : ℕ). record { context = c; cut = cut_of k (got ++ (b ∷ [])); held = suc (length (got ++ (b ∷ []))); taken = j; stage = Open })
      (let z : length (got ++ (b ∷ [])) ≡ suc (length got) = length_last got b in omega arith))

  -- the record, whatever follows
  whole : body_len k ≡ suc (length got) → (bs : List ℕ) → byte_taken (holding c t k got) b ≡ record_taken (between c Open t) (t + suc (body_len k)) t (record_of k (got ++ (b ∷ bs)))
  unfolding byte_open record_taken
  whole e bs =
      let r : record_of k ((got ++ (b ∷ [])) ++ replicate (11 - length (got ++ (b ∷ []))) 0) ≡ record_of k (got ++ (b ∷ bs)) =
      same_record k _ _ u
      (subst (λ (n : ℕ). Alike n ((got ++ (b ∷ [])) ++ replicate (11 - length (got ++ (b ∷ []))) 0) (got ++ (b ∷ bs))) (length_last got b ∙ sym e)
      (subst (λ (l : List ℕ). Alike (length (got ++ (b ∷ []))) ((got ++ (b ∷ [])) ++ replicate (11 - length (got ++ (b ∷ []))) 0) l) (append_assoc got (b ∷ []) bs)
      (alike_append (got ++ (b ∷ [])) (replicate (11 - length (got ++ (b ∷ []))) 0) bs)))
      in
      let w : suc (t + suc (length got)) ≡ t + suc (body_len k) = omega arith in
      let z : (t + suc (length got)) - suc (length got) ≡ t = omega arith in
      opens ∙ simp (ne_eqb (body_len k) no_len u, le-leb (body_len k) (suc (length got)) (omega arith)) (rw (r, w, z))

leb_both : (m n : ℕ) → leb (suc m) (suc n) ≡ leb m n
leb_both m n = go (leb m n) refl
  where
    go : (b : Bool) → leb m n ≡ b → leb (suc m) (suc n) ≡ b
    go true e = let h : m ≤ n = leb-true m n e in le-leb (suc m) (suc n) (omega arith)
    go false e = let h : n < m = leb-false m n e in lt-leb (suc m) (suc n) (omega arith)

-- all that are left of it, and then what follows; or the image ends before
rest : Context → ℕ → ℕ → List ℕ → ℕ → List ℕ → Result ⊤ Refusal
rest c t k body m bs = cond (leb m (length bs)) (verdict_by (piece_taken (record_taken (between c Open t) (t + suc (body_len k)) t (record_of k body)) (drop m bs))) (Err (refusal 3 t))

Collects : Context → ℕ → ℕ → List ℕ → List ℕ → Type 0
Collects c t k bs got = verdict_by (piece_taken (holding c t k got) bs) ≡ rest c t k (got ++ bs) (body_len k - length got) bs

collect : (c : Context) (t k : ℕ) → (body_len k ≡ no_len → ⊥) → (bs got : List ℕ) → length got < body_len k → t + suc (length got) + length bs ≤ limit → Collects c t k bs got
unfolding piece_taken verdict_by stage_verdict Collects rest
collect c t k u [] got l h =
    let z : (t + suc (length got)) - suc (length got) ≡ t = omega arith in
    simp (le-ltb limit (t + suc (length got)) (omega arith), lt-leb (body_len k - length got) 0 (omega arith)) (ap (λ (o : ℕ). Err (refusal 3 o)) z)
collect c t k u (b ∷ bs) got l h = go (leb (body_len k) (suc (length got))) refl (collect c t k u bs (got ++ (b ∷ [])))
  where
    n : length (got ++ (b ∷ [])) ≡ suc (length got)
    n = length_last got b

    go : (x : Bool) → leb (body_len k) (suc (length got)) ≡ x
        → (length (got ++ (b ∷ [])) < body_len k → t + suc (length (got ++ (b ∷ []))) + length bs ≤ limit → Collects c t k bs (got ++ (b ∷ [])))
        → verdict_by (piece_taken (byte_taken (holding c t k got) b) bs) ≡ rest c t k (got ++ (b ∷ bs)) (body_len k - length got) (b ∷ bs)
    go true q f =
        let m : body_len k ≤ suc (length got) = leb-true _ _ q in
        let e : body_len k ≡ suc (length got) = omega arith in
        let o : body_len k - length got ≡ 1 = omega arith in
        ap (λ (x : CheckState). verdict_by (piece_taken x bs)) (whole c t k u got b (omega arith) l e bs)
        ∙ sym (ap (λ (j : ℕ). rest c t k (got ++ (b ∷ bs)) j (b ∷ bs)) o ∙ simp (le-leb 1 (suc (length bs)) (omega arith)))
    go false q f =
        let m : suc (length got) < body_len k = leb-false _ _ q in
        let o : body_len k - length got ≡ suc (body_len k - length (got ++ (b ∷ []))) = omega (arith, n) in
        ap (λ (x : CheckState). verdict_by (piece_taken x bs)) (grows c t k u got b (omega arith) l m)
        ∙ f (omega (arith, n)) (omega (arith, n))
        ∙ ap (λ (body : List ℕ). rest c t k body (body_len k - length (got ++ (b ∷ []))) bs) (append_assoc got (b ∷ []) bs)
        ∙ sym (ap (λ (j : ℕ). rest c t k (got ++ (b ∷ bs)) j (b ∷ bs)) o ∙ simp (leb_both (body_len k - length (got ++ (b ∷ []))) (length bs)))

-- the same of what is kept, where the record is whole
Gathers : Context → ℕ → ℕ → List ℕ → List ℕ → Type 0
Gathers c t k bs got =
    piece_taken (holding c t k got) bs ≡ piece_taken (record_taken (between c Open t) (t + suc (body_len k)) t (record_of k (got ++ bs))) (drop (body_len k - length got) bs)

gather : (c : Context) (t k : ℕ) → (body_len k ≡ no_len → ⊥) → (bs got : List ℕ) → length got < body_len k → body_len k - length got ≤ length bs
    → t + suc (length got) + length bs ≤ limit → Gathers c t k bs got
unfolding piece_taken Gathers
gather c t k u [] got l m h = absurd (omega arith)
gather c t k u (b ∷ bs) got l m h = go (leb (body_len k) (suc (length got))) refl (gather c t k u bs (got ++ (b ∷ [])))
  where
    n : length (got ++ (b ∷ [])) ≡ suc (length got)
    n = length_last got b

    go : (x : Bool) → leb (body_len k) (suc (length got)) ≡ x
        → (length (got ++ (b ∷ [])) < body_len k → body_len k - length (got ++ (b ∷ [])) ≤ length bs → t + suc (length (got ++ (b ∷ []))) + length bs ≤ limit → Gathers c t k bs (got ++ (b ∷ [])))
        → piece_taken (byte_taken (holding c t k got) b) bs
        ≡ piece_taken (record_taken (between c Open t) (t + suc (body_len k)) t (record_of k (got ++ (b ∷ bs)))) (drop (body_len k - length got) (b ∷ bs))
    go true q f =
        let z : body_len k ≤ suc (length got) = leb-true _ _ q in
        let e : body_len k ≡ suc (length got) = omega arith in
        let o : body_len k - length got ≡ 1 = omega arith in
        ap (λ (x : CheckState). piece_taken x bs) (whole c t k u got b (omega arith) l e bs)
        ∙ sym (ap (λ (j : ℕ). piece_taken (record_taken (between c Open t) (t + suc (body_len k)) t (record_of k (got ++ (b ∷ bs)))) (drop j (b ∷ bs))) o)
    go false q f =
        let z : suc (length got) < body_len k = leb-false _ _ q in
        let o : body_len k - length got ≡ suc (body_len k - length (got ++ (b ∷ []))) = omega (arith, n) in
        ap (λ (x : CheckState). piece_taken x bs) (grows c t k u got b (omega arith) l z)
        ∙ f (omega (arith, n)) (omega (arith, n)) (omega (arith, n))
        ∙ ap (λ (body : List ℕ). piece_taken (record_taken (between c Open t) (t + suc (body_len k)) t (record_of k body)) (drop (body_len k - length (got ++ (b ∷ []))) bs)) (append_assoc got (b ∷ []) bs)
        ∙ sym (ap (λ (j : ℕ). piece_taken (record_taken (between c Open t) (t + suc (body_len k)) t (record_of k (got ++ (b ∷ bs)))) (drop j (b ∷ bs))) o)

-- ---- from a place between records on

module _ (c : Context) (t k : ℕ) (u : body_len k ≡ no_len → ⊥) (body bs : List ℕ) where
  abbrev r : Record
  r = record_of k body

  abbrev next : ℕ
  next = t + suc (body_len k)

  -- past a whole record
  past : next + length bs ≤ limit → verdict_by (piece_taken (between (with_record c r) Open next) bs) ≡ check_by (next + length bs) (with_record c r) (walk_of zero next bs)
      → verdict_by (piece_taken (record_taken (between c Open t) next t r) bs) ≡ check_by (next + length bs) c (more t r (walk_of zero next bs))
  unfolding record_taken check_by
  past h f = go (eqb (judge_by c r) 0) (eqb (kind_of r) 0x1f) refl
    where
      go : (a e : Bool) → eqb (kind_of r) 0x1f ≡ e
          → verdict_by (piece_taken (cond a (between (with_record c r) (cond e Ended Open) next) (between c (Faulty (judge_by c r) t) next)) bs)
          ≡ cond a (cond e (end_at (next + length bs) t) (check_by (next + length bs) (with_record c r) (walk_of zero next bs))) (Err (refusal (judge_by c r) t))
      go true true q =
          let z : body_len k ≡ 0 = end_empty k body u (eqb-true _ _ q) in
          let n : next ≡ suc t = omega arith in
          subst (λ (j : ℕ). verdict_by (piece_taken (between (with_record c r) Ended j) bs) ≡ end_at (j + length bs) t) (sym n) (ended (with_record c r) bs t (omega arith))
      go true false q = f
      go false e q = faulty c (judge_by c r) t bs next h

-- the first byte of a record
module _ (c : Context) (t k : ℕ) (room : t < limit) where
  kind_first : byte_taken (between c Open t) k ≡ byte_open (between c Open t) (k ∷ replicate 11 0)
  unfolding byte_taken byte_by
  kind_first = simp (lt-ltb t limit room)

  from_start : t - 0 ≡ t
  from_start = omega arith

  unknown : body_len k ≡ no_len → byte_taken (between c Open t) k ≡ between c (Faulty 2 t) (suc t)
  unfolding byte_open
  unknown e = kind_first ∙ simp (eq-eqb (body_len k) no_len e) (ap (λ (o : ℕ). between c (Faulty 2 o) (suc t)) from_start)

  module _ (u : body_len k ≡ no_len → ⊥) where
    lone : body_len k ≡ 0 → (bs : List ℕ) → byte_taken (between c Open t) k ≡ record_taken (between c Open t) (t + suc (body_len k)) t (record_of k bs)
    unfolding byte_open Alike
    lone e bs =
        let w : suc t ≡ t + suc (body_len k) = omega arith in
        let q : record_of k (replicate 11 0) ≡ record_of k bs = same_record k (replicate 11 0) bs u (λ j h. absurd (omega arith)) in
        kind_first ∙ simp (ne_eqb (body_len k) no_len u, le-leb (body_len k) 0 (omega arith))
        (ap (λ (x : Record). record_taken (between c Open t) (suc t) (t - 0) x) q
        ∙ ap₂ (λ (i o : ℕ). record_taken (between c Open t) i o (record_of k bs)) w from_start)

    opened : 0 < body_len k → byte_taken (between c Open t) k ≡ holding c t k []
    unfolding byte_open
    opened l =
        kind_first ∙ simp (ne_eqb (body_len k) no_len u, lt-leb (body_len k) 0 l)
        (ap (λ (j : ℕ). record { context = c; cut = k ∷ replicate 11 0; held = 1; taken = j; stage = Open }) (let z : suc t ≡ t + 1 = omega arith in z))

    record_from : (bs : List ℕ) → t + suc (length bs) ≤ limit → verdict_by (piece_taken (byte_taken (between c Open t) k) bs) ≡ rest c t k bs (body_len k) bs
    unfolding rest Collects
    record_from bs h = go (leb (body_len k) 0) refl
      where
        go : (b : Bool) → leb (body_len k) 0 ≡ b → verdict_by (piece_taken (byte_taken (between c Open t) k) bs) ≡ rest c t k bs (body_len k) bs
        go true q =
            let m : body_len k ≤ 0 = leb-true _ _ q in
            let e : body_len k ≡ 0 = omega arith in
            ap (λ (x : CheckState). verdict_by (piece_taken x bs)) (lone e bs)
            ∙ sym (ap (λ (j : ℕ). rest c t k bs j bs) e ∙ simp (le-leb 0 (length bs) (omega arith)))
        go false q =
            let m : 0 < body_len k = leb-false _ _ q in
            ap (λ (x : CheckState). verdict_by (piece_taken x bs)) (opened m) ∙ collect c t k u bs [] m (omega arith)
            ∙ ap (λ (j : ℕ). rest c t k bs j bs) (let z : body_len k - 0 ≡ body_len k = omega arith in z)

-- a whole record at once
module _ (c : Context) (t k : ℕ) (u : body_len k ≡ no_len → ⊥) (bs : List ℕ) (h : t + suc (length bs) ≤ limit) (l : body_len k ≤ length bs) where
  pub record_at_once : piece_taken (between c Open t) (k ∷ bs) ≡ piece_taken (record_taken (between c Open t) (t + suc (body_len k)) t (record_of k bs)) (drop (body_len k) bs)
  unfolding piece_taken Gathers
  record_at_once = go (leb (body_len k) 0) refl
    where
      room : t < limit
      room = omega arith

      go : (b : Bool) → leb (body_len k) 0 ≡ b
          → piece_taken (byte_taken (between c Open t) k) bs ≡ piece_taken (record_taken (between c Open t) (t + suc (body_len k)) t (record_of k bs)) (drop (body_len k) bs)
      go true q =
          let m : body_len k ≤ 0 = leb-true _ _ q in
          let e : body_len k ≡ 0 = omega arith in
          ap (λ (x : CheckState). piece_taken x bs) (lone c t k room u e bs)
          ∙ sym (ap (λ (j : ℕ). piece_taken (record_taken (between c Open t) (t + suc (body_len k)) t (record_of k bs)) (drop j bs)) e)
      go false q =
          let m : 0 < body_len k = leb-false _ _ q in
          ap (λ (x : CheckState). piece_taken x bs) (opened c t k room u m) ∙ gather c t k u bs [] m (omega arith) (omega arith)
          ∙ ap (λ (j : ℕ). piece_taken (record_taken (between c Open t) (t + suc (body_len k)) t (record_of k bs)) (drop j bs)) (let z : body_len k - 0 ≡ body_len k = omega arith in z)

Within : ℕ → Type 0
Within m =
    (c : Context) (t : ℕ) (bs : List ℕ) → length bs ≤ m → t + length bs ≤ limit → verdict_by (piece_taken (between c Open t) bs) ≡ check_by (t + length bs) c (walk_of zero t bs)

nothing_left : (c : Context) (t : ℕ) → t ≤ limit → verdict_by (piece_taken (between c Open t) []) ≡ check_by (t + 0) c (walk_of zero t [])
unfolding verdict_by piece_taken stage_verdict check_by walk_of
nothing_left c t h = simp (le-ltb limit t h) (ap (λ (o : ℕ). Err (refusal 3 o)) (let z : t - 0 ≡ t = omega arith in z))

one_record : (m : ℕ) → Within m → Within (suc m)
unfolding Within verdict_by piece_taken stage_verdict check_by walk_of rest
one_record m f c t [] l h = nothing_left c t (omega arith)
one_record m f c t (k ∷ bs) l h = go (eqb (body_len k) no_len) refl
  where
    go : (b : Bool) → eqb (body_len k) no_len ≡ b
        → verdict_by (piece_taken (byte_taken (between c Open t) k) bs)
        ≡ check_by (t + suc (length bs)) c (cond b (stop 2 t) (cond (leb (body_len k) (length bs)) (more t (record_of k bs) (walk_of (body_len k) (suc t) bs)) (stop 3 t)))
    go true q =
        ap (λ (x : CheckState). verdict_by (piece_taken x bs)) (unknown c t k (omega arith) (eqb-true _ _ q)) ∙ faulty c 2 t bs (suc t) (omega arith)
    go false q = record_from c t k (omega arith) (eqb-false _ _ q) bs h ∙ cases (leb (body_len k) (length bs)) refl
      where
        cases : (x : Bool) → leb (body_len k) (length bs) ≡ x
            → cond x (verdict_by (piece_taken (record_taken (between c Open t) (t + suc (body_len k)) t (record_of k bs)) (drop (body_len k) bs))) (Err (refusal 3 t))
            ≡ check_by (t + suc (length bs)) c (cond x (more t (record_of k bs) (walk_of (body_len k) (suc t) bs)) (stop 3 t))
        cases true p =
            let a : body_len k ≤ length bs = leb-true _ _ p in
            let d : length (drop (body_len k) bs) ≡ length bs - body_len k = length-drop (body_len k) bs in
            let n : t + suc (body_len k) + length (drop (body_len k) bs) ≡ t + suc (length bs) = omega arith in
            past c t k (eqb-false _ _ q) bs (drop (body_len k) bs) (omega arith)
            (f (with_record c (record_of k bs)) (t + suc (body_len k)) (drop (body_len k) bs) (omega arith) (omega arith))
            ∙ ap₂ (λ (j : ℕ) (w : Walk). check_by j c (more t (record_of k bs) w)) n
            (sym (skips (body_len k) (suc t) bs a ∙ ap (λ (j : ℕ). walk_of zero j (drop (body_len k) bs)) (let z : suc t + body_len k ≡ t + suc (body_len k) = omega arith in z)))
        cases false p = refl

nothing : Within zero
unfolding Within
nothing c t [] l h = nothing_left c t (omega arith)
nothing c t (k ∷ bs) l h = absurd (omega arith)

within : (m : ℕ) → Within m
within zero = nothing
within (suc m) = one_record m (within m)

-- ---- an image that is too long

pub byte_counts : (k : CheckState) (b : ℕ) → k.taken < limit → (byte_taken k b).taken ≡ suc k.taken
unfolding byte_taken byte_by byte_open record_taken
byte_counts k b h = simp (lt-ltb k.taken limit h) (by k.stage)
  where
    open_by : (x y z w : Bool) (cut : List ℕ) (r : Record)
        → (cond x (faulty_at k (suc k.taken) 2 (k.taken - k.held))
        (cond y (cond z (between (with_record k.context r) (cond w Ended Open) (suc k.taken))
        (faulty_at k (suc k.taken) (judge_by k.context r) (k.taken - k.held))) (longer k cut))).taken
        ≡ suc k.taken
    open_by true y z w cut r = refl
    open_by false true true w cut r = refl
    open_by false true false w cut r = refl
    open_by false false z w cut r = refl

    by : (st : Stage) → (byte_by st k b).taken ≡ suc k.taken
    by Open =
        let cut : List ℕ = set k.cut k.held b in
        let r : Record = record_of (get_or cut 0 0) (drop 1 cut) in
        open_by (eqb (body_len (get_or cut 0 0)) no_len) (leb (body_len (get_or cut 0 0)) k.held) (eqb (judge_by k.context r) 0) (eqb (kind_of r) 0x1f) cut r
    by Ended = refl
    by (Faulty n o) = refl

-- with more bytes than an image may have, the state is one and the same
pub too_many : (k : CheckState) (b : ℕ) (bs : List ℕ) → limit < k.taken + length (b ∷ bs) → piece_taken k (b ∷ bs) ≡ overlong
unfolding piece_taken byte_taken
too_many k b [] h = simp (le-ltb k.taken limit (omega arith))
too_many k b (d ∷ bs) h = go (ltb k.taken limit) refl (too_many (byte_taken k b) d bs)
  where
    go : (x : Bool) → ltb k.taken limit ≡ x → (limit < (byte_taken k b).taken + length (d ∷ bs) → piece_taken (byte_taken k b) (d ∷ bs) ≡ overlong)
        → piece_taken (byte_taken k b) (d ∷ bs) ≡ overlong
    go true q f =
        let z : k.taken < limit = ltb-true _ _ q in
        let e : (byte_taken k b).taken ≡ suc k.taken = byte_counts k b z in
        f (omega arith)
    go false q f =
        let e : (byte_taken k b).taken ≡ suc limit = simp q refl in
        f (omega arith)

-- ---- the whole, and any cutting of it

long : (s : List ℕ) → limit < length s → verdict_by (piece_taken starting s) ≡ Err (refusal 1 0)
unfolding verdict_by
long [] h = absurd (omega arith)
long (b ∷ s) h = ap verdict_by (too_many starting b s (omega arith))

at_once : (s : List ℕ) → verdict_by (piece_taken starting s) ≡ verdict_of s
unfolding verdict_of context_of Valid Within
at_once s = go (ltb limit (length s)) refl
  where
    go : (b : Bool) → ltb limit (length s) ≡ b → verdict_by (piece_taken starting s) ≡ cond b (Err (refusal 1 0)) (check_walk (length s) [] (walk_from s 0))
    go true q = long s (ltb-true _ _ q)
    go false q =
        let h : length s ≤ limit = ltb-false _ _ q in
        within (length s) start 0 s (omega arith) (omega arith) ∙ ap (λ (j : ℕ). check_by j start (walk_of zero 0 s)) (let z : 0 + length s ≡ length s = omega arith in z)
        ∙ checks (length s) (walk_from s 0)

taken_append : (k : CheckState) (p q : List ℕ) → piece_taken k (p ++ q) ≡ piece_taken (piece_taken k p) q
unfolding piece_taken
taken_append k [] q = refl
taken_append k (b ∷ p) q = taken_append (byte_taken k b) p q

pub joins : AnyCutting
unfolding pieces_taken joined piece_taken
joins k [] = refl
joins k (p ∷ ps) = joins (piece_taken k p) ps ∙ sym (taken_append k p (joined ps))

pub cut_anywhere : CutAnywhere
cut_anywhere ps = ap verdict_by (joins starting ps) ∙ at_once (joined ps)
