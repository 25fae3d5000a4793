-- The moves from one state, gone through one after the other: which events of the mask are decided, and which may still be found.
use mathlib.Core.Path.{◌≡◌, refl, sym, ap, ap₂, ◌∙◌, subst}
use mathlib.Core.List.{List}
use mathlib.Core.Bool.{Bool, true, false, cond, ◌&&◌}
use Prim.Native.Nat.{ℕ, suc, ◌+◌, ◌-◌, ◌*◌, ◌^◌, ◌≤◌, ◌<◌}
use native.Mathlib.Omega.{arith}
use lib.ListN.{drop}
use lib.Dec.{eqb, ltb}
use borrow.Author.Tests.{lt-ltb, le-ltb, ltb-true, ltb-false, eq-eqb, ne_eqb, eqb-true, eqb-false}
use Rattle.bits.specs.Bit.{bit, put_bit, mask_of}
use Rattle.bits.proofs.Laws.{bit_none, put_at, put_fits}
use Rattle.bits.proofs.Mask.{mask_is}
use Rattle.records.specs.Key.{key_by, key_of, same_key, precedes, rank_of}
use Rattle.records.specs.declared.RecordKey.{RecordKey}
use Rattle.records.proofs.Order.{ranks, same_ranks}
use Rattle.reader.specs.Read.{record_of}
use Rattle.reader.specs.Find.{find_in, found}
use Rattle.places.specs.Places.{halved, onward, numbered, first_of, position_of, record_by, count_of, records_by, moves_of}
use Rattle.places.specs.Runs.{run_by, run_of, before}
use Rattle.places.specs.declared.Places.{Places}
use Rattle.places.specs.declared.Run.{Run}
use Rattle.places.proofs.Halving.{goes_on, goes_no_further, goes_to_the_end}
use Rattle.places.proofs.Spots.{found_is}

-- b e i: the i-th of n records precedes the key of event e; m e i: it has this key, whose rank is base + e. The search for each begins at h.
module _ (b m : ℕ → ℕ → Bool) (n h base : ℕ) where
  abbrev pub reached : ℕ → ℕ
  reached e = onward (b e) (n - h) h

  abbrev pub there : ℕ → Bool
  there e = ltb (reached e) n && m e (reached e)

  -- before the i-th: the events whose key is below the floor are decided, and the search for the others has come to i
  pub record Scanned (floor x i : ℕ) : Type 0 where
    pub small : x < 2 ^ 64
    pub low : base ≤ floor
    pub decided : (e : ℕ) → e < 64 → bit x e ≡ (ltb (base + e) floor && there e)
    pub left : (e : ℕ) → e < 64 → floor ≤ base + e → onward (b e) (n - i) i ≡ reached e

  pub scan_start : Scanned base 0 h
  scan_start =
      record {
        small = omega arith;
        low = omega arith;
        decided = λ e l. bit_none e ∙ sym (ap (λ (t : Bool). t && there e) (le-ltb (base + e) base (omega arith)));
        left = λ e l f. refl;
      }

  module _ {floor x i : ℕ} (z : Scanned floor x i) where
    -- where no other is there, the mask is whole
    whole : ((e : ℕ) → e < 64 → floor ≤ base + e → there e ≡ false) → x ≡ mask_of there 64
    whole f = mask_is there 64 x z.small (λ e l. z.decided e l ∙ go e l (ltb (base + e) floor) refl)
      where
        go : (e : ℕ) → e < 64 → (t : Bool) → ltb (base + e) floor ≡ t → (t && there e) ≡ there e
        go e l true g = refl
        go e l false g = sym (f e l (ltb-false _ _ g))

    pub scan_end : n ≤ i → x ≡ mask_of there 64
    scan_end g =
        whole (λ e l f.
        let u : i ≡ reached e = goes_to_the_end (b e) n i (z.left e l f) g in
        ap (λ (t : Bool). t && m e (reached e)) (le-ltb (reached e) n (omega arith)))

    -- the i-th, of rank k
    module _ (l : i < n) {k : ℕ} (fb : (e : ℕ) → e < 64 → b e i ≡ ltb k (base + e)) (fm : (e : ℕ) → e < 64 → m e i ≡ eqb k (base + e)) where
      ended : (e : ℕ) → e < 64 → floor ≤ base + e → base + e ≤ k → there e ≡ eqb k (base + e)
      ended e g f q =
          let u : i ≡ reached e = goes_no_further (b e) n i (z.left e g f) l refl (fb e g ∙ le-ltb k (base + e) q) in
          ap (λ (j : ℕ). ltb j n && m e j) (sym u) ∙ ap₂ ◌&&◌ (lt-ltb i n l) (fm e g)

      further : (e : ℕ) → e < 64 → floor ≤ base + e → k < base + e → onward (b e) (n - (i + 1)) (i + 1) ≡ reached e
      further e g f q = goes_on (b e) n i (z.left e g f) l refl (fb e g ∙ lt-ltb k (base + e) q)

      pub scan_stop : base + 255 < k → x ≡ mask_of there 64
      scan_stop q = whole (λ e g f. ended e g f (omega arith) ∙ ne_eqb k (base + e) (λ r. absurd (omega arith)))

      pub scan_miss : k < floor → Scanned floor x (i + 1)
      scan_miss q = record { small = z.small; low = z.low; decided = z.decided; left = λ e g f. further e g f (omega arith) }

      module _ (q : floor ≤ k) (c : ℕ) (r : k ≡ base + c) where
        hit_bit : (e : ℕ) → e < 64 → cond (eqb c e) true (bit x e) ≡ (ltb (base + e) (k + 1) && there e)
        hit_bit e g = go (eqb c e) refl
          where
            go : (t : Bool) → eqb c e ≡ t → cond t true (bit x e) ≡ (ltb (base + e) (k + 1) && there e)
            go true u =
                let v : c ≡ e = eqb-true c e u in
                sym (ap₂ ◌&&◌ (lt-ltb (base + e) (k + 1) (omega arith)) (ended e g (omega arith) (omega arith) ∙ eq-eqb k (base + e) (omega arith)))
            go false u = z.decided e g ∙ two (ltb (base + e) floor) (ltb (base + e) (k + 1)) refl refl
              where
                apart : c ≡ e → ⊥
                apart = eqb-false c e u

                two : (s t : Bool) → ltb (base + e) floor ≡ s → ltb (base + e) (k + 1) ≡ t → (s && there e) ≡ (t && there e)
                two true true a d = refl
                two true false a d =
                    let y : base + e < floor = ltb-true _ _ a in
                    let v : k + 1 ≤ base + e = ltb-false _ _ d in
                    absurd (omega arith)
                two false true a d =
                    let y : floor ≤ base + e = ltb-false _ _ a in
                    let v : base + e < k + 1 = ltb-true _ _ d in
                    sym (ended e g y (omega arith) ∙ ne_eqb k (base + e) (λ o. apart (omega arith)))
                two false false a d = refl

        pub scan_hit : Scanned (k + 1) (put_bit x c true) (i + 1)
        scan_hit =
            let y : base ≤ floor = z.low in
            record {
              small = put_fits x c true z.small;
              low = omega arith;
              decided = λ e g. put_at x c true e z.small g ∙ hit_bit e g;
              left = λ e g f. further e g (omega arith) (omega arith);
            }

-- ---- of the moves of an owner from a state

module _ (s : List ℕ) (r : Run) (o f : ℕ) where
  -- the i-th record's key
  abbrev pub key_at : ℕ → RecordKey
  key_at i = key_of (record_of 0x13 (drop (suc (r.begin + i * r.size)) s))

  abbrev pub precedes_by : ℕ → ℕ → Bool
  precedes_by e i = before s r (key_by 0x13 o f e) i

  abbrev pub same_by : ℕ → ℕ → Bool
  same_by e i = same_key (key_at i) (key_by 0x13 o f e)

  -- all of them
  moves_are : (p : Places) (base : ℕ) {h x : ℕ} → r ≡ run_of s p 0x13 → h ≡ halved (before s r (key_by 0x13 o f 0)) r.count 0 r.count
      → x ≡ mask_of (there precedes_by same_by r.count h base) 64 → x ≡ moves_of (records_by s p) o f
  unfolding position_of first_of numbered run_of run_by before record_by count_of
  moves_are p base {h} {x} e g q = q ∙ (λ i. mask_of (λ v. same v i) 64)
    where
      first : Run → ℕ
      first y = halved (before s y (key_by 0x13 o f 0)) y.count 0 y.count

      place : Run → ℕ → ℕ
      place y v = onward (before s y (key_by 0x13 o f v)) (y.count - first y) (first y)

      is : Run → ℕ → Bool
      is y v = ltb (place y v) y.count && same_key (key_of (record_of 0x13 (drop (suc (y.begin + place y v * y.size)) s))) (key_by 0x13 o f v)

      same : (v : ℕ) → there precedes_by same_by r.count h base v ≡ found (find_in (key_by 0x13 o f v) (records_by s p))
      same v =
          ap (λ (y : ℕ). there precedes_by same_by r.count y base v) g
          ∙ ap (λ (y : Run). is y v) e
          ∙ sym (found_is s p (key_by 0x13 o f v))

  -- the rank of the least key, and what the code holds before the i-th record
  abbrev base : ℕ
  base = rank_of (key_by 0x13 o f 0)

  abbrev pub Moves : ℕ → ℕ → ℕ → ℕ → Type 0
  Moves h floor x i = Scanned precedes_by same_by r.count h (rank_of (key_by 0x13 o f 0)) floor x i

  pub moves_begin : (h : ℕ) {floor : ℕ} → floor ≡ rank_of (key_by 0x13 o f 0) → Moves h floor 0 h
  moves_begin h e = subst (λ (y : ℕ). Moves h y 0 h) (sym e) (scan_start precedes_by same_by r.count h base)

  module _ (p : Places) {h floor x i : ℕ} (z : Moves h floor x i) (e : r ≡ run_of s p 0x13)
      (j : h ≡ halved (before s r (key_by 0x13 o f 0)) r.count 0 r.count) where
    pub moves_end : r.count ≤ i → x ≡ moves_of (records_by s p) o f
    moves_end l = moves_are p base e j (scan_end precedes_by same_by r.count h base z l)

  -- the i-th, from what the code is told of it
  module _ {h floor x i : ℕ} (z : Moves h floor x i) (l : i < r.count) {a : ℕ} (g : a ≡ suc (r.begin + i * r.size))
      {y : RecordKey} (q : y ≡ key_of (record_of 0x13 (drop a s))) (y1 : y.first < 256) (y2 : y.second < 256) (y3 : y.third < 256) (o1 : o < 256) (f1 : f < 256)
      {k : ℕ} (n : k ≡ rank_of y) where
    is_key : key_at i ≡ y
    is_key = ap (λ (b : ℕ). key_of (record_of 0x13 (drop b s))) (sym g) ∙ sym q

    before_by : (e : ℕ) → e < 64 → precedes_by e i ≡ ltb k (base + e)
    unfolding before
    before_by e v =
        let t : RecordKey = key_by 0x13 o f e in
        let u : rank_of t ≡ base + e = omega arith in
        ap (λ (b : RecordKey). precedes b t) is_key ∙ sym (ranks y t y1 y2 y3 o1 f1 (omega arith)) ∙ ap₂ ltb (sym n) u

    same_by_lem : (e : ℕ) → e < 64 → same_by e i ≡ eqb k (base + e)
    unfolding record_of key_of
    same_by_lem e v =
        let t : RecordKey = key_by 0x13 o f e in
        let u : rank_of t ≡ base + e = omega arith in
        let c : y.kind ≡ 0x13 = ap (λ (b : RecordKey). b.kind) q in
        ap (λ (b : RecordKey). same_key b t) is_key ∙ same_ranks y t c y2 y3 f1 (omega arith) ∙ ap₂ eqb (sym n) u

    pub moves_stop : (p : Places) {d : ℕ} → r ≡ run_of s p 0x13 → h ≡ halved (before s r (key_by 0x13 o f 0)) r.count 0 r.count
        → d ≡ rank_of (key_by 0x13 o f 0) → d + 255 < k → x ≡ moves_of (records_by s p) o f
    moves_stop p e j b v = moves_are p base e j (scan_stop precedes_by same_by r.count h base z l before_by same_by_lem (subst (λ (t : ℕ). t + 255 < k) b v))

    pub moves_miss : k < floor → Moves h floor x (i + 1)
    moves_miss v = scan_miss precedes_by same_by r.count h base z l before_by same_by_lem v

    pub moves_hit : {d : ℕ} → d ≡ rank_of (key_by 0x13 o f 0) → k ≤ d + 255 → floor ≤ k → {m : ℕ} → m ≡ put_bit x y.third true → Moves h (k + 1) m (i + 1)
    unfolding record_of key_of
    moves_hit {d} b u v {m} t =
        let c : base ≤ floor = z.low in
        let c1 : y.kind ≡ 0x13 = ap (λ (b : RecordKey). b.kind) q in
        let c2 : k ≡ base + y.third = omega arith in
        subst (λ (b : ℕ). Moves h (k + 1) b (i + 1)) (sym t) (scan_hit precedes_by same_by r.count h base z l before_by same_by_lem v y.third c2)
