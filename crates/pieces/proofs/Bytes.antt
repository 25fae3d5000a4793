-- What is kept after a whole record, from what the code is told.
use Rattle.std.specs.Prelude.{Ok, Err}
use Rattle.refusal.specs.Refusal.{refusal}
use mathlib.Core.List.{List, map}
use lib.ListN.{length, get_or, drop, set, length-map}
use Prim.Native.Nat.{ℕ, suc, ◌+◌, ◌-◌, ◌≤◌, ◌<◌}
use native.Mathlib.Numerals.{add-one}
use lib.ListN.{length, get_or, set, drop, drop_of_length-le}
use lib.Seq.{drop-cons, set_out}
use native.Mathlib.Omega.{arith}
use mathlib.Core.Path.{◌≡◌, sym, ap, ap₂, ◌∙◌}
use mathlib.Core.List.{List}
use borrow.Author.Tests.{ne_eqb, eq-eqb, lt-leb, le-leb, lt-ltb, le-ltb}
use Rattle.records.specs.Kinds.{body_len, no_len, kind_of}
use Rattle.reader.specs.Read.{record_of}
use Rattle.rules.specs.Check.{limit}
use Rattle.records.specs.declared.Record.{Record}
use Rattle.context.specs.Context.{with_record}
use Rattle.context.specs.declared.Context.{Context}
use Rattle.judge.specs.Judge.{judge_by}
use Rattle.pieces.specs.declared.Stage.TheVariants.{Open, Ended, Faulty}
use Rattle.pieces.specs.declared.CheckState.{CheckState}
use Rattle.pieces.specs.Pieces.{between, record_taken, byte_open, byte_by, byte_taken, piece_taken, stage_verdict, verdict_by, overlong}

module _ (k : CheckState) (t o : ℕ) (r : Record) {n : ℕ} (j : n ≡ judge_by k.context r) {x : CheckState} where
  pub record_faulty : (n ≡ 0 → ⊥) → x ≡ between k.context (Faulty n o) t → x ≡ record_taken k t o r
  unfolding record_taken
  record_faulty z e = e ∙ simp (← j, ne_eqb n 0 z)

  module _ (z : n ≡ 0) {c : Context} (w : c ≡ with_record k.context r) {m : ℕ} (q : m ≡ kind_of r) where
    pub record_ended : m ≡ 0x1f → x ≡ between c Ended t → x ≡ record_taken k t o r
    unfolding record_taken
    record_ended l e = e ∙ ap (λ (d : Context). between d Ended t) w ∙ simp (← j, eq-eqb n 0 z, ← q, eq-eqb m 0x1f l)

    pub record_open : (m ≡ 0x1f → ⊥) → x ≡ between c Open t → x ≡ record_taken k t o r
    unfolding record_taken
    record_open l e = e ∙ ap (λ (d : Context). between d Open t) w ∙ simp (← j, eq-eqb n 0 z, ← q, ne_eqb m 0x1f l)

-- ---- one byte

module _ (k : CheckState) (b : ℕ) {cut : List ℕ} (p : cut ≡ set k.cut k.held b) {n : ℕ} (q : n ≡ body_len (get_or cut 0 0)) {at : ℕ} (f : at ≡ k.taken - k.held) where
  pub byte_unknown : {x : CheckState} → n ≡ no_len → x ≡ between k.context (Faulty 2 at) (k.taken + 1) → x ≡ byte_open k (set k.cut k.held b)
  unfolding byte_open
  byte_unknown z e = e ∙ simp (← p, ← q, eq-eqb n no_len z) (ap₂ (λ (o t : ℕ). between k.context (Faulty 2 o) t) f (add-one k.taken))

  module _ (u : n ≡ no_len → ⊥) where
    pub byte_whole : {x : CheckState} {r : Record} → n ≤ k.held → r ≡ record_of (get_or cut 0 0) (drop 1 cut) → x ≡ record_taken k (k.taken + 1) at r → x ≡ byte_open k (set k.cut k.held b)
    unfolding byte_open
    byte_whole {r = r} l w e =
        e ∙ simp (← p, ← q, ne_eqb n no_len u, le-leb n k.held l)
        (ap₂ (λ (t o : ℕ). record_taken k t o r) (add-one k.taken) f ∙ ap (record_taken k (suc k.taken) (k.taken - k.held)) w)

    pub byte_more : k.held < n
        → record { context = k.context; cut = cut; held = k.held + 1; taken = k.taken + 1; stage = Open } ≡ byte_open k (set k.cut k.held b)
    unfolding byte_open
    byte_more l =
        simp (← p, ← q, ne_eqb n no_len u, lt-leb n k.held l)
        (rw (add-one k.held, add-one k.taken))

module _ (k : CheckState) (b : ℕ) {x : CheckState} where
  pub byte_past : limit ≤ k.taken → x ≡ overlong → x ≡ byte_taken k b
  unfolding byte_taken
  byte_past h e = e ∙ simp (le-ltb k.taken limit h)

  module _ (h : k.taken < limit) where
    pub byte_opens : k.stage ≡ Open → x ≡ byte_open k (set k.cut k.held b) → x ≡ byte_taken k b
    unfolding byte_taken byte_by
    byte_opens s e = e ∙ simp (lt-ltb k.taken limit h, s)

    pub byte_ended : k.stage ≡ Ended → x ≡ between k.context (Faulty 4 k.taken) (k.taken + 1) → x ≡ byte_taken k b
    unfolding byte_taken byte_by
    byte_ended s e = e ∙ simp (lt-ltb k.taken limit h, s) (ap (between k.context (Faulty 4 k.taken)) (add-one k.taken))

    pub byte_faulty : (n o : ℕ) → k.stage ≡ Faulty n o → x ≡ between k.context (Faulty n o) (k.taken + 1) → x ≡ byte_taken k b
    unfolding byte_taken byte_by
    byte_faulty n o s e = e ∙ simp (lt-ltb k.taken limit h, s) (ap (between k.context (Faulty n o)) (add-one k.taken))

pub on_byte : (s : List ℕ) (k x : CheckState) (i : ℕ) → i < length s → x ≡ byte_taken k (get_or s i 0) → piece_taken x (drop (i + 1) s) ≡ piece_taken k (drop i s)
unfolding piece_taken
on_byte s k x i h e = ap₂ piece_taken e (ap (λ (j : ℕ). drop j s) (add-one i)) ∙ sym (ap (piece_taken k) (drop-cons s i 0 h))

pub taken_all : (s : List ℕ) (k x : CheckState) (i : ℕ) → length s ≤ i → piece_taken x (drop i s) ≡ piece_taken k s → x ≡ piece_taken k s
unfolding piece_taken
taken_all s k x i h f = sym (ap (piece_taken x) (drop_of_length-le s h)) ∙ f

-- ---- the answer

module _ (k : CheckState) where
  pub too_many : limit < k.taken → Err (refusal 1 0) ≡ verdict_by k
  unfolding verdict_by
  too_many h = simp (lt-ltb limit k.taken h)

  module _ (h : k.taken ≤ limit) where
    pub still_open : {o : ℕ} → k.stage ≡ Open → o ≡ k.taken - k.held → Err (refusal 3 o) ≡ verdict_by k
    unfolding verdict_by stage_verdict
    still_open s e = simp (le-ltb limit k.taken h, s) (ap (λ (o : ℕ). Err (refusal 3 o)) e)

    pub all_ended : k.stage ≡ Ended → Ok tt ≡ verdict_by k
    unfolding verdict_by stage_verdict
    all_ended s = simp (le-ltb limit k.taken h, s)

    pub found_faulty : (n o : ℕ) → k.stage ≡ Faulty n o → Err (refusal n o) ≡ verdict_by k
    unfolding verdict_by stage_verdict
    found_faulty n o s = simp (le-ltb limit k.taken h, s)

pub put_by : (cut : List ℕ) (held b i : ℕ) → i ≡ held → set cut i b ≡ set cut held b
put_by cut held b i e = ap (λ (j : ℕ). set cut j b) e

pub put_out : (cut : List ℕ) (held b : ℕ) → length cut ≡ 12 → 12 ≤ held → cut ≡ set cut held b
put_out cut held b l h = sym (set_out cut held b (omega arith))

-- what is told of the array of a struct
pub twelve : (l : List ℕ) → length (map (λ (x : ℕ). x) l) ≡ 12 → length l ≡ 12
twelve l h = sym (length-map l (λ (x : ℕ). x)) ∙ h
