-- What is remembered past whole records can be encoded, where it could be before them.
use Rattle.std.specs.Prelude.{Result, Ok, Err}
use Rattle.std.proofs.Common.{◌≡◌, ℕ, zero, suc, ◌+◌, ◌-◌, ◌<◌, ◌≤◌, Bool, true, false, eqb, List, length, get_or, drop, sym, refl, subst, arith, length-drop, get_or-drop, eqb-true}
use borrow.Author.Tests.{eqb-false}
use Rattle.roundtrip.specs.Fits.{Bytes, Fits}
use Rattle.roundtrip.proofs.Shape.{same}
use Rattle.records.specs.Kinds.{body_len, kind_of}
use Rattle.records.specs.declared.Record.{Record}
use Rattle.reader.specs.Read.{read_at}
use Rattle.reader.specs.declared.NoRecord.{NoRecord}
use Rattle.reader.proofs.Reading.{told_by}
use Rattle.context.specs.Context.{with_record}
use Rattle.context.specs.declared.Context.{Context}
use Rattle.judge.specs.Judge.{judge_by}
use Rattle.judge.specs.Past.{past_from}
use Rattle.judge.specs.declared.Past.{Past}
use Rattle.judge.proofs.Passing.{stops_by, faulty_by, end_by, first_by}
use Rattle.context_bytes.specs.Encoding.{ContextEncodable}
use Rattle.context_bytes.proofs.Contexts.{record_encodable}

-- a record that is read whole
pub read_fits : (s : List ℕ) (i : ℕ) {r : Record} {n : ℕ} → Bytes s → Ok (r, n) ≡ read_at s i → Fits r
read_fits s i {r} {n} g e =
    let o = told_by s i e refl in
    let a : i < length s = o.inside in
    let b : n ≡ i + 1 + body_len (get_or s i 0) = o.next in
    let d : n ≤ length s = o.fits in
    subst Fits (sym o.is) (same (get_or s i 0) (drop (i + 1) s) o.known (simp length-drop (omega arith)) (λ j. rw get_or-drop (g (i + 1 + j)))).fits

-- past all of them, by how many bytes are left
Remembers : List ℕ → ℕ → Type 0
Remembers s m = (i : ℕ) (c : Context) → length s - i < m → ContextEncodable c → ContextEncodable (past_from s i c).context

module _ (s : List ℕ) (g : Bytes s) (m i : ℕ) (c : Context) (f : Remembers s m) (b : length s - i < suc m) (h : ContextEncodable c) where
  stays : {p : Past} → record { context = c; next = i } ≡ p → ContextEncodable p.context
  stays e = subst (λ (p : Past). ContextEncodable p.context) e h

  remembers_by : ContextEncodable (past_from s i c).context
  unfolding Remembers
  remembers_by = go (read_at s i) refl
    where
      go : (x : Result (Record × ℕ) NoRecord) → x ≡ read_at s i → ContextEncodable (past_from s i c).context
      go (Err why) e = stays (stops_by s c c i i refl why e refl)
      go (Ok (r, n)) e = cases (eqb (judge_by c r) 0) (eqb (kind_of r) 0x1f) refl refl
        where
          cases : (a d : Bool) → eqb (judge_by c r) 0 ≡ a → eqb (kind_of r) 0x1f ≡ d → ContextEncodable (past_from s i c).context
          cases false d p q = stays (faulty_by s c c i i refl e refl refl (eqb-false _ _ p))
          cases true true p q = stays (end_by s c c i i refl e refl refl (eqb-true _ _ p) refl (eqb-true _ _ q))
          cases true false p q =
              let o = told_by s i e refl in
              let o1 : n ≡ i + 1 + body_len (get_or s i 0) = o.next in
              let o2 : n ≤ length s = o.fits in
              subst (λ (p : Past). ContextEncodable p.context) (first_by s c i e refl refl (eqb-true _ _ p) refl (eqb-false _ _ q) refl)
              (f n (with_record c r) (omega arith) (record_encodable c h r (read_fits s i g e)))

remembers : (s : List ℕ) → Bytes s → (m : ℕ) → Remembers s m
unfolding Remembers
remembers s g zero i c b h = absurd (omega arith)
remembers s g (suc m) i c b h = remembers_by s g m i c (remembers s g m) b h

pub past_encodable : (s : List ℕ) (i : ℕ) (c : Context) → Bytes s → ContextEncodable c → ContextEncodable (past_from s i c).context
unfolding Remembers
past_encodable s i c g h = remembers s g (suc (length s)) i c (omega arith) h
