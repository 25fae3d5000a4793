-- A record's bytes are read as that record wherever they stand, and the bytes of a record that is read are those of the image.
use Rattle.std.specs.Prelude.{Ok, Err}
use Rattle.refusal.specs.Refusal.{refusal}
use mathlib.Core.Path.{◌≡◌, refl, sym, ap, ◌∙◌, subst}
use mathlib.Core.List.{List, [], ◌∷◌, ◌++◌, append_assoc}
use mathlib.Core.Bool.{Bool, true, false, cond}
use Prim.Native.Nat.{ℕ, suc, ◌+◌, ◌-◌, ◌≤◌}
use native.Mathlib.Numerals.{add-one}
use native.Mathlib.Omega.{arith}
use lib.ListN.{length, get_or, drop, length-append, length-drop}
use lib.Dec.{ltb}
use lib.Seq.{get_or-append_seam, drop-append-add, drop-cons, get_or-drop}
use Rattle.records.specs.Kinds.{body_len, kind_of, size_of}
use Rattle.records.specs.Bytes.{bytes_of}
use Rattle.records.specs.Range.{in_range}
use Rattle.records.specs.declared.Record.{Record}
use Rattle.reader.specs.Read.{read_at}
use Rattle.reader.proofs.Reading.{reads_whole, told_by}
use Rattle.writer.proofs.Writing.{length_bytes}
use Rattle.writer.specs.Write.{Wrote, answer_of}
use Rattle.roundtrip.specs.Fits.{Fits, Bytes}
use Rattle.roundtrip.specs.RoundTrip.{Stands}
use Rattle.roundtrip.proofs.Shape.{Same, same, kind_first, body_read_lem, known}

pub read_written : (r : Record) (before after : List ℕ) → Fits r → read_at (before ++ bytes_of r ++ after) (length before) ≡ Ok (r, length before + size_of r)
read_written r before after f =
    let next : i + 1 + body_len (kind_of r) ≡ i + size_of r = omega arith in
    rw (append_assoc, kind_first after r) (reads ∙ ap (λ (n : ℕ). Ok (r, n)) next)
  where
    i : ℕ
    i = length before

    body : List ℕ
    body = drop 1 (bytes_of r) ++ after

    s : List ℕ
    s = before ++ kind_of r ∷ body

    reads : read_at s i ≡ Ok (r, i + 1 + body_len (kind_of r))
    reads =
        let k : get_or s i 0 ≡ kind_of r = get_or-append_seam before (kind_of r) body 0 in
        let m : body_len (get_or s i 0) ≡ body_len (kind_of r) = ap body_len k in
        let d : drop (i + 1) s ≡ body = drop-append-add before (kind_of r ∷ body) 1 in
        let b : suc (length body) ≡ size_of r + length after =
        sym (ap length (kind_first after r)) ∙ length-append (bytes_of r) after ∙ ap (λ (n : ℕ). n + length after) (length_bytes r) in
        let l : length s ≡ i + suc (length body) = length-append before (kind_of r ∷ body) in
        reads_whole s i (omega arith) (λ e. known r (sym m ∙ e)) (omega arith) ∙ rw (k, d, body_read_lem after r f)

-- what the writer writes is read as the record given
pub read_wrote : (r : Record) (b a : List ℕ) (n : ℕ) → Fits r → Wrote r b (Ok n) a → read_at a 0 ≡ Ok (r, n)
unfolding answer_of
read_wrote r b a n f w =
    let e : n ≡ 0 + size_of r = go (in_range r) (ltb (length b) (size_of r)) w.answer in
    rw w.buffer (read_written r [] (drop (length (bytes_of r)) b) f ∙ ap (λ (n : ℕ). Ok (r, n)) (sym e))
  where
    go : (p q : Bool) → Ok n ≡ cond p (cond q (Err (refusal 15 0)) (Ok (size_of r))) (Err (refusal 5 0)) → n ≡ 0 + size_of r
    go true true e = let z : ◌≡◌ {A = ℕ} 0 1 = cc in absurd (omega arith)
    go true false e = let z : n ≡ size_of r = cc in omega arith
    go false q e = let z : ◌≡◌ {A = ℕ} 0 1 = cc in absurd (omega arith)

pub written_read : (s : List ℕ) (i : ℕ) {r : Record} {n : ℕ} → Bytes s → read_at s i ≡ Ok (r, n) → Stands s i r n
written_read s i {r} {n} g e =
    let w = told_by s i refl e in
    let l : body_len (get_or s i 0) ≤ length (drop (i + 1) s) = simp length-drop (omega arith) in
    let x : Same (get_or s i 0) (drop (i + 1) s) r =
    subst (Same (get_or s i 0) (drop (i + 1) s)) (sym w.is) (same (get_or s i 0) (drop (i + 1) s) w.known l (λ j. rw get_or-drop (g (i + 1 + j)))) in
    let m : n - i ≡ suc (body_len (get_or s i 0)) = omega arith in
    let z : body_len (kind_of r) ≡ body_len (get_or s i 0) = ap body_len x.kind in
    record {
      size = omega arith;
      bytes = x.bytes ∙ sym (rw (m, drop-cons s i 0 w.inside, add-one));
      fits = x.fits;
    }
