-- The walk of an accepted image: faultless records, the end record last, and then the image's end.
use Rattle.refusal.specs.declared.Refusal.{Refusal}
use Rattle.std.specs.Prelude.{Result, Ok, Err, ⊤}
use Rattle.refusal.specs.Refusal.{refusal}
use Prim.Native.Nat.{ℕ, zero, suc, ◌+◌, ◌≤◌}
use native.Mathlib.Omega.{arith}
use mathlib.Core.Path.{◌≡◌, refl, sym, ap, ◌∙◌, subst}
use mathlib.Core.List.{List, [], ◌∷◌, ◌++◌, reverse_aux}
use mathlib.Core.Bool.{Bool, true, false, cond}
use lib.ListN.{length}
use lib.Dec.{leb, ltb, eqb}
use borrow.Author.Tests.{ltb-false, eqb-true}
use Rattle.records.specs.Kinds.{body_len, no_len, kind_of}
use Rattle.records.specs.declared.Record.{Record}
use Rattle.records.specs.declared.Record.TheVariants.{End}
use Rattle.reader.specs.Read.{record_of}
use Rattle.reader.specs.Walk.{Walk, more, stop, walk_of, walk_from, records_in}
use Rattle.rules.specs.Check.{fault_of, check_walk, verdict_of, limit, IsPlan}
use Rattle.rules.specs.Valid.{Valid}
use Rattle.reader.specs.Walk.{stop_of}
use Rattle.accepted.proofs.Shape.{lone}

refused : {e : Refusal} → ◌≡◌ {A = Result ⊤ Refusal} (Err e) (Ok tt) → ⊥
refused a = let z : ◌≡◌ {A = ℕ} 0 1 = cc in omega arith

-- after the faultless records rs, latest first, a walk to the end n of an image
pub record Walked (n : ℕ) (rs : List Record) (w : Walk) : Type 0 where
  pub valid : Valid (reverse_aux (records_in w) rs)
  pub before : List Record
  pub last : records_in w ≡ before ++ (End ∷ [])
  pub stops : stop_of w ≡ n

-- one record more, from what the rest tells and where the rest stops if this was the image's last byte
step : (n o : ℕ) (rs : List Record) (r : Record) (w : Walk) → (Valid (r ∷ rs) → check_walk n (r ∷ rs) w ≡ Ok tt → Walked n (r ∷ rs) w) → (suc o ≡ n → w ≡ stop 3 n)
    → Valid rs → check_walk n rs (more o r w) ≡ Ok tt → Walked n rs (more o r w)
unfolding check_walk Valid records_in stop_of
step n o rs r w rest at_end v a = go (eqb (fault_of rs r) 0) (eqb (kind_of r) 0x1f) (eqb (suc o) n) refl refl refl a
  where
    go : (b c d : Bool) → eqb (fault_of rs r) 0 ≡ b → eqb (kind_of r) 0x1f ≡ c → eqb (suc o) n ≡ d
        → cond b (cond c (cond d (Ok tt) (Err (refusal 4 (suc o)))) (check_walk n (r ∷ rs) w)) (Err (refusal (fault_of rs r) o)) ≡ Ok tt → Walked n rs (more o r w)
    go true true true p q e a =
        let h : w ≡ stop 3 n = at_end (eqb-true (suc o) n e) in
        let s : records_in w ≡ [] = ap records_in h in
        record {
          valid = subst (λ (l : List Record). Valid (reverse_aux l (r ∷ rs))) (sym s) (eqb-true (fault_of rs r) 0 p, v);
          before = [];
          last = ap (λ (l : List Record). r ∷ l) s ∙ ap (λ (x : Record). x ∷ []) (lone 0x1f r (eqb-true (kind_of r) 0x1f q));
          stops = ap stop_of h;
        }
    go true true false p q e a = absurd (refused a)
    go true false d p q e a =
        let k = rest (eqb-true (fault_of rs r) 0 p, v) a in
        record { valid = k.valid; before = r ∷ k.before; last = ap (λ (l : List Record). r ∷ l) k.last; stops = k.stops }
    go false c d p q e a = absurd (refused a)

none_left : (k o : ℕ) (bs : List ℕ) → length bs ≡ 0 → walk_of k o bs ≡ stop 3 o
unfolding walk_of
none_left k o [] e = refl
none_left k o (b ∷ bs) e = absurd (omega arith)

walked : (n k o : ℕ) (bs : List ℕ) (rs : List Record) → o + length bs ≡ n → Valid rs → check_walk n rs (walk_of k o bs) ≡ Ok tt → Walked n rs (walk_of k o bs)
unfolding walk_of check_walk
walked n k o [] rs e v a = absurd (refused a)
walked n zero o (k ∷ bs) rs e v a =
    go (eqb (body_len k) no_len) (leb (body_len k) (length bs)) a (walked n (body_len k) (suc o) bs (record_of k bs ∷ rs) (omega arith))
  where
    go : (b c : Bool) → check_walk n rs (cond b (stop 2 o) (cond c (more o (record_of k bs) (walk_of (body_len k) (suc o) bs)) (stop 3 o))) ≡ Ok tt
        → (Valid (record_of k bs ∷ rs) → check_walk n (record_of k bs ∷ rs) (walk_of (body_len k) (suc o) bs) ≡ Ok tt → Walked n (record_of k bs ∷ rs) (walk_of (body_len k) (suc o) bs))
        → Walked n rs (cond b (stop 2 o) (cond c (more o (record_of k bs) (walk_of (body_len k) (suc o) bs)) (stop 3 o)))
    go true c a f = absurd (refused a)
    go false true a f =
        step n o rs (record_of k bs) (walk_of (body_len k) (suc o) bs) f (λ h. none_left (body_len k) (suc o) bs (omega arith) ∙ ap (stop 3) h) v a
    go false false a f = absurd (refused a)
walked n (suc k) o (b ∷ bs) rs e v a = walked n k (suc o) bs rs (omega arith) v a

-- ---- of an accepted image

verdict : (s : List ℕ) → IsPlan s → (length s ≤ limit) × (check_walk (length s) [] (walk_from s 0) ≡ Ok tt)
unfolding verdict_of
verdict s a = go (ltb limit (length s)) refl a
  where
    go : (b : Bool) → ltb limit (length s) ≡ b → cond b (Err (refusal 1 0)) (check_walk (length s) [] (walk_from s 0)) ≡ Ok tt
        → (length s ≤ limit) × (check_walk (length s) [] (walk_from s 0) ≡ Ok tt)
    go true e a = absurd (refused a)
    go false e a = (ltb-false limit (length s) e, a)

pub short : (s : List ℕ) → IsPlan s → length s ≤ limit
short s a = (verdict s a).0

pub walked_plan : (s : List ℕ) → IsPlan s → Walked (length s) [] (walk_from s 0)
unfolding Valid
walked_plan s a = walked (length s) zero 0 s [] (omega arith) tt (verdict s a).1
