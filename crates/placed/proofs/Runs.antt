-- A walk as runs of records, one run for each kind.
use Rattle.std.specs.Prelude.{Result, Ok, Err}
use Prim.Native.Nat.{ℕ, zero, suc, ◌+◌, ◌-◌, ◌*◌, ◌≤◌, ◌<◌}
use native.Mathlib.Omega.{arith}
use mathlib.Core.Path.{◌≡◌, refl, sym, ap, ap₂, ◌∙◌, subst}
use mathlib.Core.Logic.{◌⊎◌, inl, inr}
use mathlib.Core.List.Memᴰ
use mathlib.Core.List.{List, [], ◌∷◌, ◌++◌}
use mathlib.Core.Bool.{Bool, true, false, cond}
use native.Mathlib.Numerals.{add-one}
use lib.ListN.{length, drop, get_or}
use lib.Dec.{leb}
use borrow.Author.Tests.{leb-true, leb-false, lt-leb}
use Rattle.records.specs.Kinds.{body_len, kind_of, size_of}
use Rattle.records.specs.Key.{key_of}
use Rattle.records.specs.declared.Record.{Record}
use Rattle.records.specs.declared.Record.TheVariants.{Head, Event, Module, ModuleMove, Supervisor, SupervisorMove, Disabling, Step, Marking, End}
use Rattle.reader.specs.Read.{record_of, read_at}
use Rattle.reader.specs.Walk.{Walk, more, stop, walk_from, records_in}
use Rattle.reader.specs.declared.NoRecord.{NoRecord}
use Rattle.reader.specs.declared.NoRecord.TheVariants.{Unknown, Cut, Nothing}
use Rattle.reader.proofs.Reading.{Seen, seen, next, walks, kind_kept}
use Rattle.accepted.specs.Plan.{◌∈◌}
use Rattle.records.proofs.Order.{key_kind}
use Rattle.placed.proofs.Ascending.{Ascends, kind_rises}

-- ---- the records of a walk stand one after another

pub record Stands (s : List ℕ) (i o : ℕ) (r : Record) : Type 0 where
  pub at : o ≡ i
  pub is : r ≡ record_of (kind_of r) (drop (suc i) s)
  pub fits : i + size_of r ≤ length s

-- from i on
unfoldable pub Along : List ℕ → ℕ → Walk → Type 0
Along s i (stop n o) = Unit {0}
Along s i (more o r w) = Stands s i o r × Along s (i + size_of r) w

-- n is more than what is left of the image
along_from : (s : List ℕ) (n i : ℕ) → length s - i < n → Along s i (walk_from s i)
unfolding Along
along_from s zero i h = absurd (omega arith)
along_from s (suc n) i h = subst (Along s i) (sym (walks s i)) (go (read_at s i) (seen s i) (along_from s n))
  where
    go : (r : Result (Record × ℕ) NoRecord) → Seen s i r → ((j : ℕ) → length s - j < n → Along s j (walk_from s j)) → Along s i (next s i r)
    go (Ok (r, m)) t f =
        let k : kind_of r ≡ get_or s i 0 = sym (key_kind r) ∙ ap (λ (x : Record). (key_of x).kind) t.is ∙ kind_kept _ _ t.known in
        let l : body_len (kind_of r) ≡ body_len (get_or s i 0) = ap body_len k in
        let e : m ≡ i + size_of r = t.next ∙ omega arith in
        let w : i < length s = t.inside in
        let g : m ≤ length s = t.fits in (
          record {
            at = refl;
            is = t.is ∙ ap (λ (x : ℕ). record_of x (drop (i + 1) s)) (sym k) ∙ ap (λ (x : ℕ). record_of (kind_of r) (drop x s)) (add-one i);
            fits = omega arith;
          },
          subst (λ (x : ℕ). Along s x (walk_from s m)) e (f m (omega arith)),
        )
    go (Err Unknown) t f = tt
    go (Err Cut) t f = tt
    go (Err Nothing) t f = tt

pub along : (s : List ℕ) → Along s 0 (walk_from s 0)
along s = along_from s (suc (length s)) 0 (omega arith)

-- ---- a walk from its first record of a kind not below j on, and where that stands if the walk begins at i

unfoldable pub from : ℕ → Walk → Walk
from j (stop n o) = stop n o
from j (more o r w) = cond (leb j (kind_of r)) (more o r w) (from j w)

unfoldable pub place_in : ℕ → ℕ → Walk → ℕ
place_in j i (stop n o) = i
place_in j i (more o r w) = cond (leb j (kind_of r)) i (place_in j (i + size_of r) w)

abbrev pub AtLeast : ℕ → List Record → Type 0
AtLeast j rs = (r : Record) → r ∈ rs → j ≤ kind_of r

-- the walk v, which begins at p, is what is left of w from kind j on
pub record Rest (s : List ℕ) (j : ℕ) (w : Walk) (p : ℕ) (v : Walk) : Type 0 where
  pub follows : Along s p v
  pub within : p ≤ length s
  pub ascends : Ascends (records_in v)
  pub least : AtLeast j (records_in v)
  pub keeps : (r : Record) → r ∈ records_in w → j ≤ kind_of r → r ∈ records_in v
  pub part : (r : Record) → r ∈ records_in v → r ∈ records_in w

pub rest : (s : List ℕ) (j i : ℕ) (w : Walk) → Along s i w → i ≤ length s → Ascends (records_in w) → Rest s j w (place_in j i w) (from j w)
unfolding Along Ascends records_in from place_in
rest s j i (stop n o) a h c =
    record { follows = tt; within = h; ascends = tt; least = λ r m. absurd (Memᴰ.not-nil m); keeps = λ r m k. m; part = λ r m. m }
rest s j i (more o r w) a h c = go (leb j (kind_of r)) refl (rest s j (i + size_of r) w a.1 a.0.fits c.1)
  where
    all_least : j ≤ kind_of r → (t : Record) → (t ≡ r) ⊎ (t ∈ records_in w) → j ≤ kind_of t
    all_least k t (inl e) = let q = ap kind_of e in omega arith
    all_least k t (inr m) = let q = kind_rises r t (c.0 t m) in omega arith

    still : (v : Walk) → kind_of r < j → ((t : Record) → t ∈ records_in w → j ≤ kind_of t → t ∈ records_in v) → (t : Record) → j ≤ kind_of t
        → (t ≡ r) ⊎ (t ∈ records_in w) → t ∈ records_in v
    still v k f t l (inl e) = let q = ap kind_of e in absurd (omega arith)
    still v k f t l (inr m) = f t m l

    go : (b : Bool) → leb j (kind_of r) ≡ b → Rest s j w (place_in j (i + size_of r) w) (from j w)
        → Rest s j (more o r w) (cond b i (place_in j (i + size_of r) w)) (cond b (more o r w) (from j w))
    go true e f =
        record {
          follows = a;
          within = h;
          ascends = c;
          least = λ t m. all_least (leb-true _ _ e) t (Memᴰ.cases_cons m);
          keeps = λ t m k. m;
          part = λ t m. m;
        }
    go false e f =
        record {
          follows = f.follows;
          within = f.within;
          ascends = f.ascends;
          least = f.least;
          keeps = λ t m k. still (from j w) (leb-false _ _ e) f.keeps t k (Memᴰ.cases_cons m);
          part = λ t m. Memᴰ.tail (f.part t m);
        }

-- from one kind on and then from a later one is from the later one on
pub from_on : (j k : ℕ) (w : Walk) → j ≤ k → from k (from j w) ≡ from k w
unfolding from
from_on j k (stop n o) h = refl
from_on j k (more o r w) h = go (leb j (kind_of r)) refl (from_on j k w h)
  where
    go : (b : Bool) → leb j (kind_of r) ≡ b → from k (from j w) ≡ from k w
        → from k (cond b (more o r w) (from j w)) ≡ cond (leb k (kind_of r)) (more o r w) (from k w)
    go true e f = refl
    go false e f = let l : kind_of r < j = leb-false _ _ e in simp (lt-leb k (kind_of r) (omega arith), f)

pub place_on : (j k i : ℕ) (w : Walk) → j ≤ k → place_in k (place_in j i w) (from j w) ≡ place_in k i w
unfolding from place_in
place_on j k i (stop n o) h = refl
place_on j k i (more o r w) h = go (leb j (kind_of r)) refl (place_on j k (i + size_of r) w h)
  where
    go : (b : Bool) → leb j (kind_of r) ≡ b → place_in k (place_in j (i + size_of r) w) (from j w) ≡ place_in k (i + size_of r) w
        → place_in k (cond b i (place_in j (i + size_of r) w)) (cond b (more o r w) (from j w)) ≡ cond (leb k (kind_of r)) i (place_in k (i + size_of r) w)
    go true e f = refl
    go false e f = let l : kind_of r < j = leb-false _ _ e in simp (lt-leb k (kind_of r) (omega arith), f)

-- ---- the kinds of the table

each_kind : (P : ℕ → Type 0) → P 0x10 → P 0x11 → P 0x12 → P 0x13 → P 0x14 → P 0x15 → P 0x16 → P 0x17 → P 0x18 → P 0x1f → (r : Record) → P (kind_of r)
unfolding kind_of
each_kind P a0 a1 a2 a3 a4 a5 a6 a7 a8 a9 (Head m v e) = a0
each_kind P a0 a1 a2 a3 a4 a5 a6 a7 a8 a9 (Event n o c) = a1
each_kind P a0 a1 a2 a3 a4 a5 a6 a7 a8 a9 (Module n st i) = a2
each_kind P a0 a1 a2 a3 a4 a5 a6 a7 a8 a9 (ModuleMove m f e t) = a3
each_kind P a0 a1 a2 a3 a4 a5 a6 a7 a8 a9 (Supervisor n st i a) = a4
each_kind P a0 a1 a2 a3 a4 a5 a6 a7 a8 a9 (SupervisorMove v f e t) = a5
each_kind P a0 a1 a2 a3 a4 a5 a6 a7 a8 a9 (Disabling v st m) = a6
each_kind P a0 a1 a2 a3 a4 a5 a6 a7 a8 a9 (Step e i o x) = a7
each_kind P a0 a1 a2 a3 a4 a5 a6 a7 a8 a9 (Marking m st) = a8
each_kind P a0 a1 a2 a3 a4 a5 a6 a7 a8 a9 End = a9

-- none is below 10
pub from_first : (i : ℕ) (w : Walk) → (from 0x10 w ≡ w) × (place_in 0x10 i w ≡ i)
unfolding from place_in
from_first i (stop n o) = (refl, refl)
from_first i (more o r w) =
    let h = each_kind (λ k. leb 0x10 k ≡ true) refl refl refl refl refl refl refl refl refl refl r in
    (simp h, simp h)

-- none is between 18 and 1F
pub from_end : (i : ℕ) (w : Walk) → (from 0x19 w ≡ from 0x1f w) × (place_in 0x19 i w ≡ place_in 0x1f i w)
unfolding from place_in
from_end i (stop n o) = (refl, refl)
from_end i (more o r w) =
    let h = each_kind (λ k. leb 0x19 k ≡ leb 0x1f k) refl refl refl refl refl refl refl refl refl refl r in
    let f = from_end (i + size_of r) w in
    (simp (h, f.0), simp (h, f.1))

-- none is above 1F
pub from_none : (w : Walk) → records_in (from 0x20 w) ≡ []
unfolding from records_in
from_none (stop n o) = refl
from_none (more o r w) =
    let h = each_kind (λ k. leb 0x20 k ≡ false) refl refl refl refl refl refl refl refl refl refl r in
    simp h (from_none w)

-- ---- the run of a kind

-- the m-th record of kind k from b on
abbrev pub record_at : List ℕ → ℕ → ℕ → ℕ → Record
record_at s k b m = record_of k (drop (suc (b + m * suc (body_len k))) s)

-- n of them, from the m-th on
unfoldable pub listed : (ℕ → Record) → ℕ → ℕ → List Record
listed f m zero = []
listed f m (suc n) = f m ∷ listed f (suc m) n

-- the records of w are count records of kind k, the m-th from b on and so on, and then those of v, which begins at p
pub record Run (s : List ℕ) (k b m : ℕ) (w : Walk) (p : ℕ) (v : Walk) : Type 0 where
  pub count : ℕ
  pub records : records_in w ≡ listed (record_at s k b) m count ++ records_in v
  pub ends : p ≡ b + (m + count) * suc (body_len k)

pub run : (s : List ℕ) (k b m i : ℕ) (w : Walk) → i ≡ b + m * suc (body_len k) → Along s i w → AtLeast k (records_in w)
    → Run s k b m w (place_in (suc k) i w) (from (suc k) w)
unfolding Along records_in from place_in listed
run s k b m i (stop n o) e a l = record { count = 0; records = refl; ends = e ∙ omega arith }
run s k b m i (more o r w) e a l =
    go (leb (suc k) (kind_of r)) refl (λ q. run s k b (suc m) (i + size_of r) w q a.1 (λ t n. l t (Memᴰ.tail n)))
  where
    go : (c : Bool) → leb (suc k) (kind_of r) ≡ c
        → (i + size_of r ≡ b + suc m * suc (body_len k) → Run s k b (suc m) w (place_in (suc k) (i + size_of r) w) (from (suc k) w))
        → Run s k b m (more o r w) (cond c i (place_in (suc k) (i + size_of r) w)) (cond c (more o r w) (from (suc k) w))
    go true q f = record { count = 0; records = refl; ends = e ∙ omega arith }
    go false q f =
        let g : k ≤ kind_of r = l r (Memᴰ.head refl) in
        let z : kind_of r < suc k = leb-false _ _ q in
        let h : kind_of r ≡ k = omega arith in
        let y : body_len (kind_of r) ≡ body_len k = ap body_len h in
        let x = f (ap (λ (x : ℕ). i + suc x) y ∙ omega arith) in
        record {
          count = suc x.count;
          records = ap₂ (λ (t : Record) (ts : List Record). t ∷ ts)
              (a.0.is ∙ ap₂ (λ (x z : ℕ). record_of x (drop (suc z) s)) h e)
              x.records;
          ends = x.ends ∙ omega arith;
        }
