-- The records of one kind in an accepted plan, and that the look-up of their own keys leads to them.
use Prim.Native.Nat.{ℕ, suc, ◌+◌, ◌-◌, ◌*◌, ◌≤◌, ◌<◌}
use native.Mathlib.Nat.{div-eq_of_eq-mul_left, eq-or-lt_of_le}
use native.Mathlib.Omega.{arith}
use mathlib.Core.Path.{◌≡◌, refl, sym, ap, ◌∙◌, subst}
use mathlib.Core.Logic.{◌⊎◌, inl, inr}
use mathlib.Core.List.Memᴰ
use mathlib.Core.List.{List, ◌++◌}
use mathlib.Core.Bool.{Bool, true, false, cond, ◌&&◌, ◌||◌}
use lib.ListN.{length}
use lib.Dec.{eqb, ltb}
use borrow.Author.Tests.{le-leb, le-ltb, eq-eqb}
use Rattle.records.specs.Kinds.{body_len, kind_of}
use Rattle.records.specs.Key.{key_by, key_of, precedes}
use Rattle.records.specs.declared.Record.{Record}
use Rattle.records.specs.declared.RecordKey.{RecordKey}
use Rattle.reader.specs.Read.{record_of}
use Rattle.reader.specs.Walk.{Walk, walk_from, records_in, records_of}
use Rattle.rules.specs.Check.{IsPlan}
use Rattle.places.specs.Places.{places_of, begin_of, end_of, count_of, record_by, halved, onward, numbered, first_of, position_of, picked, records_of_kind}
use Rattle.accepted.specs.Plan.{◌∈◌}
use Rattle.accepted.proofs.Order.{Precedes, precedes_irrefl}
use Rattle.placed.proofs.Halving.{halving_within, onward_leads}
use Rattle.placed.proofs.Ascending.{Ascends, precedes_true, precedes_false, not_back, plan_ascends}
use Rattle.placed.proofs.Runs.{along, from, place_in, Rest, rest, from_on, place_on, Run, run, record_at, listed}
use Rattle.placed.proofs.Listed.{in_listed, index_of, listed_ascends, all_picked}

-- where the records of kind k begin and end
abbrev pub Begins : List ℕ → ℕ → Type 0
Begins s k = begin_of (places_of s) k ≡ place_in k 0 (walk_from s 0)

abbrev pub Ends : List ℕ → ℕ → Type 0
Ends s k = end_of (places_of s) k ≡ place_in (suc k) 0 (walk_from s 0)

-- the key of the i-th of them
abbrev pub key_at : List ℕ → ℕ → ℕ → RecordKey
key_at s k i = key_of (record_by s (places_of s) k i)

-- what is left of the walk from kind j on
rest_of : (s : List ℕ) → IsPlan s → (j : ℕ) → Rest s j (walk_from s 0) (place_in j 0 (walk_from s 0)) (from j (walk_from s 0))
rest_of s accepted j = rest s j 0 (walk_from s 0) (along s) (omega arith) (plan_ascends s accepted)

-- what does not precede a key does not precede the least with its first two numbers
not_least : (p q : RecordKey) (k : ℕ) → q.kind ≡ k → precedes p q ≡ false → precedes p (key_by k q.first q.second 0) ≡ false
unfolding precedes
not_least p q k n e =
    subst (λ (x : ℕ). precedes p (key_by x q.first q.second 0) ≡ false) n
    (go (ltb p.kind q.kind) (eqb p.kind q.kind) (ltb p.first q.first) (eqb p.first q.first) (ltb p.second q.second) (eqb p.second q.second)
    (ltb p.third q.third) (ltb p.third 0) (le-ltb p.third 0 (omega arith)) e)
  where
    go : (a b c d f g h z : Bool) → z ≡ false → (a || (b && (c || (d && (f || (g && h)))))) ≡ false → (a || (b && (c || (d && (f || (g && z)))))) ≡ false
    go true b c d f g h z w x = x
    go false false c d f g h z w x = refl
    go false true true d f g h z w x = x
    go false true false false f g h z w x = refl
    go false true false true true g h z w x = x
    go false true false true false false h z w x = refl
    go false true false true false true h z w x = w

module _ (s : List ℕ) (accepted : IsPlan s) (k : ℕ) (begins : Begins s k) where
  -- the records from kind k on begin with the run of kind k
  pub kind_run : Run s k (begin_of (places_of s) k) 0 (from k (walk_from s 0)) (place_in (suc k) 0 (walk_from s 0)) (from (suc k) (walk_from s 0))
  kind_run =
      let w : Walk = walk_from s 0 in
      let t = rest_of s accepted k in
      let b : ℕ = begin_of (places_of s) k in
      subst (Run s k b 0 (from k w) (place_in (suc k) 0 w)) (from_on k (suc k) w (omega arith))
      (subst (λ (p : ℕ). Run s k b 0 (from k w) p (from (suc k) (from k w))) (place_on k (suc k) 0 w (omega arith))
      (run s k b 0 (place_in k 0 w) (from k w) (sym begins ∙ omega arith) t.follows t.least))

  -- they ascend
  pub ordered : (i j : ℕ) → i < j → j < kind_run.count → Precedes (key_at s k i) (key_at s k j)
  unfolding record_by
  ordered i j h l =
      listed_ascends (record_at s k (begin_of (places_of s) k)) 0 kind_run.count (records_in (from (suc k) (walk_from s 0)))
      (subst Ascends kind_run.records (rest_of s accepted k).ascends) i j (omega arith) h (omega arith)

  -- each is one of the plan's records
  pub belongs : (i : ℕ) → i < kind_run.count → record_by s (places_of s) k i ∈ records_of s
  unfolding record_by
  belongs i h =
      (rest_of s accepted k).part _
      (subst (λ (rs : List Record). record_by s (places_of s) k i ∈ rs) (sym kind_run.records)
      (Memᴰ.append_left _ (in_listed (record_at s k (begin_of (places_of s) k)) 0 kind_run.count i (omega arith) (omega arith))))

  -- none comes before an earlier one
  not_before : (i j : ℕ) → i ≤ j → j < kind_run.count → precedes (key_at s k j) (key_at s k i) ≡ false
  not_before i j h l = precedes_false _ _ (go (eq-or-lt_of_le h))
    where
      go : (i ≡ j) ⊎ (i < j) → Precedes (key_at s k j) (key_at s k i) → ⊥
      go (inl e) q = precedes_irrefl _ (subst (λ (x : ℕ). Precedes (key_at s k j) (key_at s k x)) e q)
      go (inr g) q = not_back _ _ (ordered i j g l) q

  -- and each of the plan's records of kind k is one of them
  pub index_in : (r : Record) → r ∈ records_of s → kind_of r ≡ k → (i : ℕ) × (i < kind_run.count) × (record_by s (places_of s) k i ≡ r)
  unfolding record_by
  index_in r m e =
      go (Memᴰ.append_cases (listed (record_at s k (begin_of (places_of s) k)) 0 kind_run.count)
      (subst (λ (rs : List Record). r ∈ rs) kind_run.records ((rest_of s accepted k).keeps r m (omega arith))))
    where
      go : (r ∈ listed (record_at s k (begin_of (places_of s) k)) 0 kind_run.count) ⊎ (r ∈ records_in (from (suc k) (walk_from s 0)))
          → (i : ℕ) × (i < kind_run.count) × (record_by s (places_of s) k i ≡ r)
      go (inl h) = let x = index_of (record_at s k (begin_of (places_of s) k)) 0 kind_run.count r h in (x.0, (let y = x.1 in omega arith), x.2)
      go (inr h) = let g : suc k ≤ kind_of r = (rest_of s accepted (suc k)).least r h in absurd (omega arith)

  module _ (ends : Ends s k) where
    -- the count by the places is the run's
    counts : count_of s (places_of s) k ≡ kind_run.count
    unfolding count_of
    counts =
        let p = places_of s in
        let n : ℕ = kind_run.count in
        let h : place_in (suc k) 0 (walk_from s 0) ≤ length s = (rest_of s accepted (suc k)).within in
        let g : place_in (suc k) 0 (walk_from s 0) ≡ begin_of p k + (0 + n) * suc (body_len k) = kind_run.ends in
        let q : end_of p k - begin_of p k ≡ n * suc (body_len k) = omega arith in
        simp (le-leb (end_of p k) (length s) (omega arith)) (div-eq_of_eq-mul_left (omega arith) q)

    -- if the look-up of each one's key leads to it, all are found
    pub kind_found : ((i : ℕ) → i < kind_run.count → position_of s (places_of s) (key_at s k i) ≡ i)
        → records_of_kind s (places_of s) k ++ records_in (from (suc k) (walk_from s 0)) ≡ records_in (from k (walk_from s 0))
    unfolding records_of_kind record_by
    kind_found leads =
        let f : ℕ → Record = record_by s (places_of s) k in
        let t : ℕ → Bool = λ i. eqb (position_of s (places_of s) (key_of (f i))) i in
        ap (λ (rs : List Record). rs ++ records_in (from (suc k) (walk_from s 0)))
        (ap (picked t f 0) counts ∙ all_picked f t 0 kind_run.count (λ i h. eq-eqb _ _ (leads i (omega arith))))
        ∙ sym kind_run.records

    module _ (kept : (b : List ℕ) → (key_of (record_of k b)).kind ≡ k) where
      -- where their numbers are their places, the look-up leads to them by number
      pub by_number : numbered k ≡ true → ((i : ℕ) → i < kind_run.count → (key_at s k i).first ≡ i) → (i : ℕ) → i < kind_run.count
          → position_of s (places_of s) (key_at s k i) ≡ i
      unfolding position_of record_by
      by_number e numbers i h = simp (kept, e) (numbers i h)

      -- since they ascend, it leads to them by halving and going on: no later one is before the least key with the first two numbers of one of them
      pub by_halving : numbered k ≡ false → (i : ℕ) → i < kind_run.count → position_of s (places_of s) (key_at s k i) ≡ i
      unfolding position_of first_of record_by
      by_halving e i h =
          let p = places_of s in
          let n : ℕ = kind_run.count in
          let q : RecordKey = key_at s k i in
          let before : ℕ → RecordKey → ℕ → Bool = λ x y j. precedes (key_of (record_by s p x j)) y in
          let first : ℕ → ℕ = λ x. halved (before x (key_by x q.first q.second 0)) (count_of s p x) 0 (count_of s p x) in
          let place : ℕ → ℕ = λ x. cond (numbered x) q.first (onward (before x q) (count_of s p x - first x) (first x)) in
          let u : ℕ → Bool = before k (key_by k q.first q.second 0) in
          let w : halved u n 0 n ≤ i = halving_within u i n (λ j l g. not_least (key_at s k j) q k (kept _) (not_before i j l g)) n 0 n (omega arith) (omega arith) in
          ap place (kept _)
          ∙ simp e
          (ap (λ (x : ℕ). onward (before k q) (x - halved u x 0 x) (halved u x 0 x)) counts
          ∙ onward_leads (before k q) i (λ j l. precedes_true _ _ (ordered j i l h)) (not_before i i (omega arith) h) (n - halved u n 0 n) (halved u n 0 n) w (omega arith))
