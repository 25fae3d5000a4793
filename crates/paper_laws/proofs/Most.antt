-- An accepted plan has at most 10,052 records: a record takes 5 bytes or more, but for five kinds of which a plan has few records.
use Prim.Native.Nat.{ℕ, suc, ◌+◌, ◌*◌, ◌≤◌, ◌<◌}
use native.Mathlib.Nat.{mul-le-mul_right, suc-mul}
use native.Mathlib.Omega.{arith}
use mathlib.Core.Path.{◌≡◌, refl, sym, ap, ◌∙◌, subst}
use mathlib.Core.Logic.{inl, inr}
use mathlib.Core.List.Memᴰ
use mathlib.Core.List.{List, [], ◌∷◌, reverse_aux, reverse, reverse-reverse}
use mathlib.Core.Bool.{Bool, true, false, cond}
use lib.ListN.{length, length-append}
use lib.Dec.{eqb}
use borrow.Author.Tests.{eqb-true}
use Rattle.records.specs.Kinds.{body_len, kind_of, size_by, size_of}
use Rattle.records.specs.Bytes.{bytes_of, bytes_of_all}
use Rattle.records.specs.Key.{key_of}
use Rattle.records.specs.declared.Record.{Record}
use Rattle.records.specs.declared.Record.TheVariants.{Head, Event, Module, ModuleMove, Supervisor, SupervisorMove, Disabling, Step, Marking, End}
use Rattle.records.specs.declared.RecordKey.{RecordKey}
use Rattle.writer.proofs.Writing.{length_bytes}
use Rattle.rules.specs.LookUp.{field2, field_of, modules_of, module_in}
use Rattle.rules.specs.Check.{limit, IsPlan}
use Rattle.rules.specs.Valid.{Valid}
use Rattle.reader.specs.Walk.{records_of}
use Rattle.roundtrip.specs.Fits.{Bytes}
use Rattle.accepted.specs.Plan.{◌∈◌, Sound}
use Rattle.accepted.proofs.Order.{Before, Precedes, after}
use Rattle.accepted.proofs.Walked.{short, walked_plan}
use Rattle.accepted.proofs.Accepted.{in_reverse, every_plan}
use Rattle.rewrite.proofs.Apart.{own_bytes_lem}

-- ---- the records of one kind

-- how many records of kind k there are
unfoldable kind_count : ℕ → List Record → ℕ
kind_count k [] = 0
kind_count k (r ∷ rs) = cond (eqb (key_of r).kind k) 1 0 + kind_count k rs

-- the index of a key of two fields among the keys of its kind, the second field below b
abbrev index_of : ℕ → RecordKey → ℕ
index_of b p = p.first * b + p.second

-- a key of two fields whose index is below n
record Indexed (b n : ℕ) (p : RecordKey) : Type 0 where
  index : index_of b p < n
  second : p.second < b
  third : p.third ≡ 0

-- of two keys of one kind the later has the higher index
rises : (b n m : ℕ) (p q : RecordKey) → Indexed b n p → Indexed b m q → p.kind ≡ q.kind → Precedes p q → index_of b p < index_of b q
rises b n m p q s t e (inl h) = absurd (omega arith)
rises b n m p q s t e (inr h) = first h.1
  where
    second : p.first ≡ q.first → Before p.second q.second (p.third < q.third) → index_of b p < index_of b q
    second f (inl h) = let g : p.first * b ≡ q.first * b = ap (λ (x : ℕ). x * b) f in omega arith
    second f (inr h) = absurd (omega (arith, h.1, t.third))

    first : Before p.first q.first (Before p.second q.second (p.third < q.third)) → index_of b p < index_of b q
    first (inl h) =
        let g : suc p.first * b ≤ q.first * b = mul-le-mul_right b h in
        let f : suc p.first * b ≡ p.first * b + b = suc-mul p.first b in
        omega (arith, s.second)
    first (inr h) = second h.0 h.1

-- faultless records have no more of a kind than its keys have indices
most_of : (k b : ℕ) (rs : List Record) (n : ℕ) → Valid rs → ((r : Record) → r ∈ rs → (key_of r).kind ≡ k → Indexed b n (key_of r)) → kind_count k rs ≤ n
unfolding Valid kind_count
most_of k b [] n v h = omega arith
most_of k b (r ∷ rs) n v h = go (eqb (key_of r).kind k) refl (λ m. most_of k b rs m v.1)
  where
    -- the earlier ones have lower indices
    lower : (key_of r).kind ≡ k → Indexed b n (key_of r) → (t : Record) → t ∈ rs → (key_of t).kind ≡ k → Indexed b (index_of b (key_of r)) (key_of t)
    lower q s t i p =
        let u : Indexed b n (key_of t) = h t (Memᴰ.tail i) p in
        record { index = rises b n n (key_of t) (key_of r) u s (p ∙ sym q) (after rs r t v i); second = u.second; third = u.third }

    go : (c : Bool) → eqb (key_of r).kind k ≡ c → ((m : ℕ) → ((t : Record) → t ∈ rs → (key_of t).kind ≡ k → Indexed b m (key_of t)) → kind_count k rs ≤ m)
        → cond c 1 0 + kind_count k rs ≤ n
    go false e f = omega (arith, f n (λ t i. h t (Memᴰ.tail i)))
    go true e f =
        let q : (key_of r).kind ≡ k = eqb-true (key_of r).kind k e in
        let s : Indexed b n (key_of r) = h r (Memᴰ.head refl) q in
        omega (arith, s.index, f (index_of b (key_of r)) (lower q s))

-- ---- the kinds of less than 5 bytes

-- below what the second field of such a key is: a marking's state, and 0 in the other kinds
abbrev second_by : ℕ → ℕ
second_by k = cond (eqb k 0x18) 32 1

-- how many records of such a kind there are at most: 64 events, 16 modules, 32 states of each, one head and one end
abbrev most_by : ℕ → ℕ
most_by k = cond (eqb k 0x11) 64 (cond (eqb k 0x12) 16 (cond (eqb k 0x18) 512 1))

module _ (all : List Record) (sound : Sound all) where
  states_most : (m : ℕ) → m < modules_of all → field_of field2 (module_in all m) ≤ 32
  unfolding key_of field_of field2
  states_most m h =
      let t = sound.the_module m h in
      let e : field_of field2 (module_in all m) ≡ t.states = ap (field_of field2) (sound.finds (Module m t.states t.initial) t.listed) in
      omega (arith, t.states_most)

  -- the key of such a record, by the plan's laws
  indexed : (r : Record) → r ∈ all → size_by (key_of r).kind < 5 → Indexed (second_by (key_of r).kind) (most_by (key_of r).kind) (key_of r)
  unfolding key_of body_len
  indexed (Head m v e) i h = record { index = omega arith; second = omega arith; third = refl }
  indexed (Event n o c) i h = record { index = omega (arith, (sound.laws (Event n o c) i).number, sound.events.1); second = omega arith; third = refl }
  indexed (Module n st j) i h = record { index = omega (arith, (sound.laws (Module n st j) i).number, sound.modules.1); second = omega arith; third = refl }
  indexed (ModuleMove m f e t) i h = absurd (omega arith)
  indexed (Supervisor n st j a) i h = absurd (omega arith)
  indexed (SupervisorMove v f e t) i h = absurd (omega arith)
  indexed (Disabling v st m) i h = absurd (omega arith)
  indexed (Step e j o x) i h = absurd (omega arith)
  indexed (Marking m st) i h =
      let l = sound.laws (Marking m st) i in
      let n : st < 32 = omega (arith, l.state, states_most m l.owner) in
      record { index = omega (arith, l.owner, sound.modules.1); second = n; third = refl }
  indexed End i h = record { index = omega arith; second = omega arith; third = refl }

  -- of the same records, latest first
  most_by_lem : (k : ℕ) (latest : List Record) → Valid latest → ((r : Record) → r ∈ latest → r ∈ all) → size_by k < 5 → kind_count k latest ≤ most_by k
  most_by_lem k latest v in_all h =
      most_of k (second_by k) latest (most_by k) v (λ r i e. subst (λ (x : ℕ). size_by x < 5 → Indexed (second_by x) (most_by x) (key_of r)) e (indexed r (in_all r i)) h)

-- ---- the bytes of records

-- what the records of these kinds save of 5 bytes each
abbrev saved : List Record → ℕ
saved rs = kind_count 0x10 rs + kind_count 0x11 rs + kind_count 0x12 rs + 2 * kind_count 0x18 rs + 4 * kind_count 0x1f rs

one_more : (r : Record) (rs : List Record) → 5 + saved rs ≤ size_of r + saved (r ∷ rs)
unfolding kind_count key_of kind_of body_len
one_more (Head m v e) rs = omega arith
one_more (Event n o c) rs = omega arith
one_more (Module n st i) rs = omega arith
one_more (ModuleMove m f e t) rs = omega arith
one_more (Supervisor n st i a) rs = omega arith
one_more (SupervisorMove v f e t) rs = omega arith
one_more (Disabling v st m) rs = omega arith
one_more (Step e i o x) rs = omega arith
one_more (Marking m st) rs = omega arith
one_more End rs = omega arith

-- the bytes of records, and what the same records save, the latest first
five_each : (xs acc : List Record) → 5 * length xs + saved acc ≤ length (bytes_of_all xs) + saved (reverse_aux xs acc)
unfolding bytes_of_all
five_each [] acc = omega arith
five_each (r ∷ xs) acc =
    omega (arith, length-append (bytes_of r) (bytes_of_all xs), length_bytes r, one_more r acc, five_each xs (r ∷ acc))

-- ---- an accepted plan

pub most_records : (s : List ℕ) → Bytes s → IsPlan s → length (records_of s) ≤ 10052
unfolding body_len kind_count
most_records s g a =
    let l : length (bytes_of_all (records_of s)) ≤ limit = rw (own_bytes_lem s g a) (short s a) in
    omega (arith, five_each (records_of s) [], most 0x10 (omega arith), most 0x11 (omega arith), most 0x12 (omega arith), most 0x18 (omega arith), most 0x1f (omega arith))
  where
    in_order_lem : (r : Record) → r ∈ reverse (records_of s) → r ∈ records_of s
    in_order_lem r i = subst (λ (l : List Record). r ∈ l) (reverse-reverse (records_of s)) (in_reverse (reverse (records_of s)) [] r (inl i))

    most : (k : ℕ) → size_by k < 5 → kind_count k (reverse (records_of s)) ≤ most_by k
    most k = most_by_lem (records_of s) (every_plan s a).sound k (reverse (records_of s)) (walked_plan s a).valid in_order_lem
