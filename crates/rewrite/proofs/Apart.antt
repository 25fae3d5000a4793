-- The records of an accepted plan, written one after another where they were read.
use Rattle.std.specs.Prelude.{Result, Ok, Err, ⊤}
use Rattle.refusal.specs.Refusal.{refusal}
use Rattle.refusal.specs.declared.Refusal.{Refusal}
use mathlib.Core.Path.{◌≡◌, refl, sym, ap, ◌∙◌, subst}
use mathlib.Core.List.Memᴰ
use mathlib.Core.List.{List, [], ◌++◌, append_assoc, append-nil}
use mathlib.Core.Bool.{true}
use Prim.Native.Nat.{ℕ, ◌+◌, ◌-◌, ◌≤◌, ◌<◌}
use native.Mathlib.Omega.{arith}
use lib.ListN.{length, take, drop, length-append, length-drop, drop_of_length-le}
use lib.Seq.{take_all, take-length, take_at, take-add, drop-drop, drop-append-add, length-take-le}
use borrow.Author.Tests.{lt-ltb, le-ltb}
use Rattle.records.specs.Kinds.{size_of}
use Rattle.records.specs.Bytes.{bytes_of}
use Rattle.records.specs.Range.{in_range}
use Rattle.records.specs.declared.Record.{Record}
use Rattle.reader.specs.Walk.{Walk, walk_from, records_in, stop_of}
use Rattle.reader.specs.declared.NoRecord.{NoRecord}
use Rattle.reader.specs.declared.NoRecord.TheVariants.{Unknown, Cut, Nothing}
use Rattle.reader.proofs.Reading.{walks, next, walks_by, told_by, less_by as read-less}
use Rattle.walk.specs.Place.{read_on}
use Rattle.walk.specs.declared.PlacedRead.{PlacedRead}
use Rattle.walk.proofs.Told.{read_by_lem, place_by}
use Rattle.writer.specs.Write.{Wrote, answer_of, buffer_by as buffer_of}
use Rattle.writer.proofs.Writing.{length_bytes}
use Rattle.roundtrip.specs.Fits.{Bytes}
use Rattle.roundtrip.proofs.OneRecord.{written_read}
use Rattle.roundtrip.proofs.TakenApart.{taken_whole}
use Rattle.rules.specs.Check.{verdict_of, IsPlan}
use Rattle.accepted.specs.Plan.{◌∈◌}
use Rattle.accepted.proofs.Accepted.{every_plan}
use Rattle.rewrite.specs.Rewrite.{plan_bytes, OwnBytes, answer_by, buffer_by, Rewrote}

pub own_bytes_lem : OwnBytes
own_bytes_lem s g a = taken_whole s g (every_plan s a).ended.stops

-- a record written into the part of a buffer from an offset on, with the part back in its place
pub put_by : (r : Record) (b q : List ℕ) (i : ℕ) {w : Result ℕ Refusal} → in_range r ≡ true → i + size_of r ≤ length b → Wrote r (take (length b - i) (drop i b)) w q
    → take i b ++ (q ++ drop (length b - i) (drop i b)) ≡ take i b ++ bytes_of r ++ drop (i + size_of r) b
unfolding answer_of
put_by r b q i {w} h room wrote =
    let l : length (drop i b) ≤ length b - i = simp length-drop (omega arith) in
    let part : take (length b - i) (drop i b) ≡ drop i b = take_all (length b - i) (drop i b) l in
    let none : drop (length b - i) (drop i b) ≡ [] = drop_of_length-le (drop i b) l in
    let fits : size_of r ≤ length (drop i b) = simp length-drop (omega arith) in
    let answer : w ≡ Ok (size_of r) = wrote.answer ∙ simp (h, part, le-ltb (length (drop i b)) (size_of r) fits) in
    let q_is : q ≡ bytes_of r ++ drop (i + size_of r) b = wrote.buffer ∙ ap (λ (v : Result ℕ Refusal). buffer_of v r (take (length b - i) (drop i b))) answer ∙ rw (part, length_bytes r, drop-drop) in
    rw (none, q_is, append-nil, append_assoc)

-- what stands before an offset is written, what follows it is as it was, and its records are still to come
pub record Going (s b₀ b : List ℕ) (i : ℕ) : Type 0 where
  pub small : Bytes s
  pub room : length s ≤ length b₀
  pub bytes : b ≡ take i s ++ drop i b₀
  pub ranges : (r : Record) → r ∈ records_in (walk_from s i) → in_range r ≡ true
  pub stops : stop_of (walk_from s i) ≡ length s

pub begins : (s b : List ℕ) → Bytes s → IsPlan s → length s ≤ length b → Going s b b 0
begins s b g a h = record { small = g; room = h; bytes = refl; ranges = (every_plan s a).sound.ranges; stops = (every_plan s a).ended.stops }

-- from what a caller of `read_on` is told: its answer y, and which case was read
module _ (s b₀ b : List ℕ) (i : ℕ) {y : PlacedRead} where
  pub range_by : {r : Record} {n : ℕ} → Going s b₀ b i → y ≡ read_on s i → y.read ≡ Ok (r, n) → in_range r ≡ true
  unfolding records_in
  range_by {r} v e f = v.ranges r (subst (λ (z : Walk). r ∈ records_in z) (sym (walks_by s i (read_by_lem s i e) f)) (Memᴰ.head refl))

  pub room_by : {r : Record} {n : ℕ} → Going s b₀ b i → y ≡ read_on s i → y.read ≡ Ok (r, n) → i + size_of r ≤ length b
  room_by {r} {n} v e f =
      let w = told_by s i (read_by_lem s i e) f in
      let t = written_read s i v.small (sym (read_by_lem s i e) ∙ f) in
      let h : i ≤ length s = omega arith in
      let l : length b ≡ i + (length b₀ - i) = ap length v.bytes ∙ simp (length-append, length-drop, length-take-le) in
      omega arith

  pub less_by : {r : Record} {n : ℕ} → y ≡ read_on s i → y.read ≡ Ok (r, n) → length s - y.place < length s - i
  less_by {r} {n} e f = subst (λ (k : ℕ). length s - k < length s - i) (sym (place_by s i e f)) (read-less s i n (read_by_lem s i e) f)

  pub on_by : (a : List ℕ) {r : Record} {n : ℕ} → Going s b₀ b i → y ≡ read_on s i → y.read ≡ Ok (r, n) → a ≡ take i b ++ bytes_of r ++ drop (i + size_of r) b → Going s b₀ a y.place
  unfolding records_in stop_of
  on_by a {r} {n} v e f p =
      let w = told_by s i (read_by_lem s i e) f in
      let t = written_read s i v.small (sym (read_by_lem s i e) ∙ f) in
      let l : length (take i s) ≡ i = length-take-le i s (omega arith) in
      let m : i + (n - i) ≡ n = omega arith in
      let walk = walks_by s i (read_by_lem s i e) f in
      let before : take i b ≡ take i s = ap (take i) v.bytes ∙ take_at (take i s) (drop i b₀) i l in
      let after : drop (i + size_of r) b ≡ drop n b₀ =
      ap (drop (i + size_of r)) v.bytes ∙ ap (λ (k : ℕ). drop (k + size_of r) (take i s ++ drop i b₀)) (sym l) ∙ drop-append-add (take i s) (drop i b₀) (size_of r) ∙ rw (drop-drop, ← t.size) in
      subst (Going s b₀ a) (sym (place_by s i e f)) (record {
        small = v.small;
        room = v.room;
        bytes = p ∙ rw (before, after, t.bytes, ← take-add, m);
        ranges = λ d k. v.ranges d (subst (λ (z : Walk). d ∈ records_in z) (sym walk) (Memᴰ.tail k));
        stops = sym (ap stop_of walk) ∙ v.stops;
      })

  ended : Going s b₀ b i → y ≡ read_on s i → ((z : Record × ℕ) → y.read ≡ Ok z → ⊥) → b ≡ s ++ drop (length s) b₀
  unfolding stop_of
  ended v e t =
      let z : i ≡ length s = sym (ap stop_of (walks s i ∙ ap (next s i) (sym (read_by_lem s i e))) ∙ stopped y.read t) ∙ v.stops in
      v.bytes ∙ rw (z, take-length)
    where
      stopped : (x : Result (Record × ℕ) NoRecord) → ((z : Record × ℕ) → x ≡ Ok z → ⊥) → stop_of (next s i x) ≡ i
      stopped (Ok z) o = absurd (o z refl)
      stopped (Err Unknown) o = refl
      stopped (Err Cut) o = refl
      stopped (Err Nothing) o = refl

  pub done_by : IsPlan s → Going s b₀ b i → y ≡ read_on s i → ((z : Record × ℕ) → y.read ≡ Ok z → ⊥) → b ≡ plan_bytes s ++ drop (length s) b₀
  done_by a v e t = ended v e t ∙ rw (own_bytes_lem s v.small a)

  pub long_by : Going s b₀ b i → y ≡ read_on s i → ((z : Record × ℕ) → y.read ≡ Ok z → ⊥) → length b ≡ length b₀
  long_by v e t = ap length (ended v e t) ∙ simp (length-append, length-drop) (omega arith)

-- from what the code of `rewrite` is told: the verdict v
module _ (s b : List ℕ) {v : Result ⊤ Refusal} (is : v ≡ verdict_of s) where
  pub refused_by : {e : Refusal} → v ≡ Err e → Rewrote s b (Err e) b
  unfolding answer_by buffer_by
  refused_by {e} f =
      let z : verdict_of s ≡ Err e = sym is ∙ f in
      record { answer = rw z; buffer = refl }

  module _ (e : v ≡ Ok tt) where
    pub plan_by : IsPlan s
    plan_by = sym is ∙ e

    module _ (g : Bytes s) where
      pub short_by : length b < length s → Rewrote s b (Err (refusal 15 0)) b
      unfolding answer_by buffer_by
      short_by h =
          record { answer = rw (plan_by, own_bytes_lem s g plan_by, lt-ltb (length b) (length s) h); buffer = refl }

      pub whole_by : (a : List ℕ) → length s ≤ length b → a ≡ plan_bytes s ++ drop (length s) b → Rewrote s b (Ok (length s)) a
      unfolding answer_by buffer_by
      whole_by a h p =
          record { answer = rw (plan_by, own_bytes_lem s g plan_by, le-ltb (length b) (length s) h); buffer = p ∙ ap (λ (k : ℕ). plan_bytes s ++ drop k b) (sym (ap length (own_bytes_lem s g plan_by))) }
