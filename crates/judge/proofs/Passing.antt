-- How far the check goes without an answer, by one record more.
use Rattle.std.specs.Prelude.{Result, Ok, Err}
use mathlib.Core.Path.{◌≡◌, refl, sym, ap, ◌∙◌}
use mathlib.Core.List.{List}
use Prim.Native.Nat.{ℕ}
use borrow.Author.Tests.{ne_eqb}
use Rattle.records.specs.Kinds.{kind_of}
use Rattle.records.specs.declared.Record.{Record}
use Rattle.reader.specs.Read.{read_at}
use Rattle.reader.specs.Walk.{more, stop, walk_from}
use Rattle.reader.specs.declared.NoRecord.{NoRecord}
use Rattle.reader.specs.declared.NoRecord.TheVariants.{Unknown, Cut, Nothing}
use Rattle.reader.proofs.Reading.{next, walks_by}
use Rattle.context.specs.Context.{with_record}
use Rattle.context.specs.declared.Context.{Context}
use Rattle.judge.specs.Judge.{judge_by}
use Rattle.judge.specs.Past.{past_by, past_from}

module _ (s : List ℕ) (c₀ c : Context) (from i : ℕ) (h : past_from s i c ≡ past_from s from c₀) where
  stays : (k : ℕ) {x y : Result (Record × ℕ) NoRecord} → x ≡ read_at s i → x ≡ y → next s i y ≡ stop k i → record { context = c; next = i } ≡ past_from s from c₀
  unfolding past_from past_by
  stays k e g w = sym (ap (past_by c) (walks_by s i e g ∙ w)) ∙ h

  pub stops_by : (why : NoRecord) {x : Result (Record × ℕ) NoRecord} → x ≡ read_at s i → x ≡ Err why → record { context = c; next = i } ≡ past_from s from c₀
  stops_by Unknown e g = stays 2 e g refl
  stops_by Cut e g = stays 3 e g refl
  stops_by Nothing e g = stays 3 e g refl

  pub unread_by : (x : Result (Record × ℕ) NoRecord) → x ≡ read_at s i → ((y : Record × ℕ) → x ≡ Ok y → ⊥) → record { context = c; next = i } ≡ past_from s from c₀
  unread_by (Ok y) e none = absurd (none y refl)
  unread_by (Err why) e none = stops_by why e refl

  module _ {x : Result (Record × ℕ) NoRecord} {r : Record} {n no : ℕ} (e : x ≡ read_at s i) (g : x ≡ Ok (r, n)) (j : no ≡ judge_by c r) where
    here : past_from s i c ≡ past_by c (more i r (walk_from s n))
    unfolding past_from
    here = ap (past_by c) (walks_by s i e g)

    -- at a faulty record
    pub faulty_by : (no ≡ 0 → ⊥) → record { context = c; next = i } ≡ past_from s from c₀
    unfolding past_by
    faulty_by z = sym (here ∙ simp (← j, ne_eqb no 0 z)) ∙ h

    module _ (z : no ≡ 0) {k : ℕ} (f : k ≡ kind_of r) where
      -- at an end record
      pub end_by : k ≡ 0x1f → record { context = c; next = i } ≡ past_from s from c₀
      unfolding past_by
      end_by l = sym (here ∙ simp (← j, z, ← f, l)) ∙ h

      -- past any other
      pub on_by : (k ≡ 0x1f → ⊥) → {d : Context} → d ≡ with_record c r → past_from s n d ≡ past_from s from c₀
      unfolding past_from past_by
      on_by l w = ap (past_from s n) w ∙ sym (here ∙ simp (← j, z, ← f, ne_eqb k 0x1f l)) ∙ h

-- past the first
pub first_by : (s : List ℕ) (c : Context) (i : ℕ) {x : Result (Record × ℕ) NoRecord} {r : Record} {n no k : ℕ} → x ≡ read_at s i → x ≡ Ok (r, n) → no ≡ judge_by c r → no ≡ 0 → k ≡ kind_of r
    → (k ≡ 0x1f → ⊥) → {d : Context} → d ≡ with_record c r → past_from s n d ≡ past_from s i c
first_by s c i e g j z f l w = on_by s c c i i refl e g j z f l w
