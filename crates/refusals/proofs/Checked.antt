-- The numbers of the check: a walk stops at 2 or 3, a faulty record is 4 to 8, and 1 stands alone.
use Rattle.std.specs.Prelude.{Result, Ok, Err, ⊤}
use Rattle.refusal.specs.Refusal.{refusal, refused_number}
use Rattle.refusal.specs.declared.Refusal.{Refusal}
use Prim.Native.Nat.{ℕ, zero, suc, ◌≤◌}
use native.Mathlib.Omega.{arith}
use mathlib.Core.Path.{◌≡◌, refl, subst}
use mathlib.Core.List.{List, [], ◌∷◌}
use mathlib.Core.Bool.{Bool, true, false, cond}
use lib.ListN.{length}
use lib.Dec.{leb, eqb, ltb}
use borrow.Author.Tests.{eqb-false}
use Rattle.records.specs.Kinds.{body_len, no_len, kind_of}
use Rattle.records.specs.Range.{in_range}
use Rattle.records.specs.declared.Record.{Record}
use Rattle.reader.specs.Walk.{Walk, more, stop, walk_of, walk_from}
use Rattle.rules.specs.Rules.{in_order, names_declared, keeps_rules, all_declared}
use Rattle.rules.specs.Check.{fault_of, end_at, check_walk, limit, verdict_of}
use Rattle.pieces.specs.Pieces.{stage_verdict, verdict_by}
use Rattle.pieces.specs.declared.Stage.{Stage}
use Rattle.pieces.specs.declared.Stage.TheVariants.{Open, Ended, Faulty}
use Rattle.pieces.specs.declared.CheckState.{CheckState}
use Rattle.refusals.specs.Table.{check, Gives}
use Rattle.refusals.specs.Refusals.{IsRefusal, OfCheck, OffsetRight, CheckAnswer, Checker}
use Rattle.refusals.proofs.Table.{of_image_lem}
use Rattle.refusals.proofs.Cases.{either, at_zero, accepts, refuses}

-- a walk whose last number is 2 or 3
abbrev Stops : Walk → Type 0
Stops (more o r w) = Stops w
Stops (stop n o) = (2 ≤ n) × (n ≤ 3)

stops : (n o : ℕ) (bs : List ℕ) → Stops (walk_of n o bs)
unfolding walk_of
stops n o [] = (omega arith, omega arith)
stops zero o (k ∷ bs) =
    either Stops (eqb (body_len k) no_len) (omega arith, omega arith)
    (either Stops (leb (body_len k) (length bs)) (stops (body_len k) (suc o) bs) (omega arith, omega arith))
stops (suc n) o (b ∷ bs) = stops n (suc o) bs

-- a number of a record, if there is one
abbrev OfRecord : ℕ → Type 0
OfRecord n = (IsRefusal n → 2 ≤ n) × (n ≤ 8)

fault : (rs : List Record) (r : Record) → OfRecord (fault_of rs r)
unfolding fault_of
fault rs r =
    either OfRecord (in_order rs r)
    (either OfRecord (in_range r)
    (either OfRecord (names_declared rs r)
    (either OfRecord (keeps_rules rs r)
    (either OfRecord (all_declared rs r) (λ t. absurd (t refl), omega arith) (λ t. omega arith, omega arith))
    (λ t. omega arith, omega arith))
    (λ t. omega arith, omega arith))
    (λ t. omega arith, omega arith))
    (λ t. omega arith, omega arith)

abbrev Judged : Result ⊤ Refusal → Type 0
Judged (Ok u) = Unit {0}
Judged (Err e) = (2 ≤ e.number) × (e.number ≤ 8)

judged : (n : ℕ) (rs : List Record) (w : Walk) → Stops w → Judged (check_walk n rs w)
unfolding check_walk
judged n rs (stop k o) s = (s.0, omega arith)
judged n rs (more o r w) s = go (eqb (fault_of rs r) 0) refl (judged n (r ∷ rs) w s)
  where
    go : (b : Bool) → eqb (fault_of rs r) 0 ≡ b → Judged (check_walk n (r ∷ rs) w)
        → Judged (cond b (cond (eqb (kind_of r) 0x1f) (end_at n o) (check_walk n (r ∷ rs) w)) (Err (refusal (fault_of rs r) o)))
    go true q j = either Judged (eqb (kind_of r) 0x1f) (either Judged (eqb (suc o) n) tt (omega arith, omega arith)) j
    go false q j = ((fault rs r).0 (eqb-false _ _ q), (fault rs r).1)

accepted : CheckAnswer (Ok tt)
accepted = accepts check tt

refused : (n o : ℕ) → Gives check n → OffsetRight n o → CheckAnswer (Err (refusal n o))
refused n o = refuses check (refusal n o)

-- what the check says of its verdict
record Numbered (v : Result ⊤ Refusal) : Type 0 where
  answer : CheckAnswer v
  accepted_by : refused_number v ≡ 0 → v ≡ Ok tt

numbered : (v : Result ⊤ Refusal) → Judged v → Numbered v
numbered (Ok u) j = record { answer = accepted; accepted_by = λ e. refl }
numbered (Err e) j =
    record {
      answer = refused e.number e.offset (of_image_lem e.number (omega arith) j.1) (record { long = λ e. absurd (omega arith); call = λ h. absurd (omega arith) });
      accepted_by = λ e. absurd (omega arith);
    }

too_long : Numbered (Err (refusal 1 0))
too_long = record { answer = refused 1 0 refl (at_zero 1); accepted_by = λ e. absurd (omega arith) }

verdict : (image : List ℕ) → Numbered (verdict_of image)
unfolding verdict_of
verdict image = either Numbered (ltb limit (length image)) too_long (numbered _ (judged (length image) [] (walk_from image 0) (stops zero 0 image)))

-- of the check in pieces
stage : (st : Stage) (o : ℕ) → OfCheck st → Judged (stage_verdict st o)
unfolding stage_verdict
stage Open o j = (omega arith, omega arith)
stage Ended o j = tt
stage (Faulty n at) o j = j

piece : (k : CheckState) → OfCheck k.stage → Numbered (verdict_by k)
unfolding verdict_by
piece k j = either Numbered (ltb limit k.taken) too_long (numbered _ (stage k.stage _ j))

pub checked : (image : List ℕ) → CheckAnswer (verdict_of image)
checked image = (verdict image).answer

-- of a verdict that is known
pub checked_as : (image : List ℕ) {v : Result ⊤ Refusal} → verdict_of image ≡ v → CheckAnswer v
checked_as image e = subst CheckAnswer e (checked image)

pub checker : Checker
checker =
    record {
      check = checked;
      accepted = λ s. (verdict s).accepted_by;
      pieces = λ k j. (piece k j).answer;
    }
