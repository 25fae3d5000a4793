-- `Enough` of specs/OnPaper.antt.
use Rattle.std.specs.Prelude.{Result, Ok, Err, ⊤}
use Rattle.refusal.specs.Refusal.{refusal}
use Rattle.refusal.specs.declared.Refusal.{Refusal}
use mathlib.Core.Path.{◌≡◌, refl, sym, ap, ◌∙◌}
use mathlib.Core.List.{List}
use mathlib.Core.Bool.{Bool, true, false, cond}
use Prim.Native.Nat.{ℕ, ◌+◌, ◌*◌, ◌/◌, ◌<◌}
use native.Mathlib.Omega.{arith}
use lib.ListN.{length}
use lib.Dec.{ltb}
use borrow.Author.Tests.{ltb-true}
use Rattle.reader.specs.Walk.{records_of}
use Rattle.roundtrip.specs.Fits.{Bytes}
use Rattle.roundtrip.proofs.AllFit.{all_fit}
use Rattle.rules.specs.Check.{verdict_of, IsPlan}
use Rattle.paper.specs.Print.{plan_page_set, answer_by}
use Rattle.paper.proofs.Lengths.{size}
use Rattle.paper_laws.specs.OnPaper.{Enough}
use Rattle.paper_laws.proofs.Most.{most_records}

paged : (s : List ℕ) → Bytes s → length (plan_page_set s) ≡ 4380 * ((length (records_of s) + 59) / 60)
paged s g = size (records_of s) (all_fit s g)

-- only a buffer that is shorter than the page set gets 15
short : (s b : List ℕ) → IsPlan s → answer_by (verdict_of s) s b ≡ Err (refusal 15 0) → length b < length (plan_page_set s)
unfolding answer_by
short s b a e = go (ltb (length b) (length (plan_page_set s))) refl (sym (ap (λ (v : Result ⊤ Refusal). answer_by v s b) a) ∙ e)
  where
    go : (q : Bool) → ltb (length b) (length (plan_page_set s)) ≡ q → cond q (Err (refusal 15 0)) (Ok (length (plan_page_set s))) ≡ Err (refusal 15 0) → length b < length (plan_page_set s)
    go true h f = ltb-true (length b) (length (plan_page_set s)) h
    go false h f = let z : ◌≡◌ {A = ℕ} 0 1 = cc in absurd (omega arith)

pub enough : Enough
enough = record {
  records = most_records;
  bytes = λ s g a. omega (arith, paged s g, most_records s g a);
  never = λ s b g a e. omega (arith, paged s g, most_records s g a, short s b a e);
}
