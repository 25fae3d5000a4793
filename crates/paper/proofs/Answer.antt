-- What the code of `print` is told, and its answer.
use Rattle.std.specs.Prelude.{Result, Ok, Err, ⊤}
use Rattle.refusal.specs.Refusal.{refusal}
use Rattle.refusal.specs.declared.Refusal.{Refusal}
use mathlib.Core.Path.{◌≡◌, refl, sym, ap, ◌∙◌}
use mathlib.Core.List.{List, ◌++◌}
use Prim.Native.Nat.{ℕ, ◌+◌, ◌*◌, ◌≤◌, ◌<◌}
use native.Mathlib.Nat.{zero-add}
use native.Mathlib.Omega.{arith}
use lib.ListN.{length, drop}
use lib.Seq.{sets, sets-eq}
use mir.Syntax.{w64}
use mir.Val.{Fits}
use borrow.Author.Tests.{lt-ltb, le-ltb}
use Rattle.reader.specs.Walk.{records_of}
use Rattle.roundtrip.specs.Fits.{Bytes}
use Rattle.roundtrip.proofs.AllFit.{all_fit}
use Rattle.rules.specs.Check.{verdict_of, IsPlan}
use Rattle.accepted.proofs.Accepted.{every_plan}
use Rattle.paper.specs.Paper.{lines_of, blank_lines, lacking, page_set_of}
use Rattle.paper.specs.Print.{plan_page_set, answer_by, buffer_by, PagesAs}
use Rattle.paper.proofs.Lengths.{lines_length, page_set_length}
use Rattle.paper.proofs.Put.{behind}

-- bytes put at the start
from_start : (p b : List ℕ) → length p ≤ length b → sets b 0 p ≡ p ++ drop (length p) b
from_start p b h = sets-eq p b 0 (omega arith) ∙ ap (λ (k : ℕ). p ++ drop k b) (zero-add (length p))

module _ (s b : List ℕ) {v : Result ⊤ Refusal} (is : v ≡ verdict_of s) where
  pub refused_by : {e : Refusal} → v ≡ Err e → PagesAs s b (Err e) b
  unfolding answer_by buffer_by
  refused_by {e} f =
      let z : verdict_of s ≡ Err e = sym is ∙ f in
      record { answer = rw z; buffer = refl }

  module _ (e : v ≡ Ok tt) where
    plan_by : IsPlan s
    plan_by = sym is ∙ e

    pub few_by : {n k : ℕ} → n ≤ length s → k ≤ 60 → Fits w64 ((n + k) * 73)
    few_by {n} {k} h j = let l = (every_plan s plan_by).ended.short in record { fits = omega arith }

    module _ (g : Bytes s) {n k : ℕ} (count : n ≡ length (records_of s)) (lack : k ≡ lacking n) where
      size_by : length (plan_page_set s) ≡ (n + k) * 73
      size_by =
          let l = page_set_length (records_of s) (all_fit s g) in
          let m : k ≡ lacking (length (records_of s)) = lack ∙ ap lacking count in
          omega arith

      pub short_by : length b < (n + k) * 73 → PagesAs s b (Err (refusal 15 0)) b
      unfolding answer_by buffer_by
      short_by h =
          record { answer = rw (plan_by, size_by, lt-ltb (length b) ((n + k) * 73) h); buffer = refl }

      pub whole_by : (p a : List ℕ) → (n + k) * 73 ≤ length b → p ≡ sets b 0 (lines_of (records_of s)) → a ≡ sets p (n * 73) (blank_lines k) → PagesAs s b (Ok ((n + k) * 73)) a
      unfolding answer_by buffer_by page_set_of
      whole_by p a h f q =
          let l : length (lines_of (records_of s)) ≡ n * 73 = lines_length (records_of s) (all_fit s g) ∙ omega arith in
          let m : k ≡ lacking (length (records_of s)) = lack ∙ ap lacking count in
          let z : length (plan_page_set s) ≤ length b = omega (arith, size_by) in
          let all : a ≡ sets b 0 (plan_page_set s) =
          behind b 0 (n * 73) (n * 73) (lines_of (records_of s)) (blank_lines k) l (zero-add (n * 73)) f q ∙ ap (λ (j : ℕ). sets b 0 (lines_of (records_of s) ++ blank_lines j)) m in
          record {
            answer = rw (plan_by, size_by, le-ltb (length b) ((n + k) * 73) h);
            buffer = all ∙ from_start (plan_page_set s) b z;
          }
