-- `OnPaper` of specs/OnPaper.antt.
use Rattle.std.specs.Prelude.{Result, Ok, Err, ⊤}
use Rattle.refusal.specs.Refusal.{refusal}
use Rattle.refusal.specs.declared.Refusal.{Refusal}
use mathlib.Core.Path.{◌≡◌, refl, sym, ap, ◌∙◌}
use mathlib.Core.List.{List}
use mathlib.Core.Bool.{Bool, true, false, cond}
use Prim.Native.Nat.{ℕ}
use native.Mathlib.Omega.{arith}
use lib.ListN.{length, take, drop}
use lib.Seq.{take_at}
use lib.Dec.{ltb}
use Rattle.records.specs.Bytes.{bytes_of_all}
use Rattle.reader.specs.Walk.{records_of}
use Rattle.roundtrip.specs.Fits.{Bytes}
use Rattle.roundtrip.proofs.AllFit.{all_fit}
use Rattle.rules.specs.Check.{verdict_of, IsPlan}
use Rattle.rewrite.proofs.Apart.{own_bytes_lem}
use Rattle.paper.specs.Print.{plan_page_set, answer_by, buffer_by, PagesAs}
use Rattle.paper.proofs.Lengths.{line_length, size}
use Rattle.paper_laws.specs.Columns.{page_set_read}
use Rattle.paper_laws.specs.OnPaper.{OnPaper}
use Rattle.paper_laws.proofs.Read.{read_back}

image_back : (s : List ℕ) → Bytes s → IsPlan s → bytes_of_all (page_set_read (plan_page_set s)) ≡ s
image_back s g a = ap bytes_of_all (read_back (records_of s) (all_fit s g)) ∙ own_bytes_lem s g a

-- an accepted call: the plan is accepted, and the length is that of its page set
printed : (s b : List ℕ) (n : ℕ) (v : Result ⊤ Refusal) → verdict_of s ≡ v → Ok n ≡ answer_by v s b → IsPlan s × (length (plan_page_set s) ≡ n)
unfolding answer_by
printed s b n (Ok u) a e = (a, go (ltb (length b) (length (plan_page_set s))) e)
  where
    go : (q : Bool) → Ok n ≡ cond q (Err (refusal 15 0)) (Ok (length (plan_page_set s))) → length (plan_page_set s) ≡ n
    go true f = let z : ◌≡◌ {A = ℕ} 0 1 = cc in absurd (omega arith)
    go false f = cc
printed s b n (Err why) a e = let z : ◌≡◌ {A = ℕ} 0 1 = cc in absurd (omega arith)

printed_back : (s b : List ℕ) (n : ℕ) (after : List ℕ) → Bytes s → PagesAs s b (Ok n) after → bytes_of_all (page_set_read (take n after)) ≡ s
unfolding buffer_by
printed_back s b n after g p =
    let h = printed s b n (verdict_of s) refl p.answer in
    ap (λ (text : List ℕ). bytes_of_all (page_set_read text)) (ap (take n) p.buffer ∙ take_at (plan_page_set s) (drop (length (plan_page_set s)) b) n h.1) ∙ image_back s g h.0

pub on_paper : OnPaper
on_paper = record {
  line = line_length;
  size = size;
  read_back = read_back;
  image_back = image_back;
  printed_back = printed_back;
  determines = λ s t g h a b e. sym (image_back s g a) ∙ ap (λ (text : List ℕ). bytes_of_all (page_set_read text)) e ∙ image_back t h b;
}
