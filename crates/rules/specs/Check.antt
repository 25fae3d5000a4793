-- The check of a plan image. Document 01, "Numbers for what is turned down".
use Rattle.refusal.specs.Refusal.{refusal}
use Rattle.refusal.specs.declared.Refusal.{Refusal}
use Rattle.std.specs.Prelude.{ℕ, suc, ◌≡◌, List, [], ◌∷◌, cond, length, eqb, ltb, Result, Ok, Err, ⊤}
use Rattle.records.specs.Kinds.{kind_of}
use Rattle.records.specs.Range.{in_range}
use Rattle.records.specs.declared.Record.{Record}
use Rattle.reader.specs.Walk.{Walk, more, stop, walk_from}
use Rattle.rules.specs.Rules.{in_order, names_declared, keeps_rules, all_declared}

-- "within it, and in a call, the smallest number that applies"; 0 where none does
unfoldable pub fault_of : List Record → Record → ℕ
fault_of rs r =
    cond (in_order rs r)
    (cond (in_range r)
    (cond (names_declared rs r)
    (cond (keeps_rules rs r)
    (cond (all_declared rs r) 0 8) 7) 6) 5) 4

-- a faultless end record must stand at the image's end: "A byte after the end record is 4 at its own offset and is not read as a kind."
abbrev pub end_at : ℕ → ℕ → Result ⊤ Refusal
end_at n o = cond (eqb (suc o) n) (Ok tt) (Err (refusal 4 (suc o)))

-- "The first faulty record counts". The offset is "that of the faulty record's kind byte, the image length where no record is left".
-- 2, an unknown kind, and 3, a cut body or no end record, are what the walk stops at.
unfoldable pub check_walk : ℕ → List Record → Walk → Result ⊤ Refusal
check_walk n rs (stop k o) = Err (refusal k o)
check_walk n rs (more o r w) =
    let rest = check_walk n (r ∷ rs) w in
    cond (eqb (fault_of rs r) 0) (cond (eqb (kind_of r) 0x1f) (end_at n o) rest) (Err (refusal (fault_of rs r) o))

-- 1: "image over 49,152 bytes"
abbrev pub limit : ℕ
limit = 49152

unfoldable pub verdict_of : List ℕ → Result ⊤ Refusal
verdict_of s = cond (ltb limit (length s)) (Err (refusal 1 0)) (check_walk (length s) [] (walk_from s 0))

-- "A plan is accepted if its check gives no number."
abbrev pub IsPlan : List ℕ → Type 0
IsPlan s = verdict_of s ≡ Ok tt
