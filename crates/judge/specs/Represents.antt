-- What the definitions of `context` and `judge` are worth: the judgement that the code makes of a record, from what it remembers, is document 01's
-- judgement over the records before. So whoever holds the code to document 01 need not read them. That the code remembers `context_of` of the records
-- before, and judges by `judge_by`, is said by the contracts of `context::started`, `context::with_record` and `judge::judge`.
use Rattle.refusal.specs.Refusal.{refusal}
use Rattle.refusal.specs.declared.Refusal.{Refusal}
use Rattle.std.specs.Prelude.{ℕ, ◌≡◌, List, [], cond, eqb, Result, Err, ⊤}
use Rattle.records.specs.Kinds.{kind_of}
use Rattle.records.specs.declared.Record.{Record}
use Rattle.reader.specs.Walk.{Walk, more, stop}
use Rattle.rules.specs.Check.{fault_of, end_at, check_walk}
use Rattle.rules.specs.Valid.{Valid}
use Rattle.context.specs.Context.{with_record, start, context_of}
use Rattle.context.specs.declared.Context.{Context}
use Rattle.judge.specs.Judge.{judge_by}

-- over records of which none is faulty, every record gets the number that the rules give it, and 0 where they give none
abbrev pub JudgesAsRules : Type 0
JudgesAsRules = (rs : List Record) → Valid rs → (r : Record) → judge_by (context_of rs) r ≡ fault_of rs r

-- the check by what is remembered, from a record on, of an image of n bytes
unfoldable pub check_by : ℕ → Context → Walk → Result ⊤ Refusal
check_by n c (stop k o) = Err (refusal k o)
check_by n c (more o r w) =
    let rest = check_by n (with_record c r) w in
    cond (eqb (judge_by c r) 0) (cond (eqb (kind_of r) 0x1f) (end_at n o) rest) (Err (refusal (judge_by c r) o))

-- from the start it is document 01's check
abbrev pub ChecksAsRules : Type 0
ChecksAsRules = (n : ℕ) (w : Walk) → check_by n start w ≡ check_walk n [] w
