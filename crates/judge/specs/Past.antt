-- How far whole records go that are faultless and no end record.
use Rattle.std.specs.Prelude.{ℕ, List, cond, not, ◌&&◌, eqb}
use Rattle.records.specs.Kinds.{kind_of}
use Rattle.reader.specs.Walk.{Walk, more, stop, walk_from}
use Rattle.context.specs.Context.{with_record}
use Rattle.context.specs.declared.Context.{Context}
use Rattle.judge.specs.declared.Past.{Past}
use Rattle.judge.specs.Judge.{judge_by}

-- up to a faulty one, an end record, or where none is whole: what is remembered there, and its offset
unfoldable pub past_by : Context → Walk → Past
past_by c (stop k o) = record { context = c; next = o }
past_by c (more o r w) =
    let past = past_by (with_record c r) w in
    cond (eqb (judge_by c r) 0 && not (eqb (kind_of r) 0x1f)) past (record { context = c; next = o })

-- from the offset i of the bytes s, with the context c
unfoldable pub past_from : List ℕ → ℕ → Context → Past
past_from s i c = past_by c (walk_from s i)
