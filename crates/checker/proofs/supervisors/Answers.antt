use mathlib.Core.Path.{ap}
use mathlib.Core.Bool.{not}
use Rattle.checker.proofs.Stretch.{word_by}
use Rattle.records.specs.Kinds.{body_len}
use Rattle.std.proofs.Common.{lit≤, rules}
use Rattle.checker.proofs.Stretch.{begins_stretch, fields_by, inside_by, fits_by, further_by, supervisor_step}
use Rattle.checker.proofs.Stretch.{index_in, own_put}
use Rattle.checker.proofs.supervisors.Goals as goal

pub loop-n-init : goal.loop-n-init
loop-n-init c = (search begins_stretch, search rules, search rules)

pub fields_at-f-requires : goal.fields_at-f-requires
fields_at-f-requires c = search (fields_by, lit≤)

pub overflow_add-i : goal.overflow_add-i
overflow_add-i c = search (rules, inside_by, lit≤)

pub word_in-x-requires : goal.word_in-x-requires
unfolding body_len
word_in-x-requires c = search (word_by, lit≤)

pub bounds-states-k : goal.bounds-states-k
bounds-states-k c = search index_in

pub overflow_add-i-in-loop-n : goal.overflow_add-i-in-loop-n
overflow_add-i-in-loop-n c =
    record { fits = fits_by _ _ _ _ c.stands.ensures c.loop-n-test.true (search rules) }

pub loop-n-smaller : goal.loop-n-smaller
loop-n-smaller c =
    further_by _ _ _ _ c.stands.ensures c.loop-n-test.true c.size_by-size.ensures

pub loop-n-preserved : goal.loop-n-preserved
loop-n-preserved c =
    let l = c.loop-n in (
      supervisor_step _ _ _ _ _ _ c.fields_at-f.ensures c.wide-k.ensures _ _ _ _ c.size_by-size.ensures c.stands.ensures c.loop-n-test.true
          c.word_in-x.ensures c.supervisor_kept-kept.ensures c.precedes.ensures (ap not c.if-not-precedes-v.false) c.put-declared.ensures
          (own_put _ _ _ _ c.precedes.result c.supervisor_kept-kept.result l.invariant.2 (search rules) c.wide-k.ensures (ap not c.if-not-precedes-v.false) c.put_word.ensures) l.invariant.0,
      search rules,
      search rules,
    )
