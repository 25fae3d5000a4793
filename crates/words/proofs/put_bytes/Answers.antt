use Rattle.std.proofs.Common.{refl, arith, add-zero}
use lib.ListN.{length-set}
use Rattle.words.proofs.Laws.{room, far, narrow, put_on, put_done}
use Rattle.words.proofs.put_bytes.Goals.{else-n-s-via-then-n-s+else-o-s, else-n-s-via-else-n-s}
use Rattle.words.proofs.put_bytes.Goals as goal

pub loop-i-init : goal.loop-i-init
loop-i-init c = (simp add-zero, refl, omega arith)

pub loop-i-preserved : goal.loop-i-preserved
loop-i-preserved c =
    let at = c.args in
    let loop = c.loop-i in
    (put_on at.o at.bytes.now at.s.now loop.s loop.i (omega arith) refl loop.invariant.0, simp length-set loop.invariant.1, omega arith)

pub returns-after-loop-i : goal.returns-after-loop-i
returns-after-loop-i c =
    let at = c.args in
    let loop = c.loop-i in
    room at.bytes.now at.s.now at.o refl (omega arith) (omega arith) (put_done at.o at.bytes.now at.s.now loop.s loop.i (omega arith) loop.invariant.0)

pub returns-else-n-s : goal.returns-else-n-s
returns-else-n-s c =
    elim c.else-n-s.branch [
      | else-n-s-via-then-n-s+else-o-s w ↦ far c.args.bytes.now c.args.s.now c.args.o refl (omega arith) (omega arith)
      | else-n-s-via-else-n-s w ↦ narrow c.args.bytes.now c.args.s.now c.args.o refl (omega arith)
    ]
