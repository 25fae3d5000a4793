use Rattle.paper.proofs.Put.{Blanked}
use Rattle.paper.proofs.put_blank_lines.Given as goal

abbrev pub invariant-loop-i : goal.invariant-loop-i
invariant-loop-i l = Blanked l.initial.buf l.from l.n l.buf l.i
