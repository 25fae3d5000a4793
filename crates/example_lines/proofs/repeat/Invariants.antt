use Rattle.std.proofs.Common.{◌-◌, length}
use Rattle.example_lines.specs.Image.{closed, part_of}
use Rattle.example_lines.proofs.Image.{Going}
use Rattle.example_lines.proofs.repeat.Given as goal

abbrev pub invariant-loop : goal.invariant-loop
invariant-loop l = Going l.initial.img l.p.sign (l.p.copies - l.counter) (closed (length l.initial.img) (part_of l.p l.initial.img)) l.img l.from l.to
