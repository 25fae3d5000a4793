use borrow.Author.Rules.{rules}
use native.Mathlib.Omega.{arith}
use Rattle.count_lines.proofs.Length.{line_is}
use Rattle.count_lines.proofs.Writing.{digits_first, digits_low, digits_high, digits_on, digits_size, digits_done}
use Rattle.count_lines.proofs.put_line.Goals as goal

pub overflow_sub-at : goal.overflow_sub-at
overflow_sub-at c = omega (arith, line_is c.args.x)

pub bounds-buffer-at : goal.bounds-buffer-at
bounds-buffer-at c = omega (arith, line_is c.args.x)

pub loop-rest-init : goal.loop-rest-init
loop-rest-init c = search (digits_first, rules)

pub overflow_sub-at-in-loop-rest : goal.overflow_sub-at-in-loop-rest
overflow_sub-at-in-loop-rest c = digits_low _ _ _ _ _ _ c.loop-rest.invariant

pub bounds-buffer-at-in-loop-rest : goal.bounds-buffer-at-in-loop-rest
bounds-buffer-at-in-loop-rest c = digits_high _ _ _ _ _ _ c.loop-rest.invariant

pub loop-rest-preserved : goal.loop-rest-preserved
loop-rest-preserved c = search (digits_on, rules)

pub overflow_sub-at-2 : goal.overflow_sub-at-2
overflow_sub-at-2 c = digits_low _ _ _ _ _ _ c.loop-rest.invariant

pub bounds-buffer-at-2 : goal.bounds-buffer-at-2
bounds-buffer-at-2 c = digits_high _ _ _ _ _ _ c.loop-rest.invariant

pub shape_of-buffer : goal.shape_of-buffer
shape_of-buffer c = digits_size _ _ c.args.buffer.now _ _ _ _ c.loop-rest.invariant

pub returns : goal.returns
returns c = digits_done c.args.x c.args.end _ _ _ _ c.requires.0 c.requires.1 c.loop-rest.invariant (search rules)
