use Rattle.std.proofs.Common.{◌≡◌, take}
use Rattle.std.specs.List.{fold}
use Rattle.texts.specs.Numbers.{spaced}
use Rattle.texts.specs.Text.{appended}
use Rattle.texts.proofs.push_numbers.Given as goal

abbrev pub invariant-loop-n : goal.invariant-loop-n
invariant-loop-n l = l.next ≡ fold (λ u n. appended u (spaced n)) l.initial.next (take l.n-index l.s)
