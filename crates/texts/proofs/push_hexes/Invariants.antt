use Rattle.std.proofs.Common.{◌≡◌, take}
use Rattle.std.specs.List.{fold}
use Rattle.texts.specs.Digits.{hex_digits}
use Rattle.texts.specs.Text.{appended}
use Rattle.texts.proofs.push_hexes.Given as goal

abbrev pub invariant-loop-b : goal.invariant-loop-b
invariant-loop-b l = l.next ≡ fold (λ u b. appended u (hex_digits 2 b)) l.initial.next (take l.b-index l.s)
