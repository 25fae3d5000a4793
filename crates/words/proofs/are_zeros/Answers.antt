use Rattle.std.proofs.Common.{rules, ◌≡◌, nat_eq, bit_or, ap, ◌∙◌}
use Rattle.std.specs.List.{fold}
use Rattle.std.proofs.iter.runs.Made.{chains}
use Rattle.words.proofs.Zeros.{zeros_joined}
use Rattle.words.proofs.are_zeros.Goals as goal

pub returns : goal.returns
returns c =
    let e : c.fold.result ≡ fold bit_or 0 c.args.s.now = search (rules, chains) in
    ap (λ r. nat_eq r 0) e ∙ zeros_joined c.args.s.now
