use Rattle.std.proofs.Common.{◌≡◌, ◌+◌, ◌*◌, min, ◌∙◌, arith}
use Rattle.length_input.proofs.Bytes.{capped_is}
use Rattle.length_input.proofs.with_digit.Goals as goal

pub returns : goal.returns
returns c =
    let e : c.saturating_add.result ≡ min (c.args.n * 10 + c.args.d) 18446744073709551615 = omega arith in
    e ∙ capped_is (c.args.n * 10 + c.args.d)
