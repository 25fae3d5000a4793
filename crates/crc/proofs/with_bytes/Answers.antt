use Rattle.std.proofs.Common.{rules, ◌≡◌, ◌∙◌}
use Rattle.std.specs.List.{fold}
use Rattle.std.proofs.iter.runs.Made.{chains}
use Rattle.crc.specs.Crc.{crc_byte}
use Rattle.crc.proofs.Folding.{folds}
use Rattle.crc.proofs.with_bytes.Goals as goal

pub returns : goal.returns
returns c =
    let e : c.fold.result ≡ fold crc_byte c.args.c c.args.s.now = search (rules, chains) in
    e ∙ folds c.args.c c.args.s.now
