use Rattle.std.proofs.Common.{arith}
use Rattle.std.proofs.lemmas.Grind.{common_steps}
use Rattle.context_bytes.proofs.Reading.{from_each}
use Rattle.context_bytes.proofs.bytes_at.Goals as goal

pub returns-in-Some-first_chunk : goal.returns-in-Some-first_chunk
returns-in-Some-first_chunk g c =
    let w = c.in-Some.ensures in
    let v = c.in-Some-first_chunk.ensures in
    from_each _ _ _ _ (grind (arith, common_steps)) (λ i h. grind (arith, common_steps))

pub returns-in_default : goal.returns-in_default
returns-in_default g c = from_each _ _ _ _ (grind (arith, common_steps)) (λ i h. grind (arith, common_steps))

pub returns : goal.returns
returns g c =
    let w = c.in-Some.ensures in
    from_each _ _ _ _ (grind (arith, common_steps)) (λ i h. grind (arith, common_steps))
