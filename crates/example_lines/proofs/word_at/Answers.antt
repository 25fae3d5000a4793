use Rattle.std.proofs.Common.{refl, rules}
use Rattle.example_lines.proofs.Words.{word_here, word_again, word_done}
use Rattle.example_lines.proofs.word_at.Goals as goal

pub loop-i-init : goal.loop-i-init
loop-i-init c = (search rules, refl)

pub returns-then-left-eq0 : goal.returns-then-left-eq0
returns-then-left-eq0 c = (search rules, search word_here)

pub loop-i-preserved : goal.loop-i-preserved
loop-i-preserved c = (search rules, search word_again)

pub returns : goal.returns
returns c = (search rules, search word_done)
