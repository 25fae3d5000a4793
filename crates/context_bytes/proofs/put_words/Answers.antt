use borrow.Author.Rules.{rules}
use mathlib.Core.Path.{◌≡◌, refl}
use native.Mathlib.Omega.{arith}
use lib.ListN.{length}
use Rattle.words.proofs.Laws.{mapped}
use Rattle.context_bytes.proofs.Writing.{put_begin, put_on, put_end, length_words}
use Rattle.context_bytes.proofs.put_words.Goals as goal

pub loop-i-init : goal.loop-i-init
loop-i-init c = (search put_begin, refl, omega arith)

pub loop-i-preserved : goal.loop-i-preserved
loop-i-preserved c =
    let loop = c.loop-i in
    let at = c.args in
    let n : length at.a ≡ 32 = search mapped in
    (put_on at.o at.a at.s.now loop.s loop.i (omega arith) (omega arith) refl c.put_word.ensures loop.invariant.0, search rules, omega arith)

pub returns : goal.returns
returns c =
    let loop = c.loop-i in
    let at = c.args in
    let n : length at.a ≡ 32 = search mapped in
    (put_end at.o at.a at.s.now loop.s loop.i (omega arith) loop.invariant.0, omega (arith, length_words at.a))
