use Rattle.std.proofs.Common.{rules, tests, eqb, le_of_lt}
use Rattle.std.proofs.lemmas.Iterator.{YieldsList-from_slice}
use Rattle.std.proofs.lemmas.Iterator.Search.{position_from_yields_List}
use Rattle.std.proofs.option.Match.{if_some, if_none}
use Rattle.example_lines.proofs.Words.{end_found}
use Rattle.example_lines.proofs.line_end.Goals as goal

pub returns-in-Some : goal.returns-in-Some
returns-in-Some c =
    let e = position_from_yields_List (λ b. eqb b 10) _ _ _ c.position.ensures.ran (YieldsList-from_slice _ c.iter.ensures.rest) (λ x b q k. search (rules, tests)) in
    if_some _ _ _ c.in-Some.is (end_found c.args.text.now c.args.from (le_of_lt c.if-from-text.true) e)

pub returns-in-None : goal.returns-in-None
returns-in-None c =
    let e = position_from_yields_List (λ b. eqb b 10) _ _ _ c.position.ensures.ran (YieldsList-from_slice _ c.iter.ensures.rest) (λ x b q k. search (rules, tests)) in
    if_none _ _ c.in-None.is (end_found c.args.text.now c.args.from (le_of_lt c.if-from-text.true) e)
