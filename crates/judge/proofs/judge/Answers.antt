use mathlib.Core.Path.{sym, ◌∙◌}
use Rattle.judge.specs.Judge.{judge_by}
use Rattle.judge.proofs.judge.Goals as goal

pub returns-then-not-in_order : goal.returns-then-not-in_order
unfolding judge_by
returns-then-not-in_order c = simp (sym c.in_order.ensures ∙ c.if-not-in_order.true)

pub returns-then-not-in_range : goal.returns-then-not-in_range
unfolding judge_by
returns-then-not-in_range c = simp (sym c.in_order.ensures ∙ c.if-not-in_order.false, sym c.in_range.ensures ∙ c.if-not-in_range.true)

pub returns-then-not-names_declared : goal.returns-then-not-names_declared
unfolding judge_by
returns-then-not-names_declared c = simp (sym c.in_order.ensures ∙ c.if-not-in_order.false, sym c.in_range.ensures ∙ c.if-not-in_range.false, sym c.names_declared.ensures ∙ c.if-not-names_declared.true)

pub returns-then-not-keeps_rules : goal.returns-then-not-keeps_rules
unfolding judge_by
returns-then-not-keeps_rules c = simp (sym c.in_order.ensures ∙ c.if-not-in_order.false, sym c.in_range.ensures ∙ c.if-not-in_range.false, sym c.names_declared.ensures ∙ c.if-not-names_declared.false, sym c.keeps_rules.ensures ∙ c.if-not-keeps_rules.true)

pub returns-then-all_declared : goal.returns-then-all_declared
unfolding judge_by
returns-then-all_declared c = simp (sym c.in_order.ensures ∙ c.if-not-in_order.false, sym c.in_range.ensures ∙ c.if-not-in_range.false, sym c.names_declared.ensures ∙ c.if-not-names_declared.false, sym c.keeps_rules.ensures ∙ c.if-not-keeps_rules.false, sym c.all_declared.ensures ∙ c.if-all_declared.true)

pub returns-else-all_declared : goal.returns-else-all_declared
unfolding judge_by
returns-else-all_declared c = simp (sym c.in_order.ensures ∙ c.if-not-in_order.false, sym c.in_range.ensures ∙ c.if-not-in_range.false, sym c.names_declared.ensures ∙ c.if-not-names_declared.false, sym c.keeps_rules.ensures ∙ c.if-not-keeps_rules.false, sym c.all_declared.ensures ∙ c.if-all_declared.false)
