use Rattle.std.proofs.Common.{le_of_lt}
use Rattle.example_lines.proofs.Words.{end_within}
use Rattle.example_lines.proofs.line_at.Goals as goal

pub slice_bounds-result-end : goal.slice_bounds-result-end
slice_bounds-result-end c = search (end_within, le_of_lt)
