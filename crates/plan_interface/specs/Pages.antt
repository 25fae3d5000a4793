-- Document 02, 2.4, over lent bytes. The quotations are from include/pewterslug.h.
use Rattle.refusal.specs.declared.Refusal.{Refusal}
use Rattle.std.specs.Prelude.{ℕ, List, [], Result}
use Rattle.rules.specs.Check.{verdict_of}
use Rattle.paper.specs.Print.{answer_by, buffer_by}
use Rattle.packing.specs.Answer.{Answer, length_answer}

unfoldable pub print_by : Result ℕ Refusal → List ℕ → List ℕ → Answer
print_by p image b = record { number = length_answer p; state = []; buffer = buffer_by p image b }

-- "Prints a plan"; "After the image's numbers comes 15, where the buffer is shorter than that."
abbrev pub print_bytes : List ℕ → List ℕ → Answer
print_bytes image b = print_by (answer_by (verdict_of image) image b) image b
