-- The response queue: eight cells, of which the first `length` hold responses and the others 0.
use Rattle.std.specs.Prelude.{ℕ, suc, ◌-◌, List, [], ◌∷◌, ◌++◌, Bool, length, get_or, take, drop, replicate, leb}
use Rattle.modules.specs.declared.Own.{Own}
use Rattle.modules.specs.Own.{with_cells}

-- the responses, the head first
abbrev pub queue_of : Own → List ℕ
queue_of own = take own.length own.queue

-- the response at an index of the queue, the head at 0
abbrev pub response_at : Own → ℕ → ℕ
response_at own i = get_or (queue_of own) i 0

-- the eight cells of a queue
abbrev pub cells : List ℕ → List ℕ
cells q = q ++ replicate (8 - length q) 0

-- "response queue holds 8"
abbrev pub full : Own → Bool
full own = leb 8 own.length

abbrev pub with_queue : Own → List ℕ → Own
with_queue own q = with_cells own (cells q) (length q)

-- one response more, at the end
abbrev pub queued : Own → ℕ → Own
queued own e = with_queue own (queue_of own ++ (e ∷ []))

-- the response at index i taken out: document 02, 2.5, "the others remain in their order"
abbrev pub without : ℕ → List ℕ → List ℕ
without i q = take i q ++ drop (suc i) q
