-- Steps of a proof, which need not be read: what the bytes of a state are where a piece is taken up to an offset. What a piece gives is `piece_taken_in` of
-- Taken, and the contract of `take` says it by that.
use Rattle.std.specs.Prelude.{ℕ, ◌≤◌, ◌≡◌, List, true, length, get_or, drop}
use Rattle.records.specs.Kinds.{body_len, no_len}
use Rattle.context.specs.declared.Context.{Context}
use Rattle.pieces.specs.Pieces.{piece_taken}
use Rattle.pieces.specs.Taking.{holding}
use Rattle.pieces.specs.declared.CheckState.{CheckState}
use Rattle.piece_bytes.specs.State.{is_state, state_at}

-- the bytes b stand for the state k
pub record Stands (b : List ℕ) (k : CheckState) : Type 0 where
  pub is : is_state b ≡ true
  pub state : state_at b ≡ k

-- the bytes b stand for a state that reads records, has taken so many bytes and holds these of one
abbrev pub HoldingIn : List ℕ → List ℕ → ℕ → ℕ → Type 0
HoldingIn b cut held taken = Stands b (holding (state_at b).context cut held taken)

-- the bytes held are some of a record of a known kind, and not all
pub record Begun (cut : List ℕ) (held : ℕ) : Type 0 where
  pub some : 1 ≤ held
  pub known : body_len (get_or cut 0 0) ≡ no_len → ⊥
  pub within : held ≤ body_len (get_or cut 0 0)

-- a state with other bytes taken, and others held of a record
abbrev pub progressed : CheckState → ℕ → ℕ → List ℕ → CheckState
progressed k taken held cut = record { context = k.context; cut = cut; held = held; taken = taken; stage = k.stage }

-- a state that remembers other records
abbrev pub remembering : CheckState → Context → CheckState
remembering k c = record { context = c; cut = k.cut; held = k.held; taken = k.taken; stage = k.stage }

-- from the state k, at the offset i of the piece s, to the bytes a at j: the rest of the piece gives the same
pub record TakingIn (s : List ℕ) (k : CheckState) (i : ℕ) (a : List ℕ) (j : ℕ) : Type 0 where
  pub is : is_state a ≡ true
  pub inside : j ≤ length s
  pub same : piece_taken (state_at a) (drop j s) ≡ piece_taken k (drop i s)
