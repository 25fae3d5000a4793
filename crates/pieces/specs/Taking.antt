-- Steps of a proof, which need not be read: how a state and a place in a piece follow from others, so that the rest of the piece gives the same. What a
-- piece gives is `piece_taken` of Pieces, and the contract of `take` says it by that.
use Rattle.std.specs.Prelude.{ℕ, suc, ◌+◌, ◌-◌, ◌≤◌, ◌<◌, ◌≡◌, List, length, get_or, drop, replicate}
use Rattle.rules.specs.Check.{limit}
use Rattle.context.specs.declared.Context.{Context}
use Rattle.pieces.specs.declared.Stage.TheVariants.{Open}
use Rattle.pieces.specs.declared.CheckState.{CheckState}
use Rattle.pieces.specs.Pieces.{between, byte_taken, piece_taken}

-- while records are read, with bytes of one that has begun
abbrev pub holding : Context → List ℕ → ℕ → ℕ → CheckState
holding c cut held t = record { context = c; cut = cut; held = held; taken = t; stage = Open }

-- the state k at the offset i of the piece s, and the state x at j
pub record Taking (s : List ℕ) (k : CheckState) (i : ℕ) (x : CheckState) (j : ℕ) : Type 0 where
  pub further : i ≤ j
  pub inside : j ≤ length s
  pub room : x.taken + (length s - j) ≤ limit
  pub same : piece_taken x (drop j s) ≡ piece_taken k (drop i s)

-- the bytes held at i and at j, whatever else is in the state
pub record Holds (s cut : List ℕ) (held i : ℕ) (next : List ℕ) (more j : ℕ) : Type 0 where
  pub further : i ≤ j
  pub inside : j ≤ length s
  pub same : (c : Context) (t : ℕ) → t + (length s - i) ≤ limit
      → piece_taken (holding c next more (t + (j - i))) (drop j s) ≡ piece_taken (holding c cut held t) (drop i s)

-- the byte at an offset taken, with which the record that has begun is whole, faultless and no end
pub record PastBegun (s : List ℕ) (c : Context) (cut : List ℕ) (held at : ℕ) (d : Context) (j : ℕ) : Type 0 where
  pub next : at < j → j ≡ at + 1
  pub same : at < j → (t : ℕ) → t < limit → byte_taken (holding c cut held t) (get_or s at 0) ≡ between d Open (suc t)

-- nothing of a record is held
pub record Clear (cut : List ℕ) (held : ℕ) : Type 0 where
  pub none : cut ≡ replicate 12 0
  pub zero : held ≡ 0
