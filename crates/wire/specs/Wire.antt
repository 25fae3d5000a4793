-- Document 01, "What demand 3 compares": "A message is sent by the accepted step that writes it and under way until delivered; equal bytes
-- sent twice are two messages." Those under way stand in the order sent, at the first of 96 indices.
use Rattle.std.specs.Prelude.{ℕ, zero, suc, ◌+◌, ◌≤◌, ◌<◌, ◌≡◌, List, [], ◌∷◌, ◌++◌, cond, length, take, drop, set, replicate, ltb, Option, Some, None}
use Rattle.messages.specs.declared.Message.{Message}
use Rattle.messages.specs.declared.Message.TheVariants.{Bid}
use Rattle.wire.specs.declared.Sent.{Sent}
use Rattle.wire.specs.declared.Wire.{Wire}

-- the messages under way
abbrev pub under : Wire → List Sent
under w = take w.count w.messages

abbrev pub sent : Message → Sent
sent g = record { message = g }

-- none; what stands behind them means nothing
abbrev pub empty : Wire
empty = record { messages = replicate 96 (sent (Bid 0 0)); count = 0 }

-- one more behind them; where there is no room all stays
unfoldable pub with_message : Wire → Message → Wire
with_message w g = cond (ltb w.count 96) (record { messages = set w.messages w.count (sent g); count = w.count + 1 }) w

unfoldable pub with_messages : Wire → List Sent → Wire
with_messages w [] = w
with_messages w (s ∷ l) = with_messages (with_message w s.message) l

unfoldable pub nth_of : List Sent → ℕ → Option Message
nth_of [] k = None
nth_of (s ∷ l) zero = Some s.message
nth_of (s ∷ l) (suc k) = nth_of l k

-- a list without its k-th member
abbrev pub drop_nth : ℕ → List Sent → List Sent
drop_nth k l = take k l ++ drop (suc k) l

unfoldable pub without : Wire → ℕ → Wire
without w k = with_messages empty (drop_nth k (under w))

-- what the calls do to the messages under way, as lists, on every wire that has come from `empty` by them
pub record Sound (w : Wire) : Type 0 where
  pub capacity : length w.messages ≡ 96
  pub counted : w.count ≤ 96

pub record Lists : Type 0 where
  pub empty_sound : Sound empty
  pub empty_is : under empty ≡ []
  pub sent_sound : (w : Wire) (g : Message) → Sound w → Sound (with_message w g)
  pub sent_is : (w : Wire) (g : Message) → Sound w → w.count < 96 → under (with_message w g) ≡ under w ++ (sent g ∷ [])
  pub without_sound : (w : Wire) (k : ℕ) → Sound w → Sound (without w k)
  pub without_is : (w : Wire) (k : ℕ) → Sound w → under (without w k) ≡ drop_nth k (under w)
