-- The messages under way: what a step wrote, and what a delivery leaves.
use Rattle.std.specs.Prelude.{Option, Some, None, Result, Ok, Err, ⊤}
use Rattle.refusal.specs.declared.Refusal.{Refusal}
use Prim.Native.Nat.{ℕ, zero, suc, ◌+◌, ◌/◌, ◌^◌, ◌≤◌, ◌<◌}
use native.Mathlib.Omega.{arith}
use mathlib.Core.Path.{◌≡◌, refl, sym, ap, ap₂, ◌∙◌}
use mathlib.Core.Bool.{Bool, true, false, cond}
use mathlib.Core.List.{List, [], ◌∷◌, ◌++◌, map, append_assoc, append-nil}
use lib.ListN.{length, take, drop, length-map}
use lib.Seq.{take_at}
use lib.Dec.{ltb}
use Rattle.bits.specs.Bit.{bit}
use Rattle.records.specs.declared.Record.{Record}
use Rattle.plan.specs.Plan.{neighbours, shown}
use Rattle.rules.specs.LookUp.{modules_of, supervisors_of}
use Rattle.messages.specs.Message.{release_size, message_bytes, parse, pieces, short, written}
use Rattle.messages.specs.declared.Message.{Message}
use Rattle.messages.specs.declared.Message.TheVariants.{Permit, Release}
use Rattle.permits.specs.declared.Module.{Module}
use Rattle.permits.specs.declared.Supervisor.{Supervisor}
use Rattle.permits.specs.declared.Stepped.{Stepped}
use Rattle.permits.specs.declared.Stepped.TheVariants.{Turns, Bids, Waits}
use Rattle.permits.specs.declared.Served.{Served}
use Rattle.permits.specs.declared.Served.TheVariants.{Sends, Waits as ServedWaits}
use Rattle.permits.specs.Module as M
use Rattle.permits.specs.Supervisor as S
use Rattle.permits.specs.Step.{bytes_of_messages}
use Rattle.permits.proofs.Stepping.{bytes_one}
use Rattle.wire.specs.declared.Sent.{Sent}
use Rattle.wire.specs.declared.Wire.{Wire}
use Rattle.wire.specs.Wire as W
use Rattle.wire.proofs.Lists.{all_are}
use Rattle.simulation.specs.Play.{read_by, read, read_all, releases_of}
use Rattle.protocol.specs.Generic.{Picked, pick, behind}
use Rattle.agreement.specs.System as A
use Rattle.agreement.proofs.Bytes.{pieces_of, length_releases, parse_bytes}
use Rattle.agreement.proofs.Steps.{releases_as, releases_most, sent_is, served_bytes}
use Rattle.agreement.proofs.Simulation.{map_append, brought_with, behind_brought}
use Rattle.simulation_laws.specs.Calls.{bytes_of, index_sent}

-- ---- messages put under way

map_sent : (gs : List Message) → map bytes_of (map W.sent gs) ≡ map message_bytes gs
map_sent [] = refl
map_sent (g ∷ gs) = ap (λ (l : List (List ℕ)). message_bytes g ∷ l) (map_sent gs)

-- the same messages, as the simulation puts them under way and as demand 3 has their bytes; no more than one step writes
pub record Same (l : List Sent) (out : List (List ℕ)) : Type 0 where
  pub messages : List Message
  pub put : l ≡ map W.sent messages
  pub bytes : out ≡ map message_bytes messages
  pub few : length messages ≤ 32

pub none_put : Same [] []
none_put = record { messages = []; put = refl; bytes = refl; few = omega arith }

pub wire_grows : (w : Wire) (l : List Sent) (out : List (List ℕ)) → W.Sound w → w.count + 32 ≤ 96 → Same l out
    → map bytes_of (W.under (W.with_messages w l)) ≡ map bytes_of (W.under w) ++ out
wire_grows w l out s h e =
    let n : length l ≡ length e.messages = ap length e.put ∙ length-map e.messages W.sent in
    ap (map bytes_of) (all_are w l s (omega (arith, n, e.few)))
    ∙ map_append bytes_of (W.under w) l
    ∙ ap (λ (k : List (List ℕ)). map bytes_of (W.under w) ++ k) (ap (map bytes_of) e.put ∙ map_sent e.messages ∙ sym e.bytes)

-- ---- what a module step wrote

read_append : (p q : List (List ℕ)) → read_all (p ++ q) ≡ read_all p ++ read_all q
unfolding read_all
read_append [] q = refl
read_append (g ∷ p) q = ap (λ (k : List Sent). read g ++ k) (read_append p q) ∙ sym (append_assoc (read g) (read_all p) (read_all q))

-- releases are read back, each by itself
module _ (rs : List Record) (m : ℕ) (t : Option ℕ) where
  abbrev ReadBack : List Message → Type 0
  ReadBack gs = read_all (map message_bytes gs) ≡ map W.sent gs

  both_read : (l r : List Message) → ReadBack l → ReadBack r → ReadBack (l ++ r)
  both_read l r e f =
      ap read_all (map_append message_bytes l r) ∙ read_append (map message_bytes l) (map message_bytes r) ∙ ap₂ ◌++◌ e f ∙ sym (map_append W.sent l r)

  one_read : (v e : ℕ) (b : Bool) → ReadBack (cond b (Release m v e ∷ []) [])
  unfolding message_bytes read_all read_by parse
  one_read v e true = refl
  one_read v e false = refl

  releases_read : (n : ℕ) → ReadBack (M.releases rs m t n)
  unfolding M.releases_in
  releases_read zero = unfold read_all in refl
  releases_read (suc n) = both_read (M.releases rs m t n) _ (releases_read n) (one_read n (M.event_for rs n t) (bit (neighbours rs m) n))

  pub releases_put : (n : ℕ) → releases_of (bytes_of_messages (M.releases rs m t n)) ≡ map W.sent (M.releases rs m t n)
  unfolding releases_of
  releases_put n =
      let gs : List Message = M.releases rs m t n in
      let each = releases_as rs m t n in
      let k : length (bytes_of_messages gs) / release_size ≡ length gs = omega (arith, length_releases gs each) in
      ap₂ (λ (i : ℕ) (l : List ℕ). read_all (pieces release_size i l)) k (sym (append-nil (bytes_of_messages gs)))
      ∙ ap read_all (pieces_of gs [] each) ∙ releases_read n

-- what the simulation puts under way
unfoldable pub put_by : Result Stepped Refusal → List ℕ → List Sent
put_by (Ok (Turns t n)) b = releases_of (take n b)
put_by (Ok (Bids v n)) b = read (take n b)
put_by (Ok Waits) b = []
put_by (Err e) b = []

-- what was written stands at the buffer's start
at_start : (bytes b : List ℕ) → take (length bytes) (written bytes b) ≡ bytes
at_start bytes b = take_at bytes (drop (length bytes) b) (length bytes) refl

module _ (rs : List Record) (m : ℕ) (x : Module) (b : List ℕ) where
  choice_put : (c : M.Choice) → Same (put_by (M.answer_by rs m x c) (written (M.step_bytes rs m x c) b)) (A.wrote (M.answer_by rs m x c) (written (M.step_bytes rs m x c) b))
  choice_put c = record { messages = M.sent_by rs m x c; put = put c; bytes = sent_is rs m x c b; few = few c }
    where
      put : (c : M.Choice) → put_by (M.answer_by rs m x c) (written (M.step_bytes rs m x c) b) ≡ map W.sent (M.sent_by rs m x c)
      put M.takes_turn = unfold M.answer_by M.sent_by put_by in (ap releases_of (at_start (M.step_bytes rs m x M.takes_turn) b) ∙ releases_put rs m (M.turn_taken rs m x).turn 32)
      put M.waits = unfold M.answer_by M.sent_by put_by in refl
      put (M.bids_to v) = unfold M.answer_by M.sent_by put_by in (ap read (at_start (M.step_bytes rs m x (M.bids_to v)) b) ∙ (unfold bytes_of_messages message_bytes read_by parse in refl))

      few : (c : M.Choice) → length (M.sent_by rs m x c) ≤ 32
      few M.takes_turn = unfold M.sent_by in (releases_most rs m (M.turn_taken rs m x).turn 32)
      few M.waits = unfold M.sent_by in (omega arith)
      few (M.bids_to v) = unfold M.sent_by in (omega arith)

  abbrev Put : M.StepCall → Type 0
  Put c = Same (put_by c.answer c.buffer) (A.wrote c.answer c.buffer)

  refused_put : (n o : ℕ) → Put (M.step_refused x b n o)
  unfolding put_by A.wrote
  refused_put n o = none_put

  pub module_put : (w : Result ⊤ Refusal) → Put (M.step_by w rs m x b)
  unfolding M.step_by M.step_in
  module_put (Ok u) = go (ltb m (modules_of rs)) (M.module_fits rs m x) (short (M.step_bytes rs m x (M.choice rs m x)) b)
    where
      call : M.StepCall
      call = record { answer = M.answer_by rs m x (M.choice rs m x); state = M.state_by rs m x (M.choice rs m x); buffer = written (M.step_bytes rs m x (M.choice rs m x)) b }

      go : (a f s : Bool) → Put (cond a (cond f (cond s (M.step_refused x b 15 0) call) (M.step_refused x b 9 0)) (M.step_refused x b 11 0))
      go true true true = refused_put 15 0
      go true true false = choice_put (M.choice rs m x)
      go true false s = refused_put 9 0
      go false f s = refused_put 11 0
  module_put (Err e) = refused_put e.number e.offset

-- ---- what a supervisor step wrote

unfoldable pub put_out : Result Served Refusal → List ℕ → List Sent
put_out (Ok (Sends m n)) b = read (take n b)
put_out (Ok ServedWaits) b = []
put_out (Err e) b = []

module _ (rs : List Record) (v : ℕ) (x : Supervisor) (b : List ℕ) (small : shown rs v x.state < 2 ^ 64) where
  abbrev bytes_for : Option ℕ → List ℕ
  bytes_for t = S.step_bytes rs v x t

  permit_put : (t : Option ℕ) → Same (put_out (S.answer_by (bytes_for t) t) (written (bytes_for t) b)) (A.wrote_out (S.answer_by (bytes_for t) t) (written (bytes_for t) b))
  permit_put t = record { messages = S.sent_to rs v x t; put = put t; bytes = served_bytes rs v x t b; few = few t }
    where
      put : (t : Option ℕ) → put_out (S.answer_by (bytes_for t) t) (written (bytes_for t) b) ≡ map W.sent (S.sent_to rs v x t)
      put None = unfold S.answer_by S.sent_to put_out in refl
      put (Some m) =
          unfold S.answer_by S.sent_to put_out read_by in
          (ap read (at_start (bytes_for (Some m)) b ∙ bytes_one (Permit v m (shown rs v x.state))) ∙ ap read_by (parse_bytes (Permit v m (shown rs v x.state)) small))

      few : (t : Option ℕ) → length (S.sent_to rs v x t) ≤ 32
      few None = unfold S.sent_to in (omega arith)
      few (Some m) = unfold S.sent_to in (omega arith)

  abbrev PutOut : S.ServeCall → Type 0
  PutOut c = Same (put_out c.answer c.buffer) (A.wrote_out c.answer c.buffer)

  refused_out : (n o : ℕ) → PutOut (S.step_refused x b n o)
  unfolding put_out A.wrote_out
  refused_out n o = none_put

  pub supervisor_put : (w : Result ⊤ Refusal) → PutOut (S.step_by w rs v x b)
  unfolding S.step_by S.step_in
  supervisor_put (Ok u) = go (ltb v (supervisors_of rs)) (S.supervisor_fits rs v x) (short (bytes_for (S.served x)) b)
    where
      call : S.ServeCall
      call = record { answer = S.answer_by (bytes_for (S.served x)) (S.served x); state = S.state_by x (S.served x); buffer = written (bytes_for (S.served x)) b }

      go : (a f s : Bool) → PutOut (cond a (cond f (cond s (S.step_refused x b 15 0) call) (S.step_refused x b 9 0)) (S.step_refused x b 11 0))
      go true true true = refused_out 15 0
      go true true false = permit_put (S.served x)
      go true false s = refused_out 9 0
      go false f s = refused_out 11 0
  supervisor_put (Err e) = refused_out e.number e.offset

-- ---- the message at an index

unfoldable pub picked_message : Option (Picked Sent) → Option Message
picked_message None = None
picked_message (Some q) = Some q.item.message

pub nth_pick : (k : ℕ) (l : List Sent) → W.nth_of l k ≡ picked_message (pick k l)
unfolding W.nth_of pick picked_message
nth_pick k [] = refl
nth_pick zero (s ∷ l) = refl
nth_pick (suc k) (s ∷ l) = nth_pick k l ∙ go (pick k l)
  where
    go : (o : Option (Picked Sent)) → picked_message o ≡ picked_message (behind s o)
    go None = unfold behind in refl
    go (Some q) = unfold behind in refl

-- what is left when it is taken out
unfoldable rest_or : List Sent → Option (Picked Sent) → List Sent
rest_or l None = l
rest_or l (Some q) = q.rest

rest_is : (k : ℕ) (l : List Sent) → rest_or (W.drop_nth k l) (pick k l) ≡ W.drop_nth k l
unfolding rest_or pick
rest_is k [] = refl
rest_is zero (s ∷ l) = refl
rest_is (suc k) (s ∷ l) = go (pick k l) (rest_is k l)
  where
    go : (o : Option (Picked Sent)) → rest_or (W.drop_nth k l) o ≡ W.drop_nth k l → rest_or (s ∷ W.drop_nth k l) (behind s o) ≡ s ∷ W.drop_nth k l
    go None e = unfold behind in refl
    go (Some q) e = unfold behind in (ap (λ (r : List Sent). s ∷ r) e)

pub pick_rest : (k : ℕ) (l : List Sent) (q : Picked Sent) → pick k l ≡ Some q → W.drop_nth k l ≡ q.rest
unfolding rest_or
pick_rest k l q e = sym (rest_is k l) ∙ ap (rest_or (W.drop_nth k l)) e

-- ---- the call of a delivery: the index of its message among all sent

abbrev Found : ℕ → ℕ → List A.Sent → Type 0
Found k j w = pick k (A.under_way w) ≡ brought_with (A.brought j w) (A.under_way (A.mark j w))

found_past : (k j : ℕ) (g : A.Sent) (w : List A.Sent) → g.delivered ≡ true → Found k j w → Found k (suc j) (g ∷ w)
unfolding A.at A.mark A.under_way
found_past k j g w e h = rw e h

found_here : (g : A.Sent) (w : List A.Sent) → g.delivered ≡ false → Found zero zero (g ∷ w)
unfolding A.at A.mark A.under_way A.once pick brought_with
found_here g w e = rw e

found_behind : (k j : ℕ) (g : A.Sent) (w : List A.Sent) → g.delivered ≡ false → Found k j w → Found (suc k) (suc j) (g ∷ w)
unfolding A.at A.mark A.under_way pick
found_behind k j g w e h = rw e (ap (behind g.bytes) h ∙ behind_brought g.bytes (A.brought j w) (A.under_way (A.mark j w)))

pub pick_under_way : (k : ℕ) (w : List A.Sent) → Found k (index_sent k w) w
unfolding index_sent
pick_under_way k [] = unfold pick brought_with A.at A.mark A.under_way A.once in refl
pick_under_way zero (g ∷ w) = go g.delivered refl (pick_under_way zero w)
  where
    go : (d : Bool) → g.delivered ≡ d → Found zero (index_sent zero w) w → Found zero (cond d (suc (index_sent zero w)) 0) (g ∷ w)
    go true e h = found_past zero (index_sent zero w) g w e h
    go false e h = found_here g w e
pick_under_way (suc k) (g ∷ w) = go g.delivered refl (pick_under_way (suc k) w) (pick_under_way k w)
  where
    go : (d : Bool) → g.delivered ≡ d → Found (suc k) (index_sent (suc k) w) w → Found k (index_sent k w) w
        → Found (suc k) (suc (cond d (index_sent (suc k) w) (index_sent k w))) (g ∷ w)
    go true e h f = found_past (suc k) (index_sent (suc k) w) g w e h
    go false e h f = found_behind k (index_sent k w) g w e f

-- a delivery that brings bytes is that of a message under way
pub brought_open : (o : Option A.Sent) (b : List ℕ) → A.once o ≡ Some b → (g : A.Sent) × (o ≡ Some g) × (g.delivered ≡ false) × (g.bytes ≡ b)
unfolding A.once
brought_open None b e = let z : ◌≡◌ {A = ℕ} 0 1 = cc in absurd (omega arith)
brought_open (Some g) b e = go g.delivered refl e
  where
    go : (d : Bool) → g.delivered ≡ d → cond d None (Some g.bytes) ≡ Some b → (h : A.Sent) × (Some g ≡ Some h) × (h.delivered ≡ false) × (h.bytes ≡ b)
    go true f q = let z : ◌≡◌ {A = ℕ} 0 1 = cc in absurd (omega arith)
    go false f q = (g, refl, f, cc)
