-- Module and supervisor steps do what the rules say, in states that fit and with the buffer lent.
use Rattle.std.specs.Prelude.{Option, Some, None, Result, Ok, ⊤, option_map}
use Rattle.refusal.specs.declared.Refusal.{Refusal}
use mathlib.Core.Path.{◌≡◌, refl, ap, ap₂, ◌∙◌}
use mathlib.Core.Bool.{Bool, true, false, cond}
use mathlib.Core.List.{List, [], ◌∷◌, ◌++◌, map, append-nil}
use Prim.Native.Nat.{ℕ, zero, suc, ◌+◌, ◌/◌, ◌%◌, ◌≤◌, ◌<◌}
use native.Mathlib.Omega.{arith}
use lib.ListN.{length, drop, length-append}
use lib.Seq.{take_at}
use lib.Dec.{ltb}
use borrow.Author.Tests.{lt-ltb, le-ltb}
use Rattle.bits.specs.Bit.{bit, least, module_after, put_bit}
use Rattle.words.proofs.Laws.{length_word}
use Rattle.records.specs.declared.Record.{Record}
use Rattle.rules.specs.LookUp.{modules_of, supervisors_of}
use Rattle.plan.specs.Plan.{neighbours, shown}
use Rattle.modules.specs.Turn.{turn_of}
use Rattle.messages.specs.Message.{release_size, buffer_length, message_bytes, written, pieces}
use Rattle.messages.specs.declared.Message.{Message}
use Rattle.messages.specs.declared.Message.TheVariants.{Bid, Permit, Release}
use Rattle.permits.specs.declared.Module.{Module}
use Rattle.permits.specs.declared.Supervisor.{Supervisor}
use Rattle.permits.specs.declared.Holder.{Holder}
use Rattle.permits.specs.declared.Holder.TheVariants.{Home, Out}
use Rattle.permits.specs.Module as M
use Rattle.permits.specs.Supervisor as S
use Rattle.permits.specs.Step.{bytes_of_messages}
use Rattle.permits.proofs.Stepping.{bytes_one}
use Rattle.protocol.specs.Plan.{Plan, Laws}
use Rattle.protocol.specs.Rules as R
use Rattle.agreement.specs.PlanOf.{plan_of}
use Rattle.agreement.specs.System.{wrote, wrote_out}
use Rattle.agreement.specs.Compared.{out_to}
use Rattle.agreement.proofs.Names.{message_of, choice_of, choice_same, releases_same}
use Rattle.agreement.proofs.Bytes.{AsReleases, pieces_of, length_releases}
use Rattle.agreement.proofs.Fit.{SameModule, SameSupervisor, few, watched}

-- ---- a module step

as_append : (l r : List Message) → AsReleases l → AsReleases r → AsReleases (l ++ r)
as_append [] r h k = k
as_append (g ∷ l) r h k = (h.0, as_append l r h.1 k)

pub releases_as : (rs : List Record) (m : ℕ) (t : Option ℕ) (n : ℕ) → AsReleases (M.releases rs m t n)
unfolding M.releases_in
releases_as rs m t zero = tt
releases_as rs m t (suc n) = as_append (M.releases rs m t n) _ (releases_as rs m t n) (one (bit (neighbours rs m) n))
  where
    one : (b : Bool) → AsReleases (cond b (Release m n (M.event_for rs n t) ∷ []) [])
    one true = unfold message_bytes in (refl, tt)
    one false = tt

pub releases_most : (rs : List Record) (m : ℕ) (t : Option ℕ) (n : ℕ) → length (M.releases rs m t n) ≤ n
unfolding M.releases_in
releases_most rs m t zero = omega arith
releases_most rs m t (suc n) = omega (arith, releases_most rs m t n, length-append (M.releases rs m t n) (cond (bit (neighbours rs m) n) (Release m n (M.event_for rs n t) ∷ []) []), one (bit (neighbours rs m) n))
  where
    one : (b : Bool) → length (cond b (Release m n (M.event_for rs n t) ∷ []) []) ≤ 1
    one true = omega arith
    one false = omega arith

module _ (rs : List Record) (m : ℕ) (x : Module) where
  abbrev turn_messages : List Message
  turn_messages = M.releases rs m (M.turn_taken rs m x).turn 32

  step_room : (c : M.Choice) → length (M.step_bytes rs m x c) ≤ buffer_length
  unfolding M.sent_by
  step_room M.takes_turn = omega (arith, length_releases turn_messages (releases_as rs m (M.turn_taken rs m x).turn 32), releases_most rs m (M.turn_taken rs m x).turn 32)
  step_room M.waits = unfold bytes_of_messages in (omega arith)
  step_room (M.bids_to v) = unfold bytes_of_messages message_bytes in (omega arith)

  -- the whole answer of an accepted step
  pub step_is : (w : Result ⊤ Refusal) (b : List ℕ) → w ≡ Ok tt → m < modules_of rs → M.module_fits rs m x ≡ true → length b ≡ buffer_length
      → M.step_by w rs m x b
      ≡ record { answer = M.answer_by rs m x (M.choice rs m x); state = M.state_by rs m x (M.choice rs m x); buffer = written (M.step_bytes rs m x (M.choice rs m x)) b }
  unfolding M.step_by M.step_in
  step_is w b a l f n =
      let r : ltb (length b) (length (M.step_bytes rs m x (M.choice rs m x))) ≡ false = le-ltb (length b) (length (M.step_bytes rs m x (M.choice rs m x))) (omega (arith, step_room (M.choice rs m x))) in
      rw (a, lt-ltb m (modules_of rs) l, f, r)

  pub step_absent : (w : Result ⊤ Refusal) (b : List ℕ) → w ≡ Ok tt → modules_of rs ≤ m → M.step_by w rs m x b ≡ M.step_refused x b 11 0
  step_absent w b a l =
      ap (λ (v : Result ⊤ Refusal). M.step_by v rs m x b) a
      ∙ (unfold M.step_by in (ap (λ (p : Bool). cond p (cond (M.module_fits rs m x) (M.step_in rs m x b (M.choice rs m x)) (M.step_refused x b 9 0)) (M.step_refused x b 11 0)) (le-ltb m (modules_of rs) l)))

  -- what it wrote is its messages
  pub sent_is : (c : M.Choice) (b : List ℕ) → wrote (M.answer_by rs m x c) (written (M.step_bytes rs m x c) b) ≡ map message_bytes (M.sent_by rs m x c)
  unfolding M.sent_by M.answer_by wrote
  sent_is M.takes_turn b =
      let n = length_releases turn_messages (releases_as rs m (M.turn_taken rs m x).turn 32) in
      let e : length (bytes_of_messages turn_messages) / release_size ≡ length turn_messages = omega arith in
      ap (λ (k : ℕ). pieces release_size k (written (bytes_of_messages turn_messages) b)) e ∙ pieces_of turn_messages (drop (length (bytes_of_messages turn_messages)) b) (releases_as rs m (M.turn_taken rs m x).turn 32)
  sent_is M.waits b = refl
  sent_is (M.bids_to v) b =
      ap (λ (l : List ℕ). l ∷ []) (take_at (bytes_of_messages (Bid m v ∷ [])) (drop (length (bytes_of_messages (Bid m v ∷ []))) b) (length (bytes_of_messages (Bid m v ∷ []))) refl ∙ (unfold bytes_of_messages in (append-nil (message_bytes (Bid m v)))))

-- the rules' messages of a choice
unfoldable pub sent_of : Plan → ℕ → R.ModuleState → R.Choice → List R.Message
sent_of P m y R.takes_turn = R.releases P m (P.turn m y.received y.own).turn P.supervisors
sent_of P m y R.waits = []
sent_of P m y (R.bids_to v) = R.bid m v ∷ []

unfoldable pub after_of : Plan → ℕ → R.ModuleState → R.Choice → R.ModuleState
after_of P m y R.takes_turn = R.after_turn P m y
after_of P m y R.waits = y
after_of P m y (R.bids_to v) = R.after_bid y v

module _ (rs : List Record) (L : Laws (plan_of rs)) (m : ℕ) (x : Module) (y : R.ModuleState) (s : SameModule x y) where
  pub turn_is : turn_of rs m x.received x.own ≡ (plan_of rs).turn m y.received y.own
  turn_is = ap₂ (turn_of rs m) s.received s.own ∙ (unfold plan_of in refl)

  pub choice_is : M.choice rs m x ≡ choice_of (R.choice (plan_of rs) m y)
  choice_is = choice_same rs (few rs L) (watched rs L) m x y s.own s.held s.bid

  pub messages_are : (c : R.Choice) → M.sent_by rs m x (choice_of c) ≡ map message_of (sent_of (plan_of rs) m y c)
  unfolding M.sent_by choice_of sent_of
  messages_are R.takes_turn = ap (λ t. M.releases rs m t.turn 32) turn_is ∙ releases_same rs (few rs L) (watched rs L) m ((plan_of rs).turn m y.received y.own).turn
  messages_are R.waits = refl
  messages_are (R.bids_to v) = unfold message_of in refl

  pub after_is : (c : R.Choice) → SameModule (M.state_by rs m x (choice_of c)) (after_of (plan_of rs) m y c)
  unfolding M.state_by choice_of after_of R.after_turn R.after_bid
  after_is R.takes_turn = record { own = ap (λ t. t.own) turn_is; held = refl; received = refl; bid = s.bid }
  after_is R.waits = s
  after_is (R.bids_to v) = record { own = s.own; held = s.held; received = s.received; bid = refl }

-- ---- a supervisor step

module _ (rs : List Record) (v : ℕ) (x : Supervisor) where
  serve_room : (t : Option ℕ) → length (S.step_bytes rs v x t) ≤ buffer_length
  unfolding bytes_of_messages S.sent_to message_bytes
  serve_room None = omega arith
  serve_room (Some m) = omega (arith, ap length (bytes_one (Permit v m (shown rs v x.state))), length_word (shown rs v x.state))

  pub serve_is : (w : Result ⊤ Refusal) (b : List ℕ) → w ≡ Ok tt → v < supervisors_of rs → S.supervisor_fits rs v x ≡ true → length b ≡ buffer_length
      → S.step_by w rs v x b
      ≡ record { answer = S.answer_by (S.step_bytes rs v x (S.served x)) (S.served x); state = S.state_by x (S.served x); buffer = written (S.step_bytes rs v x (S.served x)) b }
  unfolding S.step_by S.step_in
  serve_is w b a l f n =
      let r : ltb (length b) (length (S.step_bytes rs v x (S.served x))) ≡ false = le-ltb (length b) (length (S.step_bytes rs v x (S.served x))) (omega (arith, serve_room (S.served x))) in
      rw (a, lt-ltb v (supervisors_of rs) l, f, r)

  pub serve_absent : (w : Result ⊤ Refusal) (b : List ℕ) → w ≡ Ok tt → supervisors_of rs ≤ v → S.step_by w rs v x b ≡ S.step_refused x b 11 0
  serve_absent w b a l =
      ap (λ (z : Result ⊤ Refusal). S.step_by z rs v x b) a
      ∙ (unfold S.step_by in (ap (λ (p : Bool). cond p (cond (S.supervisor_fits rs v x) (S.step_in rs v x b (S.served x)) (S.step_refused x b 9 0)) (S.step_refused x b 11 0)) (le-ltb v (supervisors_of rs) l)))

  pub served_bytes : (t : Option ℕ) (b : List ℕ) → wrote_out (S.answer_by (S.step_bytes rs v x t) t) (written (S.step_bytes rs v x t) b) ≡ map message_bytes (S.sent_to rs v x t)
  unfolding S.sent_to S.answer_by wrote_out
  served_bytes None b = refl
  served_bytes (Some m) b = ap (λ (l : List ℕ). l ∷ []) (take_at (S.step_bytes rs v x (Some m)) (drop (length (S.step_bytes rs v x (Some m))) b) (length (S.step_bytes rs v x (Some m))) refl ∙ bytes_one (Permit v m (shown rs v x.state)))

unfoldable pub permit_of : Plan → ℕ → R.SupervisorState → Option ℕ → List R.Message
permit_of P v y None = []
permit_of P v y (Some m) = R.permit v m (P.shown v y.state) ∷ []

unfoldable pub after_serving : R.SupervisorState → Option ℕ → R.SupervisorState
after_serving y None = y
after_serving y (Some m) = R.after_sending y m

module _ (rs : List Record) (v : ℕ) (x : Supervisor) (y : R.SupervisorState) (s : SameSupervisor x y) where
  next_is : (o : Option ℕ) → S.next_noted x o ≡ option_map (module_after y.last_served) o
  unfolding S.next_noted module_after
  next_is None = refl
  next_is (Some k) = ap (λ (l : ℕ). Some ((l + suc k) % 16)) s.last

  first_is : S.next_noted x (least (λ k. bit x.noted (module_after x.last k)) 16) ≡ R.first_noted y
  first_is =
      next_is (least (λ k. bit x.noted (module_after x.last k)) 16)
      ∙ ap (option_map (module_after y.last_served)) (ap₂ (λ (n l : ℕ). least (λ k. bit n (module_after l k)) 16) s.noted s.last)
      ∙ (unfold R.first_noted in refl)

  pub served_is : S.served x ≡ R.served y
  unfolding R.served S.served_on R.served_on out_to
  served_is = go x.holder s.holder
    where
      go : (h : Holder) → out_to h ≡ y.holder → S.served_on x h ≡ R.served_on y.holder (R.first_noted y)
      go Home e = first_is ∙ ap (λ (o : Option ℕ). R.served_on o (R.first_noted y)) e
      go (Out m) e = ap (λ (o : Option ℕ). R.served_on o (R.first_noted y)) e

  pub permit_is : (t : Option ℕ) → S.sent_to rs v x t ≡ map message_of (permit_of (plan_of rs) v y t)
  unfolding S.sent_to permit_of
  permit_is None = refl
  permit_is (Some m) = ap (λ (z : ℕ). Permit v m (shown rs v z) ∷ []) s.state ∙ (unfold plan_of message_of in refl)

  pub serving_is : (t : Option ℕ) → SameSupervisor (S.state_by x t) (after_serving y t)
  unfolding S.state_by after_serving R.after_sending
  serving_is None = s
  serving_is (Some m) = record { state = s.state; noted = ap (λ (n : ℕ). put_bit n m false) s.noted; holder = (unfold out_to in refl); last = refl }
