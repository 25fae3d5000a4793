-- Laws of what is printed.
use Rattle.std.specs.Prelude.{Option, Some, None, Result, Ok, Err, ⊤}
use Rattle.refusal.specs.Refusal.{refusal}
use Rattle.refusal.specs.declared.Refusal.{Refusal}
use Prim.Native.Nat.{ℕ, ◌*◌}
use native.Mathlib.Omega.{arith}
use mathlib.Core.Path.{◌≡◌, refl, sym, ap, ◌∙◌}
use mathlib.Core.Logic.{◌≢◌}
use mathlib.Core.List.{List, [], ◌∷◌}
use mathlib.Core.Bool.{Bool, true, false, cond}
use lib.ListN.{length, length-append}
use Rattle.records.specs.declared.Record.{Record}
use Rattle.rules.specs.LookUp.{controllable}
use Rattle.messages.specs.Message.{message_bytes}
use Rattle.messages.specs.declared.Message.{Message}
use Rattle.permits.specs.declared.Stepped.{Stepped}
use Rattle.permits.specs.declared.Stepped.TheVariants.{Turns, Bids, Waits}
use Rattle.permits.specs.declared.Served.{Served}
use Rattle.permits.specs.declared.Served.TheVariants.{Sends, Waits as ServedWaits}
use Rattle.texts.specs.declared.Text.{Text}
use Rattle.texts.specs.Ascii.{ascii}
use Rattle.texts.specs.Text.{text_of, cut}
use Rattle.script.specs.Answers.{refused_line, response_line}
use Rattle.texts.specs.Digits.{hex_digits, hexes}
use Rattle.script.specs.SimulationLines.{sent_line, delivered_line, stepped_line, served_line, tick_line, nothing_line}
use Rattle.texts.proofs.Texts.{appended_text}
use Rattle.simulation.specs.declared.Answer.{Answer}
use Rattle.simulation.specs.declared.Answer.TheVariants.{Module, Supervisor, Delivery, NoMessage, Response, Tick, Misshapen}
use Rattle.simulation.specs.Numbers.{answer_number}
use Rattle.answers.specs.AnswerLines.{delivery_line, answer_line, PrintedAs, step_event, fired, command_of, command}
use Rattle.simulation.proofs.Playing.{message_length}

-- ---- a message's bytes are few

hexes_length : (bs : List ℕ) → length (hexes bs) ≡ 2 * length bs
unfolding hexes hex_digits
hexes_length [] = refl
hexes_length (b ∷ bs) = let e = hexes_length bs in omega arith

pub sent_by : (g : Message) {bytes : List ℕ} {r : Text} → bytes ≡ message_bytes g → r ≡ cut (sent_line bytes) → r ≡ text_of (sent_line (message_bytes g))
unfolding sent_line ascii
sent_by g e f =
    let n = message_length g in
    let h = hexes_length (message_bytes g) in
    f ∙ ap (λ (l : List ℕ). cut (sent_line l)) e ∙ appended_text [] (sent_line (message_bytes g)) (simp length-append (omega arith))

pub delivered_by : (g : Message) {bytes : List ℕ} {r : Text} → bytes ≡ message_bytes g → r ≡ cut (delivered_line bytes) → r ≡ text_of (delivered_line (message_bytes g))
unfolding delivered_line ascii
delivered_by g e f =
    let n = message_length g in
    let h = hexes_length (message_bytes g) in
    f ∙ ap (λ (l : List ℕ). cut (delivered_line l)) e ∙ appended_text [] (delivered_line (message_bytes g)) (simp length-append (omega arith))

-- ---- the line of an answer

module _ (g : Message) {a : Result ⊤ Refusal} {r : Text} where
  pub line_done : a ≡ Ok tt → r ≡ text_of (delivered_line (message_bytes g)) → r ≡ text_of (delivery_line g a)
  unfolding delivery_line
  line_done e f = f ∙ ap (λ (x : Result ⊤ Refusal). text_of (delivery_line g x)) (sym e)

  pub line_refused : {e : Refusal} → a ≡ Err e → r ≡ text_of (refused_line e.number) → r ≡ text_of (delivery_line g a)
  unfolding delivery_line
  line_refused e f = f ∙ ap (λ (x : Result ⊤ Refusal). text_of (delivery_line g x)) (sym e)

module _ {a : Answer} {r : Text} where
  said_as : (b : Answer) → a ≡ b → r ≡ text_of (answer_line b) → r ≡ text_of (answer_line a)
  said_as b e f = f ∙ ap (λ (x : Answer). text_of (answer_line x)) (sym e)

  pub line_module : {m : ℕ} {s : Result Stepped Refusal} → a ≡ Module m s → r ≡ text_of (stepped_line m s) → r ≡ text_of (answer_line a)
  unfolding answer_line
  line_module e f = said_as _ e f

  pub line_supervisor : {v : ℕ} {s : Result Served Refusal} → a ≡ Supervisor v s → r ≡ text_of (served_line v s) → r ≡ text_of (answer_line a)
  unfolding answer_line
  line_supervisor e f = said_as _ e f

  pub line_delivery : {g : Message} {c : Result ⊤ Refusal} → a ≡ Delivery g c → r ≡ text_of (delivery_line g c) → r ≡ text_of (answer_line a)
  unfolding answer_line
  line_delivery e f = said_as _ e f

  pub line_nothing : a ≡ NoMessage → r ≡ text_of nothing_line → r ≡ text_of (answer_line a)
  unfolding answer_line
  line_nothing e f = said_as _ e f

  pub line_response : {m e : ℕ} {c : Result ⊤ Refusal} → a ≡ Response m e c → r ≡ text_of (response_line m e c) → r ≡ text_of (answer_line a)
  unfolding answer_line
  line_response e f = said_as _ e f

  pub line_tick : {m : ℕ} {c : Result ⊤ Refusal} → a ≡ Tick m c → r ≡ text_of (tick_line m c) → r ≡ text_of (answer_line a)
  unfolding answer_line
  line_tick e f = said_as _ e f

  pub line_misshapen : a ≡ Misshapen → r ≡ text_of (refused_line 10) → r ≡ text_of (answer_line a)
  unfolding answer_line
  line_misshapen e f = said_as _ e f

-- an answer that has a number is printed by it
refused_line_lem : (a : Answer) → answer_number a ≢ 0 → answer_line a ≡ refused_line (answer_number a)
unfolding answer_line stepped_line served_line delivery_line response_line tick_line
refused_line_lem (Module m (Ok (Turns t n))) h = absurd (h refl)
refused_line_lem (Module m (Ok (Bids v n))) h = absurd (h refl)
refused_line_lem (Module m (Ok Waits)) h = absurd (h refl)
refused_line_lem (Module m (Err e)) h = refl
refused_line_lem (Supervisor v (Ok (Sends m n))) h = absurd (h refl)
refused_line_lem (Supervisor v (Ok ServedWaits)) h = absurd (h refl)
refused_line_lem (Supervisor v (Err e)) h = refl
refused_line_lem (Delivery g (Ok u)) h = absurd (h refl)
refused_line_lem (Delivery g (Err e)) h = refl
refused_line_lem NoMessage h = absurd (h refl)
refused_line_lem (Response m e (Ok u)) h = absurd (h refl)
refused_line_lem (Response m e (Err why)) h = refl
refused_line_lem (Tick m (Ok u)) h = absurd (h refl)
refused_line_lem (Tick m (Err e)) h = refl
refused_line_lem Misshapen h = refl

pub line_of : (a : Answer) {r : Text} → r ≡ text_of (answer_line a) → PrintedAs a r
line_of a e = record { line = e; refused = λ h. e ∙ ap text_of (refused_line_lem a h) }

-- ---- the event that fired

pub fired_elsewhere : (a : Answer) → ((m : ℕ) (s : Result Stepped Refusal) → a ≡ Module m s → ⊥) → None ≡ fired a
unfolding fired
fired_elsewhere (Module m s) q = absurd (q m s refl)
fired_elsewhere (Supervisor v s) q = refl
fired_elsewhere (Delivery g c) q = refl
fired_elsewhere NoMessage q = refl
fired_elsewhere (Response m e c) q = refl
fired_elsewhere (Tick m c) q = refl
fired_elsewhere Misshapen q = refl

pub fired_by : {a : Answer} {m : ℕ} {s : Result Stepped Refusal} (x : Result Stepped Refusal) → a ≡ Module m s → s ≡ x → step_event x ≡ fired a
unfolding fired
fired_by x i h = sym (ap fired i ∙ ap step_event h)

-- ---- the command

module _ (rs : List Record) (a : Answer) {m : Option ℕ} (e : m ≡ fired a) where
  pub command_none : m ≡ None → None ≡ command rs a
  unfolding command_of
  command_none q = ap (command_of rs) (sym q ∙ e)

  module _ {n : ℕ} {t : Bool} (q : m ≡ Some n) (f : t ≡ controllable rs n) where
    pub command_is : t ≡ true → Some n ≡ command rs a
    unfolding command_of
    command_is h = ap (λ (b : Bool). cond b (Some n) None) (sym h ∙ f) ∙ ap (command_of rs) (sym q ∙ e)

    pub command_not : t ≡ false → None ≡ command rs a
    unfolding command_of
    command_not h = ap (λ (b : Bool). cond b (Some n) None) (sym h ∙ f) ∙ ap (command_of rs) (sym q ∙ e)
