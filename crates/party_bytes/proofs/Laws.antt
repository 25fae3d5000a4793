-- The bytes of a party read and put, from what the code is told.
use mathlib.Core.Path.{◌≡◌, refl, sym, ap, ap₂, ◌∙◌}
use mathlib.Core.List.{List, [], ◌∷◌, ◌++◌}
use mathlib.Core.Bool.{Bool, true, false, ◌&&◌, true≢false}
use Prim.Native.Nat.{ℕ, ◌+◌, ◌/◌, ◌%◌, ◌≤◌, ◌<◌}
use native.Mathlib.Omega.{arith}
use lib.ListN.{length, get_or, set, length-append}
use lib.Dec.{eqb, ltb}
use lib.Seq.{sets, length-sets}
use borrow.Author.Tests.{eq-eqb, ne_eqb, eqb-true}
use Rattle.words.specs.Word.{quad_at, quad_bytes, word_at, word_bytes}
use Rattle.words.proofs.Laws.{length_quad, length_word}
use Rattle.messages.specs.Message.{put_at}
use Rattle.messages.proofs.Writing.{put_sets, put_not}
use Rattle.permits.specs.declared.Module.{Module}
use Rattle.permits.specs.declared.Supervisor.{Supervisor}
use Rattle.modules.specs.declared.Own.{Own}
use Rattle.fields.specs.Fields.{half_bytes, flag_byte, is_flag}
use Rattle.fields.proofs.Writing.{join, next}
use Rattle.own_bytes.specs.Own.{own_size, own_bytes, is_own, own_read, own_stands}
use Rattle.own_bytes.proofs.Reading.{stands_all, read_all}
use Rattle.own_bytes.proofs.Writing.{length_own}
use Rattle.party_bytes.specs.Module.{module_size, module_bytes, module_at, is_module, unfit_module, module_of}
use Rattle.party_bytes.specs.Supervisor.{supervisor_size, is_out, holder_byte, supervisor_bytes, supervisor_at, is_supervisor, unfit_supervisor, supervisor_of}

-- ---- read

module _ (s : List ℕ) where
  pub module_other : (length s ≡ module_size → ⊥) → false ≡ is_module s
  unfolding is_module
  module_other h = sym (ap (λ (t : Bool). t && is_own s && is_flag (get_or s (own_size + 12) 0)) (ne_eqb (length s) module_size h))

  pub module_is : {x : Bool} {y : ℕ} → length s ≡ module_size → x ≡ own_stands s → y ≡ get_or s (own_size + 12) 0 → (x && ltb y 2) ≡ is_module s
  unfolding is_module
  module_is h e w =
      ap₂ (λ (t : Bool) (n : ℕ). t && is_flag n) (e ∙ stands_all s (omega (arith, h))) w ∙ sym (ap (λ (t : Bool). t && is_own s && is_flag (get_or s (own_size + 12) 0)) (eq-eqb (length s) module_size h))

  pub module_long : {t : Bool} → t ≡ is_module s → t ≡ true → length s ≡ module_size
  module_long e h = go (eqb (length s) module_size) refl
    where
      go : (t : Bool) → eqb (length s) module_size ≡ t → length s ≡ module_size
      go true w = eqb-true (length s) module_size w
      go false w = absurd (true≢false (sym h ∙ e ∙ (unfold is_module in ap (λ (t : Bool). t && is_own s && is_flag (get_or s (own_size + 12) 0)) w)))

  pub module_read : {own : Own} {held received flag : ℕ} → length s ≡ module_size → own ≡ own_read s → held ≡ quad_at s own_size → received ≡ word_at s (own_size + 4) → flag ≡ get_or s (own_size + 12) 0
      → record { own = own; held = held; received = received; bid = eqb flag 1 } ≡ module_at s
  unfolding module_at
  module_read l e h k w = simp (e ∙ read_all s (omega (arith, l)), h, k, w)

module _ (s : List ℕ) {t : Bool} where
  pub module_yes : {r : Module} → t ≡ is_module s → t ≡ true → r ≡ module_at s → r ≡ module_of s
  unfolding module_of
  module_yes e h w = simp (sym e ∙ h) w

  pub module_no : {r : Module} → t ≡ is_module s → t ≡ false → r ≡ unfit_module → r ≡ module_of s
  unfolding module_of
  module_no e h w = simp (sym e ∙ h) w

  pub supervisor_yes : {r : Supervisor} → t ≡ is_supervisor s → t ≡ true → r ≡ supervisor_at s → r ≡ supervisor_of s
  unfolding supervisor_of
  supervisor_yes e h w = simp (sym e ∙ h) w

  pub supervisor_no : {r : Supervisor} → t ≡ is_supervisor s → t ≡ false → r ≡ unfit_supervisor → r ≡ supervisor_of s
  unfolding supervisor_of
  supervisor_no e h w = simp (sym e ∙ h) w

-- ---- put

pub length_module : (x : Module) → length x.own.queue ≡ 8 → length (module_bytes x) ≡ module_size
unfolding module_bytes
length_module x n =
    let a : List ℕ = own_bytes x.own in
    let b : List ℕ = quad_bytes x.held in
    let c : List ℕ = word_bytes x.received in
    omega (arith, length_own x.own n, length_quad x.held, length_word x.received, length-append a b, length-append (a ++ b) c, length-append (a ++ b ++ c) (flag_byte x.bid ∷ []))

pub length_supervisor : (y : Supervisor) → length (supervisor_bytes y) ≡ supervisor_size
unfolding supervisor_bytes half_bytes
length_supervisor y = refl

module _ (l : List ℕ) (x : Module) (n : length x.own.queue ≡ 8) where
  module_puts : {s1 s2 s3 : List ℕ} {f : ℕ} → module_size ≤ length l → s1 ≡ put_at (own_bytes x.own) 0 l → s2 ≡ put_at (quad_bytes x.held) own_size s1
      → s3 ≡ put_at (word_bytes x.received) (own_size + 4) s2 → f ≡ flag_byte x.bid → set s3 (own_size + 12) f ≡ sets l 0 (module_bytes x)
  unfolding module_bytes
  module_puts {s1} {s2} {s3} {f} room e g h z =
      let a : List ℕ = own_bytes x.own in
      let b : List ℕ = quad_bytes x.held in
      let c : List ℕ = word_bytes x.received in
      let la : length a ≡ own_size = length_own x.own n in
      let lab : length (a ++ b) ≡ own_size + 4 = omega (arith, length-append a b, length_quad x.held) in
      let labc : length (a ++ b ++ c) ≡ own_size + 12 = omega (arith, length-append (a ++ b) c, length_word x.received) in
      let one : 0 + length a ≤ length l = omega arith in
      let two : 0 + length (a ++ b) ≤ length l = omega arith in
      let three : 0 + length (a ++ b ++ c) ≤ length l = omega arith in
      let at2 : own_size ≡ 0 + length a = omega arith in
      let at3 : own_size + 4 ≡ 0 + length (a ++ b) = omega arith in
      let at4 : own_size + 12 ≡ 0 + length (a ++ b ++ c) = omega arith in
      let p1 : s1 ≡ sets l 0 a = e ∙ put_sets a 0 l one in
      let p3 : s3 ≡ sets l 0 (a ++ b ++ c) = next l 0 (a ++ b) c (own_size + 4) (next l 0 a b own_size p1 at2 two g) at3 three h in
      ap (λ (y : ℕ). set s3 (own_size + 12) y) z ∙ ap (λ (y : List ℕ). set y (own_size + 12) (flag_byte x.bid)) p3 ∙ join l (a ++ b ++ c) (flag_byte x.bid ∷ []) 0 (own_size + 12) at4

  pub module_put : {s1 s2 s3 : List ℕ} {f : ℕ} → module_size ≤ length l → s1 ≡ put_at (own_bytes x.own) 0 l → s2 ≡ put_at (quad_bytes x.held) own_size s1
      → s3 ≡ put_at (word_bytes x.received) (own_size + 4) s2 → f ≡ flag_byte x.bid → set s3 (own_size + 12) f ≡ put_at (module_bytes x) 0 l
  module_put room e g h z =
      let fit : 0 + length (module_bytes x) ≤ length l = omega (arith, length_module x n) in
      module_puts room e g h z ∙ sym (put_sets (module_bytes x) 0 l fit)

  pub module_size_lem : {s1 s2 s3 : List ℕ} {f : ℕ} → module_size ≤ length l → s1 ≡ put_at (own_bytes x.own) 0 l → s2 ≡ put_at (quad_bytes x.held) own_size s1
      → s3 ≡ put_at (word_bytes x.received) (own_size + 4) s2 → f ≡ flag_byte x.bid → length (set s3 (own_size + 12) f) ≡ length l
  module_size_lem room e g h z = ap length (module_puts room e g h z) ∙ length-sets l 0 (module_bytes x)

  pub module_short : length l < module_size → l ≡ put_at (module_bytes x) 0 l
  module_short h = sym (put_not (module_bytes x) 0 l (omega (arith, length_module x n)))

pub supervisor_put : (l : List ℕ) (y : Supervisor) {f m : ℕ} {o : Bool} {s : List ℕ} → o ≡ is_out y.holder → f ≡ flag_byte o → m ≡ holder_byte y.holder
    → s ≡ put_at (y.state ∷ y.noted / 0x100 % 256 ∷ y.noted % 256 ∷ f ∷ m ∷ y.last ∷ []) 0 l → s ≡ put_at (supervisor_bytes y) 0 l
unfolding supervisor_bytes half_bytes
supervisor_put l y w e g k =
    k ∙ ap₂ (λ (p q : ℕ). put_at (y.state ∷ y.noted / 0x100 % 256 ∷ y.noted % 256 ∷ p ∷ q ∷ y.last ∷ []) 0 l) (e ∙ ap flag_byte w) g
