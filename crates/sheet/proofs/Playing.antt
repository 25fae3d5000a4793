-- Laws of a line of the listing's script.
use mathlib.Core.Path.{◌≡◌, sym, ap, ◌∙◌}
use mathlib.Core.List.{List}
use Prim.Native.Nat.{ℕ}
use Rattle.device_states.specs.declared.Device.{Device}
use Rattle.device.specs.declared.DeviceTurned.{DeviceTurned}
use Rattle.device.specs.declared.DeviceCalled.{DeviceCalled}
use Rattle.device.specs.Device.{turn_call, respond_call}
use Rattle.script.specs.declared.Line.{Line}
use Rattle.script.specs.declared.Line.TheVariants.{Turn, Response, Misshapen}
use Rattle.texts.specs.declared.Text.{Text}
use Rattle.texts.specs.Text.{text_of}
use Rattle.script.specs.Answers.{refused_line, turn_line, response_line}
use Rattle.sheet.specs.Listing.{device_after, answer_to, played}

module _ (image : List ℕ) (d : Device) {l : Line} {t : Text} where
  pub play_turn : {m : ℕ} {c : DeviceTurned} → l ≡ Turn m → c ≡ turn_call image d m → t ≡ text_of (turn_line m c.answer) → record { device = c.device; line = t } ≡ played image d l
  unfolding device_after answer_to
  play_turn {m} {c} e f h =
      ap (λ (x : Text). record { device = c.device; line = x }) h
      ∙ ap (λ (x : DeviceTurned). record { device = x.device; line = text_of (turn_line m x.answer) }) f
      ∙ ap (played image d) (sym e)

  pub play_response : {m k : ℕ} {c : DeviceCalled} → l ≡ Response m k → c ≡ respond_call image d m k → t ≡ text_of (response_line m k c.answer) → record { device = c.device; line = t } ≡ played image d l
  unfolding device_after answer_to
  play_response {m} {k} {c} e f h =
      ap (λ (x : Text). record { device = c.device; line = x }) h
      ∙ ap (λ (x : DeviceCalled). record { device = x.device; line = text_of (response_line m k x.answer) }) f
      ∙ ap (played image d) (sym e)

  pub play_misshapen : l ≡ Misshapen → t ≡ text_of (refused_line 10) → record { device = d; line = t } ≡ played image d l
  unfolding device_after answer_to
  play_misshapen e h = ap (λ (x : Text). record { device = d; line = x }) h ∙ ap (played image d) (sym e)
