-- Lines of the simulation, each by computation.
use Rattle.std.specs.Prelude.{◌≡◌, refl}
use Rattle.lines.specs.Number.{number_from, begins, up_to, number_up_to, number_of, space_in}
use Rattle.texts.specs.Ascii.{ascii}
use Rattle.script.specs.Line.{pair_of}
use Rattle.acts.specs.declared.Act.TheVariants.{Module, Supervisor, Delivery, Response, Tick, Unfitted, Misshapen}
use Rattle.acts.specs.Act.{reading_of, tick_of, act_of}

pub record Scripts : Type 0 where
  pub module_step : act_of (ascii "m 0") ≡ Module 0
  pub supervisor_step : act_of (ascii "s 31") ≡ Supervisor 31
  pub delivery : act_of (ascii "d 255") ≡ Delivery 255
  pub response : act_of (ascii "r 1 3") ≡ Response 1 3
  pub tick : act_of (ascii "k 2 20") ≡ Tick 2 20
  pub unfitted : act_of (ascii "k 2 -") ≡ Unfitted 2
  pub longest : act_of (ascii "k 255 65535") ≡ Tick 255 65535

pub record Misshaped : Type 0 where
  pub none : act_of (ascii "") ≡ Misshapen
  pub alone : act_of (ascii "m") ≡ Misshapen
  pub turn : act_of (ascii "t 0") ≡ Misshapen
  pub over : act_of (ascii "d 256") ≡ Misshapen
  pub reading_over : act_of (ascii "k 0 65536") ≡ Misshapen
  pub leading_zero : act_of (ascii "k 0 08") ≡ Misshapen
  pub no_reading : act_of (ascii "k 0") ≡ Misshapen
  pub empty_reading : act_of (ascii "k 0 ") ≡ Misshapen
  pub two_signs : act_of (ascii "k 0 --") ≡ Misshapen
  pub signed : act_of (ascii "k 0 -8") ≡ Misshapen
  pub sign_for_a_number : act_of (ascii "m -") ≡ Misshapen
  pub one_too_many : act_of (ascii "k 0 8 8") ≡ Misshapen

pub scripts : Scripts
unfolding ascii number_from begins up_to number_up_to number_of space_in pair_of reading_of tick_of act_of
scripts = record { module_step = refl; supervisor_step = refl; delivery = refl; response = refl; tick = refl; unfitted = refl; longest = refl }

pub misshaped : Misshaped
unfolding ascii number_from begins up_to number_up_to number_of space_in pair_of reading_of tick_of act_of
misshaped =
    record {
      none = refl;
      alone = refl;
      turn = refl;
      over = refl;
      reading_over = refl;
      leading_zero = refl;
      no_reading = refl;
      empty_reading = refl;
      two_signs = refl;
      signed = refl;
      sign_for_a_number = refl;
      one_too_many = refl;
    }
