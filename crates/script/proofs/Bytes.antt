-- A law of the lines of the simulation: bytes in hexadecimal.
use mathlib.Core.Path.{◌≡◌, sym, ap, ◌∙◌}
use mathlib.Core.List.{List, [], ◌∷◌, ◌++◌}
use Prim.Native.Nat.{ℕ}
use Rattle.texts.specs.declared.Text.{Text}
use Rattle.texts.specs.Ascii.{ascii}
use Rattle.texts.specs.Text.{text_of, pushed, appended, cut}
use Rattle.texts.specs.Digits.{hexes}
use Rattle.texts.proofs.Texts.{appended_append}

pub bytes_by : (word s : List ℕ) {u x r : Text} → u ≡ cut word → x ≡ appended u (hexes s) → r ≡ pushed x 10
    → r ≡ cut (word ++ hexes s ++ ascii "\n")
unfolding appended ascii
bytes_by word s q o e =
    e
    ∙ ap (λ (u : Text). pushed u 10) (o ∙ ap (λ (u : Text). appended u (hexes s)) q)
    ∙ sym (appended_append (text_of []) (word ++ hexes s) (10 ∷ []) ∙ ap (λ (u : Text). appended u (10 ∷ [])) (appended_append (text_of []) word (hexes s)))
