-- The cases of `parse`, from what the code of `read` is told: the kind k, the length n and its tests.
use Rattle.std.specs.Prelude.{Option, Some, None}
use Rattle.messages.specs.declared.Message.{Message}
use mathlib.Core.Path.{◌≡◌, refl, ap, ◌∙◌}
use mathlib.Core.List.{List}
use mathlib.Core.Bool.{Bool, true, false, cond, ◌&&◌, ◌||◌}
use Prim.Native.Nat.{ℕ}
use lib.ListN.{length, get_or}
use lib.Dec.{eqb}
use Rattle.words.specs.Word.{word_at}
use Rattle.messages.specs.Message.{bid_size, permit_size, release_size, parse, shaped, parsed_number, ParsedAs}
use Rattle.messages.specs.declared.Message.TheVariants.{Bid, Permit, Release}

module _ (s : List ℕ) {k a b : ℕ} where
  pub bid_by : k ≡ get_or s 0 0 → a ≡ get_or s 1 0 → b ≡ get_or s 2 0 → (eqb k 1 && eqb (length s) bid_size) ≡ true → Some (Bid a b) ≡ parse s
  unfolding parse
  bid_by e f g t =
      let h : shaped 1 bid_size s ≡ true = cc in
      simp (h, f, g)

  module _ (e : k ≡ get_or s 0 0) (f : a ≡ get_or s 1 0) (g : b ≡ get_or s 2 0) (t : (eqb k 1 && eqb (length s) bid_size) ≡ false) where
    pub permit_by : {x : ℕ} → (eqb k 2 && eqb (length s) permit_size) ≡ true → x ≡ word_at s 3 → Some (Permit a b x) ≡ parse s
    unfolding parse
    permit_by u w =
        let h : shaped 1 bid_size s ≡ false = cc in
        let i : shaped 2 permit_size s ≡ true = cc in
        simp (h, i, f, g, w)

    module _ (u : (eqb k 2 && eqb (length s) permit_size) ≡ false) where
      pub release_by : {x : ℕ} → (eqb k 3 && eqb (length s) release_size) ≡ true → x ≡ get_or s 3 0 → Some (Release a b x) ≡ parse s
      unfolding parse
      release_by v w =
          let h : shaped 1 bid_size s ≡ false = cc in
          let i : shaped 2 permit_size s ≡ false = cc in
          let j : shaped 3 release_size s ≡ true = cc in
          simp (h, i, j, f, g, w)

      pub misshapen_by : (eqb k 3 && eqb (length s) release_size) ≡ false → None ≡ parse s
      unfolding parse
      misshapen_by v =
          let h : shaped 1 bid_size s ≡ false = cc in
          let i : shaped 2 permit_size s ≡ false = cc in
          let j : shaped 3 release_size s ≡ false = cc in
          simp (h, i, j)

-- the number of the case is that of the bytes
pub parsed_as : (s : List ℕ) {r : Option Message} → r ≡ parse s → ParsedAs s r
unfolding parse
parsed_as s e = record { answer = e; number = ap parsed_number e ∙ number (shaped 1 bid_size s) (shaped 2 permit_size s) (shaped 3 release_size s) }
  where
    read : Bool → Bool → Bool → Option Message
    read x y z =
        cond x (Some (Bid (get_or s 1 0) (get_or s 2 0)))
        (cond y (Some (Permit (get_or s 1 0) (get_or s 2 0) (word_at s 3)))
        (cond z (Some (Release (get_or s 1 0) (get_or s 2 0) (get_or s 3 0))) None))

    number : (x y z : Bool) → parsed_number (read x y z) ≡ cond (x || (y || z)) 0 10
    number true y z = refl
    number false true z = refl
    number false false true = refl
    number false false false = refl
