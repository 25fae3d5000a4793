-- A state is read back from its bytes.
use mathlib.Core.Path.{◌≡◌, refl, sym, ap, ap₂, ◌∙◌, subst}
use mathlib.Core.List.{List, [], ◌∷◌, ◌++◌, append_assoc}
use mathlib.Core.Bool.{true, ◌&&◌}
use Prim.Native.Nat.{ℕ, ◌^◌, ◌<◌}
use native.Mathlib.Omega.{arith}
use lib.ListN.{length, get_or, drop}
use lib.Dec.{lit<}
use lib.Seq.{drop_at}
use borrow.Author.Tests.{eq-eqb, le-leb}
use Rattle.roundtrip.specs.Fits.{Byte, Bytes}
use Rattle.words.specs.Word.{quad_at, quad_bytes}
use Rattle.words.proofs.Laws.{length_quad}
use Rattle.context.specs.declared.Context.{Context}
use Rattle.fields.specs.Fields.{bytes_from}
use Rattle.fields.proofs.Back.{flag_is}
use Rattle.context_bytes.specs.Encoding.{context_bytes, ContextEncodable}
use Rattle.context_bytes.proofs.Encoded.{All, one, all_of, bytes_of, both, quad_bytes_lem, later, byte_there, quad_there, bytes_there}
use Rattle.context_bytes.proofs.Encoded.{context_bytes_lem, context_back, context_flag}
use Rattle.pieces.specs.declared.Stage.{Stage}
use Rattle.pieces.specs.declared.Stage.TheVariants.{Open, Ended, Faulty}
use Rattle.pieces.specs.declared.CheckState.{CheckState}
use Rattle.piece_bytes.specs.State.{stage_byte, stage_number, stage_offset, stage_bytes, state_bytes, stage_of, state_at, is_stage, is_state}
use Rattle.piece_bytes.specs.State.{StageEncodable, StateEncodable}
use Rattle.piece_bytes.proofs.Writing.{length_stage, length_state}

-- ---- the stage

pub stage_back : (st : Stage) → stage_of (stage_byte st) (stage_number st) (stage_offset st) ≡ st
unfolding stage_of stage_byte stage_number stage_offset
stage_back Open = refl
stage_back Ended = refl
stage_back (Faulty n o) = refl

stage_is : (st : Stage) → StageEncodable st → is_stage (stage_byte st) (stage_number st) (stage_offset st) ≡ true
unfolding is_stage stage_byte stage_number stage_offset
stage_is Open h = refl
stage_is Ended h = refl
stage_is (Faulty n o) h = ap₂ ◌&&◌ (le-leb 2 n h.0) (le-leb n 8 h.1)

offset_small : (st : Stage) → StageEncodable st → stage_offset st < 2 ^ 32
unfolding stage_offset
offset_small Open h = lit< tt
offset_small Ended h = lit< tt
offset_small (Faulty n o) h = h.2

number_small : (st : Stage) → StageEncodable st → Byte (stage_number st)
unfolding stage_number
number_small Open h = lit< tt
number_small Ended h = lit< tt
number_small (Faulty n o) h = omega (arith, h.1)

kind_small : (st : Stage) → Byte (stage_byte st)
unfolding stage_byte
kind_small Open = lit< tt
kind_small Ended = lit< tt
kind_small (Faulty n o) = lit< tt

-- ---- the bytes from each part on

module _ (k : CheckState) (x : StateEncodable k) where
  abbrev c : Context
  c = k.context

  abbrev t10 : List ℕ
  t10 = k.held ∷ (k.cut ++ context_bytes c)

  abbrev b : List ℕ
  b = state_bytes k

  from_0 : b ≡ stage_bytes k.stage ++ (quad_bytes k.taken ++ t10)
  unfolding state_bytes
  from_0 = simp append_assoc

  from_2 : drop 2 b ≡ quad_bytes (stage_offset k.stage) ++ (quad_bytes k.taken ++ t10)
  unfolding stage_bytes
  from_2 = ap (drop 2) from_0

  from_6 : drop 6 b ≡ quad_bytes k.taken ++ t10
  from_6 = ap (drop 6) from_0 ∙ drop_at (stage_bytes k.stage) (quad_bytes k.taken ++ t10) 6 (length_stage k.stage)

  from_10 : drop 10 b ≡ t10
  from_10 = later b 6 (quad_bytes k.taken) t10 4 from_6 (length_quad k.taken)

  from_11 : drop 11 b ≡ k.cut ++ context_bytes c
  from_11 = later b 10 (k.held ∷ []) (k.cut ++ context_bytes c) 1 from_10 refl

  from_23 : drop 23 b ≡ context_bytes c
  from_23 = later b 11 k.cut (context_bytes c) 12 from_11 x.places

  stage_bytes_lem : All (stage_bytes k.stage)
  unfolding stage_bytes
  stage_bytes_lem = one (kind_small k.stage) (one (number_small k.stage x.stage) (quad_bytes_lem (stage_offset k.stage)))

  pub state_bytes_lem : Bytes b
  state_bytes_lem =
      subst Bytes (sym from_0)
      (bytes_of (both stage_bytes_lem (both (quad_bytes_lem k.taken) (one x.held (both (all_of k.cut x.cut) (context_bytes_lem c x.context))))))

  -- ---- each part

  stage_byte_lem : get_or b 0 0 ≡ stage_byte k.stage
  unfolding stage_bytes
  stage_byte_lem = ap (λ (s : List ℕ). get_or s 0 0) from_0

  number_byte : get_or b 1 0 ≡ stage_number k.stage
  unfolding stage_bytes
  number_byte = ap (λ (s : List ℕ). get_or s 1 0) from_0

  offset_bytes : quad_at b 2 ≡ stage_offset k.stage
  offset_bytes = quad_there b 2 (stage_offset k.stage) (quad_bytes k.taken ++ t10) from_2 (offset_small k.stage x.stage)

  pub state_size : length b ≡ 495
  state_size =
      let y : ContextEncodable c = x.context in
      length_state k x.places y.owners y.all_steps y.all_modules y.all_supervisors y.all_alphabets

  pub state_stands : is_state b ≡ true
  unfolding is_state
  state_stands =
      simp (eq-eqb (length b) 495 state_size, stage_byte_lem, number_byte, offset_bytes, stage_is k.stage x.stage, context_flag c x.context b from_23) (flag_is c.begun)

  stage_read : stage_of (get_or b 0 0) (get_or b 1 0) (quad_at b 2) ≡ k.stage
  stage_read =
      ap₂ (λ (p q : ℕ). stage_of p q (quad_at b 2)) stage_byte_lem number_byte
      ∙ ap (stage_of (stage_byte k.stage) (stage_number k.stage)) offset_bytes ∙ stage_back k.stage

  pub state_back : state_at b ≡ k
  unfolding state_at
  state_back =
      let cut : bytes_from b 11 12 ≡ k.cut = bytes_there b 11 12 k.cut (context_bytes c) from_11 x.places in
      let held : get_or b 10 0 ≡ k.held = byte_there b 10 k.held (k.cut ++ context_bytes c) from_10 in
      let taken : quad_at b 6 ≡ k.taken = quad_there b 6 k.taken t10 from_6 x.taken in
      simp (context_back c x.context b from_23, cut, held, taken, stage_read)
