-- `CutBytes` and `AnyAnswer` of specs/Pieces.antt.
use mathlib.Core.Path.{◌≡◌, refl, sym, ap, ◌∙◌, subst}
use mathlib.Core.List.{List, [], ◌∷◌}
use Prim.Native.Nat.{ℕ, ◌≤◌}
use lib.ListN.{length, take, drop}
use lib.Seq.{take_at}
use Rattle.pieces.specs.Pieces.{starting, piece_taken, pieces_taken}
use Rattle.pieces.specs.declared.CheckState.{CheckState}
use Rattle.pieces.proofs.Cut.{cut_anywhere}
use Rattle.piece_bytes.specs.State.{state_at, state_bytes, StateEncodable}
use Rattle.piece_bytes.proofs.Parts.{parts as state-parts}
use Rattle.piece_laws.specs.Laws.{AllBytes}
use Rattle.piece_laws.proofs.Encodable.{stays_encodable}
use Rattle.refusals.proofs.Refusals.{refusals}
use Rattle.packing.specs.Answer.{Answer, done, called_answer}
use Rattle.piece_interface.specs.Calls.{check_answer_bytes}
use Rattle.interface_laws.specs.Pieces.{check_started, check_run, AllTaken, CutBytes, AnyAnswer}
use Rattle.interface_laws.proofs.Numbers.{of_check}
use Rattle.interface_laws.proofs.SameCalls.{same_calls}

-- pieces taken from the bytes of a state that can be encoded
record Ran (k : CheckState) (ps : List (List ℕ)) : Type 0 where
  left : (check_run (state_bytes k) ps).memory ≡ state_bytes (pieces_taken k ps)
  encodable : StateEncodable (pieces_taken k ps)
  taken : AllTaken (check_run (state_bytes k) ps).answers

ran : (k : CheckState) (ps : List (List ℕ)) → StateEncodable k → AllBytes ps → Ran k ps
unfolding check_run pieces_taken
ran k [] h a = record { left = refl; encodable = h; taken = tt }
ran k (p ∷ ps) h a =
    let r : Ran (piece_taken k p) ps = ran (piece_taken k p) ps (stays_encodable.piece k p h a.0) a.1 in
    let e = same_calls.check_piece k p h in
    record {
      left = ap (λ (x : Answer). (check_run x.state ps).memory) e ∙ r.left;
      encodable = r.encodable;
      taken = subst (λ (x : Answer). (x.number ≡ done 0 0 0) × AllTaken (check_run x.state ps).answers) (sym e) (refl, r.taken);
    }

module _ (l : List ℕ) (n : 495 ≤ length l) where
  started : check_started l ≡ state_bytes starting
  unfolding check_started
  started =
      ap (λ (x : Answer). take 495 x.buffer) (same_calls.check_start l n)
      ∙ take_at (state_bytes starting) (drop 495 l) 495 (state-parts.size starting stays_encodable.start)

pub cut_bytes : CutBytes
cut_bytes l ps n a =
    let r : Ran starting ps = ran starting ps stays_encodable.start a in
    let m : (check_run (check_started l) ps).memory ≡ state_bytes (pieces_taken starting ps) = ap (λ (s : List ℕ). (check_run s ps).memory) (started l n) ∙ r.left in
    record {
      started = ap (λ (x : Answer). x.number) (same_calls.check_start l n);
      taken = subst (λ (s : List ℕ). AllTaken (check_run s ps).answers) (sym (started l n)) r.taken;
      kept = ap length m ∙ state-parts.size (pieces_taken starting ps) r.encodable;
      answer = ap check_answer_bytes m ∙ same_calls.check_answer (pieces_taken starting ps) r.encodable ∙ ap called_answer (cut_anywhere ps);
    }

pub any_answer : AnyAnswer
any_answer s h = refusals.checker.pieces (state_at s) (of_check s h)
