-- Laws of images: copies, and the loops that put them.
use Rattle.std.proofs.Common.{◌≡◌, ℕ, zero, suc, ◌+◌, ◌-◌, ◌*◌, ◌%◌, ◌^◌, ◌<◌, ◌≤◌, Bool, true, false, cond, ◌||◌, eqb, leb, List, [], ◌∷◌, ◌++◌, length, get_or, take, drop, set, sym, refl, ap, ◌∙◌, subst, append_assoc, le_refl, add-one, arith, length-append, length-drop, length-set, take-append-drop, drop_of_length-le, length-take, length-take-le, append-nil, get_or-drop, drop-cons, get_or-take, drop-drop, take_at, drop_at, le-ltb, lt-ltb, eq-eqb, ne_eqb, le-leb}
use native.Mathlib.Nat.{sub-zero}
use lib.ListN.{get_or-append}
use lib.Seq.{drop-length, paste, paste-zero, paste-suc, drop-paste, take-nil, set_out, set_split, set-append_left, drop-set-add, take-set-le}
use borrow.Author.Tests.{lt-leb}
use Rattle.lines.specs.Number.{space_in}
use Rattle.example_lines.specs.Words.{word_from, digit_of, longer}
use Rattle.example_lines.specs.Image.{Part, grown, copy_of, repeated, closed, piece, with_digit, with_byte, image_from, Put, part_of, Stands, Kept}
use Rattle.example_lines.specs.declared.Piece.{Piece}
use Rattle.example_lines.proofs.Words.{lent}

-- ---- lists

drop_take : (a b : ℕ) (l : List ℕ) → drop a (take b l) ≡ take (b - a) (drop a l)
drop_take zero b l = rw sub-zero
drop_take (suc a) zero l = let z : 0 ≡ 0 - suc a = omega arith in ap (λ (k : ℕ). take k (drop (suc a) l)) z
drop_take (suc a) (suc b) [] = sym (take-nil (suc b - suc a))
drop_take (suc a) (suc b) (x ∷ l) = let z : b - a ≡ suc b - suc a = omega arith in drop_take a b l ∙ ap (λ (k : ℕ). take k (drop a l)) z

drop_more : (n r : ℕ) (a b : List ℕ) → n ≤ r → drop n a ≡ drop n b → drop r a ≡ drop r b
drop_more n r a b h e =
    let k : n + (r - n) ≡ r = omega arith in
    sym (drop-drop (r - n) n a ∙ ap (λ (m : ℕ). drop m a) k) ∙ ap (drop (r - n)) e ∙ drop-drop (r - n) n b ∙ ap (λ (m : ℕ). drop m b) k

-- ---- a copy

pub copy_first : (d : List ℕ) (from to : ℕ) → d ≡ paste d to (drop from d) 0
copy_first d from to = paste-zero d to (drop from d)

module _ (d : List ℕ) (from to j n : ℕ) (g : List ℕ) (is : g ≡ paste d to (drop from d) j) (count : n ≡ to - from) (inside : from ≤ to)
    (room : to + (to - from) ≤ length d) where
  pub copy_again : j < n → set g (to + j) (get_or g (from + j) 0) ≡ paste d to (drop from d) (j + 1)
  copy_again h =
      let l : length (take to d) ≡ to = length-take-le to d (omega arith) in
      let o : from + j < length (take to d) = omega arith in
      let q : from + j < to = omega arith in
      let p : from + j < length (take to d ++ take j (drop from d)) = simp length-append (omega arith) in
      let w : get_or (paste d to (drop from d) j) (from + j) 0 ≡ get_or (take to d) (from + j) 0
      = get_or-append (take to d ++ take j (drop from d)) (drop (to + j) d) 0 (from + j) p ∙ get_or-append (take to d) (take j (drop from d)) 0 (from + j) o in
      let v : get_or g (from + j) 0 ≡ get_or (drop from d) j 0
      = ap (λ (w : List ℕ). get_or w (from + j) 0) is ∙ w ∙ get_or-take to d (from + j) 0 q ∙ sym (get_or-drop from d j 0) in
      let m : to + j < length d = omega arith in
      let k : j < length (drop from d) = simp length-drop (omega arith) in
      rw (v, is, add-one) (paste-suc d to (drop from d) j 0 m k)

  pub copy_done : n ≤ j → j ≤ n → g ≡ paste d to (drop from d) (to - from)
  copy_done h k = let e : j ≡ to - from = omega arith in is ∙ ap (paste d to (drop from d)) e

-- ---- the copy as its sign has it

module _ (e : List ℕ) (at end : ℕ) (inside : at ≤ end) (room : end ≤ length e) where
  behind : drop at e ≡ take (end - at) (drop at e) ++ drop end e
  behind =
      let k : at + (end - at) ≡ end = omega arith in
      sym (take-append-drop (end - at) (drop at e)) ∙ ap (λ (l : List ℕ). take (end - at) (drop at e) ++ l) (drop-drop (end - at) at e ∙ ap (λ (m : ℕ). drop m e) k)

  whole : e ≡ take at e ++ take (end - at) (drop at e) ++ drop end e
  whole = sym (take-append-drop at e) ∙ ap (λ (l : List ℕ). take at e ++ l) behind ∙ sym (append_assoc (take at e) (take (end - at) (drop at e)) (drop end e))

  count_of : length (take (end - at) (drop at e)) ≡ end - at
  count_of = length-take-le (end - at) (drop at e) (simp length-drop (omega arith))

  module _ (sign : ℕ) where
    pub raise_other : (sign ≡ 94 → ⊥) → e ≡ take at e ++ copy_of sign (take (end - at) (drop at e)) ++ drop end e
    unfolding copy_of
    raise_other n = simp (ne_eqb sign 94 n) whole

    pub raise_short : sign ≡ 94 → end - at ≤ 2 → e ≡ take at e ++ copy_of sign (take (end - at) (drop at e)) ++ drop end e
    unfolding copy_of
    raise_short q h =
        let l : length (take (end - at) (drop at e)) ≤ 2 = omega (arith, count_of) in
        simp (eq-eqb sign 94 q, set_out (take (end - at) (drop at e)) 2 ((get_or (take (end - at) (drop at e)) 2 0 + 1) % 256) l) whole

    pub raise_third : {v : ℕ} → sign ≡ 94 → 2 < end - at → v ≡ (get_or e (at + 2) 0 + 1) % 2 ^ 8
        → set e (at + 2) v ≡ take at e ++ copy_of sign (take (end - at) (drop at e)) ++ drop end e
    unfolding copy_of
    raise_third {v} q h m =
        let l : 2 < length (take (end - at) (drop at e)) = omega (arith, count_of) in
        let w : get_or (take (end - at) (drop at e)) 2 0 ≡ get_or e (at + 2) 0 = get_or-take (end - at) (drop at e) 2 0 h ∙ get_or-drop at e 2 0 in
        let a : take at (set e (at + 2) v) ≡ take at e = take-set-le at e (at + 2) v (omega arith) in
        let b : drop at (set e (at + 2) v) ≡ set (take (end - at) (drop at e)) 2 v ++ drop end e
        = drop-set-add at e 2 v ∙ ap (λ (l : List ℕ). set l 2 v) behind ∙ set-append_left (take (end - at) (drop at e)) (drop end e) 2 v l in
        simp (eq-eqb sign 94 q, w, ← m) (sym (take-append-drop at (set e (at + 2) v)) ∙ rw (a, b, ← append_assoc))

copy_length : (sign : ℕ) (cs : List ℕ) → length (copy_of sign cs) ≡ length cs
unfolding copy_of
copy_length sign cs = go (eqb sign 94)
  where
    go : (t : Bool) → length (cond t (set cs 2 ((get_or cs 2 0 + 1) % 256)) cs) ≡ length cs
    go true = length-set cs 2 _
    go false = refl

-- ---- bytes behind an image

grown_fits : (room : ℕ) (bs cs : List ℕ) → length bs + length cs ≤ room → grown room bs cs ≡ bs ++ cs
unfolding grown
grown_fits room bs cs h = simp (le-leb (length bs + length cs) room h)

grown_full : (room : ℕ) (bs cs : List ℕ) → room < length bs + length cs → grown room bs cs ≡ bs
unfolding grown
grown_full room bs cs h = simp (lt-leb (length bs + length cs) room h)

grown_longer : (room : ℕ) (bs cs : List ℕ) → length bs ≤ length (grown room bs cs)
unfolding grown
grown_longer room bs cs = go (leb (length bs + length cs) room)
  where
    go : (t : Bool) → length bs ≤ length (cond t (bs ++ cs) bs)
    go true = simp length-append (omega arith)
    go false = le_refl (length bs)

-- of no bytes, a copy adds none
none_of : (sign : ℕ) → copy_of sign [] ≡ []
unfolding copy_of
none_of sign = go (eqb sign 94)
  where
    go : (t : Bool) → cond t (set [] 2 ((get_or [] 2 0 + 1) % 256)) [] ≡ []
    go true = refl
    go false = refl

grown_none : (room : ℕ) (bs : List ℕ) → grown room bs [] ≡ bs
unfolding grown
grown_none room bs = go (leb (length bs + 0) room)
  where
    go : (t : Bool) → cond t (bs ++ []) bs ≡ bs
    go true = append-nil bs
    go false = refl

repeated_none : (room sign k : ℕ) (bs : List ℕ) → repeated room sign k (length bs) bs ≡ bs
unfolding repeated
repeated_none room sign zero bs = refl
repeated_none room sign (suc k) bs = rw (drop-length bs, none_of sign, grown_none room bs) (repeated_none room sign k bs)

module _ (e : List ℕ) (n : ℕ) (room : n ≤ length e) (cs : List ℕ) where
  put_none : length e < n + length cs → Put e (grown (length e) (take n e) cs) n e
  put_none h =
      let l : length (take n e) ≡ n = length-take-le n e room in
      let g : grown (length e) (take n e) cs ≡ take n e = grown_full (length e) (take n e) cs (omega arith) in
      record { count = sym (ap length g ∙ l); room = room; buffer = sym (take-append-drop n e) ∙ ap (λ (l : List ℕ). l ++ drop n e) (sym g) }

  put_all : (r : ℕ) (after : List ℕ) → r ≡ n + length cs → n + length cs ≤ length e → after ≡ take n e ++ cs ++ drop r e → Put e (grown (length e) (take n e) cs) r after
  put_all r after q h p =
      let l : length (take n e) ≡ n = length-take-le n e room in
      let g : grown (length e) (take n e) cs ≡ take n e ++ cs = grown_fits (length e) (take n e) cs (omega arith) in
      let c : length (take n e ++ cs) ≡ n + length cs = length-append (take n e) cs ∙ ap (λ (k : ℕ). k + length cs) l in
      record { count = q ∙ sym (ap length g ∙ c); room = omega arith; buffer = p ∙ ap (λ (l : List ℕ). l ++ drop r e) (sym g) }

module _ (e : List ℕ) (n b : ℕ) where
  pub push_done : n < length e → Put e (grown (length e) (take n e) (b ∷ [])) (n + 1) (set e n b)
  push_done h = put_all e n (omega arith) (b ∷ []) (n + 1) (set e n b) refl (omega arith) (rw (add-one, append_assoc) (set_split e n b h))

  pub push_full : n ≤ length e → length e ≤ n → Put e (grown (length e) (take n e) (b ∷ [])) n e
  push_full k h = put_none e n k (b ∷ []) (omega arith)

-- the copy behind bytes, as its sign has it
module _ (e : List ℕ) (from to sign : ℕ) (inside : from ≤ to) (room : to ≤ length e) where
  last : List ℕ
  last = copy_of sign (drop from (take to e))

  last_long : length last ≡ to - from
  unfolding last
  last_long = copy_length sign (drop from (take to e)) ∙ simp (length-drop, length-take) (omega arith)

  pub again_full : length e - to < to - from → Put e (grown (length e) (take to e) (copy_of sign (drop from (take to e)))) to e
  unfolding last
  again_full h = put_none e to room last (omega (arith, last_long))

  pub again_done : (g a : List ℕ) → to - from ≤ length e - to → g ≡ paste e to (drop from e) (to - from)
      → a ≡ take to g ++ copy_of sign (take (to + (to - from) - to) (drop to g)) ++ drop (to + (to - from)) g
      → Put e (grown (length e) (take to e) (copy_of sign (drop from (take to e)))) (to + (to - from)) a
  unfolding last
  again_done g a h p q =
      let l : length (take to e) ≡ to = length-take-le to e room in
      let c : length (take (to - from) (drop from e)) ≡ to - from = length-take-le (to - from) (drop from e) (simp length-drop (omega arith)) in
      let k : to + (to - from) - to ≡ to - from = omega arith in
      let t : g ≡ take to e ++ (take (to - from) (drop from e) ++ drop (to + (to - from)) e) = p ∙ append_assoc (take to e) (take (to - from) (drop from e)) (drop (to + (to - from)) e) in
      let x : take to g ≡ take to e = ap (take to) t ∙ take_at (take to e) (take (to - from) (drop from e) ++ drop (to + (to - from)) e) to l in
      let y : drop to g ≡ take (to - from) (drop from e) ++ drop (to + (to - from)) e
      = ap (drop to) t ∙ drop_at (take to e) (take (to - from) (drop from e) ++ drop (to + (to - from)) e) to l in
      let z : drop (to + (to - from)) g ≡ drop (to + (to - from)) e
      = ap (drop (to + (to - from))) p ∙ drop-paste e to (drop from e) (to - from) room (simp length-drop (omega arith)) in
      let w : take (to + (to - from) - to) (drop to g) ≡ drop from (take to e)
      = rw (k, y) (take_at (take (to - from) (drop from e)) (drop (to + (to - from)) e) (to - from) c ∙ sym (drop_take from to e)) in
      put_all e to room last (to + (to - from)) a (omega (arith, last_long)) (omega (arith, last_long)) (q ∙ rw (x, w, z))

-- ---- what a buffer holds, of which bytes are put

module _ {e bs a : List ℕ} {r : ℕ} (p : Put e bs r a) where
  put_take : take r a ≡ bs
  put_take = ap (take r) p.buffer ∙ take_at bs (drop r e) r (sym p.count)

  put_drop : drop r a ≡ drop r e
  put_drop = ap (drop r) p.buffer ∙ drop_at bs (drop r e) r (sym p.count)

  put_long : length a ≡ length e
  put_long = let c = p.count in let h = p.room in ap length p.buffer ∙ simp (length-append, length-drop) (omega arith)

-- the copies that are still to come make the whole; behind them the buffer is as it was
pub record Going (e : List ℕ) (sign left : ℕ) (whole g : List ℕ) (from to : ℕ) : Type 0 where
  pub inside : from ≤ to
  pub room : to ≤ length e
  pub same : length e ≡ length g
  pub rest : drop to g ≡ drop to e
  pub going : repeated (length e) sign left from (take to g) ≡ whole

pub going_first : (p : Piece) (e : List ℕ) → Stands p e → Going e p.sign (p.copies - 1) (closed (length e) (part_of p e)) e p.start p.n
unfolding closed part_of
going_first p e h = record { inside = h.0; room = h.1; same = refl; rest = refl; going = refl }

module _ (e whole g : List ℕ) (sign copies k from to : ℕ) (v : Going e sign (copies - k) whole g from to) where
  pub going_again : (a : List ℕ) (r : ℕ) → k < copies → Put g (grown (length g) (take to g) (copy_of sign (drop from (take to g)))) r a → Going e sign (copies - (k + 1)) whole a to r
  unfolding repeated
  going_again a r h p =
      let s : length e ≡ length g = v.same in
      let o : to ≤ length e = v.room in
      let l : length (take to g) ≡ to = length-take-le to g (omega arith) in
      let m = grown_longer (length g) (take to g) (copy_of sign (drop from (take to g))) in
      let c = p.count in
      let q = p.room in
      let n : to ≤ r = omega arith in
      let z : copies - k ≡ suc (copies - (k + 1)) = omega arith in
      let t : repeated (length e) sign (copies - (k + 1)) (length (take to g)) (grown (length e) (take to g) (copy_of sign (drop from (take to g)))) ≡ whole = rw z at v.going in
      record {
        inside = n;
        room = omega arith;
        same = s ∙ sym (put_long p);
        rest = put_drop p ∙ drop_more to r g e n v.rest;
        going = rw (put_take p, ← s) (rw l at t);
      }

  pub going_none : from ≡ to → Put e whole to g
  going_none h =
      let s : length e ≡ length g = v.same in
      let o : to ≤ length e = v.room in
      let l : length (take to g) ≡ to = length-take-le to g (omega arith) in
      let z : from ≡ length (take to g) = h ∙ sym l in
      let t : take to g ≡ whole = sym (repeated_none (length e) sign (copies - k) (take to g)) ∙ rw z at v.going in
      record { count = sym (sym (ap length t) ∙ l); room = o; buffer = sym (take-append-drop to g) ∙ rw (t, v.rest) }

  pub going_done : copies ≤ k → Put e whole to g
  unfolding repeated
  going_done h =
      let s : length e ≡ length g = v.same in
      let o : to ≤ length e = v.room in
      let l : length (take to g) ≡ to = length-take-le to g (omega arith) in
      let z : copies - k ≡ 0 = omega arith in
      let t : take to g ≡ whole = rw z at v.going in
      record { count = sym (sym (ap length t) ∙ l); room = o; buffer = sym (take-append-drop to g) ∙ rw (t, v.rest) }

-- ---- the piece that is read

module _ (p : Piece) (e : List ℕ) (h : Stands p e) where
  -- the same bytes
  kept : (q : Part) (r : Piece) → r.n ≡ p.n → r.start ≡ p.start → part_of r e ≡ q → Kept p e q r e
  kept q r a b c = let x = h.0 in let y = h.1 in record { part = c; stands = (omega arith, omega arith); longer = omega arith; rest = refl }

  -- bytes put behind them
  put_kept : (bs a : List ℕ) (q : Part) (r : Piece) → Put e bs r.n a → p.n ≤ r.n → r.start ≤ r.n → part_of r a ≡ q → Kept p e q r a
  put_kept bs a q r w m b c = record { part = c; stands = (b, w.room); longer = m; rest = put_drop w }

  module _ (d : ℕ) where
    pub digit_first : p.sign ≡ 0 → 15 < p.high
        → Kept p e (with_digit (length e) (part_of p e) d) (record { n = p.n; start = p.start; sign = p.sign; copies = p.copies; high = d }) e
    unfolding with_digit part_of
    digit_first z g = kept _ _ refl refl (simp (eq-eqb p.sign 0 z, lt-ltb 15 p.high g))

    pub digit_second : (r : ℕ) (a : List ℕ) → p.sign ≡ 0 → p.high ≤ 15 → Put e (grown (length e) (take p.n e) ((p.high * 16 + d % 16) ∷ [])) r a
        → Kept p e (with_digit (length e) (part_of p e) d) (record { n = r; start = p.start; sign = p.sign; copies = p.copies; high = 16 }) a
    unfolding with_digit part_of
    digit_second r a z g w =
        let l : length (take p.n e) ≡ p.n = length-take-le p.n e h.1 in
        let m = grown_longer (length e) (take p.n e) ((p.high * 16 + d % 16) ∷ []) in
        let c = w.count in
        let x = h.0 in
        put_kept _ a _ _ w (omega arith) (omega arith) (simp (eq-eqb p.sign 0 z, le-ltb 15 p.high g, put_take w))

    pub digit_copies : (k : ℕ) → (p.sign ≡ 0 → ⊥) → k ≡ longer 10 p.copies d
        → Kept p e (with_digit (length e) (part_of p e) d) (record { n = p.n; start = p.start; sign = p.sign; copies = k; high = p.high }) e
    unfolding with_digit part_of
    digit_copies k z g = kept _ _ refl refl (simp (ne_eqb p.sign 0 z, g))

-- copies only add to an image
repeated_longer : (room sign k from : ℕ) (bs : List ℕ) → length bs ≤ length (repeated room sign k from bs)
unfolding repeated
repeated_longer room sign zero from bs = le_refl (length bs)
repeated_longer room sign (suc k) from bs =
    let n : List ℕ = grown room bs (copy_of sign (drop from bs)) in
    let a : length bs ≤ length n = grown_longer room bs (copy_of sign (drop from bs)) in
    let b : length n ≤ length (repeated room sign k (length bs) n) = repeated_longer room sign k (length bs) n in
    omega arith

fresh : (r : ℕ) (bs a : List ℕ) → take r a ≡ bs → r ≡ length bs → part_of (record { n = r; start = r; sign = 0; copies = 0; high = 16 }) a ≡ piece bs
unfolding part_of
fresh r bs a t c = rw (t, ← c)

module _ (p : Piece) (e : List ℕ) (h : Stands p e) where
  closed_longer : p.n ≤ length (closed (length e) (part_of p e))
  unfolding closed part_of
  closed_longer =
      let l : length (take p.n e) ≡ p.n = length-take-le p.n e h.1 in
      let m = repeated_longer (length e) p.sign (p.copies - 1) p.start (take p.n e) in
      omega arith

  module _ (b : ℕ) where
    pub byte_plus : (r : ℕ) (a : List ℕ) → b ≡ 43 → Put e (closed (length e) (part_of p e)) r a
        → Kept p e (with_byte (length e) (part_of p e) b) (record { n = r; start = r; sign = 0; copies = 0; high = 16 }) a
    unfolding with_byte
    byte_plus r a q w =
        let m = closed_longer in
        let c = w.count in
        put_kept p e h _ a _ _ w (omega arith) (le_refl r) (opened r a w ∙ simp (eq-eqb b 43 q))
      where
        opened : (r : ℕ) (a : List ℕ) → Put e (closed (length e) (part_of p e)) r a → part_of (record { n = r; start = r; sign = 0; copies = 0; high = 16 }) a ≡ piece (closed (length e) (part_of p e))
        opened r a w = fresh r (closed (length e) (part_of p e)) a (put_take w) w.count

    module _ (n : b ≡ 43 → ⊥) where
      pub byte_sign : (eqb b 42 || eqb b 94) ≡ true
          → Kept p e (with_byte (length e) (part_of p e) b) (record { n = p.n; start = p.start; sign = b; copies = p.copies; high = p.high }) e
      unfolding with_byte part_of
      byte_sign q = kept p e h _ _ refl refl (simp (ne_eqb b 43 n, q))

      module _ (m : (eqb b 42 || eqb b 94) ≡ false) where
        pub byte_none : b ≡ 45 → Kept p e (with_byte (length e) (part_of p e) b) p e
        unfolding with_byte
        byte_none q = kept p e h _ _ refl refl (simp (ne_eqb b 43 n, m, eq-eqb b 45 q))

        pub byte_digit : (d : ℕ) (r : Piece) (a : List ℕ) → (b ≡ 45 → ⊥) → d ≡ digit_of b → Kept p e (with_digit (length e) (part_of p e) d) r a → Kept p e (with_byte (length e) (part_of p e) b) r a
        unfolding with_byte
        byte_digit d r a q g w =
            record { part = w.part ∙ simp (ne_eqb b 43 n, m, ne_eqb b 45 q, g); stands = w.stands; longer = w.longer; rest = w.rest }

-- ---- the loop over a word

-- the bytes that are still to come make the whole
pub record Reading (e whole g : List ℕ) (p : Piece) (s : List ℕ) : Type 0 where
  pub stands : Stands p e
  pub same : length e ≡ length g
  pub rest : drop p.n g ≡ drop p.n e
  pub reading : image_from (length e) (part_of p g) s ≡ whole

pub reading_first : (e s : List ℕ) → Reading e (image_from (length e) (piece []) s) e (record { n = 0; start = 0; sign = 0; copies = 0; high = 16 }) (drop 0 s)
unfolding part_of
reading_first e s = record { stands = (le_refl 0, omega arith); same = refl; rest = refl; reading = refl }

module _ (e whole g s : List ℕ) (p : Piece) (i : ℕ) (v : Reading e whole g p (drop i s)) where
  pub reading_stands : Stands p g
  reading_stands = let x = v.stands.0 in let y = v.stands.1 in let z = v.same in (x, omega arith)

  pub reading_again : (a : List ℕ) (r : Piece) → i < length s → Kept p g (with_byte (length g) (part_of p g) (get_or s i 0)) r a → length a ≡ length g → Reading e whole a r (drop (i + 1) s)
  unfolding image_from
  reading_again a r h w l =
      let x = w.stands.0 in
      let y = w.stands.1 in
      let z = v.same in
      let t : image_from (length e) (with_byte (length e) (part_of p g) (get_or s i 0)) (drop (suc i) s) ≡ whole = rw (drop-cons s i 0 h) at v.reading in
      record {
        stands = (x, omega arith);
        same = z ∙ sym l;
        rest = w.rest ∙ drop_more p.n r.n g e w.longer v.rest;
        reading = rw (w.part, add-one, ← z) t;
      }

  pub reading_done : (a : List ℕ) (r : ℕ) → length s ≤ i → Put g (closed (length g) (part_of p g)) r a → Put e whole r a
  unfolding image_from
  reading_done a r h w =
      let z = v.same in
      let t : closed (length e) (part_of p g) ≡ whole = rw (drop_of_length-le s h) at v.reading in
      let u : closed (length g) (part_of p g) ≡ whole = ap (λ (n : ℕ). closed n (part_of p g)) (sym z) ∙ t in
      let m = closed_longer p g reading_stands in
      let c = w.count in
      let q = w.room in
      let k : p.n ≤ r = omega arith in
      record {
        count = c ∙ ap length u;
        room = omega arith;
        buffer = w.buffer ∙ rw (u, drop_more p.n r g e k v.rest);
      }

-- the word that a line has behind k spaces
module _ (s : List ℕ) (at k : ℕ) (q : drop at s ≡ word_from k s) where
  pub image_by : (e a : List ℕ) (n r : ℕ) → n ≡ space_in (take (length s - at) (drop at s)) → Put e (image_from (length e) (piece []) (take n (take (length s - at) (drop at s)))) r a
      → Put e (image_from (length e) (piece []) (take (space_in (word_from k s)) (word_from k s))) r a
  image_by e a n r c w = subst (λ (l : List ℕ). Put e (image_from (length e) (piece []) (take (space_in l) l)) r a) (lent s at k q) (subst (λ (m : ℕ). Put e (image_from (length e) (piece []) (take m (take (length s - at) (drop at s)))) r a) c w)
