-- One step of the check by what it remembers, by what stands at an offset.
use Rattle.std.specs.Prelude.{Result, Ok, Err}
use Rattle.refusal.specs.Refusal.{refusal}
use Rattle.refusal.specs.declared.Refusal.{Refusal}
use Rattle.std.proofs.Common.{◌≡◌, ℕ, suc, ◌+◌, ◌<◌, ◌≤◌, Bool, true, false, cond, not, ◌&&◌, eqb, List, [], length, replicate, sym, refl, ap, ◌∙◌, subst, zero-add, arith, drop_of_length-le, le-ltb, lt-ltb, ne_eqb, eqb-true}
use Rattle.bits.specs.Bit.{bit, all_below}
use Rattle.records.specs.Kinds.{kind_of, body_len, size_by}
use Rattle.records.specs.Key.{key_by, key_of, precedes}
use Rattle.records.specs.Range.{in_range}
use Rattle.records.specs.declared.Record.{Record}
use Rattle.records.specs.declared.Record.TheVariants.{Head, End}
use Rattle.records.specs.declared.RecordKey.{RecordKey}
use Rattle.records.proofs.Order.{key_kind}
use Rattle.reader.specs.Read.{read_at, record_of, stop_number}
use Rattle.reader.specs.Walk.{Walk, more, stop, walk_of, walk_from}
use Rattle.reader.specs.declared.NoRecord.{NoRecord}
use Rattle.reader.specs.declared.NoRecord.TheVariants.{Unknown, Cut, Nothing}
use Rattle.reader.proofs.Reading.{next, walks_by, told_by}
use Rattle.places.specs.Places.{nowhere, place_by, noted_at, noted_in, places_of}
use Rattle.places.specs.declared.Places.{Places}
use Rattle.rules.specs.Check.{end_at, check_walk, verdict_of, limit}
use Rattle.words.specs.Word.{word_at}
use Rattle.context_bytes.specs.Encoding.{words_from, alphabets}
use Rattle.context.specs.declared.Counts.{Counts}
use Rattle.context.specs.declared.Events.{Events}
use Rattle.context.specs.declared.Modules.{Modules}
use Rattle.context.specs.declared.Supervisors.{Supervisors}
use Rattle.context.specs.declared.Context.{Context}
use Rattle.context.specs.Context.{counts_after, events_after, modules_after, supervisors_after, with_record, start}
use Rattle.judge.specs.Judge.{index_by, order_by, names_by, rules_by, all_by, judge_by}
use Rattle.judge.specs.Represents.{check_by}
use Rattle.judge.proofs.Represents.{checks}
use Rattle.record_tests.specs.declared.Fields.{Fields}
use Rattle.record_tests.specs.Tests.{end_kept, stands_at, fields_at}
use Rattle.checker.specs.Examined.{examined_by, examined_of}
use Rattle.checker.specs.Stretch.{Reached, headed}
use Rattle.checker.specs.Stretch.{Rest, rest_of, Stretch, Span, Passed, noted_past, context_by, events_by, modules_by, supervisors_by}
use Rattle.checker.specs.Stretch.{at_events, at_modules, at_module_moves, at_supervisors, at_disablings, at_steps}
use Rattle.judge.proofs.Represents.{both}
use Rattle.checker.proofs.Stretch.{stands_there, reads_whole, reads_head, noted_past_lem}

-- where the check begins
pub begins : (s : List ℕ) {c : Context} {p : Places} → c ≡ start → p ≡ nowhere → length s < suc limit → Reached s c 0 p
unfolding verdict_of
begins s {c} {p} e f h =
    record {
      checked =
          ap (λ (d : Context). check_by (length s) d (walk_from s 0)) e ∙ checks (length s) (walk_from s 0)
          ∙ sym (ap (λ (b : Bool). cond b (Err (refusal 1 0)) (check_walk (length s) [] (walk_from s 0))) (le-ltb limit (length s) (omega arith)));
      noted = ap (λ (q : Places). noted_in q c.last.kind (walk_from s 0)) f ∙ ap (λ (d : Context). noted_in nowhere d.last.kind (walk_from s 0)) e;
    }

-- ---- the answer

refuses : (s : List ℕ) (k i : ℕ) → verdict_of s ≡ Err (refusal k i) → Err (refusal k i) ≡ examined_of s
unfolding examined_of examined_by
refuses s k i e = sym (ap (examined_by (places_of s)) e)

pub too_long : (s : List ℕ) → limit < length s → Err (refusal 1 0) ≡ examined_of s
unfolding verdict_of
too_long s h = refuses s 1 0 (ap (λ (b : Bool). cond b (Err (refusal 1 0)) (check_walk (length s) [] (walk_from s 0))) (lt-ltb limit (length s) h))

-- each way on from an offset, with every fact as a premise
module _ (s : List ℕ) (c : Context) (i : ℕ) (p : Places) where
  stops : (k : ℕ) {x y : Result (Record × ℕ) NoRecord} → x ≡ read_at s i → x ≡ y → next s i y ≡ stop k i → Reached s c i p → Err (refusal k i) ≡ examined_of s
  unfolding check_by
  stops k e g w h = refuses s k i (sym h.checked ∙ ap (check_by (length s) c) (walks_by s i e g ∙ w))

  pub stopped_by : {k : ℕ} (why : NoRecord) {x : Result (Record × ℕ) NoRecord} → x ≡ read_at s i → x ≡ Err why → k ≡ stop_number why → Reached s c i p → Err (refusal k i) ≡ examined_of s
  stopped_by Unknown e g n h = ap (λ (k : ℕ). Err (refusal k i)) n ∙ stops 2 e g refl h
  stopped_by Cut e g n h = ap (λ (k : ℕ). Err (refusal k i)) n ∙ stops 3 e g refl h
  stopped_by Nothing e g n h = ap (λ (k : ℕ). Err (refusal k i)) n ∙ stops 3 e g refl h

  pub refused_by : (num : ℕ) {x : Result (Record × ℕ) NoRecord} {r : Record} {n : ℕ} → x ≡ read_at s i → x ≡ Ok (r, n) → num ≡ judge_by c r → (num ≡ 0 → ⊥) → Reached s c i p
      → Err (refusal num i) ≡ examined_of s
  unfolding check_by
  refused_by num e g j z h = refuses s num i (sym h.checked ∙ ap (check_by (length s) c) (walks_by s i e g) ∙ simp (← j, ne_eqb num 0 z))

  -- past a faultless record
  module _ {x : Result (Record × ℕ) NoRecord} {r : Record} {n no k : ℕ} {q : Places} (e : x ≡ read_at s i) (g : x ≡ Ok (r, n)) (j : no ≡ judge_by c r) (z : no ≡ 0) (f : k ≡ kind_of r)
      (t : q ≡ noted_at p c.last.kind k i) (h : Reached s c i p) where
    noted_on : noted_in q (kind_of r) (walk_from s n) ≡ places_of s
    unfolding noted_in
    noted_on =
        ap (λ (a : Places). noted_in a (kind_of r) (walk_from s n)) (t ∙ ap (λ (a : ℕ). noted_at p c.last.kind a i) f)
        ∙ sym (ap (noted_in p c.last.kind) (walks_by s i e g)) ∙ h.noted

    ends : k ≡ 0x1f → end_at (length s) i ≡ verdict_of s
    unfolding check_by
    ends l = sym (ap (check_by (length s) c) (walks_by s i e g) ∙ simp (← j, z, ← f, l)) ∙ h.checked

    pub ended_by : k ≡ 0x1f → {u : Result Places Refusal} → u ≡ examined_by q (end_at (length s) i) → u ≡ examined_of s
    unfolding examined_of examined_by noted_in walk_of
    ended_by l v = v ∙ go (eqb (suc i) (length s)) refl (ends l)
      where
        go : (b : Bool) → eqb (suc i) (length s) ≡ b → cond b (Ok tt) (Err (refusal 4 (suc i))) ≡ verdict_of s
            → examined_by q (cond b (Ok tt) (Err (refusal 4 (suc i)))) ≡ examined_of s
        go true m w =
            let a = told_by s i e g in
            let y : suc i ≡ length s = eqb-true _ _ m in
            let b : length s ≤ n = omega arith in
            let d : q ≡ places_of s = sym (ap (λ (l : List ℕ). noted_in q (kind_of r) (walk_of 0 n l)) (drop_of_length-le s b)) ∙ noted_on in
            ap Ok d ∙ ap (examined_by (places_of s)) w
        go false m w = ap (examined_by (places_of s)) w

    goes_on : (k ≡ 0x1f → ⊥) → Reached s (with_record c r) n q
    unfolding check_by
    goes_on l =
        record {
          checked = sym (ap (check_by (length s) c) (walks_by s i e g) ∙ simp (← j, z, ← f, ne_eqb k 0x1f l)) ∙ h.checked;
          noted = ap (λ (a : ℕ). noted_in q a (walk_from s n)) (key_kind r) ∙ noted_on;
        }

-- the same, its premises in an order that tells what they speak of
pub goes_on_by : (s : List ℕ) (c : Context) (i : ℕ) (p : Places) (d : Context) {x : Result (Record × ℕ) NoRecord} {r : Record} {n no k : ℕ} {q : Places} → d ≡ with_record c r → x ≡ Ok (r, n)
    → x ≡ read_at s i → q ≡ noted_at p c.last.kind k i → k ≡ kind_of r → (k ≡ 0x1f → ⊥) → no ≡ judge_by c r → no ≡ 0 → Reached s c i p → Reached s d n q
goes_on_by s c i p d {n = n} {q = q} w g e t f l j z h = subst (λ (a : Context). Reached s a n q) (sym w) (goes_on s c i p e g j z f t h l)

-- past a head in its ranges
pub head_by : (s : List ℕ) {b t : Bool} {f : Fields} {n : ℕ} → length s < suc limit → n ≡ size_by 0x10 → b ≡ stands_at s 0 0x10 n → b ≡ true → f ≡ fields_at s 0
    → t ≡ in_range (Head f.first f.second f.third) → t ≡ true → Reached s (headed (record { modules = f.first; supervisors = f.second; events = f.third })) n nowhere
unfolding judge_by order_by index_by names_by rules_by all_by key_of kind_of counts_after events_after modules_after supervisors_after noted_at place_by
head_by s {f = f} {n} l b e h g i z =
    let c : Counts = record { modules = f.first; supervisors = f.second; events = f.third } in
    let r : Reached s (headed c) (0 + n) nowhere =
    goes_on_by s start 0 nowhere _ refl (reads_head s 0 g b (stands_there s 0 0x10 n (sym e ∙ h))) refl refl refl (λ z. absurd (omega arith)) (sym (simp (sym i ∙ z))) refl
    (begins s refl refl l)
    in
    subst (λ (x : ℕ). Reached s (headed c) x nowhere) (zero-add n) r

-- the check goes on from where the records passed lead
checks_rest : (n : ℕ) (c : Context) (w : Walk) → check_by n (rest_of c w).context (rest_of c w).walk ≡ check_by n c w
unfolding check_by rest_of
checks_rest n c (stop k o) = refl
checks_rest n c (more o r w) = go (eqb (judge_by c r) 0) (eqb (kind_of r) 0x1f) refl refl (checks_rest n (with_record c r) w)
  where
    go : (a b : Bool) → eqb (judge_by c r) 0 ≡ a → eqb (kind_of r) 0x1f ≡ b
        → check_by n (rest_of (with_record c r) w).context (rest_of (with_record c r) w).walk ≡ check_by n (with_record c r) w
        → (let t : Rest = cond (a && not b) (rest_of (with_record c r) w) (record { context = c; walk = more o r w }) in check_by n t.context t.walk)
        ≡ cond a (cond b (end_at n o) (check_by n (with_record c r) w)) (Err (refusal (judge_by c r) o))
    go true true x y f = simp (x, y)
    go true false x y f = f
    go false b x y f = simp (x)

checks_on : (n : ℕ) (c d : Context) (v w : Walk) → rest_of d v ≡ rest_of c w → check_by n d v ≡ check_by n c w
checks_on n c d v w e = sym (checks_rest n d v) ∙ ap (λ (x : Rest). check_by n x.context x.walk) e ∙ checks_rest n c w

-- past a stretch
past : (s : List ℕ) (k : ℕ) {c d : Context} {i j : ℕ} {p q : Places} → Stretch s k c i d j → q ≡ noted_past p c.last.kind k i j → Span s c i p d j q
past s k {c} {d} {i} {j} {p} {q} h e =
    record {
      same = h.same;
      notes = ap (λ (a : Places). noted_in a d.last.kind (walk_from s j)) (e ∙ noted_past_lem p c.last.kind d.last.kind k i j h.some) ∙ h.notes p;
    }

-- and past another
further : (s : List ℕ) {c d e : Context} {i j l : ℕ} {p q r : Places} → Span s d j q e l r → Span s c i p d j q → Span s c i p e l r
further s y x = record { same = y.same ∙ x.same; notes = y.notes ∙ x.notes }

pub over : (s : List ℕ) {c d : Context} {i j : ℕ} {p q : Places} → Span s c i p d j q → Reached s c i p → Reached s d j q
over s {c} {d} {i} {j} h r = record { checked = checks_on (length s) c d (walk_from s j) (walk_from s i) h.same ∙ r.checked; noted = h.notes ∙ r.noted }

-- ---- all stretches

pub noted_from : (a k i j : ℕ) (o : Places) {p q : Places} → q ≡ noted_past p a k i j → p ≡ o → q ≡ noted_past o a k i j
noted_from a k i j o e f = e ∙ ap (λ (x : Places). noted_past x a k i j) f

module _ (s : List ℕ) (n : Counts) (known controllable : ℕ) (owner steps : List ℕ) where
  -- from the head on
  pub after_three : (q eq mq vq : RecordKey) (i e m v : ℕ) (vs : Supervisors) (known₀ controllable₀ modules₀ modules : ℕ) (owner₀ states₀ states : List ℕ) {p ep mp vp : Places}
      → Passed s 0x11 (at_events q n known₀ controllable₀ owner₀) i (at_events eq n known controllable owner) e → ep ≡ noted_past p q.kind 0x11 i e
      → Passed s 0x12 (at_modules eq n modules₀ states₀) e (at_modules mq n modules states) m → mp ≡ noted_past ep eq.kind 0x12 e m
      → Passed s 0x13 (at_module_moves mq n known owner modules states) m (at_module_moves vq n known owner modules states) v → vp ≡ noted_past mp mq.kind 0x13 m v
      → Span s (context_by q n (events_by known₀ controllable₀ owner₀ steps) (modules_by modules₀ states₀) vs) i p
      (context_by vq n (events_by known controllable owner steps) (modules_by modules states) vs) v vp
  unfolding Passed at_events at_modules at_module_moves
  after_three q eq mq vq i e m v vs known₀ controllable₀ modules₀ modules owner₀ states₀ states a x b y c z =
      let r : Context = context_by (key_by 0 0 0 0) n (events_by known controllable owner steps) (modules_by modules states) vs in
      further s (past s 0x13 (c r) z)
      (further s (past s 0x12 (b r) y) (past s 0x11 (a (context_by (key_by 0 0 0 0) n (events_by known controllable owner steps) (modules_by modules₀ states₀) vs)) x))

  -- from the supervisors on
  pub after_eight : (q vq mq dq sq tq : RecordKey) (i v m d x t modules supervisors₀ supervisors : ℕ) (sizes states₀ alphabet₀ states alphabet counts : List ℕ) {p vp mp dp sp tp : Places}
      → Passed s 0x14 (at_supervisors q n known supervisors₀ states₀ alphabet₀) i (at_supervisors vq n known supervisors states alphabet) v → vp ≡ noted_past p q.kind 0x14 i v
      → Passed s 0x15 (at_supervisors vq n known supervisors states alphabet) v (at_supervisors mq n known supervisors states alphabet) m
      → mp ≡ noted_past vp vq.kind 0x15 v m
      → Passed s 0x16 (at_disablings mq n known controllable supervisors states alphabet) m (at_disablings dq n known controllable supervisors states alphabet) d
      → dp ≡ noted_past mp mq.kind 0x16 m d
      → Passed s 0x17 (at_steps dq n known controllable owner steps) d (at_steps sq n known controllable owner counts) x → sp ≡ noted_past dp dq.kind 0x17 d x
      → Passed s 0x18 (at_modules sq n modules sizes) x (at_modules tq n modules sizes) t → tp ≡ noted_past sp sq.kind 0x18 x t
      → Span s (context_by q n (events_by known controllable owner steps) (modules_by modules sizes) (supervisors_by supervisors₀ states₀ alphabet₀)) i p
      (context_by tq n (events_by known controllable owner counts) (modules_by modules sizes) (supervisors_by supervisors states alphabet)) t tp
  unfolding Passed at_supervisors at_disablings at_steps at_modules
  after_eight q vq mq dq sq tq i v m l x t modules supervisors₀ supervisors sizes states₀ alphabet₀ states alphabet counts a w b u c y d z e g =
      let r : List ℕ → Context = λ k. context_by (key_by 0 0 0 0) n (events_by known controllable owner k) (modules_by modules sizes) (supervisors_by supervisors states alphabet) in
      further s (past s 0x18 (e (r counts)) g)
      (further s (past s 0x17 (d (r steps)) z)
      (further s (past s 0x16 (c (r steps)) y) (further s (past s 0x15 (b (r steps)) u) (past s 0x14 (a (r steps)) w))))

-- the alphabets by another name
pub with_alphabets : (s : List ℕ) (q : RecordKey) (n : Counts) (ev : Events) (ms : Modules) (known i : ℕ) (states l : List ℕ) {p : Places} {own : List ℕ} → own ≡ l
    → Reached s (context_by q n ev ms (supervisors_by known states l)) i p → Reached s (context_by q n ev ms (supervisors_by known states own)) i p
with_alphabets s q n ev ms known i states l {p} e h = subst (λ (x : List ℕ). Reached s (context_by q n ev ms (supervisors_by known states x)) i p) (sym e) h

-- those of no supervisor yet
pub no_alphabets : alphabets (replicate 256 0) ≡ replicate 32 0
unfolding words_from word_at
no_alphabets = refl

-- ---- the end record where the stretches stop

-- n is the size that the table gives
pub after_end : (i : ℕ) {n : ℕ} → n ≡ size_by 0x1f → i + n ≡ suc i
unfolding body_len
after_end i e = omega (arith, e)

end_stands : (s : List ℕ) (i : ℕ) (q : RecordKey) (n : Counts) (a b c : ℕ) {t : Bool} → t ≡ end_kept s i q n a b c → t ≡ true → stands_at s i 0x1f (size_by 0x1f) ≡ true
end_stands s i q n a b c e h =
    (both (stands_at s i 0x1f (size_by 0x1f)) (precedes q (key_by 0x1f 0 0 0))
    (both (stands_at s i 0x1f (size_by 0x1f) && precedes q (key_by 0x1f 0 0 0)) (all_below (bit a) n.modules && all_below (bit b) n.supervisors && all_below (bit c) n.events) (sym e ∙ h)).0
    ).0

pub end_inside : (s : List ℕ) (i : ℕ) (q : RecordKey) (n : Counts) (a b c : ℕ) {t : Bool} → t ≡ end_kept s i q n a b c → t ≡ true → i < length s
end_inside s i q n a b c e h = (stands_there s i 0x1f (size_by 0x1f) (end_stands s i q n a b c e h)).inside

module _ (s : List ℕ) (q : RecordKey) (n : Counts) (ev : Events) (ms : Modules) (vs : Supervisors) (i : ℕ) {t : Bool}
    (e : t ≡ end_kept s i q n ms.known vs.known ev.known) (h : t ≡ true) where
  end_judged : judge_by (context_by q n ev ms vs) End ≡ 0
  unfolding judge_by order_by index_by names_by rules_by all_by in_range key_of
  end_judged =
      let declared : Bool = all_below (bit ms.known) n.modules && all_below (bit vs.known) n.supervisors && all_below (bit ev.known) n.events in
      let b = both (stands_at s i 0x1f (size_by 0x1f) && precedes q (key_by 0x1f 0 0 0)) declared (sym e ∙ h) in
      simp ((both (stands_at s i 0x1f (size_by 0x1f)) (precedes q (key_by 0x1f 0 0 0)) b.0).1, b.1)

  pub end_by : {p p' : Places} {u : Result Places Refusal} → Reached s (context_by q n ev ms vs) i p → p' ≡ noted_at p q.kind 0x1f i → u ≡ examined_by p' (end_at (length s) i) → u ≡ examined_of s
  unfolding record_of body_len kind_of
  end_by {p} r g u =
      let w = stands_there s i 0x1f (size_by 0x1f) (end_stands s i q n ms.known vs.known ev.known e h) in
      let d : read_at s i ≡ (Ok (End, i + 1)) = reads_whole s i 0x1f (size_by 0x1f) w (λ z. absurd (omega arith)) refl in
      ended_by s (context_by q n ev ms vs) i p refl d (sym end_judged) refl refl g r refl u
