-- Reads answer the last finished write: what is computed from a history is what the relations on events say.
use Rattle.std.proofs.Common.{◌≡◌, ◌⊎◌, ℕ, true, false, [], ◌∷◌, ◌++◌, sym, refl, ap, ◌∙◌, subst, inl, inr, arith}
use Rattle.std.proofs.lemmas.Bool.{eq-eqb, eqb-true, cases_eq}
use Rattle.machine.specs.declared.call.Call.TheVariants.{Ask}
use Rattle.machine.specs.declared.op.Op.{Op}
use Rattle.machine.specs.declared.op.Op.TheVariants.{Read, Write}
use Rattle.machine.specs.Answering.{Served, before, Unanswered, Answers, at_once, in_slot, Latest, starting, finished, kept}
use Rattle.machine.specs.Asking.{asking}
use Rattle.machine.specs.FreshReads.{ReadsAnswerTheLastFinishedWrite}
use Rattle.machine.specs.History.{Start, sizes, Event, event, History, From, begun, called}
use Rattle.machine.specs.Machine.{step}
use Rattle.machine.specs.Replies.{waits}
use Rattle.machine.specs.State.{State}
use Rattle.machine.proofs.CoherentCalls.{kept_from, story}
use Rattle.machine.proofs.Counting.{never}
use Rattle.machine.proofs.Effects.{Effect, begins, hits, serves, effect, effect_of, caused, is_served, served_now, served_when}
use Rattle.machine.proofs.Histories.{Earlier, earlier, cut}
use Rattle.machine.proofs.Wishes.{Wish, wish, next_wish, wish_in, Answer, no_answer, answer, granted_wish, answer_by, answer_of, after_answer, last_write}

-- Unanswered asks ---------------------------------------------------------------------------------

-- an event that does not serve the core leaves what it waits for
wish_kept : (b : Start) (i l : ℕ) (o : Op) (e : Event) (h : History) (s : State) → Earlier b e h s → wish_in h i ≡ wish l o
    → (is_served i (effect_of e) ≡ true → ⊥) → next_wish i (effect_of e) (wish l o) ≡ wish l o
unfolding asking
wish_kept b i l o e h s u w unserved = grind (arith, u.replied, (story b u.from).asks i, eqb-true)

unanswered_wish : (b : Start) (i l : ℕ) (o : Op) (since before_it : History) (s : State)
    → From b (since ++ (event (Ask i l o) waits ∷ before_it)) s → (Served i since → ⊥)
    → wish_in (since ++ (event (Ask i l o) waits ∷ before_it)) i ≡ wish l o
unanswered_wish b i l o [] before_it s f n = rw (eq-eqb i i refl)
unanswered_wish b i l o (e ∷ since) before_it s f n =
    let u = earlier b f in
    let h : History = since ++ (event (Ask i l o) waits ∷ before_it) in
    let w : wish_in h i ≡ wish l o = unanswered_wish b i l o since before_it u.state u.from (λ y. n (before y)) in
    ap (next_wish i (effect_of e)) w ∙ wish_kept b i l o e h s u w (λ d. n (served_now i e since d))

-- .. and what a core waits for was asked, and is unanswered
unanswered_more : (i l : ℕ) (o : Op) (e : Event) (h : History) → is_served i (effect_of e) ≡ false
    → (since : History) × Unanswered i l o since h → (since : History) × Unanswered i l o since (e ∷ h)
unanswered_more i l o e h n p =
    (e ∷ p.0, record { earlier = p.1.earlier; asked = ap (λ k. e ∷ k) p.1.asked; unserved = λ y. not_now y })
  where
    not_now : Served i (e ∷ p.0) → ⊥
    not_now y = elim (served_when i e p.0 y) [ inl d ↦ never cc | inr x ↦ p.1.unserved x ]

-- a core waits because of this event, or did before
wish_from : (i l : ℕ) (o : Op) (x : Effect) (old : Wish) → next_wish i x old ≡ wish l o
    → (x ≡ begins i l o) ⊎ ((is_served i x ≡ false) × (old ≡ wish l o))
wish_from i l o x old w = grind (arith, eqb-true)

wish_unanswered : (i l : ℕ) (o : Op) (h : History) → wish_in h i ≡ wish l o → (since : History) × Unanswered i l o since h
wish_unanswered i l o [] e = absurd (never cc)
wish_unanswered i l o (e ∷ h) w =
    elim (wish_from i l o (effect_of e) (wish_in h i) w) [
      | inl x ↦ ([], record { earlier = h; asked = ap (λ k. k ∷ h) (caused e (begins i l o) x); unserved = λ y. elim y [ ] })
      | inr x ↦ unanswered_more i l o e h x.0 (wish_unanswered i l o h x.1)
    ]

-- Answers -----------------------------------------------------------------------------------------

answers_computed : (b : Start) (h : History) (s : State) → From b h s → (core line : ℕ) (o : Op) (w : ℕ) (e : Event)
    → Answers core line o w e h → answer_of e h ≡ answer core line o w
answers_computed b h s f core line o w e at_once = refl
answers_computed b h s f core line o w e (in_slot {since = since} u) =
    let g = subst (λ k. From b k s) u.asked f in
    let x : wish_in h core ≡ wish line o =
    ap (λ k. wish_in k core) u.asked ∙ unanswered_wish b core line o since u.earlier s g u.unserved in
    ap (λ v. granted_wish core v w) x

answer_from : (core line : ℕ) (o : Op) (w : ℕ) (ws : ℕ → Wish) (x : Effect) → answer_by ws x ≡ answer core line o w
    → (x ≡ hits core line o w) ⊎ ((x ≡ serves core w) × (ws core ≡ wish line o))
answer_from core line o w ws x a = grind arith

computed_answers : (core line : ℕ) (o : Op) (w : ℕ) (e : Event) (h : History) → answer_of e h ≡ answer core line o w
    → Answers core line o w e h
computed_answers core line o w e h a =
    elim (answer_from core line o w (wish_in h) (effect_of e) a) [
      | inl x ↦ rw (caused e (hits core line o w) x) at_once
      | inr x ↦ rw (caused e (serves core w) x.0).4 (in_slot (wish_unanswered core line o h x.1).1)
    ]

-- The latest word ---------------------------------------------------------------------------------

-- the answer of a write of the line, whose word is the latest then, or no such answer
write_answer : (l : ℕ) (a : Answer) (old : ℕ)
    → ((core new word : ℕ) × (a ≡ answer core l (Write new) word) × (after_answer l a old ≡ new))
    ⊎ (((core new word : ℕ) → a ≡ answer core l (Write new) word → ⊥) × (after_answer l a old ≡ old))
write_answer l no_answer old = inr (λ core new word e. never cc, refl)
write_answer l (answer i m Read w) old = inr (λ core new word e. never cc, refl)
write_answer l (answer i m (Write v) w) old =
    elim (cases_eq l m) [
      | inl same ↦ inl (i, v, w, grind arith, grind arith)
      | inr ne ↦ inr (λ core new word e. grind arith, grind arith)
    ]

latest : (b : Start) (line : ℕ) {h : History} {s : State} → From b h s → Latest b line h (last_write b h line)
latest b line (begun k f) = starting
latest b line (called {h = h} {s = s} c f) =
    let e : Event = event c (step (sizes b) c s).reply in
    elim (write_answer line (answer_of e h) (last_write b h line)) [
      | inl y ↦ rw y.4 (finished (computed_answers y.0 line (Write y.1) y.2 e h y.3))
      | inr none ↦ rw none.1
          (kept (λ core new w z. none.0 core new w (answers_computed b h s f core line (Write new) w e z)) (latest b line f))
    ]

-- .. and no other word is
latest_is : (b : Start) (line : ℕ) {h : History} {s : State} → From b h s → (v : ℕ) → Latest b line h v → v ≡ last_write b h line
latest_is b line (begun k f) v starting = refl
latest_is b line (called {h = h} {s = s} c f) v (finished {core = core} {word = word} y) =
    let e : Event = event c (step (sizes b) c s).reply in
    rw (answers_computed b h s f core line (Write v) word e y, eq-eqb line line refl) refl
latest_is b line (called {h = h} {s = s} c f) v (kept none y) =
    let e : Event = event c (step (sizes b) c s).reply in
    elim (write_answer line (answer_of e h) (last_write b h line)) [
      | inl x ↦ absurd (none x.0 x.1 x.2 (computed_answers x.0 line (Write x.1) x.2 e h x.3))
      | inr x ↦ rw x.1 (latest_is b line f v y)
    ]

pub reads_answer_the_last_finished_write : ReadsAnswerTheLastFinishedWrite
reads_answer_the_last_finished_write b h s f later before_it e core line w is y =
    let g = cut b later (e ∷ before_it) s (subst (λ k. From b k s) is f) in
    let u = earlier b g.1 in
    let a = answers_computed b before_it u.state u.from core line Read w e y in
    let right = (kept_from b e.call (story b u.from)).right core line w in
    let w_is : w ≡ last_write b before_it line =
    right (sym (ap (λ r. answer_by (wish_in before_it) (effect e.call r)) u.replied) ∙ a) in
    (subst (Latest b line before_it) (sym w_is) (latest b line u.from), λ other z. latest_is b line u.from other z ∙ sym w_is)
