-- What a waiting request of a critical core is due: by when it will be granted at the latest.
use Rattle.std.proofs.Common.{◌≡◌, ℕ, suc, ◌+◌, ◌-◌, ◌*◌, ◌<◌, ◌≤◌, max, true, ◌≢◌, sym, refl, ap, ◌∙◌, subst, inl, inr, mul-le-mul_right, arith}
use Rattle.std.proofs.lemmas.Bool.{eq-eqb, ne_eqb, cases_eq}
use Rattle.machine.specs.declared.request.Request.{Request}
use Rattle.machine.specs.declared.request.Request.TheVariants.{Free, Asked, Ordered}
use Rattle.machine.specs.Parts.{is_waiting}
use Rattle.machine.specs.Time.{tick_wait, tick_request}
use Rattle.machine.proofs.Owners.{next_owner, owner_sooner, next_below, owner_in, owner_reaches, owner_reaches_from}
use Rattle.machine.proofs.Queues.{Seat, unseated, seated, up, Queues}
use Rattle.machine.proofs.Seats.{seat_of, raised}

-- There are c critical cores; from one grant on a line to the next it takes at most D slots, and all must be done within B. The seats of
-- the cores are S, and the coming slot belongs to o. d is 1 before the time of a slot passes, and 0 after it. K l a n says that what may bar
-- the first a + 1 of the line l is over in n slots; nothing is known of it here but how it changes.
module _ (c D B : ℕ) where
  -- a request that has waited w slots and has a ahead of it on line l
  pub record Track (d : ℕ) (K : ℕ → Type 0) (S : ℕ → Seat) (o l a w : ℕ) : Type 0 where
    -- who is first on the line
    pub head : ℕ
    pub is_critical : head < c
    pub first : S head ≡ seated l 0
    -- in how many slots that core owns one, and nothing bars it any more
    pub at : ℕ
    pub owns : owner_in c at o ≡ head
    pub cleared : K (at + d)
    -- there is time left for all that are ahead
    pub in_time : w + (at + d) + a * D ≤ B

  -- an asked request is due for its order when its core owns a slot
  abbrev pub Due : ℕ → (ℕ → ℕ → ℕ → Type 0) → (ℕ → Seat) → ℕ → ℕ → Request → Type 0
  Due d K S o i Free = Unit {0}
  Due d K S o i (Asked l p w) = (k : ℕ) × (owner_in c k o ≡ i) × (w + (k + d) ≤ c)
  Due d K S o i (Ordered l p a w) = Track d (K l a) S o l a w

  -- a request that stays as it was, where no more time has gone and nothing is barred longer
  track_same : (d d' : ℕ) (K K' : ℕ → Type 0) (S S' : ℕ → Seat) (o l a w w' : ℕ) (x : Track d K S o l a w) → S' x.head ≡ seated l 0
      → K' (x.at + d') → w' + d' ≤ w + d → Track d' K' S' o l a w'
  track_same d d' K K' S S' o l a w w' x first cleared early =
      record {
        head = x.head;
        is_critical = x.is_critical;
        first = first;
        at = x.at;
        owns = x.owns;
        cleared = cleared;
        in_time = omega (arith, x.in_time);
      }

  -- .. or a slot later, where its head did not own that slot or was barred
  track_pass : (K K' : ℕ → Type 0) (S S' : ℕ → Seat) (o l a w : ℕ) (x : Track 0 K S o l a w) → (x.at ≡ 0 → ⊥) → S' x.head ≡ seated l 0
      → ((n : ℕ) → K n → K' n) → Track 1 K' S' (next_owner c o) l a w
  track_pass K K' S S' o l a w x later first still =
      record {
        head = x.head;
        is_critical = x.is_critical;
        first = first;
        at = x.at - 1;
        owns = owner_sooner c x.at o later ∙ x.owns;
        cleared = subst K' (let far : x.at ≢ 0 = later in omega arith) (still (x.at + 0) x.cleared);
        in_time = (let far : x.at ≢ 0 = later in omega (arith, x.in_time));
      }

  asked_pass : (o i w : ℕ) → i ≢ o → (k : ℕ) × (owner_in c k o ≡ i) × (w + (k + 0) ≤ c)
      → (k : ℕ) × (owner_in c k (next_owner c o) ≡ i) × (w + (k + 1) ≤ c)
  asked_pass o i w other x =
      let far : x.0 ≢ 0 = λ z. other (sym x.1 ∙ ap (λ n. owner_in c n o) z) in
      (x.0 - 1, owner_sooner c x.0 o far ∙ x.1, omega (arith, x.2))

  -- heads stay, and nothing is barred longer
  pub due_map : (d : ℕ) (K K' : ℕ → ℕ → ℕ → Type 0) (S S' : ℕ → Seat) (o i : ℕ)
      → ((l j : ℕ) → j < c → S j ≡ seated l 0 → S' j ≡ seated l 0)
      → (r : Request) → ((l a n : ℕ) → seat_of r ≡ seated l a → K l a n → K' l a n) → Due d K S o i r → Due d K' S' o i r
  due_map d K K' S S' o i h Free k x = tt
  due_map d K K' S S' o i h (Asked l p w) k x = x
  due_map d K K' S S' o i h (Ordered l p a w) k x =
      track_same d d (K l a) (K' l a) S S' o l a w w x (h l x.head x.is_critical x.first) (k l a (x.at + d) refl x.cleared) (omega arith)

  -- a slot's time passes
  pub due_tick : (K K' : ℕ → ℕ → ℕ → Type 0) (S S' : ℕ → Seat) (o i : ℕ)
      → ((l a n : ℕ) → K l a (n + 1) → K' l a (n + 0)) → ((j : ℕ) → S' j ≡ S j)
      → (r : Request) → Due 1 K S o i r → Due 0 K' S' o i (tick_request r)
  due_tick K K' S S' o i fall same Free x = tt
  due_tick K K' S S' o i fall same (Asked l p w) x = (x.0, x.1, omega arith)
  due_tick K K' S S' o i fall same (Ordered l p a w) x =
      track_same 1 0 (K l a) (K' l a) S S' o l a w (tick_wait w) x (same x.head ∙ x.first) (fall l a x.at x.cleared) (omega arith)

  -- a new request
  pub due_asked : (o i w : ℕ) → o < c → i < c → w ≡ 0 → (k : ℕ) × (owner_in c k o ≡ i) × (w + (k + 1) ≤ c)
  due_asked o i w ho hi z = let r = owner_reaches c o i ho hi in (r.0, r.2, omega (arith, r.1))

  -- the slot ends without a grant to its owner
  pub due_pass : (K : ℕ → ℕ → ℕ → Type 0) (S : ℕ → Seat) (o i : ℕ)
      → ((l a : ℕ) → S o ≡ seated l 0 → K l a (0 + 0) → ⊥)
      → (r : Request) → (is_waiting r ≡ true → seat_of r ≡ unseated → i ≢ o) → Due 0 K S o i r → Due 1 K S (next_owner c o) i r
  due_pass K S o i not_yet Free ne x = tt
  due_pass K S o i not_yet (Asked l p w) ne x = asked_pass o i w (ne refl refl) x
  due_pass K S o i not_yet (Ordered l p a w) ne x =
      track_pass (K l a) (K l a) S S o l a w x
      (λ z. not_yet l a (ap S (ap (λ n. owner_in c n o) (sym z) ∙ x.owns) ∙ x.first) (subst (λ n. K l a (n + 0)) z x.cleared)) x.first
      (λ n k. k)

  -- a request in order has a head, which owns a slot within c slots from the t-th on, when nothing bars it any more
  track_from : (n d : ℕ) (K : ℕ → Type 0) (S : ℕ → Seat) (o u l a w t : ℕ) → Queues c n S → o < c → u < c → S u ≡ seated l a
      → ((k : ℕ) → t ≤ k → K (k + d)) → w + (t + (c - 1) + d) + a * D ≤ B → Track d K S o l a w
  track_from n d K S o u l a w t q ho hu s clear early =
      let h = q.filled l 0 (omega (arith, q.inside l a u hu s)) in
      let r = owner_reaches_from c t o h.0 ho h.1 in
      record {
        head = h.0;
        is_critical = h.1;
        first = h.2;
        at = r.0;
        owns = r.3;
        cleared = clear r.0 r.1;
        in_time = omega (arith, early, r.2);
      }

  -- the owner's request becomes ordered: after e slots nothing bars it
  pub due_ordered : (n : ℕ) (K : ℕ → Type 0) (S : ℕ → Seat) (o u l a w e : ℕ) → Queues c n S → o < c → u < c → S u ≡ seated l a
      → a < c → w ≤ c → ((k : ℕ) → e ≤ k → K k) → c + e + (c - 1) + (c - 1) * D ≤ B
      → Track 0 K S o l a w
  due_ordered n K S o u l a w e q ho hu s ha hw t b =
      let a≤ : a ≤ c - 1 = omega arith in
      track_from n 0 K S o u l a w e q ho hu s (λ k le. t (k + 0) (omega arith)) (omega (arith, mul-le-mul_right D a≤))

  -- the owner's request is granted, on the line l: the next of that line are due within D more
  module _ (n hc : ℕ) (K K' : ℕ → ℕ → ℕ → Type 0) (S S' : ℕ → Seat) (o l : ℕ)
      (o<c : o < c) (hc_some : 1 ≤ hc) (D_is : hc + (c - 1) ≤ D) (queues : Queues c n S) (queues' : Queues c n S')
      (was : S o ≡ seated l 0) (rest : (j : ℕ) → j < c → j ≢ o → S' j ≡ up l (S j))
      (here : (a k m : ℕ) → K l (suc a) k → k ≤ m → hc ≤ m → K' l a m) (there : (l' a k : ℕ) → l' ≢ l → K l' a k → K' l' a k) where
    due_next : (i a b w : ℕ) → i < c → a ≡ suc b → S' i ≡ seated l b → Track 0 (K l a) S o l a w → Track 1 (K' l b) S' (next_owner c o) l b w
    due_next i a b w hi a_is e x =
        track_from n 1 (K' l b) S' (next_owner c o) i l b w (max x.at hc - 1) queues' (next_below c o (omega arith)) hi e
        (λ k le. here b (x.at + 0) (k + 1) (rw a_is at x.cleared) (omega arith) (omega arith))
        (omega (arith, rw a_is at x.in_time))

    due_elsewhere : (l' a w : ℕ) → l' ≢ l → Track 0 (K l' a) S o l' a w → Track 1 (K' l' a) S' (next_owner c o) l' a w
    due_elsewhere l' a w ne x =
        track_pass (K l' a) (K' l' a) S S' o l' a w x
        (λ z. not_owner (sym x.owns ∙ ap (λ n. owner_in c n o) z))
        (grind (arith, rest x.head, x.first, x.is_critical, not_owner)) (λ n. there l' a n ne)
      where
        not_owner : x.head ≢ o
        not_owner e = grind (arith, x.first)

    -- r is core i's request before the grant
    pub due_grant : (i : ℕ) → i < c → i ≢ o → (r : Request) → S i ≡ seat_of r → Due 0 K S o i r
        → Due 1 K' S' (next_owner c o) i (raised l r)
    due_grant i hi ne Free e x = tt
    due_grant i hi ne (Asked l' p w) e x = asked_pass o i w ne x
    due_grant i hi ne (Ordered l' p a w) e x =
        elim (cases_eq l' l) [
          | inl same ↦
              let some : a ≢ 0 = λ z. grind (arith, queues.apart l 0 i o, e) in
              rw (eq-eqb l' l same, same) (due_next i a (a - 1) w hi (omega arith)
              (grind (arith, rest i, e)) (rw same at x))
          | inr d ↦ rw (ne_eqb l' l d) (due_elsewhere l' a w d x)
        ]
