-- The steps of a slot, but for the grant, keep a hub ready.
use Rattle.std.proofs.Common.{◌≡◌, ℕ, ◌+◌, ◌-◌, ◌<◌, ◌≤◌, true, false, ◌≢◌, sym, refl, ap, ◌∙◌, subst, inl, inr, arith}
use mathlib.Core.Path.{fun_ext}
use Rattle.std.proofs.lemmas.Bool.{cases_lt}
use Rattle.std.proofs.lemmas.Bool.Decides.{nat_tests}
use Rattle.setup.specs.Bound.{Caps, bound}
use Rattle.setup.specs.declared.class.Class.TheVariants.{Critical}
use Rattle.machine.specs.declared.op.Op.{Op}
use Rattle.machine.specs.declared.request.Request.{Request}
use Rattle.machine.specs.declared.request.Request.TheVariants.{Free, Asked, Ordered}
use Rattle.machine.specs.declared.sizes.Sizes.{Sizes}
use Rattle.machine.specs.Arbitration.{move_mark}
use Rattle.machine.specs.Order.{ordered_behind, queue_length, order}
use Rattle.machine.specs.Parts.{is_waiting, line_of}
use Rattle.machine.specs.Places.{put}
use Rattle.machine.specs.Slot.{end_slot}
use Rattle.machine.specs.State.{State, class_of, with_request}
use Rattle.machine.specs.Time.{tick}
use Rattle.machine.proofs.Counting.{never, put_same, put_other, put_all}
use Rattle.machine.proofs.Due.{due_map, due_tick, due_asked, due_pass, due_ordered}
use Rattle.machine.proofs.Owners.{next_owner, owner_in}
use Rattle.machine.proofs.Queues.{unseated, seated, sits, Queues, queues_same, len_missed, join}
use Rattle.machine.proofs.Ready.{timers, InTurn, Timed, DueIn, class_critical, seats, OverIn, Fit, gap, longest_hold, DueIn, Ready, queue_seats, timed_later, turn_after}
use Rattle.machine.proofs.Seats.{seat_of}

put_id : {A : Type 0} (i : ℕ) (f : ℕ → A) → put i (f i) f ≡ f
put_id i f = fun_ext (λ j. put_all (λ k x. x ≡ f k) i (f i) f refl (λ k _. refl) j)

module _ (z : Sizes) (caps : Caps) (fit : Fit z caps) where
  pub ready_tick : (s : State) → Ready z caps 1 s → Ready z caps 0 (tick s)
  unfolding tick
  ready_tick s r =
      record {
        in_turn = r.in_turn;
        timed = r.timed;
        capped = λ l j. grind (arith, r.capped l j);
        queues = queues_same _ _ _ _ (λ j _. grind arith) r.queues;
        due = λ i h. due_tick _ _ _ _ _ _ _ s.owner i (λ l a n over i j b hi e ba w. grind (arith, over i j b hi)) (λ j. grind arith)
            (s.requests i) (r.due i h);
      }

  pub ready_mark : (s : State) (u : ℕ) → Ready z caps 0 s → Ready z caps 0 (move_mark z s u)
  unfolding move_mark
  ready_mark s u r =
      record {
        in_turn = record {
          owner_critical = r.in_turn.owner_critical;
          mark_low = grind (arith, nat_tests, r.in_turn.mark_low, fit.few_critical);
          mark_high = grind (arith, nat_tests, r.in_turn.mark_high, fit.few_critical);
        };
        timed = r.timed;
        capped = r.capped;
        queues = r.queues;
        due = r.due;
      }

  -- one core's request changes
  ready_request : (d : ℕ) (s : State) (u : ℕ) (v : Request) → Ready z caps d s
      → Queues z.critical z.cores (seats (with_request u v s))
      → ((l j : ℕ) → j < z.critical → seats s j ≡ seated l 0 → j ≢ u)
      → ((l b b' j : ℕ) → u < z.critical → j < z.critical → seats s j ≡ seated l b → seat_of v ≡ seated l b' → b < b')
      → (u < z.critical → DueIn z caps d s.copies (put u v s.requests) s.owner u v)
      → Ready z caps d (with_request u v s)
  ready_request d s u v r q heads behind new =
      record {
        in_turn = r.in_turn;
        timed = r.timed;
        capped = r.capped;
        queues = q;
        due = λ i h. at i h;
      }
    where
      s' : State
      s' = with_request u v s

      keep : (l j : ℕ) → j < z.critical → seats s j ≡ seated l 0 → seats s' j ≡ seated l 0
      keep l j h e = ap seat_of (put_other u j v s.requests (heads l j h e)) ∙ e

      longer : (l b n j : ℕ) → j < z.critical → seats s j ≡ seated l b → OverIn z s l b n → OverIn z s' l b n
      longer l b n j hj f x i k b' hi e le w = grind (arith, behind l b b' j, x i k b' hi)

      at : (i : ℕ) → i < z.critical → DueIn z caps d s'.copies s'.requests s.owner i (put u v s.requests i)
      at i h = put_all (λ j x. j < z.critical → DueIn z caps d s'.copies s'.requests s.owner j x) u v s.requests
          new (λ j ne a. due_map _ _ _ d _ _ _ _ s.owner j keep (s.requests j)
          (λ l b n e x. longer l b n j a e x) (r.due j a)) i h

  ready_other : (d : ℕ) (s : State) (u : ℕ) (v : Request) → z.critical ≤ u → Ready z caps d s → Ready z caps d (with_request u v s)
  ready_other d s u v h r =
      ready_request d s u v r
      (queues_same _ _ _ _
      (λ j a. ap seat_of (put_other u j v s.requests (omega arith))) r.queues)
      (λ l j a e. omega arith) (λ l b b' j a _ _ _. omega arith) (λ a. absurd (omega arith))

  pub ready_asked : (s : State) (u l : ℕ) (o : Op) → is_waiting (s.requests u) ≡ false → Ready z caps 1 s
      → Ready z caps 1 (with_request u (Asked l o 0) s)
  ready_asked s u l o f r =
      ready_request 1 s u (Asked l o 0) r
      (queues_same _ _ _ _ (λ j a. grind arith) r.queues)
      (λ l' j a e same. grind arith) (λ _ _ _ _ _ _ _ e. absurd (never cc))
      (λ a. due_asked z.critical (gap z caps) (bound z.critical caps) s.owner u 0 r.in_turn.owner_critical a refl)

  -- the critical user's asked request becomes ordered
  ready_ordered : (s : State) (u l : ℕ) (o : Op) (w : ℕ) → u < z.critical → s.requests u ≡ Asked l o w → Ready z caps 0 s
      → Ready z caps 0 (with_request u (Ordered l o (queue_length z s Critical l) w) s)
  ready_ordered s u l o w h e r =
      ready_request 0 s u v r q (λ l' j a x same. never cc) (λ l' b b' j _ hj f y. behind l' b b' j hj f y)
      (λ a. due_ordered _ _ _ z.cores (OverIn z s' l (queue_length z s Critical l)) (seats s') s.owner u l (queue_length z s Critical l) w
      (longest_hold z caps - 1)
      q r.in_turn.owner_critical h (ap seat_of (put_same u v s.requests)) few (omega (arith, old.2))
      (λ k m i j b _ _ _ _. omega (arith, r.capped l j)) (omega (arith, fit.some_caps Critical, fit.some_critical)))
    where
      v : Request
      v = Ordered l o (queue_length z s Critical l) w

      s' : State
      s' = with_request u v s

      was : seats s u ≡ unseated
      was = ap seat_of e

      q : Queues z.critical z.cores (seats s')
      q = join _ _ fit.few_critical _ _ u l h was
          (ap seat_of (put_same u v s.requests) ∙ ap (seated l) (queue_seats z s l))
          (λ j ne. ap seat_of (put_other u j v s.requests ne)) r.queues

      old : (k : ℕ) × (owner_in z.critical k s.owner ≡ u) × (w + (k + 0) ≤ z.critical)
      old = subst (λ x. DueIn z caps 0 s.copies s.requests s.owner u x) e (r.due u h)

      behind : (l' b b' j : ℕ) → j < z.critical → seats s j ≡ seated l' b → seated l (queue_length z s Critical l) ≡ seated l' b' → b < b'
      behind l' b b' j hj f y = grind (arith, r.queues.inside l b j hj, queue_seats z s l)

      few : queue_length z s Critical l < z.critical
      few = rw (queue_seats z s l) (len_missed _ _ _ l u h was)

  -- an ordered request stays as it is
  order_ordered : (s : State) (u l : ℕ) (o : Op) (a w : ℕ) → s.requests u ≡ Ordered l o a w → order z s u ≡ s
  unfolding order
  order_ordered s u l o a w e =
      let v : ordered_behind (queue_length z s (class_of z u) (line_of (s.requests u))) (s.requests u) ≡ s.requests u = rw e in
      ap (λ x. with_request u x s) v
      ∙ (λ i. record s { requests = put_id u s.requests i })

  pub ready_order : (s : State) (u : ℕ) → is_waiting (s.requests u) ≡ true → Ready z caps 0 s → Ready z caps 0 (order z s u)
  unfolding order
  ready_order s u t r = elim (cases_lt u z.critical) [ inl h ↦ critically h (s.requests u) refl t | inr h ↦ otherwise h ]
    where
      critically : u < z.critical → (x : Request) → s.requests u ≡ x → is_waiting x ≡ true → Ready z caps 0 (order z s u)
      critically h Free e t = absurd (never cc)
      critically h (Asked l o w) e t = rw (e, class_critical z u h) (ready_ordered s u l o w h e r)
      critically h (Ordered l o a w) e t = subst (Ready z caps 0) (sym (order_ordered s u l o a w e)) r

      otherwise : z.critical ≤ u → Ready z caps 0 (order z s u)
      otherwise h = ready_other 0 s u (ordered_behind (queue_length z s (class_of z u) (line_of (s.requests u))) (s.requests u)) h r

  -- the slot ends
  pub ready_next : (s : State) → InTurn z s.owner s.mark → Timed caps s.timing → ((l j : ℕ) → timers s l j ≤ longest_hold z caps)
      → Queues z.critical z.cores (seats s)
      → ((i : ℕ) → i < z.critical → DueIn z caps 1 s.copies s.requests (next_owner z.critical s.owner) i (s.requests i))
      → Ready z caps 1 (end_slot z s)
  unfolding end_slot
  ready_next s in_turn timed capped queues due =
      record {
        in_turn = turn_after z caps fit s.owner s.mark in_turn;
        timed = timed_later caps s.timing timed;
        capped = λ l j. omega (arith, capped l j, fit.some_caps Critical);
        queues = queues;
        due = due;
      }

  -- .. and its owner was not granted anything
  pub ready_end : (s : State) → Ready z caps 0 s
      → ((l a : ℕ) → seats s s.owner ≡ seated l 0 → OverIn z s l a (0 + 0) → ⊥)
      → (is_waiting (s.requests s.owner) ≡ true → seats s s.owner ≡ unseated → ⊥)
      → Ready z caps 1 (end_slot z s)
  ready_end s r not_yet sits =
      ready_next s r.in_turn r.timed (λ l j. omega (arith, r.capped l j, fit.some_caps Critical)) r.queues
      (λ i h. due_pass _ _ _ _ _ s.owner i not_yet (s.requests i)
      (λ w f e. sits (rw e at w) (rw e at f)) (r.due i h))
