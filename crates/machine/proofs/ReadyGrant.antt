-- A grant keeps a hub ready.
use Rattle.std.proofs.Common.{◌≡◌, ℕ, suc, ◌+◌, ◌<◌, ◌≤◌, max, true, false, ◌≢◌, ◌⊎◌, sym, refl, ap, ◌∙◌, inl, inr, arith}
use Rattle.std.proofs.lemmas.Bool.{cases_eq}
use Rattle.std.proofs.lemmas.Bool.Decides.{nat_tests}
use Rattle.setup.specs.Bound.{Caps}
use Rattle.setup.specs.declared.class.Class.TheVariants.{Critical}
use Rattle.machine.specs.declared.op.Op.{Op}
use Rattle.machine.specs.declared.sizes.Sizes.{Sizes}
use Rattle.machine.specs.Grant.{loaded, grant}
use Rattle.machine.specs.Granting.{in_way}
use Rattle.machine.specs.Order.{queue_length}
use Rattle.machine.specs.Parts.{is_waiting, op_of}
use Rattle.machine.specs.Slot.{end_slot}
use Rattle.machine.specs.State.{State, class_of}
use Rattle.machine.proofs.Counting.{never}
use Rattle.machine.proofs.Due.{due_map, due_pass, due_grant}
use Rattle.machine.proofs.Grants.{the_line, grant_there, grant_new, grant_rest, grant_user, grant_others}
use Rattle.machine.proofs.Owners.{next_owner}
use Rattle.machine.proofs.Queues.{seated, up, Queues, queues_same, leave_from, leave}
use Rattle.machine.proofs.Ready.{timers, seats, OverIn, Fit, longest_hold, DueIn, Ready, queue_seats, class_critical, class_other, hold_small}
use Rattle.machine.proofs.Seats.{seat_of, raised}
use Rattle.machine.proofs.ReadySteps.{ready_next}

module _ (z : Sizes) (caps : Caps) (fit : Fit z caps) where
  -- after a grant: the new timer, and those of its line, and no other
  grant_here : (s : State) (u m : ℕ) → s.timing.hold 0 u (class_of z u) (the_line z s u) Critical ≤ m
      → (j : ℕ) → timers (grant z s u) (the_line z s u) j ≤ max (timers s (the_line z s u) j) m
  unfolding loaded
  grant_here s u m h j = grind (arith, grant_new z s u, grant_rest z s u j)

  grant_capped : (s : State) (u : ℕ) → Ready z caps 0 s → (l j : ℕ) → timers (grant z s u) l j ≤ longest_hold z caps
  grant_capped s u r l j =
      grind (arith, grant_here s u (longest_hold z caps) (hold_small z caps fit 0 s u (the_line z s u) r) j, r.capped l j, grant_there z s u l j)

  -- .. and what is in the way there is the new copy, or was in the way before
  grant_over : (s : State) (u i j k m : ℕ) (o : Op) → s.timing.hold 0 u (class_of z u) (the_line z s u) Critical ≤ m → k ≤ m
      → (in_way i o j (s.copies (the_line z s u) j) ≡ true → timers s (the_line z s u) j ≤ k)
      → in_way i o j ((grant z s u).copies (the_line z s u) j) ≡ true → timers (grant z s u) (the_line z s u) j ≤ m
  unfolding loaded
  grant_over s u i j k m o h le over w =
      grind (arith, grant_new z s u, grant_rest z s u j)

  -- the owner's request is granted
  pub ready_granted : (s : State) (u : ℕ) → u ≡ s.owner → seats s u ≡ seated (the_line z s u) 0 → Ready z caps 0 s
      → Ready z caps 1 (end_slot z (grant z s u))
  unfolding grant
  ready_granted s u is_owner e r = ready_next z caps fit s' r.in_turn r.timed (grant_capped s u r) q' (λ i h. at i h)
    where
      h : u < z.critical
      h = rw is_owner r.in_turn.owner_critical

      s' : State
      s' = grant z s u

      l : ℕ
      l = the_line z s u

      rest : (j : ℕ) → j < z.critical → j ≢ u → (grant z s u).requests j ≡ raised l (s.requests j)
      rest j a ne = grind (arith, grant_others z s u j, class_critical z u h, nat_tests)

      rest_seat : (j : ℕ) → j < z.critical → j ≢ u → seats s' j ≡ up l (seats s j)
      rest_seat j a ne = grind (arith, rest j)

      q' : Queues z.critical z.cores (seats s')
      q' = leave _ _ fit.few_critical _ _ u l h e (ap seat_of (grant_user z s u)) rest_seat r.queues

      new_timer : s.timing.hold 0 u (class_of z u) l Critical ≤ caps.critical
      new_timer = grind (arith, class_critical z u h, r.timed.lawful.capped 0 u Critical l, r.timed.same_caps)

      from : (i l' b : ℕ) → i < z.critical → seats s' i ≡ seated l' b
          → (i ≢ u) × (((l ≡ l') × (seats s i ≡ seated l' (suc b))) ⊎ ((l ≢ l') × (seats s i ≡ seated l' b)))
      from i l' b hi x = leave_from _ _ fit.few_critical _ _ u l h e (ap seat_of (grant_user z s u)) rest_seat r.queues i
          l' b hi x

      here : (a k m : ℕ) → OverIn z s l (suc a) k → k ≤ m → caps.critical ≤ m → OverIn z s' l a m
      here a k m x k≤m h≤m i j b hi f ba w =
          let g = from i l b hi f in
          elim g.1 [
            | inl y ↦ grant_over s u i j k m (op_of (s.requests i)) (omega (arith, new_timer)) k≤m
                (λ v. x i j (suc b) hi y.1 (omega arith) v) (grind (arith, rest i hi g.0))
            | inr y ↦ absurd (y.0 refl)
          ]

      there : (l' a k : ℕ) → l' ≢ l → OverIn z s l' a k → OverIn z s' l' a k
      there l' a k d x i j b hi f ba w = grind (arith, from i l' b hi f, rest i hi, grant_there z s u l' j, x i j b hi)

      at : (i : ℕ) → i < z.critical
          → DueIn z caps 1 s'.copies s'.requests (next_owner z.critical s.owner) i ((grant z s u).requests i)
      at i a = elim (cases_eq i u) [
        | inl same ↦ rw (same, grant_user z s u) tt
        | inr ne ↦ rw (rest i a ne)
            (due_grant _ _ _ z.cores caps.critical _ _ _ _ s.owner l
            r.in_turn.owner_critical (fit.some_caps Critical) (omega arith) r.queues q' (ap (seats s) (sym is_owner) ∙ e)
            (λ j b d. rest_seat j b (rw (← is_owner) at d))
            here there
            i a (rw is_owner at ne) (s.requests i) refl (r.due i a))
      ]

  -- a non-critical core's request is granted: then no critical one is ordered on that line, and the owner waits for nothing
  pub ready_granted_other : (s : State) (u : ℕ) → z.critical ≤ u → queue_length z s Critical (the_line z s u) ≡ 0
      → is_waiting (s.requests s.owner) ≡ false
      → Ready z caps 0 s → Ready z caps 1 (end_slot z (grant z s u))
  unfolding grant
  ready_granted_other s u h empty idle r = ready_next z caps fit s' r.in_turn r.timed (grant_capped s u r) q' (λ i h. at i h)
    where
      s' : State
      s' = grant z s u

      l : ℕ
      l = the_line z s u

      rest : (j : ℕ) → j < z.critical → (grant z s u).requests j ≡ s.requests j
      rest j a = grind (arith, grant_others z s u j, class_other z u h, nat_tests)

      q' : Queues z.critical z.cores (seats s')
      q' = queues_same _ _ _ _ (λ j a. ap seat_of (rest j a)) r.queues

      none_here : (l' b j : ℕ) → j < z.critical → seats s j ≡ seated l' b → l' ≢ l
      none_here l' b j a e same = grind (arith, r.queues.inside l b j, queue_seats z s l, empty)

      longer : (l' b n i : ℕ) → i < z.critical → seats s i ≡ seated l' b → OverIn z s l' b n → OverIn z s' l' b n
      longer l' b n i a e x k j b' hk f le w = grind (arith, none_here l' b i a e, grant_there z s u l' j, rest k hk, x k j b' hk)

      not_yet : (l' b : ℕ) → seats s' s.owner ≡ seated l' 0 → OverIn z s' l' b (0 + 0) → ⊥
      not_yet l' b e t = grind (arith, rest s.owner r.in_turn.owner_critical)

      at : (i : ℕ) → i < z.critical
          → DueIn z caps 1 s'.copies s'.requests (next_owner z.critical s.owner) i ((grant z s u).requests i)
      at i a = rw (rest i a) (due_pass _ _ _ _ _ s.owner i not_yet (s.requests i)
          (λ w f e. let x : is_waiting (s.requests s.owner) ≡ true = rw e at w in never cc)
          (due_map _ _ _ 0 _ _ _ _ s.owner i
          (λ l' j a e. grind (arith, rest j)) (s.requests i)
          (λ l' b n e x. longer l' b n i a e x) (r.due i a)))
