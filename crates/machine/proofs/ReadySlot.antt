-- A whole slot keeps a hub ready.
use Rattle.std.proofs.Common.{◌≢◌, ◌≡◌, ℕ, ◌+◌, ◌<◌, ◌≤◌, Bool, true, false, Some, None, Option, refl, ap, ◌∙◌, inl, inr, arith}
use Rattle.std.proofs.lemmas.Bool.{eqb-true}
use Rattle.setup.specs.Bound.{Caps}
use Rattle.setup.specs.declared.class.Class.TheVariants.{Critical}
use Rattle.machine.specs.declared.sizes.Sizes.{Sizes}
use Rattle.machine.specs.Arbitration.{user_of, move_mark}
use Rattle.machine.specs.Granting.{in_way, lets_pass, is_first, is_granted}
use Rattle.machine.specs.Order.{queue_length, order}
use Rattle.machine.specs.Parts.{is_waiting, op_of}
use Rattle.machine.specs.Slot.{tried, try_user, used_by, slotting}
use Rattle.machine.specs.State.{State}
use Rattle.machine.specs.Time.{tick}
use Rattle.machine.proofs.Counting.{never, all_from}
use Rattle.machine.proofs.Grants.{the_line}
use Rattle.machine.proofs.Queues.{unseated, seated}
use Rattle.machine.proofs.Ready.{timers, seats, OverIn, Fit, Ready, class_critical, class_other}
use Rattle.machine.proofs.ReadyGrant.{ready_granted, ready_granted_other}
use Rattle.machine.proofs.ReadySteps.{ready_tick, ready_mark, ready_order, ready_end}
use Rattle.machine.proofs.Users.{user_waits, user_is, user_none}

module _ (z : Sizes) (caps : Caps) (fit : Fit z caps) where
  -- what the test for a grant says
  granted_first : (s : State) (u : ℕ) → is_granted z s u ≡ true → seats s u ≡ seated (the_line z s u) 0
  unfolding is_granted
  granted_first s u t = grind (arith, eqb-true)

  granted_empty : (s : State) (u : ℕ) → z.critical ≤ u → is_granted z s u ≡ true → queue_length z s Critical (the_line z s u) ≡ 0
  unfolding is_granted
  granted_empty s u h t = grind (arith, class_other, eqb-true)

  granted_from : (s : State) (u : ℕ) → u < z.critical → is_first (s.requests u) ≡ true
      → ((j : ℕ) → in_way u (op_of (s.requests u)) j (s.copies (the_line z s u) j) ≡ true → timers s (the_line z s u) j ≡ 0)
      → is_granted z s u ≡ true
  unfolding is_granted
  granted_from s u h f t =
      rw (f, class_critical z u h, all_from _ z.cores (λ k _. at k))
    where
      at : (k : ℕ) → lets_pass u (op_of (s.requests u)) Critical k (s.copies (the_line z s u) k) ≡ true
      at k = grind (arith, t k)

  ready_try : (s : State) (u : ℕ) → u ≡ s.owner → (seats s u ≡ unseated → ⊥) → Ready z caps 0 s → Ready z caps 1 (try_user z s u).state
  unfolding try_user
  ready_try s u is_owner seated_now r = go (is_granted z s u) refl
    where
      h : u < z.critical
      h = rw is_owner r.in_turn.owner_critical

      not_yet : is_granted z s u ≡ false → (l a : ℕ) → seats s s.owner ≡ seated l 0 → OverIn z s l a (0 + 0) → ⊥
      not_yet no_grant l a e t =
          let over : (j : ℕ) → seats s u ≡ seated l 0 → in_way u (op_of (s.requests u)) j (s.copies l j) ≡ true → timers s l j ≤ 0 =
          λ j f w. t u j 0 h f (omega arith) w in
          grind (arith, granted_from s u h, over)

      go : (t : Bool) → is_granted z s u ≡ t → Ready z caps 1 (tried z t s u).state
      go true e = ready_granted z caps fit s u is_owner (granted_first s u e) r
      go false e = ready_end z caps fit s r (not_yet e) (λ _ x. seated_now (ap (seats s) is_owner ∙ x))

  ready_try_other : (s : State) (u : ℕ) → z.critical ≤ u → is_waiting (s.requests s.owner) ≡ false → Ready z caps 0 s
      → Ready z caps 1 (try_user z s u).state
  unfolding try_user
  ready_try_other s u h idle r = go (is_granted z s u) refl
    where
      go : (t : Bool) → is_granted z s u ≡ t → Ready z caps 1 (tried z t s u).state
      go true e = ready_granted_other z caps fit s u h (granted_empty s u h e) idle r
      go false e = ready_end z caps fit s r (λ l a x _. grind arith) (λ x _. never cc)

  order_sits : (s : State) (u : ℕ) → is_waiting (s.requests u) ≡ true → seats (order z s u) u ≡ unseated → ⊥
  unfolding order
  order_sits s u t e = grind arith

  -- what a slot leaves for a user
  ready_used : (s : State) (u : ℕ) → Ready z caps 0 s → user_of z s ≡ Some u
      → Ready z caps 1 (try_user z (order z (move_mark z s u) u) u).state
  unfolding move_mark order
  ready_used s u r e =
      let asks = user_waits z s u e in
      let s₁ : State = move_mark z s u in
      let s₂ : State = order z s₁ u in
      let r₂ : Ready z caps 0 s₂ = ready_order z caps fit s₁ u asks (ready_mark z caps fit s u r) in
      elim (user_is z s u r.in_turn.mark_low r.in_turn.mark_high e) [
        | inl o ↦ ready_try s₂ u o (order_sits s₁ u asks) r₂
        | inr h ↦
            let other : u ≢ s.owner = omega (arith, h.0, r.in_turn.owner_critical) in
            ready_try_other s₂ u h.0 (grind (arith, h.1)) r₂
      ]

  pub ready_slot : (s : State) → Ready z caps 1 s → Ready z caps 1 (slotting z s).state
  unfolding slotting
  ready_slot s r = go (user_of z t) refl
    where
      t : State
      t = tick s

      r₀ : Ready z caps 0 t
      r₀ = ready_tick z caps fit s r

      go : (f : Option ℕ) → user_of z t ≡ f → Ready z caps 1 (used_by z f t).state
      go None e =
          let idle = user_none z t e in
          ready_end z caps fit t r₀ (λ l a x _. grind arith) (λ x _. never cc)
      go (Some u) e = ready_used t u r₀ e
