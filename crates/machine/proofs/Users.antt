-- Whom a slot has as its user.
use Rattle.std.proofs.Common.{◌≡◌, ℕ, ◌-◌, ◌≤◌, Bool, true, false, ◌⊎◌, Some, None, arith}
use Rattle.machine.specs.declared.sizes.Sizes.{Sizes}
use Rattle.machine.specs.Arbitration.{first_in_turn, user_of}
use Rattle.machine.specs.Parts.{is_waiting}
use Rattle.machine.specs.State.{State}
use Rattle.machine.proofs.Counting.{first_found}

module _ (z : Sizes) (s : State) where
  abbrev waits : ℕ → Bool
  waits core = is_waiting (s.requests core)

  pub user_waits : (u : ℕ) → user_of z s ≡ Some u → waits u ≡ true
  unfolding user_of first_in_turn
  user_waits u e = grind (arith, first_found waits (z.cores - s.mark) s.mark u, first_found waits (s.mark - z.critical) z.critical u)

  -- the owner, which waits, or somebody in turn while the owner does not wait
  pub user_is : (u : ℕ) → z.critical ≤ s.mark → s.mark ≤ z.cores → user_of z s ≡ Some u
      → (u ≡ s.owner) ⊎ ((z.critical ≤ u) × (waits s.owner ≡ false))
  unfolding user_of first_in_turn
  user_is u low high e =
      grind (arith, first_found waits (z.cores - s.mark) s.mark u, first_found waits (s.mark - z.critical) z.critical u)

  pub user_none : user_of z s ≡ None → waits s.owner ≡ false
  unfolding user_of
  user_none e = grind arith
