-- What a grant leaves, place by place.
use Rattle.std.proofs.Common.{◌≡◌, ℕ, Bool, ◌≢◌, Some, Option, arith}
use Rattle.machine.specs.declared.held.Held.{Held}
use Rattle.machine.specs.declared.request.Request.TheVariants.{Free}
use Rattle.machine.specs.declared.sizes.Sizes.{Sizes}
use Rattle.machine.specs.Grant.{ended, step_up, granted_word, loaded, grant}
use Rattle.machine.specs.Granting.{in_way}
use Rattle.machine.specs.Parts.{role_of, line_of, op_of}
use Rattle.machine.specs.State.{State, class_of}

module _ (z : Sizes) (s : State) (u : ℕ) where
  abbrev pub the_line : ℕ
  the_line = line_of (s.requests u)

  abbrev pub the_way : ℕ → Option Held → Bool
  the_way = in_way u (op_of (s.requests u))

  abbrev pub new_copy : Held
  new_copy = record { role = role_of (op_of (s.requests u)); word = granted_word z s u; timers = loaded z s u the_line }

  pub grant_there : (l j : ℕ) → l ≢ the_line → (grant z s u).copies l j ≡ s.copies l j
  unfolding grant
  grant_there l j ne = grind arith

  pub grant_new : (grant z s u).copies the_line u ≡ Some new_copy
  unfolding grant
  grant_new = grind arith

  pub grant_rest : (j : ℕ) → j ≢ u → (grant z s u).copies the_line j ≡ ended the_way (s.copies the_line) j
  unfolding grant
  grant_rest j ne = grind arith

  pub grant_user : (grant z s u).requests u ≡ Free
  unfolding grant
  grant_user = grind arith

  pub grant_others : (j : ℕ) → j ≢ u → (grant z s u).requests j ≡ step_up z (class_of z u) the_line j (s.requests j)
  unfolding grant
  grant_others j ne = grind arith
