-- Steps 2 and 3 of a slot: who uses it.
use Rattle.std.specs.Prelude.{ℕ, suc, ◌-◌, Bool, if◌then◌else◌, Some, Option, nat_lt}
use Rattle.std.specs.Option.{option_or}
use Rattle.machine.specs.declared.sizes.Sizes.{Sizes}
use Rattle.machine.specs.Parts.{is_waiting}
use Rattle.machine.specs.Places.{first_from}
use Rattle.machine.specs.State.{State}

module _ (z : Sizes) where
  -- the first non-critical core that waits: those from the turn mark on, then those below it
  unfoldable pub first_in_turn : State → Option ℕ
  first_in_turn s =
      let waits : ℕ → Bool = λ core. is_waiting (s.requests core) in
      option_or (first_from waits (z.cores - s.mark) s.mark) (first_from waits (s.mark - z.critical) z.critical)

  -- the owner if it waits, else the first in turn, else nobody
  unfoldable pub user_of : State → Option ℕ
  user_of s = if is_waiting (s.requests s.owner) then Some s.owner else first_in_turn s

  -- the non-critical core after a user, round
  abbrev pub mark_after : ℕ → ℕ
  mark_after user = if nat_lt (suc user) z.cores then suc user else z.critical

  -- a critical user leaves the mark where it is
  unfoldable pub move_mark : State → ℕ → State
  move_mark s user = record s { mark = if nat_lt user z.critical then s.mark else mark_after user }
