-- A slot: its eight steps in a row, and its answer.
use Rattle.std.specs.Prelude.{ℕ, suc, Bool, true, false, if◌then◌else◌, Some, None, Option, nat_lt}
use Rattle.policy.specs.Timing.{later}
use Rattle.machine.specs.declared.request.Request.{Request}
use Rattle.machine.specs.declared.sizes.Sizes.{Sizes}
use Rattle.machine.specs.Arbitration.{user_of, move_mark}
use Rattle.machine.specs.Grant.{granted_word, grant}
use Rattle.machine.specs.Granting.{is_granted}
use Rattle.machine.specs.Order.{order}
use Rattle.machine.specs.Parts.{role_of, line_of, op_of, wait_of}
use Rattle.machine.specs.Replies.{idle, waiting, done}
use Rattle.machine.specs.State.{State, Outcome}
use Rattle.machine.specs.Time.{tick}

module _ (z : Sizes) where
  -- the next critical core, after the last one core 0
  abbrev pub owner_after : ℕ → ℕ
  owner_after owner = if nat_lt (suc owner) z.critical then suc owner else 0

  -- 8: the timetable moves on by a slot, and ownership by a core
  unfoldable pub end_slot : State → State
  end_slot s = record s { owner = owner_after s.owner; timing = later s.timing }

  -- 7 and 8: granted, or waiting on
  abbrev pub tried : Bool → State → ℕ → Outcome
  tried true s user =
      let r : Request = s.requests user in
      record {
        reply = done s.owner user (line_of r) (role_of (op_of r)) (granted_word z s user) (wait_of r);
        state = end_slot (grant z s user);
      }
  tried false s user =
      let r : Request = s.requests user in
      record { reply = waiting s.owner user (line_of r) (role_of (op_of r)); state = end_slot s }

  -- 5 to 8, for an ordered request of the user
  unfoldable pub try_user : State → ℕ → Outcome
  try_user s user = tried (is_granted z s user) s user

  -- 3 to 8
  abbrev pub used_by : Option ℕ → State → Outcome
  used_by None s = record { reply = idle s.owner; state = end_slot s }
  used_by (Some user) s = try_user (order z (move_mark z s user) user) user

  unfoldable pub slotting : State → Outcome
  slotting s = let t : State = tick s in used_by (user_of z t) t
