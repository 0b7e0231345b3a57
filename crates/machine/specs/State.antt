-- The state of a hub between two calls, and the class of a core. The sizes of the hub stand beside the state, as z.
use Rattle.std.specs.Prelude.{ℕ, Bool, if◌then◌else◌, not, List, Option, nat_lt}
use Rattle.policy.specs.Timing.{Timing}
use Rattle.setup.specs.declared.class.Class.{Class}
use Rattle.setup.specs.declared.class.Class.TheVariants.{Critical, NonCritical}
use Rattle.machine.specs.declared.held.Held.{Held}
use Rattle.machine.specs.declared.request.Request.{Request}
use Rattle.machine.specs.declared.sizes.Sizes.{Sizes}
use Rattle.machine.specs.Places.{put}
use Rattle.machine.specs.Replies.{Reply}

pub record State : Type 0 where
  -- what each core holds of each line: the line first, then the core
  pub copies : ℕ → ℕ → Option Held
  pub requests : ℕ → Request
  -- the critical core to which the next slot belongs
  pub owner : ℕ
  -- the non-critical core with which the next search begins
  pub mark : ℕ
  -- what the memory means, and what the policy means from now on
  pub words : List ℕ
  pub timing : Timing

-- what a call answers, and the state that it leaves
pub record Outcome : Type 0 where
  pub reply : Reply
  pub state : State

abbrev pub unchanged : Reply → State → Outcome
unchanged r s = record { reply = r; state = s }

-- the cores below the number of critical cores are critical
abbrev pub class_of : Sizes → ℕ → Class
class_of z core = if nat_lt core z.critical then Critical else NonCritical

abbrev pub is_of : Sizes → Class → ℕ → Bool
is_of z Critical core = nat_lt core z.critical
is_of z NonCritical core = not (nat_lt core z.critical)

abbrev pub with_request : ℕ → Request → State → State
with_request core r s = record s { requests = put core r s.requests }
