-- Steps 5 and 6 of a slot: what is in the way of the user's request, and whether it is granted.
use Rattle.std.specs.Prelude.{ℕ, Bool, true, false, if◌then◌else◌, not, ◌&&◌, Option, ◌==◌}
use Rattle.setup.specs.declared.class.Class.{Class}
use Rattle.setup.specs.declared.class.Class.TheVariants.{Critical, NonCritical}
use Rattle.machine.specs.declared.held.Held.{Held}
use Rattle.machine.specs.declared.op.Op.{Op}
use Rattle.machine.specs.declared.op.Op.TheVariants.{Read, Write}
use Rattle.machine.specs.declared.request.Request.{Request}
use Rattle.machine.specs.declared.request.Request.TheVariants.{Free, Asked, Ordered}
use Rattle.machine.specs.declared.sizes.Sizes.{Sizes}
use Rattle.machine.specs.Order.{queue_length}
use Rattle.machine.specs.Parts.{is_copy, is_writers, timer, line_of, op_of}
use Rattle.machine.specs.Places.{all_below}
use Rattle.machine.specs.State.{State, class_of}

-- a read is barred by the writer's copy of another core; a write by any copy, that of its own core too
abbrev pub in_way : ℕ → Op → ℕ → Option Held → Bool
in_way user Read core held = not (core == user) && is_writers held
in_way user (Write w) core held = is_copy held

-- a copy in the way must be out of its hold against the user's class
abbrev pub lets_pass : ℕ → Op → Class → ℕ → Option Held → Bool
lets_pass user op c core held = if in_way user op core held then timer c held == 0 else true

-- nobody of its class is ahead
abbrev pub is_first : Request → Bool
is_first Free = false
is_first (Asked line op wait) = false
is_first (Ordered line op ahead wait) = ahead == 0

module _ (z : Sizes) where
  -- a non-critical request stands back while a critical one is ordered on its line
  abbrev pub has_priority : State → Class → ℕ → Bool
  has_priority s Critical line = true
  has_priority s NonCritical line = queue_length z s Critical line == 0

  unfoldable pub is_granted : State → ℕ → Bool
  is_granted s user =
      let r : Request = s.requests user in
      let c : Class = class_of z user in
      is_first r
      && (all_below (λ core. lets_pass user (op_of r) c core (s.copies (line_of r) core)) z.cores && has_priority s c (line_of r))
