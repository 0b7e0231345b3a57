-- Step 1 of a slot: time passes for copies and requests.
use Rattle.std.specs.Prelude.{ℕ, ◌+◌, ◌-◌, min, Option, option_map}
use Rattle.policy.specs.FourNumbers.{Against}
use Rattle.machine.specs.declared.held.Held.{Held}
use Rattle.machine.specs.declared.request.Request.{Request}
use Rattle.machine.specs.declared.request.Request.TheVariants.{Free, Asked, Ordered}
use Rattle.machine.specs.State.{State}

-- each timer above 0 falls by 1
abbrev pub tick_timers : Against → Against
tick_timers t = record { critical = t.critical - 1; noncritical = t.noncritical - 1 }

abbrev pub tick_copy : Held → Held
tick_copy copy = record copy { timers = tick_timers copy.timers }

abbrev pub tick_held : Option Held → Option Held
tick_held = option_map tick_copy

-- one more slot waited, up to the largest number of 32 bits
abbrev pub tick_wait : ℕ → ℕ
tick_wait n = min (n + 1) 4294967295

abbrev pub tick_request : Request → Request
tick_request Free = Free
tick_request (Asked line op wait) = Asked line op (tick_wait wait)
tick_request (Ordered line op ahead wait) = Ordered line op ahead (tick_wait wait)

unfoldable pub tick : State → State
tick s =
    record s { copies = λ line core. tick_held (s.copies line core); requests = λ core. tick_request (s.requests core) }
