-- Law: waits are counted in slots.
use Rattle.std.specs.Prelude.{◌≡◌, ℕ, suc, min, ◌∷◌, ◌++◌}
use Rattle.machine.specs.declared.call.Call.TheVariants.{Slot}
use Rattle.machine.specs.declared.op.Op.{Op}
use Rattle.machine.specs.declared.op.Role.{Role}
use Rattle.machine.specs.Answering.{Unanswered}
use Rattle.machine.specs.History.{Start, History, From, event, slots}
use Rattle.machine.specs.Replies.{done}
use Rattle.machine.specs.State.{State}

-- The wait that a done slot reports is the number of slot calls since the ask that it answers, itself included, and stops at the largest
-- number of 32 bits.
abbrev pub Counted : History → Type 0
Counted h =
    (later earlier since : History) (owner core line asked_line word wait : ℕ) (role : Role) (op : Op)
    → h ≡ later ++ (event Slot (done owner core line role word wait) ∷ earlier) → Unanswered core asked_line op since earlier
    → wait ≡ min (suc (slots since)) 4294967295

abbrev pub WaitsAreCountedInSlots : Type 0
WaitsAreCountedInSlots = (start : Start) (h : History) (s : State) → From start h s → Counted h
