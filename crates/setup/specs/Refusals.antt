-- Each refusal has one number.
use Rattle.std.specs.Prelude.{ℕ, Ok, Err, Result}
use Rattle.setup.specs.declared.refusal.Refusal.{Refusal}
use Rattle.setup.specs.declared.refusal.Refusal.TheVariants.{CoreCount, CriticalCount, LineCount, SlotWidth, NoSuchCore, NoSuchLine, RequestPending, MemoryRefused, PastMemory, Unreadable, ShortBuffer}

abbrev pub number : Refusal → ℕ
number CoreCount = 1
number CriticalCount = 2
number LineCount = 3
number SlotWidth = 4
number NoSuchCore = 5
number NoSuchLine = 6
number RequestPending = 7
number MemoryRefused = 8
number PastMemory = 9
number Unreadable = 10
number ShortBuffer = 11

-- what a call answered, a refusal by its number
abbrev pub numbered : {A : Type 0} → Result A Refusal → Result A ℕ
numbered (Ok x) = Ok x
numbered (Err e) = Err (number e)
