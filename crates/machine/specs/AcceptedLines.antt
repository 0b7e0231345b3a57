-- Law: the memory refuses no line.
use Rattle.std.specs.Prelude.{◌≡◌, ℕ, ◌<◌, true, List, Ok, slice_index}
use Rattle.memory.specs.Words.{reading, storing}
use Rattle.machine.specs.History.{Start, History, From, sizes}
use Rattle.machine.specs.Parts.{is_waiting, line_of}
use Rattle.machine.specs.State.{State}

-- a memory of these words takes a read and a store of the line
abbrev pub Accepted : List ℕ → ℕ → Type 0
Accepted words line = (reading words line ≡ Ok (slice_index words line)) × (storing words line ≡ Ok tt)

pub record Accepting (start : Start) (s : State) : Type 0 where
  -- each line that a slot can store to or read: that of a request that waits
  pub in_slot : (core : ℕ) → is_waiting (s.requests core) ≡ true → Accepted s.words (line_of (s.requests core))
  -- each line that a settle can store to: one of the hub's
  pub in_settle : (line : ℕ) → line < (sizes start).lines → Accepted s.words line

-- in every state reached
abbrev pub MemoryRefusesNoLine : Type 0
MemoryRefusesNoLine = (start : Start) (h : History) (s : State) → From start h s → Accepting start s
