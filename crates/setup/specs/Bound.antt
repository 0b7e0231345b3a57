-- How long an accepted request of a critical core can wait.
use Rattle.std.specs.Prelude.{ℕ, ◌+◌, ◌-◌, ◌*◌, max}
use Rattle.setup.specs.declared.class.ByClass.{ByClass}

-- the most slots for which holders of each class may keep a critical requester out
abbrev pub Caps : Type 0
Caps = ByClass ℕ

-- in slots, for so many critical cores
abbrev pub bound : ℕ → Caps → ℕ
bound c caps = 2 * c - 2 + max caps.critical caps.noncritical + (c - 1) * (caps.critical + c - 1)

-- slots as cycles, at a slot width
abbrev pub cycles : ℕ → ℕ → ℕ
cycles width slots = slots * width
